-- The versions in which an api is served.
use Rattle.std.proofs.Common.{◌≡◌, ℤ, ◌&&◌, Bool, true, false, Option, Some, None, refl, sym, ap, ◌∙◌, arith}
use Rattle.std.specs.Prelude.{int_le}
use Rattle.std.proofs.lemmas.Int.{ints}
use Rattle.msg_admin.specs.declared.api_key.ApiKey.{ApiKey}
use Rattle.msg_admin.specs.declared.api.Api.{Api}
use Rattle.msg_admin.specs.ApiKey.{is_served, key_at}
use Rattle.msg_admin.specs.Api.{api_in, api_if_served, api_at}

-- where the first version is the last, no other is served
pub one_version : (only version : ℤ) → (int_le only version && int_le version only) ≡ true → only ≡ version
one_version only version served = grind (arith, ints)

-- what is found is served
found_served : (key : ApiKey) (version : ℤ) (b : Bool) (api : Api) → is_served key version ≡ b → api_if_served key version ≡ Some api → is_served api.key api.version ≡ true
found_served key version true api is found =
    let same : api_in key version ≡ api = (let e : Some (api_in key version) ≡ Some api = sym (rw is refl) ∙ found in cc) in
    ap (λ (a : Api). is_served a.key a.version) (sym same) ∙ is
found_served key version false api is found = absurd (let e : None ≡ Some api = sym (rw is refl) ∙ found in cc)

found_by : (o : Option ApiKey) (number version : ℤ) (api : Api) → key_at number ≡ o → api_at number version ≡ Some api → is_served api.key api.version ≡ true
unfolding api_at
found_by None number version api is found = absurd (let e : None ≡ Some api = sym (rw is refl) ∙ found in cc)
found_by (Some key) number version api is found = found_served key version (is_served key version) api refl (sym (rw is refl) ∙ found)

pub api_at-served : (number version : ℤ) (api : Api) → api_at number version ≡ Some api → is_served api.key api.version ≡ true
api_at-served number version api found = found_by (key_at number) number version api refl found
