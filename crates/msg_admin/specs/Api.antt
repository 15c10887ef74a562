-- An api in a version, and the one that a request names by a number and a version.
use Rattle.std.specs.Prelude.{◌≡◌, ℤ, int_le, Bool, true, false, Option, Some, None, if◌then◌else◌, refl}
use Rattle.std.specs.Option.{option_and_then}
use Rattle.msg_admin.specs.declared.api_key.ApiKey.{ApiKey}
use Rattle.msg_admin.specs.declared.api.Api.{Api}
use Rattle.msg_admin.specs.ApiKey.{served_api, number_of, is_served, key_at, key_at-own}

abbrev pub api_in : ApiKey → ℤ → Api
api_in key version = record { key = key; version = version }

abbrev pub in_last_version : ApiKey → Api
in_last_version key = api_in key (served_api key).last

abbrev pub is_from : Option ℤ → ℤ → Bool
is_from None version = false
is_from (Some first) version = int_le first version

-- whether the version is a flexible one
unfoldable pub is_flexible : Api → Bool
is_flexible api = is_from (served_api api.key).flexible_from api.version

abbrev pub api_if_served : ApiKey → ℤ → Option Api
api_if_served key version = if is_served key version then Some (api_in key version) else None

-- the api that is served under a number in a version
unfoldable pub api_at : ℤ → ℤ → Option Api
api_at number version = option_and_then (λ key. api_if_served key version) (key_at number)

-- each api is served under its own number in each of its versions
pub api_at-own : (key : ApiKey) (version : ℤ) → is_served key version ≡ true
    → api_at (number_of key) version ≡ Some (api_in key version)
unfolding api_at
api_at-own key version served = rw (key_at-own key, served) refl
