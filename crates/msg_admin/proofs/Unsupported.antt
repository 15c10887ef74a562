-- ApiVersions in a version that is not served: what is found is asked, and what is asked is found.
use Rattle.std.proofs.Common.{◌≡◌, ℕ, ℤ, pos, Bool, true, false, not, ◌&&◌, cond, List, ◌++◌, Option, Some, None, Ok, Err, refl, sym, ap, subst, ◌∙◌, append_assoc, true≢false}
use Rattle.std.specs.Prelude.{IfSome, OnSome}
use Rattle.std.specs.Bool.{Decides}
use Rattle.std.specs.Option.{option_and_then}
use Rattle.std.specs.Ordering.{int_eq}
use Rattle.std.specs.Result.{result_ok}
use Rattle.std.proofs.lemmas.Bool.Decides.{Decides-int_eq, Decides-not, Decides-and}
use Rattle.wire_types.specs.declared.fault.Malformed.TheVariants.{Unknown}
use Rattle.wire_types.specs.declared.fault.WriteFault.{WriteFault}
use Rattle.wire_types.specs.declared.fault.WriteFault.TheVariants as faults
use Rattle.wire_types.specs.Reading.{Found}
use Rattle.wire_types.specs.Spelling.{int_written, after_count_written, after_count_fits, many_written, many_fit, null_count_fits}
use Rattle.wire_types.specs.Combinators.{◌⨟◌}
use Rattle.wire_types.specs.Schema.{int32}
use Rattle.msg_login.specs.declared.api_versions.ApiVersionsReply.{ApiVersionsReply}
use Rattle.msg_login.specs.ApiVersions.{api_versions_reply}
use Rattle.msg_admin.specs.Frame.{frame_fits, GivesFrame}
use Rattle.msg_admin.specs.declared.api_key.ApiKey.TheVariants as keys
use Rattle.msg_admin.specs.ApiKey.{is_served, all_keys, key_at}
use Rattle.msg_admin.specs.Api.{api_at}
use Rattle.msg_admin.proofs.Served.{one_version}
use Rattle.msg_admin.specs.Header.{names}
use Rattle.msg_admin.specs.Request.{request_at}
use Rattle.msg_admin.specs.Versions.{header_start, AsksUnsupported, asked_unsupported, unsupported_at, unsupported_reply}

only_0 : (version : ℤ) → is_served keys.ApiVersions version ≡ true → version ≡ pos 0
only_0 version served = sym (one_version (pos 0) version served)

is_0 : (version : ℤ) → Decides (is_served keys.ApiVersions version) (version ≡ pos 0)
is_0 version = (only_0 version, λ is. ap (is_served keys.ApiVersions) is)

other_version : (version : ℤ) → Decides (not (is_served keys.ApiVersions version)) (version ≡ pos 0 → ⊥)
other_version version = Decides-not (is_served keys.ApiVersions version) (is_0 version)

asks : (key version : ℤ) → Decides (int_eq key (pos 18) && not (is_served keys.ApiVersions version)) ((key ≡ pos 18) × (version ≡ pos 0 → ⊥))
asks key version = Decides-and (int_eq key (pos 18)) (not (is_served keys.ApiVersions version)) (Decides-int_eq key (pos 18)) (other_version version)

told : (b : Bool) (x y : ℤ) → cond b (Some x) None ≡ Some y → (b ≡ true) × (x ≡ y)
told true x y e = (refl, cc)
told false x y e = absurd cc

found_in : (bytes : List ℕ) (o : Found ((ℤ × ℤ) × ℤ)) (c : ℤ) → header_start.reading bytes ≡ o → option_and_then (λ x. asked_unsupported x.0) (result_ok o) ≡ Some c → AsksUnsupported bytes c
found_in bytes (Err e) c is said = absurd cc
found_in bytes (Ok x) c is said =
    let key = x.0.0.0 in
    let version = x.0.0.1 in
    let p = header_start.sound bytes x.0 x.1 is in
    let t = told (int_eq key (pos 18) && not (is_served keys.ApiVersions version)) x.0.1 c said in
    let d = (asks key version).0 t.0 in
    let named : header_start.Spells p.0 ((pos 18, version), x.0.1) = subst (λ (k : ℤ). header_start.Spells p.0 ((k, version), x.0.1)) d.0 p.2 in
    (p.0, x.1, version, p.1, subst (λ (z : ℤ). header_start.Spells p.0 ((pos 18, version), z)) t.1 named, d.1)

pub asked : (bytes : List ℕ) (o : Option ℤ) → o ≡ unsupported_at bytes → IfSome o (AsksUnsupported bytes)
unfolding unsupported_at
asked bytes None e = tt
asked bytes (Some c) e = found_in bytes (header_start.reading bytes) c refl (sym e)

pub asked-again : (bytes : List ℕ) (c : ℤ) → AsksUnsupported bytes c → unsupported_at bytes ≡ Some c
unfolding unsupported_at
asked-again bytes c i =
    let other : not (is_served keys.ApiVersions i.2) ≡ true = (other_version i.2).1 i.5 in
    ap unsupported_at i.3 ∙ rw (header_start.complete i.0 i.1 ((pos 18, i.2), c) i.4, other) refl

unknown : (version : ℤ) → (version ≡ pos 0 → ⊥) → api_at (pos 18) version ≡ None
unfolding api_at key_at all_keys
unknown version other = by_test (is_served keys.ApiVersions version) refl where
  by_test : (b : Bool) → is_served keys.ApiVersions version ≡ b → api_at (pos 18) version ≡ None
  by_test false is = rw is refl
  by_test true is = absurd (other (only_0 version is))

unread_bytes : (bytes : List ℕ) (c : ℤ) → AsksUnsupported bytes c → request_at bytes ≡ Err Unknown
unfolding request_at
unread_bytes bytes c i =
    let s = i.4 in
    let regrouped : bytes ≡ s.0 ++ (s.1 ++ i.1) = i.3 ∙ ap (λ (t : List ℕ). t ++ i.1) s.2 ∙ append_assoc s.0 s.1 i.1 in
    ap request_at regrouped ∙ rw (names.complete s.0 (s.1 ++ i.1) (pos 18, i.2) s.3, unknown i.2 i.5) refl

pub unread : (bytes : List ℕ) (o : Option ℤ) → IfSome o (AsksUnsupported bytes) → OnSome o (request_at bytes ≡ Err Unknown)
unread bytes None i = tt
unread bytes (Some c) i = unread_bytes bytes c i

-- ---- the answer

answer_fits : (c : ℤ) → frame_fits (int32 ⨟ api_versions_reply) (c, unsupported_reply) ≡ true
unfolding frame_fits int_written after_count_written after_count_fits many_written many_fit null_count_fits
answer_fits c = refl

pub never_long : (c : ℤ) (r : ApiVersionsReply) (e : WriteFault) → r ≡ unsupported_reply → e ≡ faults.TooLong → GivesFrame (int32 ⨟ api_versions_reply) (c, r) (Err e) → ⊥
never_long c r faults.NoMemory is long given = absurd cc
never_long c r faults.TooLong is long given =
    let fits : frame_fits (int32 ⨟ api_versions_reply) (c, r) ≡ true = ap (λ (x : ApiVersionsReply). frame_fits (int32 ⨟ api_versions_reply) (c, x)) is ∙ answer_fits c in
    true≢false (sym fits ∙ given)
