-- For librdkafka two apis are listed from 0, and each other one as it is served.
use Rattle.std.proofs.Common.{◌≡◌, ◌⊎◌, inl, inr, pos, Some, Bool, true, false, cond, refl, sym, ap, subst, ◌∙◌}
use Rattle.std.specs.Prelude.{◌||◌}
use Rattle.std.specs.Ordering.{int_eq}
use Rattle.std.specs.Option.{option_map}
use Rattle.std.proofs.lemmas.Bool.Decides.{Decides-int_eq}
use Rattle.std.proofs.lemmas.List.{length-map}
use Rattle.std.proofs.lemmas.Option.{slice_get-map}
use Rattle.msg_login.specs.declared.api_versions.ServedVersions.{ServedVersions}
use Rattle.msg_admin.specs.Versions.{versions_reply}
use Rattle.sasl_login.specs.Listed.{from_zero}
use Rattle.sasl_login.specs.ListedLaws.{IsListedFor, VersionsAreListed}

some_is : (a b : ServedVersions) → Some a ≡ Some b → a ≡ b
some_is a b h = cc

is_listed : (v : ServedVersions) → IsListedFor v (from_zero v)
is_listed v = by_tests (int_eq v.key (pos 10)) (int_eq v.key (pos 17)) refl refl where
  by_tests : (a b : Bool) → int_eq v.key (pos 10) ≡ a → int_eq v.key (pos 17) ≡ b → IsListedFor v (cond (a || b) (record { key = v.key; min = pos 0; max = v.max }) (record { key = v.key; min = v.min; max = v.max }))
  by_tests true b e f = record { key = refl; last = refl; from_zero = λ h. refl; from_first = λ h k. absurd (h ((Decides-int_eq v.key (pos 10)).0 e)) }
  by_tests false true e f = record { key = refl; last = refl; from_zero = λ h. refl; from_first = λ h k. absurd (k ((Decides-int_eq v.key (pos 17)).0 f)) }
  by_tests false false e f = record { key = refl; last = refl; from_zero = none; from_first = λ h k. refl } where
    none : (v.key ≡ pos 10) ⊎ (v.key ≡ pos 17) → v.min ≡ pos 0
    none (inl is) = absurd (let clash : true ≡ false = sym ((Decides-int_eq v.key (pos 10)).1 is) ∙ e in cc)
    none (inr is) = absurd (let clash : true ≡ false = sym ((Decides-int_eq v.key (pos 17)).1 is) ∙ f in cc)

pub versions_are_listed : VersionsAreListed
versions_are_listed = record {
  as_served = refl;
  error = refl;
  as_many = length-map versions_reply.apis from_zero;
  each = λ i served listed here there.
      subst (IsListedFor served) (some_is (from_zero served) listed (sym (slice_get-map from_zero versions_reply.apis i ∙ ap (option_map from_zero) here) ∙ there)) (is_listed served);
}
