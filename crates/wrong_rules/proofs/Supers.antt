-- Super users are those that are listed, and wrong rules have others.
use Rattle.std.proofs.Common.{◌≡◌, ◌⊎◌, inl, inr, ℕ, Bool, true, false, List, [], ◌∷◌, refl, codes, ap, sym, ◌∙◌}
use Rattle.std.specs.Str.{bytes_eq}
use Rattle.std.proofs.lemmas.Bool.{or_cases}
use Rattle.acl_binding.proofs.Same.{same_bytes, itself_bytes}
use Rattle.acl_binding.proofs.Relations.{or_first, or_second}
use Rattle.authorizer.specs.Policy.{is_super}
use Rattle.wrong_rules.specs.Supers.{IsListed, SupersAreListed, OnlyRuleOfSupers, super_by_prefix, super_once_one_is}

named : (supers : List (List ℕ)) (who : List ℕ) → is_super supers who ≡ true → IsListed supers who
named [] who h = absurd (let clash : false ≡ true = h in cc)
named (name ∷ names) who h = by_case (or_cases (bytes_eq name who) (is_super names who) h) (named names who) where
  by_case : (bytes_eq name who ≡ true) ⊎ (is_super names who ≡ true) → (is_super names who ≡ true → IsListed names who) → IsListed (name ∷ names) who
  by_case (inl same) rest = inl (same_bytes name who same)
  by_case (inr later) rest = inr (rest later)

is_one : (supers : List (List ℕ)) (who : List ℕ) → IsListed supers who → is_super supers who ≡ true
is_one [] who h = absurd h
is_one (name ∷ names) who (inl same) = or_first (bytes_eq name who) (is_super names who) (ap (bytes_eq name) (sym same) ∙ itself_bytes name)
is_one (name ∷ names) who (inr later) = or_second (bytes_eq name who) (is_super names who) (is_one names who later)

pub supers_are_listed : SupersAreListed is_super
supers_are_listed supers who = (named supers who, is_one supers who)

-- ---- wrong ones: `User:bank` is listed, and `User:bank-audit` would be a super user too

not_listed : ¬ IsListed (codes "User:bank" ∷ []) (codes "User:bank-audit")
not_listed (inl same) = let clash : true ≡ false = ap (bytes_eq (codes "User:bank")) same in cc
not_listed (inr none) = none

pub not_by_prefix : ¬ SupersAreListed super_by_prefix
not_by_prefix law = not_listed ((law (codes "User:bank" ∷ []) (codes "User:bank-audit")).0 refl)

pub not_all : ¬ SupersAreListed super_once_one_is
not_all law = not_listed ((law (codes "User:bank" ∷ []) (codes "User:bank-audit")).0 refl)

-- ---- where two rules have the law, each is true where the other is

pub same_truth : (a b : Bool) → (a ≡ true → b ≡ true) → (b ≡ true → a ≡ true) → a ≡ b
same_truth true b f g = sym (f refl)
same_truth false true f g = g refl
same_truth false false f g = refl

pub only_rule : OnlyRuleOfSupers is_super
only_rule rule law supers who = same_truth (rule supers who) (is_super supers who)
    (λ h. is_one supers who ((law supers who).0 h))
    (λ h. (law supers who).1 (named supers who h))
