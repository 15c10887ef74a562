use Rattle.std.proofs.Common.{◌≡◌, ◌∙◌, ◌<◌, ◌↔◌, ◌≢◌, ℕ, Bool, true, false, IsTrue, List, length, get_or, not, ap, sym, refl, arith}
use Rattle.std.proofs.lemmas.Bool.{both_ways, eqb-false, eqb-true}
use Rattle.std.proofs.lemmas.Str.Pattern.{contains_char}
use Rattle.arguments.specs.Serving.{IsHost}
use Rattle.arguments.proofs.address.is_host.Goals as goal

-- no slash stands in the text
abbrev IsPlain : List ℕ → Type 0
IsPlain text = (i : ℕ) → i < length text → get_or text i 0 ≢ 47

plain_of : (text : List ℕ) (has_slash : Bool) → ((k : ℕ) → k < length text → get_or text k 0 ≡ 47 → has_slash ≡ true) → has_slash ≡ false → IsPlain text
plain_of text has_slash found lacks i l slash = both_ways has_slash lacks (found i l slash)

slashed : (text : List ℕ) (has_slash : Bool) → (has_slash ≡ true → (k : ℕ) × (k < length text) × (get_or text k 0 ≡ 47)) → has_slash ≡ true → IsPlain text → ⊥
slashed text has_slash at has plain = let found = at has in plain found.0 found.1 found.2

decided : (text : List ℕ) (has_slash : Bool) → (has_slash ≡ true → (k : ℕ) × (k < length text) × (get_or text k 0 ≡ 47))
    → ((k : ℕ) → k < length text → get_or text k 0 ≡ 47 → has_slash ≡ true) → 0 < length text → IsTrue (not has_slash) ↔ IsHost text
decided text true at found some = (λ yes. absurd (both_ways false refl yes), λ host. absurd (slashed text true at refl host.1))
decided text false at found some = (λ _. (some, plain_of text false found refl), λ _. refl)

pub returns-then-not-is_empty : goal.returns-then-not-is_empty
returns-then-not-is_empty c =
    let some : length c.args.text.now ≢ 0 = eqb-false (length c.args.text.now) 0 (sym c.is_empty.ensures ∙ c.if-not-is_empty.true) in
    let at = contains_char 47 c.args.text.now c.contains.result c.contains.ensures.cases (omega arith) in
    decided c.args.text.now c.contains.result at.0 at.1 (omega arith)

pub returns-else-not-is_empty : goal.returns-else-not-is_empty
returns-else-not-is_empty c =
    let empty : c.is_empty.result ≡ true = c.if-not-is_empty.false in
    let none : length c.args.text.now ≡ 0 = eqb-true (length c.args.text.now) 0 (sym c.is_empty.ensures ∙ empty) in (
      λ yes. absurd (both_ways (not c.is_empty.result) (ap not empty) yes),
      λ host. let some = host.0 in absurd (omega arith),
    )
