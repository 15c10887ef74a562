-- The laws of what is left of a budget of bytes.
use Rattle.std.proofs.Common.{◌≡◌, ℕ, ◌+◌, ◌-◌, Bool, true, false, ◌&&◌, cond, leb, List, ◌++◌, length, Option, Some, None, refl, sym, ap, ◌∙◌, inl, inr, arith}
use Rattle.std.proofs.lemmas.Bool.{cases_lt, le-leb, lt-leb}
use Rattle.std.proofs.lemmas.List.{length-append}
use Rattle.wire_types.specs.Spelling.{left_after, then_left}

none_after : (b : Bool) (budget : ℕ) → then_left (cond b (Some budget) None) (λ r. None) ≡ None
none_after true budget = refl
none_after false budget = refl

-- one part and then another
pub left_after_both : (a b : Bool) (m n budget : ℕ)
    → then_left (left_after a m budget) (left_after b n) ≡ left_after (a && b) (m + n) budget
unfolding left_after
left_after_both false b m n budget = refl
left_after_both true false m n budget = none_after (leb m budget) (budget - m)
left_after_both true true m n budget =
    elim (cases_lt budget m) [
      | inl short ↦
          let f : leb m budget ≡ false = lt-leb m budget short in
          let g : leb (m + n) budget ≡ false = lt-leb (m + n) budget (omega arith) in
          rw (f, g) refl
      | inr enough ↦
          let f : leb m budget ≡ true = le-leb m budget enough in
          elim (cases_lt (budget - m) n) [
            | inl short ↦
                let g : leb n (budget - m) ≡ false = lt-leb n (budget - m) short in
                let h : leb (m + n) budget ≡ false = lt-leb (m + n) budget (omega arith) in
                rw (f, h) (rw g refl)
            | inr more ↦
                let g : leb n (budget - m) ≡ true = le-leb n (budget - m) more in
                let h : leb (m + n) budget ≡ true = le-leb (m + n) budget (omega arith) in
                let same : budget - m - n ≡ budget - (m + n) = omega arith in
                rw (f, h) (rw (g, same) refl)
          ]
    ]

pub left_after_parts : (a b : Bool) (x y : List ℕ) (budget : ℕ)
    → then_left (left_after a (length x) budget) (left_after b (length y))
    ≡ left_after (a && b) (length (x ++ y)) budget
left_after_parts a b x y budget =
    left_after_both a b (length x) (length y) budget
    ∙ ap (λ (n : ℕ). left_after (a && b) n budget) (sym (length-append x y))

then_same : (r : Option ℕ) (f g : ℕ → Option ℕ) → ((budget : ℕ) → f budget ≡ g budget)
    → then_left r f ≡ then_left r g
then_same None f g same = refl
then_same (Some budget) f g same = same budget

-- the same, where each part leaves what is told
pub left_of_parts : (a b : Bool) (x y : List ℕ) (budget : ℕ) (r : Option ℕ) (f : ℕ → Option ℕ)
    → r ≡ left_after a (length x) budget
    → ((budget : ℕ) → f budget ≡ left_after b (length y) budget)
    → then_left r f ≡ left_after (a && b) (length (x ++ y)) budget
left_of_parts a b x y budget r f first second =
    ap (λ (o : Option ℕ). then_left o f) first
    ∙ then_same (left_after a (length x) budget) f (left_after b (length y)) second
    ∙ left_after_parts a b x y budget

pub left_after_nothing : (budget : ℕ) → Some budget ≡ left_after true 0 budget
unfolding left_after
left_after_nothing budget =
    let f : leb 0 budget ≡ true = le-leb 0 budget (omega arith) in
    let same : budget - 0 ≡ budget = omega arith in
    rw (f, same) refl
