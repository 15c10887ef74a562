-- Books whose numbers rise: the first binding that denies has the least number.
use Rattle.std.proofs.Common.{◌≡◌, ℕ, zero, suc, ◌+◌, ◌<◌, ◌≤◌, min, List, [], ◌∷◌, ◌++◌, length, get_or, drop, drop-cons, Option, Some, None, Bool, true, false, cond, refl, sym, subst, ap, ◌∙◌, arith}
use Rattle.acl_binding.specs.declared.binding.Binding.{Binding}
use Rattle.acl_binding.specs.declared.binding.Numbered.{Numbered}
use Rattle.acl_binding.specs.declared.question.Question.{Question}
use Rattle.acl_binding.specs.Binding.{same_binding}
use Rattle.acl_binding.specs.Book.{IsRising, AreBelow, AreDistinct, number_of}
use Rattle.acl_binding.specs.Verdict.{least_of, lesser_of, denials, is_denial}
use Rattle.acl_binding.proofs.Same.{not_same_either_way}

pub rising_from_less : (es : List Numbered) (a b : ℕ) → a ≤ b → IsRising b es → IsRising a es
rising_from_less [] a b le h = tt
rising_from_less (e ∷ es) a b le h = let lower = h.0 in (omega arith, h.1)

pub rising_drop : (es : List Numbered) (low i : ℕ) → IsRising low es → IsRising low (drop i es)
rising_drop es low zero h = h
rising_drop [] low (suc i) h = tt
rising_drop (e ∷ es) low (suc i) h = let lower = h.0 in rising_drop es low i (rising_from_less es low (e.number + 1) (omega arith) h.1)

-- one more number in front, where the test says so
least_step : (b : Bool) (e n : ℕ) (rest : List ℕ) → n < e → lesser_of e (least_of rest) ≡ e → lesser_of n (least_of rest) ≡ n → lesser_of n (least_of (cond b (e ∷ rest) rest)) ≡ n
least_step true e n rest lt below_e below_n = let small : min n e ≡ n = omega arith in ap (λ m. min n m) below_e ∙ small
least_step false e n rest lt below_e below_n = below_n

-- what is less than all of them stays the least
pub lesser_rising : (es : List Numbered) (q : Question) (n : ℕ) → IsRising (n + 1) es → lesser_of n (least_of (denials es q)) ≡ n
lesser_rising [] q n h = refl
lesser_rising (e ∷ es) q n h = let lower = h.0 in
    least_step (is_denial q e.binding) e.number n (denials es q) (omega arith) (lesser_rising es q e.number h.1) (lesser_rising es q n (rising_from_less es (n + 1) (e.number + 1) (omega arith) h.1))

-- the first that denies has the least number
pub first_is_least : (es : List Numbered) (q : Question) (i : ℕ) (e : Numbered) → IsRising 1 es → denials (drop i es) q ≡ denials es q → i < length es → e ≡ get_or es i e → is_denial q e.binding ≡ true → Some e.number ≡ least_of (denials es q)
first_is_least es q i e rising same lt is holds =
    let split : drop i es ≡ e ∷ drop (suc i) es = drop-cons es i e lt ∙ ap (λ x. x ∷ drop (suc i) es) (sym is) in
    let rest : IsRising 1 (e ∷ drop (suc i) es) = subst (IsRising 1) split (rising_drop es 1 i rising) in
    let head : denials (e ∷ drop (suc i) es) q ≡ e.number ∷ denials (drop (suc i) es) q = ap (λ b. cond b (e.number ∷ denials (drop (suc i) es) q) (denials (drop (suc i) es) q)) holds in
    ap (λ n. Some n) (sym (lesser_rising (drop (suc i) es) q e.number rest.1)) ∙ ap least_of (sym head ∙ sym (ap (λ l. denials l q) split) ∙ same)

-- ---- one more binding at the end

abbrev numbered : ℕ → Binding → Numbered
numbered n b = record { number = n; binding = b }

pub rising_push : (es : List Numbered) (low high : ℕ) (b : Binding) → low ≤ high → IsRising low es → AreBelow high es → IsRising low (es ++ numbered high b ∷ [])
rising_push [] low high b le h below = (le, tt)
rising_push (e ∷ es) low high b le h below = let lower = below.0 in (h.0, rising_push es (e.number + 1) high b (omega arith) h.1 below.1)

pub below_push : (es : List Numbered) (high : ℕ) (b : Binding) → AreBelow high es → AreBelow (high + 1) (es ++ numbered high b ∷ [])
below_push [] high b below = (omega arith, tt)
below_push (e ∷ es) high b below = let lower = below.0 in (omega arith, below_push es high b below.1)

found_or : (t : Bool) (n : ℕ) (rest : Option ℕ) → cond t (Some n) rest ≡ None → (t ≡ false) × (rest ≡ None)
found_or true n rest h = absurd (let clash : Some n ≡ None = h in cc)
found_or false n rest h = (refl, h)

-- a binding that is neither in the list nor at its end
absent_push : (es : List Numbered) (n : ℕ) (b x : Binding) → number_of es x ≡ None → same_binding b x ≡ false → number_of (es ++ numbered n b ∷ []) x ≡ None
absent_push [] n b x none other = ap (λ t. cond t (Some n) None) other
absent_push (e ∷ es) n b x none other = let parts = found_or (same_binding e.binding x) e.number (number_of es x) none in
    ap (λ t. cond t (Some e.number) (number_of (es ++ numbered n b ∷ []) x)) parts.0 ∙ absent_push es n b x parts.1 other

pub distinct_push : (es : List Numbered) (n : ℕ) (b : Binding) → AreDistinct es → number_of es b ≡ None → AreDistinct (es ++ numbered n b ∷ [])
distinct_push [] n b h none = (refl, tt)
distinct_push (e ∷ es) n b h none = let parts = found_or (same_binding e.binding b) e.number (number_of es b) none in
    (absent_push es n b e.binding h.0 (not_same_either_way e.binding b parts.0), distinct_push es n b h.1 parts.1)
