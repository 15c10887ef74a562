-- What values leave of a budget one after the other, as a loop finds it.
use Rattle.std.proofs.Common.{◌≡◌, ℕ, ◌+◌, ◌≤◌, ◌<◌, suc, List, ◌∷◌, length, get_or, drop, Option, Some, None, sym, ap, ◌∙◌, add-one, drop-cons}
use Rattle.std.proofs.lemmas.List.{drop_all}
use Rattle.wire_types.specs.Spelling.{then_left, many_left}

next : {A : Type 0} (xs : List A) (i : ℕ) (x : A) → i < length xs → x ≡ get_or xs i x → drop i xs ≡ x ∷ drop (i + 1) xs
next {A} xs i x lt is = rw add-one (drop-cons xs i x lt ∙ ap (λ (y : A). y ∷ drop (suc i) xs) (sym is))

step : {A : Type 0} (left : A → ℕ → Option ℕ) (xs : List A) (i : ℕ) (x : A) (budget : ℕ) (r total : Option ℕ) → i < length xs → x ≡ get_or xs i x → r ≡ left x budget
    → many_left left (drop i xs) budget ≡ total → total ≡ then_left r (many_left left (drop (i + 1) xs))
unfolding many_left
step {A} left xs i x budget r total lt is took so_far =
    sym so_far ∙ ap (λ (ys : List A). many_left left ys budget) (next xs i x lt is) ∙ ap (λ (o : Option ℕ). then_left o (many_left left (drop (i + 1) xs))) (sym took)

pub left_goes_on : {A : Type 0} (left : A → ℕ → Option ℕ) (xs : List A) (i : ℕ) (x : A) (budget after : ℕ) (r total : Option ℕ) → i < length xs → x ≡ get_or xs i x → r ≡ left x budget → r ≡ Some after
    → many_left left (drop i xs) budget ≡ total → many_left left (drop (i + 1) xs) after ≡ total
left_goes_on left xs i x budget after r total lt is took some so_far =
    sym (step left xs i x budget r total lt is took so_far ∙ ap (λ (o : Option ℕ). then_left o (many_left left (drop (i + 1) xs))) some)

pub left_ends : {A : Type 0} (left : A → ℕ → Option ℕ) (xs : List A) (i : ℕ) (x : A) (budget : ℕ) (r total : Option ℕ) → i < length xs → x ≡ get_or xs i x → r ≡ left x budget → r ≡ None
    → many_left left (drop i xs) budget ≡ total → None ≡ total
left_ends left xs i x budget r total lt is took none so_far =
    sym (step left xs i x budget r total lt is took so_far ∙ ap (λ (o : Option ℕ). then_left o (many_left left (drop (i + 1) xs))) none)

pub left_done : {A : Type 0} (left : A → ℕ → Option ℕ) (xs : List A) (i budget : ℕ) (total : Option ℕ) → length xs ≤ i → many_left left (drop i xs) budget ≡ total → Some budget ≡ total
unfolding many_left
left_done {A} left xs i budget total le so_far = sym (ap (λ (ys : List A). many_left left ys budget) (drop_all i xs le)) ∙ so_far
