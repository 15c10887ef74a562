-- The first that is found stays.
use Rattle.std.proofs.Common.{◌≡◌, ℕ, suc, ◌+◌, ◌<◌, ◌≤◌, Bool, true, false, cond, List, ◌∷◌, length, get_or, drop, drop-cons, add-one, Option, Some, None, find, refl, sym, ap, ◌∙◌}
use Rattle.std.proofs.lemmas.List.{drop_all}

abbrev pub or_else : {A : Type 0} → Option A → Option A → Option A
or_else (Some x) other = Some x
or_else None other = other

found_at : {A : Type 0} (p : A → Bool) (xs : List A) (i : ℕ) (x : A) → i < length xs → x ≡ get_or xs i x → find p (drop i xs) ≡ cond (p x) (Some x) (find p (drop (i + 1) xs))
found_at p xs i x lt is = rw add-one (ap (find p) (drop-cons xs i x lt ∙ ap (λ y. y ∷ drop (suc i) xs) (sym is)))

kept : {A : Type 0} (found : Option A) (x : A) (rest rest' : Option A) → rest ≡ Some x → or_else found rest ≡ or_else (or_else found (Some x)) rest'
kept (Some y) x rest rest' e = refl
kept None x rest rest' e = e

-- this one is it, unless one was found before
pub one_more : {A : Type 0} (p : A → Bool) (xs : List A) (i : ℕ) (x : A) (found due : Option A) → i < length xs → x ≡ get_or xs i x → p x ≡ true → or_else found (find p (drop i xs)) ≡ due
    → or_else (or_else found (Some x)) (find p (drop (i + 1) xs)) ≡ due
one_more p xs i x found due lt is it so =
    let here : find p (drop i xs) ≡ Some x = found_at p xs i x lt is ∙ ap (λ b. cond b (Some x) (find p (drop (i + 1) xs))) it in
    sym (kept found x (find p (drop i xs)) (find p (drop (i + 1) xs)) here) ∙ so

-- this one isn't it
pub none_here : {A : Type 0} (p : A → Bool) (xs : List A) (i : ℕ) (x : A) (found due : Option A) → i < length xs → x ≡ get_or xs i x → p x ≡ false → or_else found (find p (drop i xs)) ≡ due
    → or_else found (find p (drop (i + 1) xs)) ≡ due
none_here p xs i x found due lt is other so =
    let here : find p (drop i xs) ≡ find p (drop (i + 1) xs) = found_at p xs i x lt is ∙ ap (λ b. cond b (Some x) (find p (drop (i + 1) xs))) other in
    ap (or_else found) (sym here) ∙ so

nothing_else : {A : Type 0} (found : Option A) → or_else found None ≡ found
nothing_else (Some x) = refl
nothing_else None = refl

-- all were looked at
pub all_seen : {A : Type 0} (p : A → Bool) (xs : List A) (i : ℕ) (found due : Option A) → length xs ≤ i → or_else found (find p (drop i xs)) ≡ due → found ≡ due
all_seen p xs i found due end so = sym (nothing_else found) ∙ ap (λ l. or_else found (find p l)) (sym (drop_all i xs end)) ∙ so
