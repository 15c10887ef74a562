-- Lists: what holds of each element, what a filter kept, and what is found among the first so many.
use Rattle.std.proofs.Common.{◌≡◌, ◌<◌, ◌≤◌, ℕ, zero, suc, Bool, true, false, cond, List, [], ◌∷◌, ◌++◌, length, reverse, take, Some, None, refl, sym, ap, subst, ◌∙◌, arith}
use Rattle.std.specs.List.{AllByRecursion, filter, find}
use Rattle.std.proofs.lemmas.List.{reverse-append}

some_is : {X : Type 0} (x y : X) → Some x ≡ Some y → x ≡ y
some_is x y h = cc

-- ---- of each element

module _ {X : Type 0} (P : X → Type 0) where
  pub all_push : (xs : List X) (x : X) → AllByRecursion P xs → P x → AllByRecursion P (xs ++ x ∷ [])
  all_push [] x all is = (is, tt)
  all_push (y ∷ xs) x all is = (all.0, all_push xs x all.1 is)

  pub all_reverse : (xs : List X) → AllByRecursion P xs → AllByRecursion P (reverse xs)
  all_reverse [] all = tt
  all_reverse (x ∷ xs) all = subst (AllByRecursion P) (sym (reverse-append (x ∷ []) xs)) (all_push (reverse xs) x (all_reverse xs all.1) all.0)

  pub all_parts : (xs ys : List X) (y : X) → AllByRecursion P (xs ++ y ∷ ys) → AllByRecursion P xs × P y × AllByRecursion P ys
  all_parts [] ys y all = (tt, all.0, all.1)
  all_parts (x ∷ xs) ys y all = let rest = all_parts xs ys y all.1 in ((all.0, rest.0), rest.1, rest.2)

  pub all_weaker : (Q : X → Type 0) → ((x : X) → P x → Q x) → (xs : List X) → AllByRecursion P xs → AllByRecursion Q xs
  all_weaker Q f [] all = tt
  all_weaker Q f (x ∷ xs) all = (f x all.0, all_weaker Q f xs all.1)

  pub all_kept : (p : X → Bool) (Q : X → Type 0) → ((x : X) → p x ≡ true → P x → Q x) → (xs : List X) → AllByRecursion P xs → AllByRecursion Q (filter p xs)
  all_kept p Q f [] all = tt
  all_kept p Q f (x ∷ xs) all = by_test (p x) refl (all_kept p Q f xs all.1) where
    by_test : (t : Bool) → p x ≡ t → AllByRecursion Q (filter p xs) → AllByRecursion Q (cond t (x ∷ filter p xs) (filter p xs))
    by_test true e rest = (f x e all.0, rest)
    by_test false e rest = rest

-- ---- what is found, and what was kept

module _ {X : Type 0} (p : X → Bool) where
  -- the first that passes, after fewer than so many that don't
  pub find_past : (n : ℕ) (xs ys : List X) (y : X) → length xs < n → AllByRecursion (λ (x : X). p x ≡ false) xs → p y ≡ true → find p (take n (xs ++ y ∷ ys)) ≡ Some y
  find_past zero xs ys y few fail pass = absurd (omega arith)
  find_past (suc n) [] ys y few fail pass = ap (λ (t : Bool). cond t (Some y) (find p (take n ys))) pass
  find_past (suc n) (x ∷ xs) ys y few fail pass = ap (λ (t : Bool). cond t (Some x) (find p (take n (xs ++ y ∷ ys)))) fail.0 ∙ find_past n xs ys y (omega (arith, few)) fail.1 pass

  -- none, where the first so many don't pass
  pub find_none : (n : ℕ) (xs ys : List X) → n ≤ length xs → AllByRecursion (λ (x : X). p x ≡ false) xs → find p (take n (xs ++ ys)) ≡ None
  find_none zero xs ys many fail = refl
  find_none (suc n) [] ys many fail = absurd (omega (arith, many))
  find_none (suc n) (x ∷ xs) ys many fail = ap (λ (t : Bool). cond t (Some x) (find p (take n (xs ++ ys)))) fail.0 ∙ find_none n xs ys (omega (arith, many)) fail.1

  -- what is found among the first so many stands there, and passes
  abbrev pub IsAmong : ℕ → List X → X → Type 0
  IsAmong n list y = (xs ys : List X) × (list ≡ xs ++ y ∷ ys) × (length xs < n) × (p y ≡ true)

  pub found_among : (n : ℕ) (list : List X) (y : X) → find p (take n list) ≡ Some y → IsAmong n list y
  found_among zero list y h = absurd (let clash : None ≡ Some y = h in cc)
  found_among (suc n) [] y h = absurd (let clash : None ≡ Some y = h in cc)
  found_among (suc n) (x ∷ list) y h = by_test (p x) refl h (found_among n list y) where
    by_test : (t : Bool) → p x ≡ t → cond t (Some x) (find p (take n list)) ≡ Some y → (find p (take n list) ≡ Some y → IsAmong n list y) → IsAmong (suc n) (x ∷ list) y
    by_test true e here more =
        let same : x ≡ y = some_is x y here in
        ([], list, ap (λ (z : X). z ∷ list) same, omega arith, ap p (sym same) ∙ e)
    by_test false e later more =
        let f = more later in
        (x ∷ f.0, f.1, ap (λ (l : List X). x ∷ l) f.2, omega (arith, f.3), f.4)

  -- what a filter kept stands in the list, and passes
  abbrev pub IsKept : List X → List X → X → Type 0
  IsKept list ys y = (before after : List X) × (list ≡ before ++ y ∷ after) × (filter p after ≡ ys) × (p y ≡ true)

  nothing : (xs ys : List X) (y : X) → [] ≡ xs ++ y ∷ ys → ⊥
  nothing [] ys y h = cc
  nothing (x ∷ xs) ys y h = cc

  deeper : (x : X) (list ys : List X) (y : X) → IsKept list ys y → IsKept (x ∷ list) ys y
  deeper x list ys y k = (x ∷ k.0, k.1, ap (λ (l : List X). x ∷ l) k.2, k.3, k.4)

  pub kept_at : (list xs ys : List X) (y : X) → filter p list ≡ xs ++ y ∷ ys → IsKept list ys y
  kept_at [] xs ys y h = absurd (nothing xs ys y h)
  kept_at (x ∷ list) xs ys y h = by_test (p x) refl xs h (λ us. kept_at list us ys y) where
    by_test : (t : Bool) → p x ≡ t → (us : List X) → cond t (x ∷ filter p list) (filter p list) ≡ us ++ y ∷ ys → ((vs : List X) → filter p list ≡ vs ++ y ∷ ys → IsKept list ys y) → IsKept (x ∷ list) ys y
    by_test true e [] h more =
        let same : x ≡ y = cc in
        let rest : filter p list ≡ ys = cc in
        ([], list, ap (λ (z : X). z ∷ list) same, rest, ap p (sym same) ∙ e)
    by_test true e (z ∷ us) h more = deeper x list ys y (more us (let rest : filter p list ≡ us ++ y ∷ ys = cc in rest))
    by_test false e us h more = deeper x list ys y (more us h)

  -- where none is found among the first so many, none of them passes
  pub none_passes : (n : ℕ) (xs ys : List X) (y : X) → find p (take n (xs ++ y ∷ ys)) ≡ None → length xs < n → p y ≡ true → ⊥
  none_passes zero xs ys y none few pass = omega (arith, few)
  none_passes (suc n) [] ys y none few pass = let clash : Some y ≡ None = sym (ap (λ (t : Bool). cond t (Some y) (find p (take n ys))) pass) ∙ none in cc
  none_passes (suc n) (x ∷ xs) ys y none few pass = by_test (p x) none (λ later. none_passes n xs ys y later (omega (arith, few)) pass) where
    by_test : (t : Bool) → cond t (Some x) (find p (take n (xs ++ y ∷ ys))) ≡ None → (find p (take n (xs ++ y ∷ ys)) ≡ None → ⊥) → ⊥
    by_test true here more = let clash : Some x ≡ None = here in cc
    by_test false later more = more later
