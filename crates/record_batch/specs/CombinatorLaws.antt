-- What a number that is told beforehand and a value after its length are, and their laws.
use Rattle.std.proofs.Common.{◌≡◌, ℕ, ℤ, ◌<◌, cond, eqb, List, [], ◌∷◌, ◌++◌, length, Result, Ok, Err, refl, sym, ap, subst, ◌∙◌, append_assoc, arith}
use Rattle.std.specs.Ordering.{int_eq}
use Rattle.std.proofs.lemmas.Bool.{eqb-true}
use Rattle.std.proofs.lemmas.Bool.Decides.{Decides-int_eq}
use Rattle.std.proofs.lemmas.List.{length-append, append-nil}
use Rattle.wire_types.specs.declared.fault.Malformed.{Malformed}
use Rattle.wire_types.specs.declared.fault.Malformed.TheVariants.{Range, Rest}
use Rattle.wire_types.specs.Reading.{Found, ◌>>=◌, front_at}
use Rattle.wire_types.specs.Grammar.{Grammar}
use Rattle.wire_types.specs.NumberLaws.{bind_ok, pass_ok, ok_is}
use Rattle.wire_types.specs.AfterLaws.{front-sound, front-complete}

-- ---- a number that is told beforehand

-- another number is out of range
unfoldable pub fixed_at : (List ℕ → Found ℤ) → ℤ → List ℕ → Found (Unit {0})
fixed_at number z bytes = number bytes >>= λ y. cond (int_eq y.0 z) (Ok (tt, y.1)) (Err Range)

abbrev nothing_before : List ℕ → Unit {0} × List ℕ
nothing_before rest = (tt, rest)

pub fixed_number-sound : (g : Grammar ℤ) (z : ℤ) (bytes : List ℕ) (s : Unit {0}) (rest : List ℕ)
    → fixed_at g.reading z bytes ≡ Ok (s, rest)
    → (text : List ℕ) × (bytes ≡ text ++ rest) × g.Spells text z
unfolding fixed_at
fixed_number-sound g z bytes s rest e =
    let a = bind_ok (g.reading bytes)
    (λ y. cond (int_eq y.0 z) (Ok (nothing_before y.1)) (Err Range)) (nothing_before rest) e in
    let b = pass_ok (int_eq a.0.0 z) Range (nothing_before a.0.1) (nothing_before rest) a.2 in
    let same : a.0.0 ≡ z = (Decides-int_eq a.0.0 z).0 b.0 in
    let there : a.0.1 ≡ rest = ap (λ (x : Unit {0} × List ℕ). x.1) b.1 in
    let p = g.sound bytes a.0.0 a.0.1 a.1 in
    (p.0, p.1 ∙ ap (λ (t : List ℕ). p.0 ++ t) there, subst (g.Spells p.0) same p.2)

pub fixed_number-complete : (g : Grammar ℤ) (z : ℤ) (text rest : List ℕ) (s : Unit {0})
    → g.Spells text z → fixed_at g.reading z (text ++ rest) ≡ Ok (s, rest)
unfolding fixed_at
fixed_number-complete g z text rest s h =
    rw (g.complete text rest z h, (Decides-int_eq z z).1 refl) refl

-- ---- a value after its length

-- a number of bytes, and a spelling that has just so many
abbrev pub IsSized : {A : Type 0} → (List ℕ → ℕ → Type 0) → (List ℕ → A → Type 0) → List ℕ → A
    → Type 0
IsSized P Q text x = (a b : List ℕ) × (text ≡ a ++ b) × P a (length b) × Q b x

-- what is found is all
unfoldable pub whole_value : {A : Type 0} → Found A → Result A Malformed
whole_value found = found >>= λ x. cond (eqb (length x.1) 0) (Ok x.0) (Err Rest)

-- so many bytes, and what is found in them
abbrev pub filled_at : {A : Type 0} → (List ℕ → Found A) → ℕ → List ℕ → Found A
filled_at content n bytes = front_at n bytes >>= λ t. whole_value (content t.0) >>= λ x. Ok (x, t.1)

unfoldable pub sized_at : {A : Type 0} → (List ℕ → Found ℕ) → (List ℕ → Found A) → List ℕ → Found A
sized_at count content bytes = count bytes >>= λ n. filled_at content n.0 n.1

no_bytes : (xs : List ℕ) → length xs ≡ 0 → xs ≡ []
no_bytes [] e = refl
no_bytes (x ∷ xs) e = absurd (omega (arith, e))

pub whole_ok : {A : Type 0} (found : Found A) (x : A) → whole_value found ≡ Ok x
    → found ≡ Ok (x, [])
unfolding whole_value
whole_ok {A} found x e =
    let a = bind_ok found (λ y. cond (eqb (length y.1) 0) (Ok y.0) (Err Rest)) x e in
    let b = pass_ok (eqb (length a.0.1) 0) Rest a.0.0 x a.2 in
    let none : a.0.1 ≡ [] = no_bytes a.0.1 (eqb-true (length a.0.1) 0 b.0) in
    a.1 ∙ ap (λ (y : A). Ok (y, a.0.1)) b.1 ∙ ap (λ (t : List ℕ). Ok (x, t)) none

pub ok_whole : {A : Type 0} (g : Grammar A) (text : List ℕ) (x : A) → g.Spells text x
    → whole_value (g.reading text) ≡ Ok x
unfolding whole_value
ok_whole g text x h =
    let all : g.reading text
    ≡ Ok (x, []) = ap g.reading (sym (append-nil text)) ∙ g.complete text [] x h in
    rw all refl

pub sized-sound : {A : Type 0} (c : Grammar ℕ) (g : Grammar A) (bytes : List ℕ) (x : A)
    (rest : List ℕ)
    → sized_at c.reading g.reading bytes ≡ Ok (x, rest)
    → (text : List ℕ) × (bytes ≡ text ++ rest) × IsSized c.Spells g.Spells text x
unfolding sized_at
sized-sound {A} c g bytes x rest e =
    let a = bind_ok (c.reading bytes)
    (λ n. front_at n.0 n.1 >>= λ t. whole_value (g.reading t.0) >>= λ y. Ok (y, t.1)) (x, rest) e
    in
    let b = bind_ok (front_at a.0.0 a.0.1) (λ t. whole_value (g.reading t.0) >>= λ y. Ok (y, t.1))
    (x, rest) a.2 in
    let d = bind_ok (whole_value (g.reading b.0.0)) (λ y. Ok (y, b.0.1)) (x, rest) b.2 in
    let p = c.sound bytes a.0.0 a.0.1 a.1 in
    let f = front-sound a.0.0 a.0.1 b.0.0 b.0.1 b.1 in
    let q = g.sound b.0.0 d.0 [] (whole_ok (g.reading b.0.0) d.0 d.1) in
    let made : A × List ℕ = (d.0, b.0.1) in
    let body : b.0.0 ≡ q.0 = q.1 ∙ append-nil q.0 in
    let long : length q.0 ≡ a.0.0 = ap length (sym body) ∙ f.2 in
    let split : a.0.1 ≡ q.0 ++ b.0.1 = f.1 ∙ ap (λ (t : List ℕ). t ++ b.0.1) (f.3 ∙ body) in
    let regrouped : bytes
    ≡ (p.0 ++ q.0)
    ++ b.0.1 = p.1 ∙ ap (λ (t : List ℕ). p.0 ++ t) split ∙ sym (append_assoc p.0 q.0 b.0.1) in
    subst
    (λ (y : A × List ℕ). (text : List ℕ) × (bytes ≡ text ++ y.1)
    × IsSized c.Spells g.Spells text y.0)
    (ok_is made (x, rest) d.2)
    (p.0 ++ q.0, regrouped, (p.0, q.0, refl, subst (c.Spells p.0) (sym long) p.2, q.2))

pub sized-complete : {A : Type 0} (c : Grammar ℕ) (g : Grammar A) (text rest : List ℕ) (x : A)
    → IsSized c.Spells g.Spells text x → sized_at c.reading g.reading (text ++ rest) ≡ Ok (x, rest)
unfolding sized_at
sized-complete c g text rest x h =
    let regrouped : text ++ rest
    ≡ h.0 ++ (h.1 ++ rest) = ap (λ (t : List ℕ). t ++ rest) h.2 ∙ append_assoc h.0 h.1 rest in
    ap (sized_at c.reading g.reading) regrouped
    ∙ rw (
      c.complete h.0 (h.1 ++ rest) (length h.1) h.3,
      front-complete h.1 rest h.1 refl,
      ok_whole g h.1 x h.4,
    )
    refl

pub sized-some : {A : Type 0} (c : Grammar ℕ) (g : Grammar A) (text : List ℕ) (x : A)
    → IsSized c.Spells g.Spells text x → 0 < length text
sized-some c g text x h =
    omega (arith, c.some_bytes h.0 (length h.1) h.3, length-append h.0 h.1, ap length h.2)
