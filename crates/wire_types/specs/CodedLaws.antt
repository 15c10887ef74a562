-- The laws of values that are told by numbers.
use Rattle.std.proofs.Common.{◌≡◌, ℕ, Bool, true, false, cond, ◌⊎◌, inl, inr, List, [], ◌∷◌, ◌++◌, Option, Some, None, Ok, Err, refl, ap, subst, ◌∙◌}
use Rattle.std.specs.List.{find}
use Rattle.wire_types.specs.declared.fault.Malformed.TheVariants.{Range}
use Rattle.wire_types.specs.Reading.{Found, ◌>>=◌}
use Rattle.wire_types.specs.Grammar.{Grammar}
use Rattle.wire_types.specs.NumberLaws.{bind_ok, ok_is}

-- ---- tables

either_some : {S : Type 0} (b : Bool) (x : S) (o : Option S) (y : S) → cond b (Some x) o ≡ Some y
    → ((b ≡ true) × (x ≡ y)) ⊎ (o ≡ Some y)
either_some true x o y e = inl (refl, cc)
either_some false x o y e = inr e

-- what is found passes the test
pub find-passes : {S : Type 0} (p : S → Bool) (all : List S) (s : S) → find p all ≡ Some s
    → p s ≡ true
find-passes p [] s e = absurd cc
find-passes p (x ∷ xs) s e =
    elim (either_some (p x) x (find p xs) s e) [
      | inl h ↦ subst (λ y. p y ≡ true) h.1 h.0
      | inr h ↦ find-passes p xs s h
    ]

-- ---- readings

unfoldable pub named_or : {S : Type 0} → Option S → List ℕ → Found S
named_or None bytes = Err Range
named_or (Some s) bytes = Ok (s, bytes)

-- a number, and the value that it tells
unfoldable pub coded_at : {A S : Type 0} → (A → Option S) → (List ℕ → Found A) → List ℕ → Found S
coded_at named number bytes = number bytes >>= λ n. named_or (named n.0) n.1

named_ok : {S : Type 0} (o : Option S) (bytes : List ℕ) (s : S) (rest : List ℕ)
    → named_or o bytes ≡ Ok (s, rest) → (o ≡ Some s) × (bytes ≡ rest)
unfolding named_or
named_ok None bytes s rest e = absurd cc
named_ok {S} (Some x) bytes s rest e =
    let same : (x, bytes) ≡ (s, rest) = ok_is (x, bytes) (s, rest) e in
    (ap (λ (y : S × List ℕ). Some y.0) same, ap (λ (y : S × List ℕ). y.1) same)

pub coded_value-sound : {A S : Type 0} (code : S → A) (named : A → Option S) (g : Grammar A)
    → ((a : A) (s : S) → named a ≡ Some s → code s ≡ a)
    → (bytes : List ℕ) (s : S) (rest : List ℕ) → coded_at named g.reading bytes ≡ Ok (s, rest)
    → (text : List ℕ) × (bytes ≡ text ++ rest) × g.Spells text (code s)
unfolding coded_at
coded_value-sound code named g tells bytes s rest e =
    let a = bind_ok (g.reading bytes) (λ n. named_or (named n.0) n.1) (s, rest) e in
    let n = named_ok (named a.0.0) a.0.1 s rest a.2 in
    let p = g.sound bytes a.0.0 a.0.1 a.1 in
    (p.0, p.1 ∙ ap (λ (t : List ℕ). p.0 ++ t) n.1, rw (tells a.0.0 s n.0) p.2)

pub coded_value-complete : {A S : Type 0} (code : S → A) (named : A → Option S) (g : Grammar A)
    → ((s : S) → named (code s) ≡ Some s)
    → (text rest : List ℕ) (s : S) → g.Spells text (code s)
    → coded_at named g.reading (text ++ rest) ≡ Ok (s, rest)
unfolding coded_at named_or
coded_value-complete code named g told text rest s h =
    rw (g.complete text rest (code s) h) (rw (told s) refl)
