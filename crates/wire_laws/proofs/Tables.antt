-- Rules that go by a table: whatever reads each row, and no other number, is one rule.
use Rattle.std.proofs.Common.{◌≡◌, ◌≢◌, Bool, true, false, List, [], ◌∷◌, Option, None, refl, sym, ap, ◌∙◌, inl, inr}
use Rattle.std.specs.Prelude.{◌⊎◌}
use Rattle.std.specs.List.{find}
use Rattle.std.specs.Bool.{Decides}
use Rattle.wire_laws.specs.Tables.{ReadsRows, IsInNoRow, ReadsNumbers, IsTheOnly}

pub either : (b : Bool) → (b ≡ true) ⊎ (b ≡ false)
either true = inl refl
either false = inr refl

-- two rules that read each row give one word of a number, if they do where it stands in no row
walked : {K W : Type 0} (same : K → K → Bool) → ((a b : K) → Decides (same a b) (a ≡ b)) → (rows : List (K × W)) (f g : K → Option W) (n : K) → ReadsRows rows f → ReadsRows rows g → (IsInNoRow n rows → f n ≡ g n) → f n ≡ g n
walked same decides [] f g n reads others last = last tt
walked same decides ((number, word) ∷ rows) f g n reads others last =
    elim (either (same n number)) [
      | inl equal ↦
          let e : n ≡ number = (decides n number).0 equal in
          ap f e ∙ reads.0 ∙ sym others.0 ∙ sym (ap g e)
      | inr other ↦
          walked same decides rows f g n reads.1 others.1
          (λ rest. last ((λ e. let clash : true ≡ false = sym ((decides n number).1 e) ∙ other in absurd cc), rest))
    ]

pub one_reader : {K W : Type 0} (same : K → K → Bool) → ((a b : K) → Decides (same a b) (a ≡ b)) → (rows : List (K × W)) (right : K → Option W) → ReadsNumbers rows right → IsTheOnly (ReadsNumbers rows) right
one_reader same decides rows right holds rule law n =
    walked same decides rows rule right n law.words holds.words (λ aside. law.nothing n aside ∙ sym (holds.nothing n aside))

-- the number is none of these words'
abbrev pub IsAside : {K W : Type 0} → (W → K) → List W → K → Type 0
IsAside number [] n = Unit {0}
IsAside number (word ∷ words) n = (n ≢ number word) × IsAside number words n

-- a number that is none of the words' is found to be none
pub misses : {K W : Type 0} (same : K → K → Bool) → ((a b : K) → Decides (same a b) (a ≡ b)) → (number : W → K) (words : List W) (n : K) → IsAside number words n → find (λ w. same (number w) n) words ≡ None
misses same decides number [] n aside = refl
misses same decides number (word ∷ words) n aside =
    elim (either (same (number word) n)) [
      | inl equal ↦ absurd (aside.0 (sym ((decides (number word) n).0 equal)))
      | inr other ↦ rw other (misses same decides number words n aside.1)
    ]
