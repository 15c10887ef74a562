-- Tables of the protocol guide, and the rules that go by them.
use Rattle.std.specs.Prelude.{◌≡◌, ◌≢◌, List, [], ◌∷◌, Option, Some, None}

-- each word has the number, or the name, of its row
abbrev pub HasNumbers : {K W : Type 0} → List (K × W) → (W → K) → Type 0
HasNumbers [] number_of = Unit {0}
HasNumbers ((number, word) ∷ rows) number_of =
    (number_of word ≡ number) × HasNumbers rows number_of

-- each number is read as the word of its row
abbrev pub ReadsRows : {K W : Type 0} → List (K × W) → (K → Option W) → Type 0
ReadsRows [] word_at = Unit {0}
ReadsRows ((number, word) ∷ rows) word_at =
    (word_at number ≡ Some word) × ReadsRows rows word_at

-- no row has this number
abbrev pub IsInNoRow : {K W : Type 0} → K → List (K × W) → Type 0
IsInNoRow n [] = Unit {0}
IsInNoRow n ((number, word) ∷ rows) = (n ≢ number) × IsInNoRow n rows

-- each number is read as the word of its row, and any other is no word
pub record ReadsNumbers {K W : Type 0} (rows : List (K × W)) (word_at : K → Option W) : Type 0 where
  pub words : ReadsRows rows word_at
  pub nothing : (n : K) → IsInNoRow n rows → word_at n ≡ None

-- whatever rule has the law gives everywhere what this one gives
abbrev pub IsTheOnly : {A B : Type 0} → ((A → B) → Type 0) → (A → B) → Type 0
IsTheOnly {A} {B} law right = (rule : A → B) → law rule → (x : A) → rule x ≡ right x
