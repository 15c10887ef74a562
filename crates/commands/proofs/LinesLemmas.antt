-- The first line of a text.
use Rattle.std.proofs.Common.{◌≡◌, ℕ, suc, ◌+◌, ◌<◌, ◌≤◌, Bool, ◌==◌, nat_lt, List, [], ◌∷◌, length, take, drop, refl, ap, ◌∙◌, arith, Some, None, inl, inr, take_all, drop_of_length-le}
use Rattle.std.specs.List.{onto_first, position, position_or_len}
use Rattle.std.proofs.lemmas.Bool.{cases_Bool}
use Rattle.std.proofs.lemmas.Bool.Decides.{nat_tests}
use Rattle.commands.specs.Lines.{lines_of, is_line_feed}

-- one more element at the front
shift : (n b : ℕ) (bs : List ℕ) → (take ((1 + n) + 1) (b ∷ bs) ≡ b ∷ take (n + 1) bs) × (drop ((1 + n) + 1) (b ∷ bs) ≡ drop (n + 1) bs)
shift n b bs = let e : (1 + n) + 1 ≡ suc (n + 1) = omega arith in (rw e refl, rw e refl)

-- a text that is not empty begins with its first line
lines_of-first : (text : List ℕ) → 0 < length text → lines_of text ≡ take (position_or_len is_line_feed text + 1) text ∷ lines_of (drop (position_or_len is_line_feed text + 1) text)
lines_of-first [] h = absurd (omega arith)
lines_of-first (b ∷ []) h = elim (cases_Bool (b == 10)) [ inl e ↦ rw e refl | inr e ↦ rw e refl ]
lines_of-first (b ∷ c ∷ more) h =
    elim (cases_Bool (b == 10)) [
      | inl e ↦ rw e refl
      | inr e ↦
          let ih = lines_of-first (c ∷ more) (omega arith) in
          let moved = shift (position_or_len is_line_feed (c ∷ more)) b (c ∷ more) in
          rw e (ap (onto_first b) ih ∙ rw (moved.0, moved.1) refl)
    ]

-- the first place
position-some : (p : ℕ → Bool) (xs : List ℕ) (i : ℕ) → Some i ≡ position p xs → position_or_len p xs ≡ i
position-some p xs i h =
    elim (cases_Bool (nat_lt (position_or_len p xs) (length xs))) [
      | inl e ↦ let s : Some i ≡ Some (position_or_len p xs) = rw e at h in cc
      | inr e ↦ let s : Some i ≡ None = rw e at h in cc
    ]

position-none : (p : ℕ → Bool) (xs : List ℕ) → None ≡ position p xs → length xs ≤ position_or_len p xs
position-none p xs h =
    elim (cases_Bool (nat_lt (position_or_len p xs) (length xs))) [
      | inl e ↦ let s : None ≡ Some (position_or_len p xs) = rw e at h in cc
      | inr e ↦ grind (arith, nat_tests)
    ]

-- the first line ends at the first line feed
pub first_line : (text : List ℕ) (i : ℕ) → 0 < length text → Some i ≡ position is_line_feed text → lines_of text ≡ take (i + 1) text ∷ lines_of (drop (i + 1) text)
first_line text i h found = rw (← position-some is_line_feed text i found) (lines_of-first text h)

-- a text with no line feed is one line
pub only_line : (text : List ℕ) → 0 < length text → None ≡ position is_line_feed text → lines_of text ≡ text ∷ []
only_line text h none =
    let far = position-none is_line_feed text none in
    let n = position_or_len is_line_feed text + 1 in
    let whole : take n text ≡ text = take_all n text (omega arith) in
    let rest : drop n text ≡ [] = drop_of_length-le text {i = n} (omega arith) in
    lines_of-first text h ∙ rw (whole, rest) refl
