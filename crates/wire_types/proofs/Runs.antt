-- Runs of bytes one after the other.
use Rattle.std.proofs.Common.{◌≡◌, ◌≤◌, ◌+◌, ℕ, suc, zero, List, [], ◌∷◌, ◌++◌, length, take, drop, Bool, true, false, ◌&&◌, Option, Some, None, nat_eq, refl, sym, ap, ◌∙◌, arith}
use Rattle.std.specs.List.{concat}
use Rattle.std.specs.Cmp.{first_so, second_so}
use Rattle.std.specs.Cmp.Lexicographic.{pointwise}
use Rattle.std.proofs.lemmas.List.{take_at, append-nil, length-append}
use Rattle.std.proofs.lemmas.List.Folds.{concat-append}
use Rattle.wire_types.specs.Pieces.{piece_of, IsPiece}

-- the bytes of one more piece
pub concat_more : (xs : List (List ℕ)) (x : List ℕ) → concat (xs ++ x ∷ []) ≡ concat xs ++ x
concat_more xs x = concat-append xs (x ∷ []) ∙ ap (λ (t : List ℕ). concat xs ++ t) (append-nil x)

-- how many they are
pub length_more : (xs : List (List ℕ)) (x : List ℕ) → length (concat (xs ++ x ∷ [])) ≡ length (concat xs) + length x
length_more xs x = ap length (concat_more xs x) ∙ length-append (concat xs) x

own_or_none : Option (List ℕ) → List ℕ
own_or_none None = []
own_or_none (Some own) = own

-- a piece's own bytes are its first
pub own_first : (own : Option (List ℕ)) (front shared now : List ℕ) → own ≡ Some front → IsPiece own → piece_of own shared ≡ now → front ≡ take 16 now
unfolding own_or_none
own_first None front shared now is piece view = absurd cc
own_first (Some bytes) front shared now is piece view = sym (ap own_or_none is) ∙ sym (take_at bytes shared 16 piece) ∙ ap (take 16) view

-- where the first bytes agree, the others decide
pub agree : (n : ℕ) (a b c d : List ℕ) → n ≤ length a → n ≤ length c → pointwise nat_eq (take n a) (take n c) ≡ true
    → pointwise nat_eq (a ++ b) (c ++ d) ≡ pointwise nat_eq (drop n a ++ b) (drop n c ++ d)
agree zero a b c d i j e = refl
agree (suc n) [] b c d i j e = absurd (omega (arith, i))
agree (suc n) (x ∷ a) b [] d i j e = absurd (omega (arith, j))
agree (suc n) (x ∷ a) b (y ∷ c) d i j e =
    let i' : n ≤ length a = omega (arith, i) in
    let j' : n ≤ length c = omega (arith, j) in
    ap (λ (t : Bool). t && pointwise nat_eq (a ++ b) (c ++ d)) (first_so (nat_eq x y) (pointwise nat_eq (take n a) (take n c)) e)
    ∙ agree n a b c d i' j' (second_so (nat_eq x y) (pointwise nat_eq (take n a) (take n c)) e)

both_false : (t s u : Bool) → (t && s) ≡ false → (s ≡ false → u ≡ false) → (t && u) ≡ false
both_false true s u e f = f e
both_false false s u e f = refl

-- where they do not, neither do the wholes
pub differ : (n : ℕ) (a b c d : List ℕ) → n ≤ length a → n ≤ length c → pointwise nat_eq (take n a) (take n c) ≡ false → pointwise nat_eq (a ++ b) (c ++ d) ≡ false
differ zero a b c d i j e = absurd cc
differ (suc n) [] b c d i j e = absurd (omega (arith, i))
differ (suc n) (x ∷ a) b [] d i j e = absurd (omega (arith, j))
differ (suc n) (x ∷ a) b (y ∷ c) d i j e =
    let i' : n ≤ length a = omega (arith, i) in
    let j' : n ≤ length c = omega (arith, j) in
    both_false (nat_eq x y) (pointwise nat_eq (take n a) (take n c)) (pointwise nat_eq (a ++ b) (c ++ d)) e (differ n a b c d i' j')
