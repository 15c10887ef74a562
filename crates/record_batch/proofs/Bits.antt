-- What is shifted out of a sum is the sum of what is shifted out of its parts.
use Rattle.std.proofs.Common.{◌≡◌, ℕ, zero, suc, ◌+◌, ◌*◌, ◌/◌, ◌%◌, ◌^◌, ◌<◌, refl, sym, ap, ◌∙◌, arith, cond, eqb, add-one, ◌≤◌, List, [], ◌∷◌, length, get_or, drop, drop-cons}
use Rattle.std.specs.Prelude.{bit_xor, bit_and}
use Rattle.std.specs.Int.Bits.{xor_self, xor_zero_l, xor_zero_r}
use Rattle.std.proofs.lemmas.Nat.{xor_comm, xor_shr, xor_mod, xor_block, and_mask, pow-add, pow_pos, shr_split, mod_below}
use Rattle.std.proofs.Math.Nat.{mul_assoc}
use Rattle.std.proofs.lemmas.List.{drop_all}
use Rattle.std.proofs.lemmas.Nat.Bits.{same_from_bits, bit_at_xor}
use Rattle.record_batch.specs.Crc.{polynomial, bit_shift, bit_shift_by, crc_step, crc_after}

pub xor_assoc : (a b c : ℕ) → bit_xor (bit_xor a b) c ≡ bit_xor a (bit_xor b c)
xor_assoc a b c = same_from_bits (bit_xor (bit_xor a b) c) (bit_xor a (bit_xor b c)) (λ i.
    rw (bit_at_xor (bit_xor a b) c i, bit_at_xor a b i, bit_at_xor a (bit_xor b c) i, bit_at_xor b c i) (omega arith))

-- two equal terms cancel
pub xor_cancel : (a b p : ℕ) → bit_xor (bit_xor a p) (bit_xor b p) ≡ bit_xor a b
xor_cancel a b p = xor_assoc a p (bit_xor b p) ∙ ap (λ (x : ℕ). bit_xor a x) (ap (bit_xor p) (xor_comm b p) ∙ sym (xor_assoc p p b) ∙ rw (xor_self p) (xor_zero_l b))

pub xor_swap : (a p b : ℕ) → bit_xor (bit_xor a p) b ≡ bit_xor (bit_xor a b) p
xor_swap a p b = xor_assoc a p b ∙ ap (bit_xor a) (xor_comm p b) ∙ sym (xor_assoc a b p)

-- by the lowest bits of the two
half : ℕ → ℕ → ℕ
half bit n = cond (eqb bit 1) (bit_xor n polynomial) n

halves : (i j a b : ℕ) → i < 2 → j < 2 → half (bit_xor i j) (bit_xor a b) ≡ bit_xor (half i a) (half j b)
unfolding half
halves zero zero a b _ _ = refl
halves zero (suc zero) a b _ _ = xor_assoc a b polynomial
halves (suc zero) zero a b _ _ = sym (xor_swap a polynomial b)
halves (suc zero) (suc zero) a b _ _ = sym (xor_cancel a b polynomial)
halves (suc (suc i)) j a b lt _ = absurd (omega arith)
halves zero (suc (suc j)) a b _ lt = absurd (omega arith)
halves (suc zero) (suc (suc j)) a b _ lt = absurd (omega arith)

pub shifted_xor : (a b : ℕ) → bit_shift (bit_xor a b) ≡ bit_xor (bit_shift a) (bit_shift b)
unfolding half
shifted_xor a b = rw (xor_mod a b 1, xor_shr a b 1) (halves (a % 2) (b % 2) (a / 2) (b / 2) (omega arith) (omega arith))

pub shifted_by_xor : (k a b : ℕ) → bit_shift_by k (bit_xor a b) ≡ bit_xor (bit_shift_by k a) (bit_shift_by k b)
unfolding bit_shift_by
shifted_by_xor zero a b = refl
shifted_by_xor (suc k) a b = ap (bit_shift_by k) (shifted_xor a b) ∙ shifted_by_xor k (bit_shift a) (bit_shift b)

-- a number is the sum of its low and its high bits
pub xor_parts : (k a r : ℕ) → r < 2 ^ k → bit_xor r (a * 2 ^ k) ≡ a * 2 ^ k + r
xor_parts k a r lt =
    let block : bit_xor (a * 2 ^ k + 0) (0 * 2 ^ k + r) ≡ bit_xor a 0 * 2 ^ k + bit_xor 0 r = xor_block k a 0 0 r (pow_pos k) lt in
    let left : a * 2 ^ k + 0 ≡ a * 2 ^ k = omega arith in
    let right : 0 * 2 ^ k + r ≡ r = omega arith in
    xor_comm r (a * 2 ^ k) ∙ sym (ap (λ (x : ℕ). bit_xor x (0 * 2 ^ k + r)) left ∙ ap (bit_xor (a * 2 ^ k)) right) ∙ block ∙ rw (xor_zero_r a, xor_zero_l r) refl

-- zeros are shifted out with no trace
pub shifted_even : (n : ℕ) → bit_shift (n * 2) ≡ n
shifted_even n = let even : n * 2 % 2 ≡ 0 = omega arith in let whole : n * 2 / 2 ≡ n = omega arith in rw (even, whole) refl

pub shifted_by_pow : (k n : ℕ) → bit_shift_by k (n * 2 ^ k) ≡ n
unfolding bit_shift_by
shifted_by_pow zero n = omega arith
shifted_by_pow (suc k) n =
    let more : suc k ≡ k + 1 = omega arith in
    let twice : n * 2 ^ suc k ≡ (n * 2 ^ k) * 2 = rw more (ap (λ (p : ℕ). n * p) (pow-add 2 k 1) ∙ sym (mul_assoc n (2 ^ k) 2)) in
    ap (λ (x : ℕ). bit_shift_by k (bit_shift x)) twice ∙ ap (bit_shift_by k) (shifted_even (n * 2 ^ k)) ∙ shifted_by_pow k n

-- the high bits pass by the k bits that are shifted out
pub low_and_high : (k n : ℕ) → bit_shift_by k n ≡ bit_xor (bit_shift_by k (n % 2 ^ k)) (n / 2 ^ k)
low_and_high k n =
    let apart : n ≡ bit_xor (n % 2 ^ k) (n / 2 ^ k * 2 ^ k) = sym (shr_split n k) ∙ sym (xor_parts k (n / 2 ^ k) (n % 2 ^ k) (mod_below n (2 ^ k) (pow_pos k))) in
    ap (bit_shift_by k) apart ∙ shifted_by_xor k (n % 2 ^ k) (n / 2 ^ k * 2 ^ k) ∙ ap (bit_xor (bit_shift_by k (n % 2 ^ k))) (shifted_by_pow k (n / 2 ^ k))

pub step_by_table : (crc byte : ℕ) → byte < 2 ^ 8 → bit_xor (bit_shift_by 8 (bit_and (bit_xor crc byte) 255)) (crc / 2 ^ 8) ≡ crc_step crc byte
step_by_table crc byte lt =
    let low : bit_and (bit_xor crc byte) 255 ≡ bit_xor crc byte % 2 ^ 8 = and_mask (bit_xor crc byte) 8 in
    let none : byte / 2 ^ 8 ≡ 0 = omega arith in
    let high : bit_xor crc byte / 2 ^ 8 ≡ crc / 2 ^ 8 = xor_shr crc byte 8 ∙ ap (bit_xor (crc / 2 ^ 8)) none ∙ xor_zero_r (crc / 2 ^ 8) in
    rw (low, ← high) (sym (low_and_high 8 (bit_xor crc byte)))

pub goes_on : (bytes : List ℕ) (i crc after total : ℕ) → i < length bytes → after ≡ crc_step crc (get_or bytes i 0) → crc_after crc (drop i bytes) ≡ total → crc_after after (drop (i + 1) bytes) ≡ total
unfolding crc_after
goes_on bytes i crc after total lt step so_far =
    let k : drop i bytes ≡ get_or bytes i 0 ∷ drop (i + 1) bytes = rw add-one (drop-cons bytes i 0 lt) in
    rw step (sym (ap (crc_after crc) k) ∙ so_far)

pub is_done : (bytes : List ℕ) (i crc total : ℕ) → length bytes ≤ i → crc_after crc (drop i bytes) ≡ total → crc ≡ total
unfolding crc_after
is_done bytes i crc total le so_far =
    let none : drop i bytes ≡ [] = drop_all i bytes le in
    sym (ap (crc_after crc) none) ∙ so_far
