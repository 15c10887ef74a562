-- Eight bytes at once: each is shifted out by itself, with zeros for the bytes after it.
use Rattle.std.proofs.Common.{◌≡◌, ℕ, zero, suc, ◌+◌, ◌*◌, ◌/◌, ◌%◌, ◌^◌, ◌<◌, ◌≤◌, List, [], ◌∷◌, ◌++◌, length, get_or, drop, take, refl, sym, ap, ◌∙◌, arith, drop-cons, add-one}
use Rattle.std.specs.Prelude.{bit_xor, bit_and}
use Rattle.std.specs.List.{concat}
use Rattle.std.specs.Simd.{first_chunks}
use Rattle.std.specs.Int.{w64, from_le_bytes}
use Rattle.std.specs.Int.Bits.{xor_zero_r}
use Rattle.std.proofs.lemmas.Nat.{and_mask}
use Rattle.std.proofs.lemmas.List.{append_assoc, take-append-drop, drop_all, drop-drop}
use Rattle.record_batch.specs.Crc.{bit_shift, bit_shift_by, crc_step, crc_after}
use Rattle.record_batch.proofs.Bits.{xor_assoc, xor_parts, shifted_by_xor, shifted_by_pow, low_and_high}

-- first k bits and then j
pub shifted_twice : (k j c : ℕ) → bit_shift_by j (bit_shift_by k c) ≡ bit_shift_by (k + j) c
unfolding bit_shift_by
shifted_twice zero j c = let none : 0 + j ≡ j = omega arith in ap (λ (n : ℕ). bit_shift_by n c) (sym none)
shifted_twice (suc k) j c = let more : suc k + j ≡ suc (k + j) = omega arith in rw more (shifted_twice k j (bit_shift c))

-- the lowest byte goes out first, the others through the bits that are left
low_byte : (k n : ℕ) → bit_shift_by (8 + k) n ≡ bit_xor (bit_shift_by (8 + k) (bit_and n 255)) (bit_shift_by k (n / 2 ^ 8))
low_byte k n =
    let low : bit_and n 255 ≡ n % 2 ^ 8 = and_mask n 8 in
    rw low (sym (shifted_twice 8 k n) ∙ ap (bit_shift_by k) (low_and_high 8 n) ∙ shifted_by_xor k (bit_shift_by 8 (n % 2 ^ 8)) (n / 2 ^ 8) ∙ ap (λ (x : ℕ). bit_xor x (bit_shift_by k (n / 2 ^ 8))) (shifted_twice 8 k (n % 2 ^ 8)))

next_byte : (k n rest sum : ℕ) → rest ≡ n / 2 ^ 8 → bit_xor sum (bit_shift_by (8 + k) n) ≡ bit_xor (bit_xor sum (bit_shift_by (8 + k) (bit_and n 255))) (bit_shift_by k rest)
next_byte k n rest sum is = rw is (ap (bit_xor sum) (low_byte k n) ∙ sym (xor_assoc sum (bit_shift_by (8 + k) (bit_and n 255)) (bit_shift_by k (n / 2 ^ 8))))

pub word_by_bytes : (n : ℕ) → bit_shift_by 64 n ≡ bit_xor (bit_xor (bit_xor (bit_xor (bit_xor (bit_xor (bit_xor (bit_shift_by 64 (bit_and n 255)) (bit_shift_by 56 (bit_and (n / 2 ^ 8) 255))) (bit_shift_by 48 (bit_and (n / 2 ^ 16) 255))) (bit_shift_by 40 (bit_and (n / 2 ^ 24) 255))) (bit_shift_by 32 (bit_and (n / 2 ^ 32) 255))) (bit_shift_by 24 (bit_and (n / 2 ^ 40) 255))) (bit_shift_by 16 (bit_and (n / 2 ^ 48) 255))) (bit_shift_by 8 (n / 2 ^ 56))
word_by_bytes n =
    low_byte 56 n
    ∙ next_byte 48 (n / 2 ^ 8) (n / 2 ^ 16) _ (omega arith)
    ∙ next_byte 40 (n / 2 ^ 16) (n / 2 ^ 24) _ (omega arith)
    ∙ next_byte 32 (n / 2 ^ 24) (n / 2 ^ 32) _ (omega arith)
    ∙ next_byte 24 (n / 2 ^ 32) (n / 2 ^ 40) _ (omega arith)
    ∙ next_byte 16 (n / 2 ^ 40) (n / 2 ^ 48) _ (omega arith)
    ∙ next_byte 8 (n / 2 ^ 48) (n / 2 ^ 56) _ (omega arith)

pub far_word_by_bytes : (n : ℕ) → bit_shift_by 192 n ≡ bit_xor (bit_xor (bit_xor (bit_xor (bit_xor (bit_xor (bit_xor (bit_shift_by 192 (bit_and n 255)) (bit_shift_by 184 (bit_and (n / 2 ^ 8) 255))) (bit_shift_by 176 (bit_and (n / 2 ^ 16) 255))) (bit_shift_by 168 (bit_and (n / 2 ^ 24) 255))) (bit_shift_by 160 (bit_and (n / 2 ^ 32) 255))) (bit_shift_by 152 (bit_and (n / 2 ^ 40) 255))) (bit_shift_by 144 (bit_and (n / 2 ^ 48) 255))) (bit_shift_by 136 (n / 2 ^ 56))
far_word_by_bytes n =
    low_byte 184 n
    ∙ next_byte 176 (n / 2 ^ 8) (n / 2 ^ 16) _ (omega arith)
    ∙ next_byte 168 (n / 2 ^ 16) (n / 2 ^ 24) _ (omega arith)
    ∙ next_byte 160 (n / 2 ^ 24) (n / 2 ^ 32) _ (omega arith)
    ∙ next_byte 152 (n / 2 ^ 32) (n / 2 ^ 40) _ (omega arith)
    ∙ next_byte 144 (n / 2 ^ 40) (n / 2 ^ 48) _ (omega arith)
    ∙ next_byte 136 (n / 2 ^ 48) (n / 2 ^ 56) _ (omega arith)

-- the lowest byte of a word comes in first
byte_in : (k crc byte rest word : ℕ) → byte < 2 ^ 8 → word ≡ rest * 2 ^ 8 + byte → bit_shift_by (8 + k) (bit_xor crc word) ≡ bit_shift_by k (bit_xor (crc_step crc byte) rest)
byte_in k crc byte rest word fits is =
    let apart : bit_xor crc word ≡ bit_xor (bit_xor crc byte) (rest * 2 ^ 8) = rw is (ap (bit_xor crc) (sym (xor_parts 8 rest byte fits)) ∙ sym (xor_assoc crc byte (rest * 2 ^ 8))) in
    sym (shifted_twice 8 k (bit_xor crc word)) ∙ ap (bit_shift_by k) (ap (bit_shift_by 8) apart ∙ shifted_by_xor 8 (bit_xor crc byte) (rest * 2 ^ 8) ∙ ap (bit_xor (crc_step crc byte)) (shifted_by_pow 8 rest))

-- the number of which these are the bytes, the first one lowest
number : List ℕ → ℕ
number [] = 0
number (byte ∷ bytes) = number bytes * 2 ^ 8 + byte

bytes_in : (crc : ℕ) (bytes : List ℕ) → ((i : ℕ) → get_or bytes i 0 < 2 ^ 8) → bit_shift_by (8 * length bytes) (bit_xor crc (number bytes)) ≡ crc_after crc bytes
unfolding number bit_shift_by crc_after
bytes_in crc [] small = xor_zero_r crc
bytes_in crc (byte ∷ bytes) small =
    let more : 8 * suc (length bytes) ≡ 8 + 8 * length bytes = omega arith in
    rw more (byte_in (8 * length bytes) crc byte (number bytes) (number bytes * 2 ^ 8 + byte) (small 0) refl ∙ bytes_in (crc_step crc byte) bytes (λ i. small (suc i)))

eight_bytes : (bytes : List ℕ) → length bytes ≡ 8 → from_le_bytes w64 bytes ≡ number bytes
unfolding number
eight_bytes [] l = absurd (omega arith)
eight_bytes (a ∷ []) l = absurd (omega arith)
eight_bytes (a ∷ b ∷ []) l = absurd (omega arith)
eight_bytes (a ∷ b ∷ c ∷ []) l = absurd (omega arith)
eight_bytes (a ∷ b ∷ c ∷ d ∷ []) l = absurd (omega arith)
eight_bytes (a ∷ b ∷ c ∷ d ∷ e ∷ []) l = absurd (omega arith)
eight_bytes (a ∷ b ∷ c ∷ d ∷ e ∷ f ∷ []) l = absurd (omega arith)
eight_bytes (a ∷ b ∷ c ∷ d ∷ e ∷ f ∷ g ∷ []) l = absurd (omega arith)
eight_bytes (a ∷ b ∷ c ∷ d ∷ e ∷ f ∷ g ∷ h ∷ []) l = omega arith
eight_bytes (a ∷ b ∷ c ∷ d ∷ e ∷ f ∷ g ∷ h ∷ x ∷ bytes) l = absurd (omega arith)

pub chunk_in : (crc : ℕ) (chunk : List ℕ) → length chunk ≡ 8 → ((i : ℕ) → get_or chunk i 0 < 256) → bit_shift_by 64 (bit_xor crc (from_le_bytes w64 chunk)) ≡ crc_after crc chunk
chunk_in crc chunk eight small =
    ap (λ (n : ℕ). bit_shift_by 64 (bit_xor crc n)) (eight_bytes chunk eight)
    ∙ ap (λ (n : ℕ). bit_shift_by (8 * n) (bit_xor crc (number chunk))) (sym eight)
    ∙ bytes_in crc chunk small

-- chunk after chunk
pub crc_after-append : (crc : ℕ) (xs ys : List ℕ) → crc_after crc (xs ++ ys) ≡ crc_after (crc_after crc xs) ys
unfolding crc_after
crc_after-append crc [] ys = refl
crc_after-append crc (x ∷ xs) ys = crc_after-append (crc_step crc x) xs ys

pub goes_on : (chunks : List (List ℕ)) (i crc after total : ℕ) → i < length chunks → after ≡ crc_after crc (get_or chunks i []) → crc_after crc (concat (drop i chunks)) ≡ total → crc_after after (concat (drop (i + 1) chunks)) ≡ total
goes_on chunks i crc after total lt step so_far =
    let chunk : drop i chunks ≡ get_or chunks i [] ∷ drop (i + 1) chunks = rw add-one (drop-cons chunks i [] lt) in
    rw step (sym (crc_after-append crc (get_or chunks i []) (concat (drop (i + 1) chunks))) ∙ sym (ap (λ (rest : List (List ℕ)). crc_after crc (concat rest)) chunk) ∙ so_far)

pub is_done : (chunks : List (List ℕ)) (i crc total : ℕ) → length chunks ≤ i → crc_after crc (concat (drop i chunks)) ≡ total → crc ≡ total
unfolding crc_after
is_done chunks i crc total le so_far =
    let none : drop i chunks ≡ [] = drop_all i chunks le in
    sym (ap (λ (rest : List (List ℕ)). crc_after crc (concat rest)) none) ∙ so_far

-- the chunks and what is left after them are the bytes
pub chunks_and_rest : (n k : ℕ) (bytes : List ℕ) → concat (first_chunks n k bytes) ++ drop (k * n) bytes ≡ bytes
chunks_and_rest n zero bytes = let none : 0 * n ≡ 0 = omega arith in rw none refl
chunks_and_rest n (suc k) bytes =
    let more : suc k * n ≡ n + k * n = omega arith in
    append_assoc (take n bytes) (concat (first_chunks n k (drop n bytes))) (drop (suc k * n) bytes)
    ∙ ap (λ (rest : List ℕ). take n bytes ++ rest) (rw more (ap (λ (rest : List ℕ). concat (first_chunks n k (drop n bytes)) ++ rest) (sym (drop-drop (k * n) n bytes)) ∙ chunks_and_rest n k (drop n bytes)))
    ∙ take-append-drop n bytes

pub by_chunks : (n k crc : ℕ) (bytes : List ℕ) → crc_after (crc_after crc (concat (first_chunks n k bytes))) (drop (k * n) bytes) ≡ crc_after crc bytes
by_chunks n k crc bytes = sym (crc_after-append crc (concat (first_chunks n k bytes)) (drop (k * n) bytes)) ∙ ap (crc_after crc) (chunks_and_rest n k bytes)
