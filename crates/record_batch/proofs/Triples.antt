-- Three words side by side: the first, second and third words of the triples are summed up apart, each sum a triple at a time, and then joined.
use Rattle.std.proofs.Common.{◌≡◌, ℕ, zero, suc, ◌+◌, ◌*◌, ◌<◌, ◌≤◌, List, [], ◌∷◌, ◌++◌, length, get_or, drop, take, refl, sym, ap, ◌∙◌, arith, drop-cons, add-one}
use Rattle.std.specs.Prelude.{bit_xor}
use Rattle.std.specs.List.{concat, flat_map}
use Rattle.std.specs.Simd.{first_chunks}
use Rattle.std.proofs.lemmas.Nat.Bits.{same_from_bits, bit_at_xor}
use Rattle.std.proofs.lemmas.List.Folds.{concat-append}
use Rattle.std.proofs.lemmas.List.{append_assoc, take-append-drop, drop_all, drop-drop}
use Rattle.record_batch.specs.Crc.{bit_shift_by, crc_after}
use Rattle.record_batch.proofs.Bits.{xor_assoc, shifted_by_xor}
use Rattle.record_batch.proofs.Chunks.{shifted_twice, crc_after-append}

abbrev then_word : ℕ → ℕ → ℕ
then_word crc word = bit_shift_by 64 (bit_xor crc word)

-- the remainder that the three sums stand for
abbrev pub joined : ℕ → ℕ → ℕ → ℕ
joined first second third = then_word (then_word (bit_shift_by 64 first) second) third

regroup : (a b c d e f : ℕ) → bit_xor a (bit_xor b (bit_xor c (bit_xor d (bit_xor e f)))) ≡ bit_xor a (bit_xor c (bit_xor e (bit_xor b (bit_xor d f))))
regroup a b c d e f = same_from_bits (bit_xor a (bit_xor b (bit_xor c (bit_xor d (bit_xor e f))))) (bit_xor a (bit_xor c (bit_xor e (bit_xor b (bit_xor d f))))) (λ i.
    simp bit_at_xor (omega arith))

words_in : (first second third one two three : ℕ) → joined (bit_xor (bit_shift_by 192 first) one) (bit_xor (bit_shift_by 192 second) two) (bit_xor (bit_shift_by 192 third) three) ≡ then_word (then_word (then_word (joined first second third) one) two) three
words_in first second third one two three =
    simp (shifted_by_xor, shifted_twice, xor_assoc) (regroup (bit_shift_by 384 first) (bit_shift_by 192 one) (bit_shift_by 320 second) (bit_shift_by 128 two) (bit_shift_by 256 third) (bit_shift_by 64 three))

-- as a word these bytes come in at once
abbrev IsWordOf : List ℕ → ℕ → Type 0
IsWordOf bytes word = (crc : ℕ) → then_word crc word ≡ crc_after crc bytes

three_words : (crc : ℕ) (triple : List (List ℕ)) (one two three : ℕ) → length triple ≡ 3 → IsWordOf (get_or triple 0 []) one → IsWordOf (get_or triple 1 []) two → IsWordOf (get_or triple 2 []) three → then_word (then_word (then_word crc one) two) three ≡ crc_after crc (concat triple)
unfolding crc_after
three_words crc [] one two three l _ _ _ = absurd (omega arith)
three_words crc (a ∷ []) one two three l _ _ _ = absurd (omega arith)
three_words crc (a ∷ b ∷ []) one two three l _ _ _ = absurd (omega arith)
three_words crc (a ∷ b ∷ c ∷ []) one two three l first second last =
    rw (first crc, second (crc_after crc a), last (crc_after (crc_after crc a) b))
    (sym (crc_after-append crc a (b ++ (c ++ [])) ∙ crc_after-append (crc_after crc a) b (c ++ []) ∙ crc_after-append (crc_after (crc_after crc a) b) c []))
three_words crc (a ∷ b ∷ c ∷ d ∷ triple) one two three l _ _ _ = absurd (omega arith)

-- the sums after a triple
pub triple_in : (first second third : ℕ) (triple : List (List ℕ)) (one two three : ℕ) → length triple ≡ 3 → IsWordOf (get_or triple 0 []) one → IsWordOf (get_or triple 1 []) two → IsWordOf (get_or triple 2 []) three → joined (bit_xor (bit_shift_by 192 first) one) (bit_xor (bit_shift_by 192 second) two) (bit_xor (bit_shift_by 192 third) three) ≡ crc_after (joined first second third) (concat triple)
triple_in first second third triple one two three l is_first is_second is_third = words_in first second third one two three ∙ three_words (joined first second third) triple one two three l is_first is_second is_third

-- with no triple
pub none_in : (crc : ℕ) (triples : List (List (List ℕ))) → length triples ≡ 0 → crc ≡ crc_after crc (flat_map concat triples)
unfolding crc_after
none_in crc [] l = refl
none_in crc (triple ∷ triples) l = absurd (omega arith)

-- with the first triple
pub begins : (crc : ℕ) (triples : List (List (List ℕ))) (triple : List (List ℕ)) (rest : List (List (List ℕ))) (one two three : ℕ) → triples ≡ triple ∷ rest → length triple ≡ 3 → IsWordOf (get_or triple 0 []) one → IsWordOf (get_or triple 1 []) two → IsWordOf (get_or triple 2 []) three → crc_after (joined (bit_xor crc one) two three) (flat_map concat rest) ≡ crc_after crc (flat_map concat triples)
begins crc triples triple rest one two three is l is_first is_second is_third =
    rw (is, three_words crc triple one two three l is_first is_second is_third) (sym (crc_after-append crc (concat triple) (flat_map concat rest)))

pub next_in_rest : (triples : List (List (List ℕ))) (triple : List (List ℕ)) (rest : List (List (List ℕ))) (i : ℕ) → triples ≡ triple ∷ rest → get_or rest i [] ≡ get_or triples (i + 1) []
next_in_rest triples triple rest i is = rw (is, add-one) refl

-- triple after triple
pub goes_on : (triples : List (List (List ℕ))) (i crc after total : ℕ) → i < length triples → after ≡ crc_after crc (concat (get_or triples i [])) → crc_after crc (flat_map concat (drop i triples)) ≡ total → crc_after after (flat_map concat (drop (i + 1) triples)) ≡ total
goes_on triples i crc after total lt step so_far =
    let triple : drop i triples ≡ get_or triples i [] ∷ drop (i + 1) triples = rw add-one (drop-cons triples i [] lt) in
    rw step (sym (crc_after-append crc (concat (get_or triples i [])) (flat_map concat (drop (i + 1) triples))) ∙ sym (ap (λ (rest : List (List (List ℕ))). crc_after crc (flat_map concat rest)) triple) ∙ so_far)

pub is_done : (triples : List (List (List ℕ))) (i crc total : ℕ) → length triples ≤ i → crc_after crc (flat_map concat (drop i triples)) ≡ total → crc ≡ total
unfolding crc_after
is_done triples i crc total le so_far =
    let none : drop i triples ≡ [] = drop_all i triples le in
    sym (ap (λ (rest : List (List (List ℕ))). crc_after crc (flat_map concat rest)) none) ∙ so_far

-- the triples and the words left after them are the words
triples_and_rest : (n k : ℕ) (words : List (List ℕ)) → flat_map concat (first_chunks n k words) ++ concat (drop (k * n) words) ≡ concat words
triples_and_rest n zero words = let none : 0 * n ≡ 0 = omega arith in rw none refl
triples_and_rest n (suc k) words =
    let more : suc k * n ≡ n + k * n = omega arith in
    append_assoc (concat (take n words)) (flat_map concat (first_chunks n k (drop n words))) (concat (drop (suc k * n) words))
    ∙ ap (λ (rest : List ℕ). concat (take n words) ++ rest) (rw more (ap (λ (rest : List (List ℕ)). flat_map concat (first_chunks n k (drop n words)) ++ concat rest) (sym (drop-drop (k * n) n words)) ∙ triples_and_rest n k (drop n words)))
    ∙ sym (concat-append (take n words) (drop n words))
    ∙ ap concat (take-append-drop n words)

pub by_triples : (n k crc : ℕ) (words : List (List ℕ)) → crc_after (crc_after crc (flat_map concat (first_chunks n k words))) (concat (drop (k * n) words)) ≡ crc_after crc (concat words)
by_triples n k crc words = sym (crc_after-append crc (flat_map concat (first_chunks n k words)) (concat (drop (k * n) words))) ∙ ap (crc_after crc) (triples_and_rest n k words)
