-- What a log accepts goes on without a gap.
use Rattle.std.proofs.Common.{◌≡◌, ℕ, ℤ, pos, ◌+◌, ◌%◌, add-zero, zero-add, add_assoc, length, List, [], ◌∷◌, ◌++◌, append-nil, append_assoc, reverse, Option, Some, None, Bool, true, false, cond, refl, sym, subst, ap, ◌∙◌, arith}
use Rattle.std.specs.Prelude.{◌≤ℤ◌, ◌<ℤ◌, ◌+ℤ◌, int_lt, ◌&&◌}
use Rattle.std.specs.Int.{int_rem_euclid}
use Rattle.std.specs.List.{All}
use Rattle.std.proofs.Math.Nat.{mod-add-mod}
use Rattle.std.specs.Ordering.{int_eq}
use Rattle.std.proofs.lemmas.Int.{ints, clamps}
use Rattle.std.proofs.lemmas.List.{reverse-append}
use Rattle.std.proofs.lemmas.List.Elements.{All-head, All-tail, All-filter}
use Rattle.wire_types.specs.declared.error_code.ErrorCode.TheVariants.{OutOfOrderSequenceNumber, InvalidProducerEpoch}
use Rattle.record_batch.specs.Batch.{BatchData, IsBatch}
use Rattle.producer_state.specs.declared.judgment.Judgment.TheVariants.{Next, Refused}
use Rattle.producer_state.specs.Sequences.{next_sequence, next_after, is_data, has_producer_id, is_written_by, epochs, greater_of, greatest_of, batches_written_by, latest_batches_by, expected_after, Sequence, repeat, first_judgment, judgment_by_repeat, judgment_of}
use Rattle.producer_state.specs.Laws.{IsInSequence, AcceptedOnce, records_in, NextIsCount}
use Rattle.producer_state.proofs.Numbers.{lt_is, lt_is_not, between, same_is}
use Rattle.producer_state.proofs.Noting.{epoch_of, written_push, latest_none_above}
use Rattle.producer_state.proofs.Judging.{id_of, judged_at, fenced_below, begun_above, gone_on_within}

-- ---- the next batch begins where the last one ended

test_passes : (t : Bool) → cond t Next (Refused OutOfOrderSequenceNumber) ≡ Next → t ≡ true
test_passes true h = refl
test_passes false h = absurd (cc)

begins : (b : BatchData) → first_judgment b ≡ Next → b.header.base_sequence ≡ pos 0
begins b h = same_is b.header.base_sequence (pos 0) (test_passes (int_eq b.header.base_sequence (pos 0)) h)

goes_on_at : (expected : ℤ) (b : BatchData) (again : Option BatchData) → judgment_by_repeat expected b again ≡ Next → b.header.base_sequence ≡ expected
goes_on_at expected b (Some old) h = absurd (cc)
goes_on_at expected b None h = same_is b.header.base_sequence expected (test_passes (int_eq b.header.base_sequence expected) h)

not_refused : Refused InvalidProducerEpoch ≡ Next → ⊥
not_refused h = cc

some_is : (a b : ℤ) → Some a ≡ Some b → a ≡ b
some_is a b h = cc

-- a producer's place in a log, if it is in this epoch
abbrev pub place : List BatchData → ℤ → ℤ → Sequence
place log id epoch = record { epoch = epoch; expected = expected_after (latest_batches_by id epoch log) }

pub next_expected : (log : List BatchData) (b : BatchData) → pos 0 ≤ℤ id_of b → judgment_of log b ≡ Next → b.header.base_sequence ≡ expected_after (latest_batches_by (id_of b) (epoch_of b) log)
next_expected log b low next = by_found (greatest_of (epochs (id_of b) log)) refl where
  by_newer : (m : ℤ) (t : Bool) → greatest_of (epochs (id_of b) log) ≡ Some m → m ≤ℤ epoch_of b → int_lt m (epoch_of b) ≡ t → b.header.base_sequence ≡ expected_after (latest_batches_by (id_of b) (epoch_of b) log)
  by_newer m true is le e =
      let lt = lt_is m (epoch_of b) e in
      begins b (sym (judged_at log b (Some m) low is ∙ begun_above (place log (id_of b) m) b (repeat log b) lt le) ∙ next)
      ∙ sym (ap expected_after (latest_none_above (id_of b) (epoch_of b) log (λ k found. subst (λ (n : ℤ). n <ℤ epoch_of b) (some_is m k (sym is ∙ found)) lt)))
  by_newer m false is le e =
      let ge = lt_is_not m (epoch_of b) e in
      goes_on_at (place log (id_of b) m).expected b (repeat log b) (sym (judged_at log b (Some m) low is ∙ gone_on_within (place log (id_of b) m) b (repeat log b) le ge) ∙ next)
      ∙ ap (λ n. expected_after (latest_batches_by (id_of b) n log)) (between m (epoch_of b) le ge)

  by_older : (m : ℤ) (t : Bool) → greatest_of (epochs (id_of b) log) ≡ Some m → int_lt (epoch_of b) m ≡ t → b.header.base_sequence ≡ expected_after (latest_batches_by (id_of b) (epoch_of b) log)
  by_older m true is e = absurd (not_refused (sym (judged_at log b (Some m) low is ∙ fenced_below (place log (id_of b) m) b (repeat log b) (lt_is (epoch_of b) m e)) ∙ next))
  by_older m false is e = by_newer m (int_lt m (epoch_of b)) is (lt_is_not (epoch_of b) m e) refl

  by_found : (o : Option ℤ) → greatest_of (epochs (id_of b) log) ≡ o → b.header.base_sequence ≡ expected_after (latest_batches_by (id_of b) (epoch_of b) log)
  by_found None is =
      begins b (sym (judged_at log b None low is) ∙ next)
      ∙ sym (ap expected_after (latest_none_above (id_of b) (epoch_of b) log (λ k found. absurd (let clash : Some k ≡ None = sym found ∙ is in cc))))
  by_found (Some m) is = by_older m (int_lt (epoch_of b) m) is refl

-- no newer epoch stands before the next batch
pub greatest_is : (log : List BatchData) (b : BatchData) → pos 0 ≤ℤ id_of b → judgment_of log b ≡ Next → greater_of (epoch_of b) (greatest_of (epochs (id_of b) log)) ≡ epoch_of b
greatest_is log b low next = by_found (greatest_of (epochs (id_of b) log)) refl where
  by_older : (m : ℤ) (t : Bool) → greatest_of (epochs (id_of b) log) ≡ Some m → int_lt (epoch_of b) m ≡ t → greater_of (epoch_of b) (Some m) ≡ epoch_of b
  by_older m true is e = absurd (not_refused (sym (judged_at log b (Some m) low is ∙ fenced_below (place log (id_of b) m) b (repeat log b) (lt_is (epoch_of b) m e)) ∙ next))
  by_older m false is e = let le = lt_is_not (epoch_of b) m e in omega (arith, ints, clamps)

  by_found : (o : Option ℤ) → greatest_of (epochs (id_of b) log) ≡ o → greater_of (epoch_of b) o ≡ epoch_of b
  by_found None is = refl
  by_found (Some m) is = by_older m (int_lt (epoch_of b) m) is refl

-- ---- in sequence

-- the sequence number after batches in their order
abbrev behind : ℤ → List BatchData → ℤ
behind first [] = first
behind first (b ∷ rest) = behind (next_after b) rest

sequence_push : (first : ℤ) (batches : List BatchData) (b : BatchData) → IsInSequence first batches → b.header.base_sequence ≡ behind first batches → IsInSequence first (batches ++ b ∷ [])
sequence_push first [] b h is = (is, tt)
sequence_push first (a ∷ rest) b h is = (h.0, sequence_push (next_after a) rest b h.1 is)

abbrev expected_or : ℤ → List BatchData → ℤ
expected_or first [] = first
expected_or first (b ∷ earlier) = next_after b

after_reverse : (first : ℤ) (batches : List BatchData) → behind first batches ≡ expected_or first (reverse batches)
after_reverse first [] = refl
after_reverse first (a ∷ rest) = after_reverse (next_after a) rest ∙ sym (ap (expected_or first) (reverse-append (a ∷ []) rest) ∙ by_list (reverse rest)) where
  by_list : (l : List BatchData) → expected_or first (l ++ a ∷ []) ≡ expected_or (next_after a) l
  by_list [] = refl
  by_list (b ∷ earlier) = refl

from_zero : (l : List BatchData) → expected_or (pos 0) l ≡ expected_after l
from_zero [] = refl
from_zero (b ∷ earlier) = refl

-- ---- the law

and_first : (a b : Bool) → (a && b) ≡ true → a ≡ true
and_first true b h = refl
and_first false b h = h

and_second : (a b : Bool) → (a && b) ≡ true → b ≡ true
and_second true b h = h
and_second false b h = absurd (cc)

one_more : (id epoch : ℤ) (log : List BatchData) (b : BatchData) → pos 0 ≤ℤ id → IsInSequence (pos 0) (batches_written_by id epoch log) → (is_data b ≡ true → judgment_of log b ≡ Next) → IsInSequence (pos 0) (batches_written_by id epoch (log ++ b ∷ []))
one_more id epoch log b low done accepted = subst (IsInSequence (pos 0)) (sym (written_push id epoch log b)) (by_test (is_written_by id epoch b) refl) where
  follows : is_data b ≡ true → has_producer_id id b ≡ true → int_eq (epoch_of b) epoch ≡ true → b.header.base_sequence ≡ behind (pos 0) (batches_written_by id epoch log)
  follows is_records own same =
      let is_id = same_is (id_of b) id own in
      let is_epoch = same_is (epoch_of b) epoch same in
      next_expected log b (subst (λ (i : ℤ). pos 0 ≤ℤ i) (sym is_id) low) (accepted is_records)
      ∙ ap (λ i. expected_after (latest_batches_by i (epoch_of b) log)) is_id
      ∙ ap (λ e. expected_after (latest_batches_by id e log)) is_epoch
      ∙ sym (after_reverse (pos 0) (batches_written_by id epoch log) ∙ from_zero (latest_batches_by id epoch log))

  by_test : (t : Bool) → is_written_by id epoch b ≡ t → IsInSequence (pos 0) (batches_written_by id epoch log ++ cond t (b ∷ []) [])
  by_test true e =
      let more = and_second (is_data b) (has_producer_id id b && int_eq (epoch_of b) epoch) e in
      sequence_push (pos 0) (batches_written_by id epoch log) b done
      (follows (and_first (is_data b) (has_producer_id id b && int_eq (epoch_of b) epoch) e) (and_first (has_producer_id id b) (int_eq (epoch_of b) epoch) more) (and_second (has_producer_id id b) (int_eq (epoch_of b) epoch) more))
  by_test false e = subst (IsInSequence (pos 0)) (sym (append-nil (batches_written_by id epoch log))) done

walk : (id epoch : ℤ) (before rest : List BatchData) → pos 0 ≤ℤ id → IsInSequence (pos 0) (batches_written_by id epoch before)
    → ((mid after : List BatchData) (b : BatchData) → rest ≡ mid ++ b ∷ after → is_data b ≡ true → judgment_of (before ++ mid) b ≡ Next)
    → IsInSequence (pos 0) (batches_written_by id epoch (before ++ rest))
walk id epoch before [] low done accepted = subst (λ (l : List BatchData). IsInSequence (pos 0) (batches_written_by id epoch l)) (sym (append-nil before)) done
walk id epoch before (b ∷ rest) low done accepted =
    subst (λ (l : List BatchData). IsInSequence (pos 0) (batches_written_by id epoch l)) (append_assoc before (b ∷ []) rest)
    (walk id epoch (before ++ b ∷ []) rest low
    (one_more id epoch before b low done (λ is_records. ap (λ l. judgment_of l b) (sym (append-nil before)) ∙ accepted [] rest b refl is_records))
    (λ mid after c is is_records. ap (λ l. judgment_of l c) (append_assoc before (b ∷ []) mid) ∙ accepted (b ∷ mid) after c (ap (λ l. b ∷ l) is) is_records))

pub accepted_once : AcceptedOnce
accepted_once log accepted id epoch low = walk id epoch [] log low tt (λ mid after b is is_records. accepted mid after b is is_records)

-- ---- the number of records

counted : (first count : ℤ) (a c : ℕ) → first ≡ pos a → count ≡ pos c → next_sequence first count ≡ pos ((a + c) % 2147483648)
unfolding next_sequence
counted first count a c is_first is_count = ap (λ x. int_rem_euclid (x +ℤ count) (pos 2147483648)) is_first ∙ ap (λ x. int_rem_euclid (pos a +ℤ x) (pos 2147483648)) is_count

after_counts : (n : ℕ) (batches : List BatchData) → All IsBatch batches → IsInSequence (pos (n % 2147483648)) batches → behind (pos (n % 2147483648)) batches ≡ pos ((n + records_in batches) % 2147483648)
after_counts n [] whole h = ap (λ m. pos (m % 2147483648)) (sym (add-zero n))
after_counts n (b ∷ rest) whole h =
    let next : next_after b ≡ pos ((n + length b.records) % 2147483648) = counted b.header.base_sequence b.header.record_count (n % 2147483648) (length b.records) h.0 (All-head IsBatch b rest whole).counted ∙ ap (λ m. pos m) (mod-add-mod n 2147483648 (length b.records)) in
    ap (λ first. behind first rest) next
    ∙ after_counts (n + length b.records) rest (All-tail IsBatch b rest whole) (subst (λ (first : ℤ). IsInSequence first rest) next h.1)
    ∙ ap (λ m. pos (m % 2147483648)) (add_assoc n (length b.records) (records_in rest))

pub next_is_count : NextIsCount
next_is_count log b whole accepted low next =
    next_expected log b low next
    ∙ sym (after_reverse (pos 0) (batches_written_by (id_of b) (epoch_of b) log) ∙ from_zero (latest_batches_by (id_of b) (epoch_of b) log))
    ∙ after_counts 0 (batches_written_by (id_of b) (epoch_of b) log) (All-filter (is_written_by (id_of b) (epoch_of b)) IsBatch log whole) (accepted_once log accepted (id_of b) (epoch_of b) low)
    ∙ ap (λ m. pos (m % 2147483648)) (zero-add (records_in (batches_written_by (id_of b) (epoch_of b) log)))
