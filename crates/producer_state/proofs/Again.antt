-- What was accepted and is sent again.
use Rattle.std.proofs.Common.{◌≡◌, ℤ, pos, List, [], ◌∷◌, ◌++◌, take, Option, Some, None, true, cond, refl, sym, ap, ◌∙◌, arith}
use Rattle.std.specs.Prelude.{◌≤ℤ◌, int_lt, not, ◌&&◌}
use Rattle.std.specs.Ordering.{int_eq}
use Rattle.std.specs.List.{find}
use Rattle.std.proofs.lemmas.Int.{ints}
use Rattle.wire_types.specs.declared.error_code.ErrorCode.TheVariants.{OutOfOrderSequenceNumber, InvalidProducerEpoch}
use Rattle.record_batch.specs.Batch.{BatchData}
use Rattle.producer_state.specs.declared.judgment.Judgment.{Judgment}
use Rattle.producer_state.specs.declared.judgment.Judgment.TheVariants.{Next, Repeat, Refused}
use Rattle.producer_state.specs.Sequences.{last_sequence, last_of, is_data, is_of_producer, is_written_by, epochs, greatest_of, latest_batches_by, Sequence, sequence, has_same_sequences, repeat, first_judgment, judgment_by_repeat, judgment_in, judgment_of}
use Rattle.producer_state.specs.Laws.{NumbersAlone, SentAgainRepeats}
use Rattle.producer_state.proofs.Numbers.{same_refl}
use Rattle.producer_state.proofs.Noting.{epoch_of, epochs_push, greatest_push, latest_push}
use Rattle.producer_state.proofs.Judging.{id_of, judged_at, gone_on_within}
use Rattle.producer_state.proofs.Accepting.{place, greatest_is}

-- the judgment of a batch, by the numbers that it is judged by
abbrev begun_at : ℤ → Judgment
begun_at first = cond (int_eq first (pos 0)) Next (Refused OutOfOrderSequenceNumber)

abbrev gone_on_at : ℤ → ℤ → Option BatchData → Judgment
gone_on_at expected first (Some old) = Repeat old.header.base_offset
gone_on_at expected first None = cond (int_eq first expected) Next (Refused OutOfOrderSequenceNumber)

abbrev judged_as : Option Sequence → ℤ → ℤ → Option BatchData → Judgment
judged_as None epoch first again = begun_at first
judged_as (Some s) epoch first again = cond (int_lt epoch s.epoch) (Refused InvalidProducerEpoch) (cond (int_lt s.epoch epoch) (begun_at first) (gone_on_at s.expected first again))

abbrev repeat_as : List BatchData → ℤ → ℤ → ℤ → ℤ → Option BatchData
repeat_as log id epoch first count = find (λ (old : BatchData). int_eq old.header.base_sequence first && int_eq (last_of old) (last_sequence first count)) (take 5 (latest_batches_by id epoch log))

abbrev judged_of : List BatchData → ℤ → ℤ → ℤ → ℤ → Judgment
judged_of log id epoch first count = cond (not (int_lt id (pos 0))) (judged_as (sequence log id) epoch first (repeat_as log id epoch first count)) Next

as_gone_on : (expected : ℤ) (b : BatchData) (again : Option BatchData) → judgment_by_repeat expected b again ≡ gone_on_at expected b.header.base_sequence again
as_gone_on expected b None = refl
as_gone_on expected b (Some old) = refl

as_judged : (s : Option Sequence) (b : BatchData) (again : Option BatchData) → judgment_in s b again ≡ judged_as s (epoch_of b) b.header.base_sequence again
as_judged None b again = refl
as_judged (Some s) b again = ap (λ x. cond (int_lt (epoch_of b) s.epoch) (Refused InvalidProducerEpoch) (cond (int_lt s.epoch (epoch_of b)) (first_judgment b) x)) (as_gone_on s.expected b again)

by_numbers : (log : List BatchData) (b : BatchData) → judgment_of log b ≡ judged_of log (id_of b) (epoch_of b) b.header.base_sequence b.header.record_count
by_numbers log b = ap (λ x. cond (is_of_producer b) x Next) (as_judged (sequence log (id_of b)) b (repeat log b))

pub same_judged : NumbersAlone
same_judged log b again same =
    by_numbers log again
    ∙ ap (λ i. judged_of log i (epoch_of again) again.header.base_sequence again.header.record_count) same.producer
    ∙ ap (λ e. judged_of log (id_of b) e again.header.base_sequence again.header.record_count) same.epoch
    ∙ ap (λ s. judged_of log (id_of b) (epoch_of b) s again.header.record_count) same.sequence
    ∙ ap (judged_of log (id_of b) (epoch_of b) b.header.base_sequence) same.count
    ∙ sym (by_numbers log b)

le_refl : (a : ℤ) → a ≤ℤ a
le_refl a = omega (arith, ints)

repeats : (log : List BatchData) (b : BatchData) → is_data b ≡ true → pos 0 ≤ℤ id_of b → judgment_of log b ≡ Next → judgment_of (log ++ b ∷ []) b ≡ Repeat b.header.base_offset
repeats log b is_records low next =
    judged_at (log ++ b ∷ []) b (Some (epoch_of b)) low found
    ∙ gone_on_within (place (log ++ b ∷ []) (id_of b) (epoch_of b)) b (repeat (log ++ b ∷ []) b) (le_refl (epoch_of b)) (le_refl (epoch_of b))
    ∙ ap (judgment_by_repeat (place (log ++ b ∷ []) (id_of b) (epoch_of b)).expected b) again where
      found : greatest_of (epochs (id_of b) (log ++ b ∷ [])) ≡ Some (epoch_of b)
      found =
          ap greatest_of (epochs_push (id_of b) log b ∙ ap (λ t. epochs (id_of b) log ++ cond t (epoch_of b ∷ []) []) (same_refl (id_of b)))
          ∙ greatest_push (epochs (id_of b) log) (epoch_of b)
          ∙ ap (λ n. Some n) (greatest_is log b low next)

      own : is_written_by (id_of b) (epoch_of b) b ≡ true
      own = ap (λ t. t && (int_eq (id_of b) (id_of b) && int_eq (epoch_of b) (epoch_of b))) is_records ∙ ap (λ t. t && int_eq (epoch_of b) (epoch_of b)) (same_refl (id_of b)) ∙ same_refl (epoch_of b)

      alike : has_same_sequences b b ≡ true
      alike = ap (λ t. t && int_eq (last_of b) (last_of b)) (same_refl b.header.base_sequence) ∙ same_refl (last_of b)

      again : repeat (log ++ b ∷ []) b ≡ Some b
      again =
          ap (λ l. find (has_same_sequences b) (take 5 l)) (latest_push (id_of b) (epoch_of b) log b ∙ ap (λ t. cond t (b ∷ latest_batches_by (id_of b) (epoch_of b) log) (latest_batches_by (id_of b) (epoch_of b) log)) own)
          ∙ ap (λ t. cond t (Some b) (find (has_same_sequences b) (take 4 (latest_batches_by (id_of b) (epoch_of b) log)))) alike

pub sent_again : SentAgainRepeats
sent_again log b again is_records low next same = same_judged (log ++ b ∷ []) b again same ∙ repeats log b is_records low next
