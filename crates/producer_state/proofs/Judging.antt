-- How a batch is judged where it is known how its epoch stands to the log's.
use Rattle.std.proofs.Common.{◌≡◌, ℤ, pos, List, [], ◌∷◌, map, take, Option, Some, None, Bool, true, false, cond, refl, sym, ap, ◌∙◌}
use Rattle.std.specs.Prelude.{◌≤ℤ◌, ◌<ℤ◌, int_lt, not}
use Rattle.std.specs.List.{find}
use Rattle.wire_types.specs.declared.error_code.ErrorCode.TheVariants.{InvalidProducerEpoch}
use Rattle.record_batch.specs.Batch.{BatchData}
use Rattle.producer_state.specs.declared.judgment.Judgment.{Judgment}
use Rattle.producer_state.specs.declared.judgment.Judgment.TheVariants.{Next, Refused}
use Rattle.producer_state.specs.Sequences.{epochs, greatest_of, latest_batches_by, expected_after, Sequence, sequence_in, sequence, has_same_sequences, repeat, first_judgment, judgment_by_repeat, judgment_in, judgment_of}
use Rattle.producer_state.specs.State.{ProducerEntryValue, written_of, state_in, state_of, has_sequences_of, judgment_by_written, judgment_by_state, kept_state, Describes}
use Rattle.producer_state.proofs.Numbers.{lt_true, lt_false, lt_is_not, between}
use Rattle.producer_state.proofs.Noting.{epoch_of}

abbrev pub id_of : BatchData → ℤ
id_of b = b.header.producer_id

-- ---- by the log

pub judged_at : (log : List BatchData) (b : BatchData) (o : Option ℤ) → pos 0 ≤ℤ id_of b → greatest_of (epochs (id_of b) log) ≡ o → judgment_of log b ≡ judgment_in (sequence_in log (id_of b) o) b (repeat log b)
judged_at log b o low is =
    ap (λ t. cond (not t) (judgment_in (sequence log (id_of b)) b (repeat log b)) Next) (lt_false (id_of b) (pos 0) low)
    ∙ ap (λ x. judgment_in (sequence_in log (id_of b) x) b (repeat log b)) is

pub fenced_below : (s : Sequence) (b : BatchData) (again : Option BatchData) → epoch_of b <ℤ s.epoch → judgment_in (Some s) b again ≡ Refused InvalidProducerEpoch
fenced_below s b again lt = ap (λ t. cond t (Refused InvalidProducerEpoch) (cond (int_lt s.epoch (epoch_of b)) (first_judgment b) (judgment_by_repeat s.expected b again))) (lt_true (epoch_of b) s.epoch lt)

pub begun_above : (s : Sequence) (b : BatchData) (again : Option BatchData) → s.epoch <ℤ epoch_of b → s.epoch ≤ℤ epoch_of b → judgment_in (Some s) b again ≡ first_judgment b
begun_above s b again lt le =
    ap (λ t. cond t (Refused InvalidProducerEpoch) (cond (int_lt s.epoch (epoch_of b)) (first_judgment b) (judgment_by_repeat s.expected b again))) (lt_false (epoch_of b) s.epoch le)
    ∙ ap (λ t. cond t (first_judgment b) (judgment_by_repeat s.expected b again)) (lt_true s.epoch (epoch_of b) lt)

pub gone_on_within : (s : Sequence) (b : BatchData) (again : Option BatchData) → s.epoch ≤ℤ epoch_of b → epoch_of b ≤ℤ s.epoch → judgment_in (Some s) b again ≡ judgment_by_repeat s.expected b again
gone_on_within s b again le ge =
    ap (λ t. cond t (Refused InvalidProducerEpoch) (cond (int_lt s.epoch (epoch_of b)) (first_judgment b) (judgment_by_repeat s.expected b again))) (lt_false (epoch_of b) s.epoch le)
    ∙ ap (λ t. cond t (first_judgment b) (judgment_by_repeat s.expected b again)) (lt_false s.epoch (epoch_of b) ge)

-- ---- by what is kept

found_alike : (expected : ℤ) (b : BatchData) (batches : List BatchData) → judgment_by_repeat expected b (find (has_same_sequences b) batches) ≡ judgment_by_written expected b (find (has_sequences_of b) (map written_of batches))
found_alike expected b [] = refl
found_alike expected b (old ∷ rest) = by_test (has_same_sequences b old) (found_alike expected b rest) where
  by_test : (t : Bool) → judgment_by_repeat expected b (find (has_same_sequences b) rest) ≡ judgment_by_written expected b (find (has_sequences_of b) (map written_of rest))
      → judgment_by_repeat expected b (cond t (Some old) (find (has_same_sequences b) rest)) ≡ judgment_by_written expected b (cond t (Some (written_of old)) (find (has_sequences_of b) (map written_of rest)))
  by_test true h = refl
  by_test false h = h

-- going on in an epoch, by the batches that the log has of an epoch, and by what is kept of them
abbrev gone : List BatchData → BatchData → ℤ → ℤ → Judgment
gone log b epoch e = judgment_by_repeat (expected_after (latest_batches_by (id_of b) epoch log)) b (find (has_same_sequences b) (take 5 (latest_batches_by (id_of b) e log)))

abbrev going : List BatchData → BatchData → ℤ → Judgment
going log b epoch = judgment_by_written (expected_after (latest_batches_by (id_of b) epoch log)) b (find (has_sequences_of b) (map written_of (take 5 (latest_batches_by (id_of b) epoch log))))

same_judgment : (log : List BatchData) (b : BatchData) (o : Option ℤ) → judgment_in (sequence_in log (id_of b) o) b (repeat log b) ≡ judgment_by_state (state_in log (id_of b) o) b
same_judgment log b None = refl
same_judgment log b (Some epoch) = by_older (int_lt (epoch_of b) epoch) refl where
  by_newer : (t : Bool) → int_lt (epoch_of b) epoch ≡ false → int_lt epoch (epoch_of b) ≡ t → cond t (first_judgment b) (gone log b epoch (epoch_of b)) ≡ cond t (first_judgment b) (going log b epoch)
  by_newer true e f = refl
  by_newer false e f = ap (gone log b epoch) (between (epoch_of b) epoch (lt_is_not epoch (epoch_of b) f) (lt_is_not (epoch_of b) epoch e)) ∙ found_alike (expected_after (latest_batches_by (id_of b) epoch log)) b (take 5 (latest_batches_by (id_of b) epoch log))

  by_older : (t : Bool) → int_lt (epoch_of b) epoch ≡ t → cond t (Refused InvalidProducerEpoch) (cond (int_lt epoch (epoch_of b)) (first_judgment b) (gone log b epoch (epoch_of b))) ≡ cond t (Refused InvalidProducerEpoch) (cond (int_lt epoch (epoch_of b)) (first_judgment b) (going log b epoch))
  by_older true e = refl
  by_older false e = by_newer (int_lt epoch (epoch_of b)) e refl

-- the table of a log judges as the log does
pub judged_alike : (table : List (ℤ × ProducerEntryValue)) (log : List BatchData) (b : BatchData) (id : ℤ) (answer : Judgment) → id ≡ id_of b → pos 0 ≤ℤ id → answer ≡ judgment_by_state (kept_state table id) b → Describes table log → answer ≡ judgment_of log b
judged_alike table log b id answer is low says describes =
    says ∙ ap (λ s. judgment_by_state s b) (describes id low) ∙ ap (λ i. judgment_by_state (state_of log i) b) is
    ∙ sym (same_judgment log b (greatest_of (epochs (id_of b) log)))
    ∙ sym (ap (λ t. cond (not t) (judgment_in (sequence log (id_of b)) b (repeat log b)) Next) (ap (λ i. int_lt i (pos 0)) (sym is) ∙ lt_false id (pos 0) low))
