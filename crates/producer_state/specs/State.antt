-- What is kept of a log's producers: of each its epoch, the sequence number that is expected of it,
-- and its last five data batches of that epoch.
use Rattle.std.specs.Prelude.{◌≡◌, ◌≤ℤ◌, ℤ, pos, Bool, true, false, ◌&&◌, List, [], ◌∷◌, map, take, int_lt, if◌then◌else◌, Option, Some, None}
use Rattle.std.specs.Ordering.{int_eq}
use Rattle.std.specs.List.{find}
use Rattle.std.specs.Map.{lookup}
use Rattle.wire_types.specs.declared.error_code.ErrorCode.TheVariants.{OutOfOrderSequenceNumber, InvalidProducerEpoch}
use Rattle.record_batch.specs.Batch.{BatchData}
use Rattle.producer_state.specs.declared.judgment.Judgment.{Judgment}
use Rattle.producer_state.specs.declared.judgment.Judgment.TheVariants.{Next, Repeat, Refused}
use Rattle.producer_state.specs.declared.producer_entry.BatchMetadata.{BatchMetadata}
use Rattle.producer_state.specs.Sequences.{next_after, last_of, is_data, epochs, greatest_of, latest_batches_by, expected_after, first_judgment}

-- a data batch's first and last sequence number and its offset
abbrev pub written_of : BatchData → BatchMetadata
written_of b =
    record { first = b.header.base_sequence; last = last_of b; offset = b.header.base_offset }

pub record ProducerEntryValue : Type 0 where
  pub epoch : ℤ
  pub expected : ℤ
  pub latest : List BatchMetadata

-- ---- as the log says it

abbrev pub state_in : List BatchData → ℤ → Option ℤ → Option ProducerEntryValue
state_in log id None = None
state_in log id (Some epoch) = Some (record {
  epoch = epoch;
  expected = expected_after (latest_batches_by id epoch log);
  latest = map written_of (take 5 (latest_batches_by id epoch log));
})

abbrev pub state_of : List BatchData → ℤ → Option ProducerEntryValue
state_of log id = state_in log id (greatest_of (epochs id log))

-- ---- as it is kept

abbrev pub is_key : ℤ → ℤ → Bool
is_key id key = int_eq id key

-- what is kept of a producer, if anything is
abbrev pub kept_state : List (ℤ × ProducerEntryValue) → ℤ → Option ProducerEntryValue
kept_state table id = lookup (is_key id) table

-- of each producer what the log says is kept
abbrev pub Describes : List (ℤ × ProducerEntryValue) → List BatchData → Type 0
Describes table log = (id : ℤ) → pos 0 ≤ℤ id → kept_state table id ≡ state_of log id

-- ---- judging by it

abbrev pub has_sequences_of : BatchData → BatchMetadata → Bool
has_sequences_of b w = int_eq w.first b.header.base_sequence && int_eq w.last (last_of b)

abbrev pub judgment_by_written : ℤ → BatchData → Option BatchMetadata → Judgment
judgment_by_written expected b (Some w) = Repeat w.offset
judgment_by_written expected b None =
    if int_eq b.header.base_sequence expected then Next else Refused OutOfOrderSequenceNumber

abbrev pub judgment_by_state : Option ProducerEntryValue → BatchData → Judgment
judgment_by_state None b = first_judgment b
judgment_by_state (Some s) b =
    if int_lt b.header.producer_epoch s.epoch then Refused InvalidProducerEpoch
    else (if int_lt s.epoch b.header.producer_epoch then first_judgment b
    else judgment_by_written s.expected b (find (has_sequences_of b) s.latest))

-- ---- one batch or marker more

-- an epoch of which nothing is written
abbrev pub fresh_state : ℤ → ProducerEntryValue
fresh_state epoch = record { epoch = epoch; expected = pos 0; latest = [] }

-- once a batch or marker tells an epoch, the greatest one counts
abbrev pub state_in_epoch : Option ProducerEntryValue → ℤ → ProducerEntryValue
state_in_epoch None epoch = fresh_state epoch
state_in_epoch (Some s) epoch = if int_lt s.epoch epoch then fresh_state epoch else s

-- a data batch more in the same epoch
abbrev pub state_with_batch : ProducerEntryValue → BatchData → ProducerEntryValue
state_with_batch s b =
    record { epoch = s.epoch; expected = next_after b; latest = take 5 (written_of b ∷ s.latest) }

abbrev pub state_with_batch_if : Bool → ProducerEntryValue → BatchData → ProducerEntryValue
state_with_batch_if true s b = state_with_batch s b
state_with_batch_if false s b = s

abbrev pub state_after_batch : Option ProducerEntryValue → BatchData → ProducerEntryValue
state_after_batch old b =
    state_with_batch_if
    (is_data b
    && int_eq (state_in_epoch old b.header.producer_epoch).epoch b.header.producer_epoch)
    (state_in_epoch old b.header.producer_epoch) b

-- the marker that ends a transaction of this producer in this epoch
pub record IsMarkerOf (id epoch : ℤ) (marker : BatchData) : Type 0 where
  pub control : is_data marker ≡ false
  pub producer : marker.header.producer_id ≡ id
  pub epoch_told : marker.header.producer_epoch ≡ epoch

-- of this producer this is kept now, and of the others what was kept
abbrev pub IsEntered : List (ℤ × ProducerEntryValue) → List (ℤ × ProducerEntryValue) → ℤ
    → ProducerEntryValue → Type 0
IsEntered old new producer s =
    (id : ℤ) → kept_state new id ≡ (if int_eq producer id then Some s else kept_state old id)
