-- What a partition's log says of its producers, and how a batch is judged by it (KIP-98,
-- "Idempotent Producer Guarantees"): each batch bears its producer's id and epoch and the sequence
-- number of its first record.
use Rattle.std.specs.Prelude.{ℤ, pos, ◌+ℤ◌, ◌-ℤ◌, Bool, ◌&&◌, List, [], ◌∷◌, map, reverse, take, not, int_lt, is_none, if◌then◌else◌, Option, Some, None}
use Rattle.std.specs.Ordering.{int_eq}
use Rattle.std.specs.Int.{int_max, int_rem_euclid}
use Rattle.std.specs.List.{filter, find}
use Rattle.wire_types.specs.declared.error_code.ErrorCode.TheVariants.{OutOfOrderSequenceNumber, InvalidProducerEpoch}
use Rattle.record_batch.specs.Batch.{BatchData}
use Rattle.producer_state.specs.declared.judgment.Judgment.{Judgment}
use Rattle.producer_state.specs.declared.judgment.Judgment.TheVariants.{Next, Repeat, Refused}

-- ---- sequence numbers

-- the sequence number after so many records from the first on: after 2^31 - 1 it is 0 again
unfoldable pub next_sequence : ℤ → ℤ → ℤ
next_sequence first count = int_rem_euclid (first +ℤ count) (pos 2147483648)

-- the sequence number of the last of so many records
unfoldable pub last_sequence : ℤ → ℤ → ℤ
last_sequence first count = int_rem_euclid (first +ℤ (count -ℤ pos 1)) (pos 2147483648)

-- those of a batch
abbrev pub next_after : BatchData → ℤ
next_after b = next_sequence b.header.base_sequence b.header.record_count

abbrev pub last_of : BatchData → ℤ
last_of b = last_sequence b.header.base_sequence b.header.record_count

-- ---- batches and markers

-- records, and no marker
abbrev pub is_data : BatchData → Bool
is_data b = is_none b.marker

-- the batch or marker is of this producer
abbrev pub has_producer_id : ℤ → BatchData → Bool
has_producer_id id b = int_eq b.header.producer_id id

-- the batch is of some producer: ids are numbers from 0 on, and -1 stands for none
abbrev pub is_of_producer : BatchData → Bool
is_of_producer b = not (int_lt b.header.producer_id (pos 0))

-- records of this producer in this epoch
abbrev pub is_written_by : ℤ → ℤ → BatchData → Bool
is_written_by id epoch b =
    is_data b && (has_producer_id id b && int_eq b.header.producer_epoch epoch)

-- ---- what a log says of a producer

-- the epochs of its batches and markers
abbrev pub epochs : ℤ → List BatchData → List ℤ
epochs id log = map (λ (b : BatchData). b.header.producer_epoch) (filter (has_producer_id id) log)

-- the greater of two, where there is a second
abbrev pub greater_of : ℤ → Option ℤ → ℤ
greater_of n None = n
greater_of n (Some m) = int_max n m

-- the greatest of the numbers
abbrev pub greatest_of : List ℤ → Option ℤ
greatest_of [] = None
greatest_of (n ∷ ns) = Some (greater_of n (greatest_of ns))

-- its data batches of an epoch, in order
abbrev pub batches_written_by : ℤ → ℤ → List BatchData → List BatchData
batches_written_by id epoch log = filter (is_written_by id epoch) log

-- the same, the latest first
abbrev pub latest_batches_by : ℤ → ℤ → List BatchData → List BatchData
latest_batches_by id epoch log = reverse (batches_written_by id epoch log)

-- the sequence number that is expected after batches of which the latest is the first
abbrev pub expected_after : List BatchData → ℤ
expected_after [] = pos 0
expected_after (b ∷ earlier) = next_after b

-- the epoch that a producer is in, and the sequence number that is expected of it
pub record Sequence : Type 0 where
  pub epoch : ℤ
  pub expected : ℤ

abbrev pub sequence_in : List BatchData → ℤ → Option ℤ → Option Sequence
sequence_in log id None = None
sequence_in log id (Some epoch) =
    Some (record { epoch = epoch; expected = expected_after (latest_batches_by id epoch log) })

-- nothing where the log has nothing of the producer, else the greatest epoch that it tells, and the
-- sequence number after the last data batch of that epoch
abbrev pub sequence : List BatchData → ℤ → Option Sequence
sequence log id = sequence_in log id (greatest_of (epochs id log))

-- ---- how a batch is judged

-- the batches have the same first and the same last sequence number
abbrev pub has_same_sequences : BatchData → BatchData → Bool
has_same_sequences b old =
    int_eq old.header.base_sequence b.header.base_sequence && int_eq (last_of old) (last_of b)

-- the batch that is sent again: the latest with the same sequence numbers among the last five data
-- batches of the batch's producer in the batch's epoch
abbrev pub repeat : List BatchData → BatchData → Option BatchData
repeat log b =
    find (has_same_sequences b)
    (take 5 (latest_batches_by b.header.producer_id b.header.producer_epoch log))

-- a producer begins each of its epochs at 0
abbrev pub first_judgment : BatchData → Judgment
first_judgment b =
    if int_eq b.header.base_sequence (pos 0) then Next else Refused OutOfOrderSequenceNumber

-- and goes on without a gap; what is sent again is told its old offset
abbrev pub judgment_by_repeat : ℤ → BatchData → Option BatchData → Judgment
judgment_by_repeat expected b (Some old) = Repeat old.header.base_offset
judgment_by_repeat expected b None =
    if int_eq b.header.base_sequence expected then Next else Refused OutOfOrderSequenceNumber

abbrev pub judgment_in : Option Sequence → BatchData → Option BatchData → Judgment
judgment_in None b repeated = first_judgment b
judgment_in (Some s) b repeated =
    if int_lt b.header.producer_epoch s.epoch then Refused InvalidProducerEpoch
    else (if int_lt s.epoch b.header.producer_epoch then first_judgment b
    else judgment_by_repeat s.expected b repeated)

-- how a log judges the batch that is sent next
abbrev pub judgment_of : List BatchData → BatchData → Judgment
judgment_of log b =
    if is_of_producer b then judgment_in (sequence log b.header.producer_id) b (repeat log b)
    else Next
