-- What holds of all logs.
use Rattle.std.specs.Prelude.{◌≡◌, ◌≤ℤ◌, ◌<ℤ◌, ℕ, ℤ, pos, ◌+◌, ◌%◌, true, List, [], ◌∷◌, ◌++◌, length}
use Rattle.std.specs.List.{All}
use Rattle.wire_types.specs.declared.error_code.ErrorCode.TheVariants.{InvalidProducerEpoch}
use Rattle.record_batch.specs.Batch.{BatchData, IsBatch}
use Rattle.producer_state.specs.declared.judgment.Judgment.TheVariants.{Next, Repeat, Refused}
use Rattle.producer_state.specs.Sequences.{is_data, next_after, batches_written_by, judgment_of}

-- each data batch of the log is one that what stands before it judged to be the next
abbrev pub IsAccepted : List BatchData → Type 0
IsAccepted log =
    (before after : List BatchData) (b : BatchData) → log ≡ before ++ b ∷ after → is_data b ≡ true
    → judgment_of before b ≡ Next

-- the batches follow one another in sequence: the first begins at this number, and each other one
-- where the one before it ended
abbrev pub IsInSequence : ℤ → List BatchData → Type 0
IsInSequence first [] = Unit {0}
IsInSequence first (b ∷ rest) = (b.header.base_sequence ≡ first) × IsInSequence (next_after b) rest

-- a log holds what it accepted of a producer in an epoch once, in order and without a gap
abbrev pub AcceptedOnce : Type 0
AcceptedOnce =
    (log : List BatchData) → IsAccepted log → (id epoch : ℤ) → pos 0 ≤ℤ id
    → IsInSequence (pos 0) (batches_written_by id epoch log)

-- how many records the batches have
abbrev pub records_in : List BatchData → ℕ
records_in [] = 0
records_in (b ∷ rest) = length b.records + records_in rest

-- the sequence number of the batch that is next is the number of records that the log holds of its
-- producer in its epoch, modulo 2^31
abbrev pub NextIsCount : Type 0
NextIsCount =
    (log : List BatchData) (b : BatchData) → All IsBatch log → IsAccepted log
    → pos 0 ≤ℤ b.header.producer_id → judgment_of log b ≡ Next
    → b.header.base_sequence
    ≡ pos
    (records_in (batches_written_by b.header.producer_id b.header.producer_epoch log) %
    2147483648)

-- a batch with the producer, epoch and sequence numbers of another
pub record IsSentAgain (b again : BatchData) : Type 0 where
  pub producer : again.header.producer_id ≡ b.header.producer_id
  pub epoch : again.header.producer_epoch ≡ b.header.producer_epoch
  pub sequence : again.header.base_sequence ≡ b.header.base_sequence
  pub count : again.header.record_count ≡ b.header.record_count

-- nothing else of a batch is judged
abbrev pub NumbersAlone : Type 0
NumbersAlone =
    (log : List BatchData) (b again : BatchData) → IsSentAgain b again
    → judgment_of log again ≡ judgment_of log b

-- a batch that was accepted and is sent again is not appended twice: it is told its old offset
abbrev pub SentAgainRepeats : Type 0
SentAgainRepeats =
    (log : List BatchData) (b again : BatchData) → is_data b ≡ true → pos 0 ≤ℤ b.header.producer_id
    → judgment_of log b ≡ Next → IsSentAgain b again
    → judgment_of (log ++ b ∷ []) again ≡ Repeat b.header.base_offset

-- after a batch or marker of a newer epoch each batch of an older one is refused
abbrev pub NewerFences : Type 0
NewerFences =
    (before after : List BatchData) (newer older : BatchData)
    → newer.header.producer_id ≡ older.header.producer_id → pos 0 ≤ℤ older.header.producer_id
    → older.header.producer_epoch <ℤ newer.header.producer_epoch
    → judgment_of (before ++ newer ∷ after) older ≡ Refused InvalidProducerEpoch
