-- What is sent again (KIP-98, "Idempotent Producer Guarantees": duplicates of the last five batches
-- are told their offsets).
use Rattle.std.specs.Prelude.{◌≡◌, ◌≤◌, ◌<◌, ◌≤ℤ◌, ◌<ℤ◌, ℕ, ℤ, pos, negsuc, List, [], ◌∷◌, ◌++◌, length, Some, None}
use Rattle.acl_binding.specs.declared.question.Caller.{Caller}
use Rattle.wire_types.specs.declared.error_code.ErrorCode.{ErrorCode}
use Rattle.wire_types.specs.ErrorCode.{number_of}
use Rattle.settings.specs.declared.settings.Settings.{Settings}
use Rattle.record_batch.specs.Batch.{BatchData}
use Rattle.producer_state.specs.declared.judgment.Judgment.{Judgment}
use Rattle.producer_state.specs.declared.judgment.Judgment.TheVariants.{Repeat, Refused}
use Rattle.producer_state.specs.Laws.{IsSentAgain, records_in}
use Rattle.msg_data.specs.declared.produce.ProduceRequest.{ProduceRequest}
use Rattle.msg_data.specs.declared.produce.ProducedRecords.{ProducedRecords}
use Rattle.msg_data.specs.declared.produce.ProducedOffset.{ProducedOffset}
use Rattle.audit_trail.specs.declared.event.Event.{Event}
use Rattle.broker_world.specs.World.{World, LogValue}
use Rattle.broker_world.specs.First.{first_world}
use Rattle.broker_world.specs.Logs.{log_at}
use Rattle.data_handlers.specs.Produce.{produce_outcome}
use Rattle.api_dispatch.specs.Step.{world_after_events}
use Rattle.api_laws.specs.Acceptance.{IsProper, same_writer, IsInLatestEpoch, next_number, IsNew, HasPart, IsTold}

-- the batch stands here in a log that events reach: it has records and a producer, and no batch or
-- marker of the log tells a greater epoch of that producer
pub record StandsIn (s : Settings) (es : List Event) (name : List ℕ) (index : ℤ)
    (log before after : LogValue) (b : BatchData) : Type 0 where
  pub there : log_at (world_after_events (first_world s) es).topics name index ≡ Some log
  pub place : log ≡ before ++ b ∷ after
  pub no_marker : b.marker ≡ None
  pub producer : pos 0 ≤ℤ b.header.producer_id
  pub latest : IsInLatestEpoch log b

-- how many batches its producer wrote in this epoch after it
abbrev pub batches_after : BatchData → LogValue → ℕ
batches_after b after = length (same_writer b after)

-- how many records its producer wrote in this epoch from it on
abbrev pub records_from : BatchData → LogValue → ℕ
records_from b after = records_in (b ∷ same_writer b after)

-- it is refused by the code of this number
pub record IsRefusedBy (number : ℕ) (j : Judgment) : Type 0 where
  pub code : ErrorCode
  pub refused : j ≡ Refused code
  pub numbered : number_of code ≡ pos number

-- what repeats is one of the last five, sent again
pub record IsOneOfFive (s : Settings) (es : List Event) (name : List ℕ) (index : ℤ) (log : LogValue)
    (again : BatchData) (offset : ℤ) : Type 0 where
  pub before : LogValue
  pub b : BatchData
  pub after : LogValue
  pub stands : StandsIn s es name index log before after b
  pub few : batches_after b after ≤ 4
  pub same : IsSentAgain b again
  pub told : offset ≡ b.header.base_offset

-- It leaves a gap: it begins neither at 0 as the first one of its epoch, nor where the last one
-- ended; and it is none of the last five.
pub record LeavesGap (log : LogValue) (b : BatchData) : Type 0 where
  pub producer : pos 0 ≤ℤ b.header.producer_id
  pub latest : IsInLatestEpoch log b
  pub not_first : same_writer b log ≡ [] → b.header.base_sequence ≡ pos 0 → ⊥
  pub not_next : (earlier : LogValue) (last : BatchData) → same_writer b log ≡ earlier ++ last ∷ []
      → b.header.base_sequence ≡ next_number last → ⊥
  pub new : IsNew log b

-- a request is answered this error and offset at these places, and the partition's log is as it was
pub record IsUnchangedBy (number : ℕ) (offset : ℤ) (w : World) (caller : Caller)
    (r : ProduceRequest) (i j : ℕ) (name : List ℕ) (p : ProducedRecords) (log : LogValue)
    : Type 0 where
  pub answer : ProducedOffset
  pub told : IsTold produce_outcome w caller r i j name answer
  pub same_index : answer.index ≡ p.index
  pub error : number_of answer.error ≡ pos number
  pub at : answer.base_offset ≡ offset
  pub same : log_at (produce_outcome w caller r).world.topics name p.index ≡ Some log

-- So each permitted part of a request is answered in the world that the events reach, if what it
-- sends is this batch and is proper.
abbrev pub IsAnsweredAs : ℕ → ℤ → Settings → List Event → List ℕ → ℤ → LogValue → BatchData → Type 0
IsAnsweredAs number offset s es name index log b =
    (caller : Caller) (r : ProduceRequest) (p : ProducedRecords)
    (part : HasPart (world_after_events (first_world s) es) caller r name p)
    → p.index ≡ index
    → IsProper (world_after_events (first_world s) es).node.max_batch
    (world_after_events (first_world s) es).coordinator r.transactional_id r.acks name p b
    → IsUnchangedBy number offset (world_after_events (first_world s) es) caller r
    (length part.before) (length part.parts) name p log

-- how a log judges the batch that is sent next
abbrev pub JudgeRule : Type 0
JudgeRule = LogValue → BatchData → Judgment

-- each of the last five batches of a producer in its epoch is a repeat where it is sent again, and
-- no other batch is
pub record LastFiveRepeat (judgment_of : JudgeRule) : Type 0 where
  -- One of the last five batches of a producer's epoch that is sent again is told its old offset.
  -- (No later one has its numbers as long as there are at most 2^31 records from it on.)
  pub repeats : (s : Settings) (es : List Event) (name : List ℕ) (index : ℤ)
      (log before after : LogValue) (b again : BatchData)
      → StandsIn s es name index log before after b → IsSentAgain b again
      → batches_after b after ≤ 4 → records_from b after ≤ 2147483648
      → (judgment_of log again ≡ Repeat b.header.base_offset)
      × IsAnsweredAs 0 b.header.base_offset s es name index log again
  -- The sixth last and each one before it are out of order: 45. (As long as there are fewer than
  -- 2^31 records from it on: after so many its numbers are the next ones again.)
  pub too_old : (s : Settings) (es : List Event) (name : List ℕ) (index : ℤ)
      (log before after : LogValue) (b again : BatchData)
      → StandsIn s es name index log before after b → IsSentAgain b again
      → 5 ≤ batches_after b after → records_from b after < 2147483648
      → IsRefusedBy 45 (judgment_of log again)
      × IsAnsweredAs 45 (negsuc 0) s es name index log again
  -- And nothing else is a repeat. (The number of records is one of 32 bits.)
  pub alone : (s : Settings) (es : List Event) (name : List ℕ) (index : ℤ) (log : LogValue)
      (again : BatchData) (offset : ℤ)
      → log_at (world_after_events (first_world s) es).topics name index ≡ Some log
      → pos 0 <ℤ again.header.record_count → again.header.record_count ≤ℤ pos 2147483647
      → judgment_of log again ≡ Repeat offset → IsOneOfFive s es name index log again offset
  -- What leaves a gap is out of order too.
  pub gaps : (s : Settings) (es : List Event) (name : List ℕ) (index : ℤ) (log : LogValue)
      (b : BatchData)
      → log_at (world_after_events (first_world s) es).topics name index ≡ Some log
      → LeavesGap log b
      → IsRefusedBy 45 (judgment_of log b) × IsAnsweredAs 45 (negsuc 0) s es name index log b
