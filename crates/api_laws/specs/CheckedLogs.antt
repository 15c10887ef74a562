-- What stands in the logs (Kafka documentation, "Record Batch" and "message.max.bytes").
use Rattle.std.specs.Prelude.{◌≡◌, ◌≤ℤ◌, ℕ, ℤ, pos, List, ◌∷◌, ◌++◌, length, Some, None, FitsSigned}
use Rattle.std.specs.Int.{w64}
use Rattle.settings.specs.declared.settings.Settings.{Settings}
use Rattle.record_batch.specs.Batch.{BatchData, IsBatch}
use Rattle.record_batch.specs.Faults.{first_fault}
use Rattle.producer_state.specs.Laws.{records_in}
use Rattle.audit_trail.specs.declared.event.Event.{Event}
use Rattle.broker_world.specs.World.{LogValue}
use Rattle.broker_world.specs.First.{non_negative, first_world}
use Rattle.broker_world.specs.Logs.{log_at}
use Rattle.api_laws.specs.Runs.{RunRule}

-- it has at most so many bytes; the check of what producers send finds no fault in it; and it is
-- the batch of its bytes, as long as its offset is a number of 64 bits
pub record IsChecked (most : ℤ) (b : BatchData) : Type 0 where
  pub small : pos (length b.bytes) ≤ℤ most
  pub faultless : first_fault (non_negative most) b.bytes ≡ None
  pub batch : FitsSigned w64 b.header.base_offset → IsBatch b

-- whatever the events were, each batch that stands in a log and is no marker is checked, by the
-- settings' greatest size
abbrev pub LogsHoldCheckedBatches : RunRule → Type 0
LogsHoldCheckedBatches world_after_events =
    (s : Settings) (es : List Event) (name : List ℕ) (index : ℤ) (log before after : LogValue)
    (b : BatchData)
    → log_at (world_after_events (first_world s) es).topics name index ≡ Some log
    → log ≡ before ++ b ∷ after → b.marker ≡ None
    → IsChecked s.max_batch b

-- Each record has an offset of its own, without a gap: that of a batch or marker, which counts as
-- one, is the number of records that stand before it in the log.
abbrev pub OffsetsCountRecords : RunRule → Type 0
OffsetsCountRecords world_after_events =
    (s : Settings) (es : List Event) (name : List ℕ) (index : ℤ) (log before after : LogValue)
    (b : BatchData)
    → log_at (world_after_events (first_world s) es).topics name index ≡ Some log
    → log ≡ before ++ b ∷ after
    → b.header.base_offset ≡ pos (records_in before)
