-- The last stable offset, in words of its own (KIP-98, "Read Committed": the offset below which
-- each transaction is decided).
use Rattle.std.specs.Prelude.{◌≡◌, ◌⊎◌, ◌≤ℤ◌, ℤ, true, false, List, ◌∷◌, ◌++◌}
use Rattle.std.specs.List.{AllByRecursion}
use Rattle.record_batch.specs.BatchHeader.{is_control, is_transactional}
use Rattle.record_batch.specs.Batch.{BatchData}
use Rattle.partition_log.specs.Log.{IsLog, end_of}

-- records of a transaction that no control batch of its producer has ended
pub record IsUnended (b : BatchData) (after : List BatchData) : Type 0 where
  pub transactional : is_transactional b.header ≡ true
  pub no_marker : is_control b.header ≡ false
  pub unended : AllByRecursion
      (λ (m : BatchData). is_control m.header ≡ true → m.header.producer_id ≡ b.header.producer_id
      → ⊥)
      after

-- such a batch stands in the log at this offset
pub record HasUnendedAt (log : List BatchData) (offset : ℤ) : Type 0 where
  pub before : List BatchData
  pub batch : BatchData
  pub after : List BatchData
  pub parts : log ≡ before ++ batch ∷ after
  pub unended : IsUnended batch after
  pub at : batch.header.base_offset ≡ offset

-- of a log: no such batch stands below it, and one stands at it, or it is the end
pub record IsLastStable (log : List BatchData) (offset : ℤ) : Type 0 where
  pub below : (before after : List BatchData) (b : BatchData) → log ≡ before ++ b ∷ after
      → IsUnended b after → offset ≤ℤ b.header.base_offset
  pub reached : (offset ≡ end_of log) ⊎ HasUnendedAt log offset

-- the last stable offset of a log
abbrev pub OffsetRule : Type 0
OffsetRule = List BatchData → ℤ

-- no batch of an open transaction stands below a log's last stable offset, and one stands at it, or
-- it is the log's end
abbrev pub LastStableIsExact : OffsetRule → Type 0
LastStableIsExact last_stable_offset =
    (log : List BatchData) → IsLog log → IsLastStable log (last_stable_offset log)
