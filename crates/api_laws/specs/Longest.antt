-- How much a fetch serves, at either level (Kafka protocol guide, "Fetch API (Key: 1)").
use Rattle.std.specs.Prelude.{◌≡◌, ◌≤◌, ◌<◌, ◌⊎◌, ℕ, ℤ, Bool, true, false, List, [], ◌∷◌, ◌++◌, length}
use Rattle.record_batch.specs.Batch.{BatchData}
use Rattle.msg_data.specs.declared.isolation.Isolation.TheVariants.{ReadUncommitted, ReadCommitted}
use Rattle.partition_log.specs.Log.{end_of, last_stable_offset}
use Rattle.msg_data.specs.declared.isolation.Isolation.{Isolation}
use Rattle.partition_log.specs.declared.served.Served.{Served}
use Rattle.partition_log.specs.Fetch.{batches_below, batches_from}
use Rattle.partition_log.specs.Laws.{total_bytes}

-- Of the whole batches that stand below the limit, from the one on that holds the offset, it is a
-- beginning, which fits into the budget or is the first alone where one is forced. No longer
-- beginning fits; and none is served only where there is none, or where the first is longer than
-- the budget and none is forced.
pub record IsLongest (log : List BatchData) (offset limit : ℤ) (budget : ℕ) (forced : Bool)
    (run : List BatchData) : Type 0 where
  pub rest : List BatchData
  pub first : batches_below limit (batches_from offset log) ≡ run ++ rest
  pub fits : (total_bytes run ≤ budget) ⊎ ((forced ≡ true) × (length run ≡ 1))
  pub most : (longer rest : List BatchData)
      → batches_below limit (batches_from offset log) ≡ longer ++ rest → total_bytes longer ≤ budget
      → length longer ≤ length run
  pub none : run ≡ [] → (b : BatchData) (rest : List BatchData)
      → batches_below limit (batches_from offset log) ≡ b ∷ rest
      → (forced ≡ false) × (budget < length b.bytes)

-- what is served of a log: from an offset, at a level, within so many bytes, and whether one batch
-- is forced
abbrev pub ServeRule : Type 0
ServeRule = List BatchData → ℤ → Isolation → ℕ → Bool → Served

-- read_uncommitted goes to the log's end, and read_committed to the last stable offset
pub record ServesTheLongest (served_of : ServeRule) (log : List BatchData) (offset : ℤ)
    (budget : ℕ) (forced : Bool) : Type 0 where
  pub uncommitted : IsLongest log offset (end_of log) budget forced
      (served_of log offset ReadUncommitted budget forced).batches
  pub committed : IsLongest log offset (last_stable_offset log) budget forced
      (served_of log offset ReadCommitted budget forced).batches

-- at either level the longest run of whole batches that fits is served, or the one that is forced
abbrev pub ServesWhatFits : ServeRule → Type 0
ServesWhatFits served_of =
    (log : List BatchData) (offset : ℤ) (budget : ℕ) (forced : Bool)
    → ServesTheLongest served_of log offset budget forced
