-- Completion in the words of a partition's log: what a transaction's producer had open there is
-- ended, so it is committed, or filtered (KIP-98, 'Transactional Messaging').
use Rattle.std.specs.Prelude.{◌≡◌, true, ℕ, ℤ, ◌≤◌, List, [], ◌∷◌, ◌++◌, Option, Some, None}
use Rattle.record_batch.specs.declared.transaction_result.TransactionResult.{TransactionResult}
use Rattle.record_batch.specs.Batch.{BatchData}
use Rattle.partition_log.specs.Log.{is_commit, transaction_outcome, is_open, open_at, is_committed}
use Rattle.audit_trail.specs.declared.event.Event.{Event}
use Rattle.txn_coordinator.specs.declared.target.TopicPartition.{TopicPartition}
use Rattle.txn_coordinator.specs.declared.target.Target.TheVariants.{Partition}
use Rattle.txn_coordinator.specs.declared.transaction.Transaction.{Transaction}
use Rattle.txn_coordinator.specs.declared.marker.PendingMarker.{PendingMarker}
use Rattle.txn_coordinator.specs.Words.{prepared_phase}
use Rattle.txn_coordinator.specs.Coordinator.{id_record}
use Rattle.txn_laws.specs.Sound.{Each}
use Rattle.txn_laws.specs.Laws.{up_to_last}
use Rattle.broker_world.specs.World.{World, LogValue}
use Rattle.broker_world.specs.Logs.{log_at}
use Rattle.api_dispatch.specs.Step.{step, world_after_events}
use Rattle.broker_laws.specs.Rules.{WorldRule}
use Rattle.broker_laws.specs.Moves.{count_of_mark_events}
use Rattle.broker_laws.specs.Laws.{IsPreparedBy}

-- ---- what a log holds stays

-- the partition's log is still there, and has more batches after what it had
pub record IsLonger (old : LogValue) (found : Option LogValue) : Type 0 where
  pub more : List BatchData
  pub log : found ≡ Some (old ++ more)

-- whatever the world and the event are, each log keeps what it holds, and goes on after it
abbrev pub LogsGoOn : WorldRule → Type 0
LogsGoOn step =
    (w : World) (e : Event) (p : TopicPartition) (log : LogValue)
    → log_at w.topics p.topic p.index ≡ Some log
    → IsLonger log (log_at (step w e).topics p.topic p.index)

-- ---- what was open is ended

-- with these batches after it, the batch's transaction ended so: its records are committed, or they
-- aren't
pub record IsEndedAs (b : BatchData) (later : List BatchData) (outcome : TransactionResult)
    : Type 0 where
  pub told : transaction_outcome b later ≡ Some outcome
  pub shown : is_committed b later ≡ is_commit (Some outcome)

-- the batch isn't of the producer
abbrev pub IsNotFrom : ℤ → BatchData → Type 0
IsNotFrom producer b = b.header.producer_id ≡ producer → ⊥

-- a log went on so that what the producer had open is ended
pub record IsEndedLog (producer : ℤ) (outcome : TransactionResult) (old new : LogValue)
    : Type 0 where
  -- after what stood there before, the first batch of the producer is its marker of that outcome
  pub between : List BatchData
  pub marker : BatchData
  pub after : List BatchData
  pub log : new ≡ old ++ (between ++ marker ∷ after)
  pub nothing : Each (IsNotFrom producer) between
  pub by : marker.header.producer_id ≡ producer
  pub ends : marker.marker ≡ Some outcome
  -- so each batch of the producer that stood open is ended so, by what stands after it now
  pub opened : (before later : List BatchData) (b : BatchData) → old ≡ before ++ b ∷ later
      → b.header.producer_id ≡ producer → is_open b later ≡ true
      → IsEndedAs b (later ++ (between ++ marker ∷ after)) outcome
  -- and after the marker nothing of the producer is open
  pub settled : open_at producer ((old ++ between) ++ marker ∷ []) ≡ None

-- so the partition's log did, from the old world to the later one
pub record IsEndedAt (producer : ℤ) (outcome : TransactionResult) (old later : World)
    (p : TopicPartition) : Type 0 where
  pub log_before : LogValue
  pub log_then : LogValue
  pub before : log_at old.topics p.topic p.index ≡ Some log_before
  pub then : log_at later.topics p.topic p.index ≡ Some log_then
  pub is_ended : IsEndedLog producer outcome log_before log_then

-- Where an event prepares a transaction, as many marker steps as complete it end what its producer
-- had open in the log of each partition that was added.
abbrev pub EndsPrepared : World → Type 0
EndsPrepared w =
    (e : Event) (id : List ℕ) (t : Transaction) (outcome : TransactionResult) (after : List Event)
    → IsPreparedBy step w e id t outcome
    → up_to_last (step w e).coordinator.warrants id ≤ count_of_mark_events after
    → Each (IsEndedAt t.pair.producer outcome w (world_after_events (step w e) after)) t.partitions

-- where a transaction waits, so many end it in each partition for which it still owes a marker
abbrev pub EndsWaiting : World → Type 0
EndsWaiting w = (id : List ℕ) (t : Transaction) (outcome : TransactionResult) (after : List Event)
    → id_record w.coordinator.transactions id ≡ Some t → t.state ≡ prepared_phase outcome
    → up_to_last w.coordinator.warrants id ≤ count_of_mark_events after
    → Each
    (λ (x : PendingMarker). x.id ≡ id → (p : TopicPartition) → x.target ≡ Partition p
    → IsEndedAt x.pair.producer outcome w (world_after_events w after) p)
    w.coordinator.warrants
