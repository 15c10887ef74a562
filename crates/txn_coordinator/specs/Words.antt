-- The words of a transaction: the producer id of a transactional id with its epoch, where the
-- transaction stands, and the partitions and groups that it takes in (KIP-98, 'Transaction
-- Coordinator').
use Rattle.std.specs.Prelude.{ℕ, ℤ, pos, negsuc, ◌+ℤ◌, Bool, true, false, ◌&&◌, ◌++◌, int_le, List, [], ◌∷◌, map, Option, Some, if◌then◌else◌}
use Rattle.std.specs.List.{list_any}
use Rattle.std.specs.Ordering.{int_eq}
use Rattle.std.specs.Str.{bytes_eq}
use Rattle.txn_coordinator.specs.declared.producer_id.ProducerIdAndEpoch.{ProducerIdAndEpoch}
use Rattle.txn_coordinator.specs.declared.target.TopicPartition.{TopicPartition}
use Rattle.txn_coordinator.specs.declared.target.Target.{Target}
use Rattle.txn_coordinator.specs.declared.target.Target.TheVariants.{Partition, Group}
use Rattle.txn_coordinator.specs.declared.transaction.TransactionState.{TransactionState}
use Rattle.txn_coordinator.specs.declared.transaction.TransactionState.TheVariants.{Empty, Ongoing, PrepareCommit, PrepareAbort, CompleteCommit, CompleteAbort}
use Rattle.txn_coordinator.specs.declared.transaction.Transaction.{Transaction}
use Rattle.record_batch.specs.declared.transaction_result.TransactionResult.{TransactionResult}
use Rattle.record_batch.specs.declared.transaction_result.TransactionResult.TheVariants.{Commit, Abort}

abbrev pub is_empty : List ℕ → Bool
is_empty [] = true
is_empty (byte ∷ bytes) = false

-- ---- producer ids and epochs

-- the greatest epoch, in which nobody writes: only the markers that end a transaction carry it
abbrev pub last_epoch : ℤ
last_epoch = pos 32767

-- where a message has no producer
abbrev pub no_producer : ProducerIdAndEpoch
no_producer = record { producer = negsuc 0; epoch = negsuc 0 }

abbrev pub is_same_producer : ProducerIdAndEpoch → ProducerIdAndEpoch → Bool
is_same_producer a b = int_eq a.producer b.producer && int_eq a.epoch b.epoch

-- the same producer id with the next epoch
abbrev pub with_next_epoch : ProducerIdAndEpoch → ProducerIdAndEpoch
with_next_epoch p = record { producer = p.producer; epoch = p.epoch +ℤ pos 1 }

-- the epochs of the producer id are used up: from 32,766 on
abbrev pub is_exhausted : ProducerIdAndEpoch → Bool
is_exhausted p = int_le (pos 32766) p.epoch

-- what follows a pair: its next epoch, or a fresh producer id where its epochs are used up
abbrev pub next_id_and_epoch : ProducerIdAndEpoch → ℤ → ProducerIdAndEpoch
next_id_and_epoch p fresh =
    if is_exhausted p then record { producer = fresh; epoch = pos 0 } else with_next_epoch p

-- the owner of the producer id that is then given out, if one is
abbrev pub given_after : ProducerIdAndEpoch → List ℕ → List (Option (List ℕ))
given_after p id = if is_exhausted p then Some id ∷ [] else []

-- ---- partitions and groups

abbrev pub is_same_partition : TopicPartition → TopicPartition → Bool
is_same_partition a b = bytes_eq a.topic b.topic && int_eq a.index b.index

abbrev pub has_partition : List TopicPartition → TopicPartition → Bool
has_partition added p = list_any (λ q. is_same_partition q p) added

abbrev pub has_group : List (List ℕ) → List ℕ → Bool
has_group added group = list_any (λ g. bytes_eq g group) added

-- the added partitions, then the added groups, in the order of adding
abbrev pub targets : Transaction → List Target
targets t = map (λ p. Partition p) t.partitions ++ map (λ g. Group g) t.groups

abbrev pub has_target : Transaction → Target → Bool
has_target t (Partition p) = has_partition t.partitions p
has_target t (Group g) = has_group t.groups g

-- ---- states

abbrev pub is_ongoing : TransactionState → Bool
is_ongoing Ongoing = true
is_ongoing Empty = false
is_ongoing PrepareCommit = false
is_ongoing PrepareAbort = false
is_ongoing CompleteCommit = false
is_ongoing CompleteAbort = false

-- the outcome is decided, and markers are pending
abbrev pub prepared_phase : TransactionResult → TransactionState
prepared_phase Commit = PrepareCommit
prepared_phase Abort = PrepareAbort

-- every marker is written
abbrev pub completed_phase : TransactionResult → TransactionState
completed_phase Commit = CompleteCommit
completed_phase Abort = CompleteAbort
