-- What every call leaves: producer ids among those given out, and epochs from 0 to the last.
use Rattle.std.specs.Prelude.{ℕ, ℤ, List}
use Rattle.txn_coordinator.specs.declared.producer_id.ProducerIdAndEpoch.{ProducerIdAndEpoch}
use Rattle.txn_coordinator.specs.declared.target.TopicPartition.{TopicPartition}
use Rattle.record_batch.specs.declared.transaction_result.TransactionResult.{TransactionResult}
use Rattle.txn_coordinator.specs.declared.ending.EndForm.{EndForm}
use Rattle.txn_coordinator.specs.Coordinator.{CoordinatorValue, no_transactions, apply_transition, given_free}
use Rattle.txn_coordinator.specs.InitProducerId.{init}
use Rattle.txn_coordinator.specs.Adding.{add_partitions, add_group}
use Rattle.txn_coordinator.specs.EndTxn.{end}
use Rattle.txn_coordinator.specs.Expiry.{expire}
use Rattle.txn_coordinator.specs.Warrants.{with_front_written}
use Rattle.txn_coordinator.specs.Bounds.{IsCoordinator}

pub record KeepsRanges (c : CoordinatorValue) : Type 0 where
  pub from_init : (id : List ℕ) (timeout greatest : ℤ)
      → IsCoordinator (apply_transition c (init c id timeout greatest))
  pub from_partitions : (id : List ℕ) (pair : ProducerIdAndEpoch) (moment : ℕ)
      (partitions : List TopicPartition)
      → IsCoordinator (apply_transition c (add_partitions c id pair moment partitions))
  pub from_group : (id : List ℕ) (pair : ProducerIdAndEpoch) (moment : ℕ) (group : List ℕ)
      → IsCoordinator (apply_transition c (add_group c id pair moment group))
  pub from_end : (form : EndForm) (id : List ℕ) (pair : ProducerIdAndEpoch)
      (outcome : TransactionResult)
      → IsCoordinator (apply_transition c (end c form id pair outcome))
  pub from_fresh : IsCoordinator (given_free c)
  pub from_expiry : (moment : ℕ) → IsCoordinator (expire c moment)
  pub from_marker : IsCoordinator (with_front_written c)

-- so it is from the first call on
pub record CallsKeepRanges : Type 0 where
  pub first : IsCoordinator no_transactions
  pub next : (c : CoordinatorValue) → IsCoordinator c → KeepsRanges c
