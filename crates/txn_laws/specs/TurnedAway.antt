-- Whom the coordinator turns away, as a table: 42 is INVALID_REQUEST, 47 INVALID_PRODUCER_EPOCH, 48
-- INVALID_TXN_STATE, 49 INVALID_PRODUCER_ID_MAPPING, 50 INVALID_TRANSACTION_TIMEOUT, 51
-- CONCURRENT_TRANSACTIONS and 90 PRODUCER_FENCED (Kafka protocol guide, "Error Codes"; KIP-98,
-- KIP-588, KIP-890).
use Rattle.std.specs.Prelude.{◌≡◌, ◌≢◌, ◌⊎◌, ◌<ℤ◌, ◌≤ℤ◌, ℕ, ℤ, pos, List, [], ◌∷◌, Some, None}
use Rattle.wire_types.specs.ErrorCode.{number_of}
use Rattle.record_batch.specs.declared.transaction_result.TransactionResult.{TransactionResult}
use Rattle.record_batch.specs.declared.transaction_result.TransactionResult.TheVariants.{Commit, Abort}
use Rattle.txn_coordinator.specs.declared.producer_id.ProducerIdAndEpoch.{ProducerIdAndEpoch}
use Rattle.txn_coordinator.specs.declared.target.TopicPartition.{TopicPartition}
use Rattle.txn_coordinator.specs.declared.transaction.Transaction.{Transaction}
use Rattle.txn_coordinator.specs.declared.transaction.TransactionState.{TransactionState}
use Rattle.txn_coordinator.specs.declared.transaction.TransactionState.TheVariants.{Empty, Ongoing, PrepareCommit, PrepareAbort, CompleteCommit, CompleteAbort}
use Rattle.txn_coordinator.specs.declared.ending.EndForm.{EndForm}
use Rattle.txn_coordinator.specs.declared.ending.EndForm.TheVariants.{Plain, Fencing, Raising}
use Rattle.txn_coordinator.specs.Transition.{Transition}
use Rattle.txn_coordinator.specs.Coordinator.{CoordinatorValue, id_record, transition_code, apply_transition}
use Rattle.txn_laws.specs.Tables.{InitRule, AddRule, GroupRule, EndRule}

-- it is told the code of this number, and changes nothing
pub record IsTold (number : ℤ) (c : CoordinatorValue) (transition : Transition) : Type 0 where
  pub code : number_of (transition_code transition) ≡ number
  pub same : apply_transition c transition ≡ c

-- the id's producer, in another epoch than the id's; and nobody has the last epoch
pub record IsOfOtherEpoch (t : Transaction) (pair : ProducerIdAndEpoch) : Type 0 where
  pub producer : pair.producer ≡ t.pair.producer
  pub epoch : (pair.epoch ≢ t.pair.epoch) ⊎ (pos 32767 ≤ℤ pair.epoch)

-- EndTxn 0 and 1; 2 to 4; and 5
abbrev pub epoch_number : EndForm → ℤ
epoch_number Plain = pos 47
epoch_number Fencing = pos 90
epoch_number Raising = pos 90

-- an EndTxn of version 5 once more, with the pair that it came with the first time
abbrev pub again_number : TransactionState → TransactionResult → ℤ
again_number Empty Commit = pos 48
again_number Empty Abort = pos 48
again_number Ongoing Commit = pos 48
again_number Ongoing Abort = pos 48
again_number PrepareCommit Commit = pos 51
again_number PrepareCommit Abort = pos 48
again_number PrepareAbort Commit = pos 48
again_number PrepareAbort Abort = pos 51
again_number CompleteCommit Commit = pos 0
again_number CompleteCommit Abort = pos 48
again_number CompleteAbort Commit = pos 48
again_number CompleteAbort Abort = pos 0

-- the empty id
pub record EmptyId (init : InitRule) (add_partitions : AddRule) (add_group : GroupRule)
    (end : EndRule) : Type 0 where
  pub inits : (c : CoordinatorValue) (timeout greatest : ℤ)
      → IsTold (pos 42) c (init c [] timeout greatest)
  pub adds : (c : CoordinatorValue) (pair : ProducerIdAndEpoch) (moment : ℕ) (p : TopicPartition)
      (ps : List TopicPartition)
      → IsTold (pos 42) c (add_partitions c [] pair moment (p ∷ ps))
  pub groups : (c : CoordinatorValue) (pair : ProducerIdAndEpoch) (moment : ℕ) (g : List ℕ)
      → IsTold (pos 42) c (add_group c [] pair moment g)
  pub ends : (c : CoordinatorValue) (form : EndForm) (pair : ProducerIdAndEpoch)
      (outcome : TransactionResult)
      → IsTold (pos 42) c (end c form [] pair outcome)

-- an id that has no record
pub record UnknownId (add_partitions : AddRule) (add_group : GroupRule) (end : EndRule)
    : Type 0 where
  pub adds : (c : CoordinatorValue) (id : List ℕ) (pair : ProducerIdAndEpoch) (moment : ℕ)
      (p : TopicPartition) (ps : List TopicPartition)
      → id ≢ [] → id_record c.transactions id ≡ None
      → IsTold (pos 49) c (add_partitions c id pair moment (p ∷ ps))
  pub groups : (c : CoordinatorValue) (id : List ℕ) (pair : ProducerIdAndEpoch) (moment : ℕ)
      (g : List ℕ)
      → id ≢ [] → id_record c.transactions id ≡ None
      → IsTold (pos 49) c (add_group c id pair moment g)
  pub ends : (c : CoordinatorValue) (form : EndForm) (id : List ℕ) (pair : ProducerIdAndEpoch)
      (outcome : TransactionResult)
      → id ≢ [] → id_record c.transactions id ≡ None
      → IsTold (pos 49) c (end c form id pair outcome)

-- another producer id than the id's
pub record OtherProducer (add_partitions : AddRule) (add_group : GroupRule) (end : EndRule)
    : Type 0 where
  pub adds : (c : CoordinatorValue) (id : List ℕ) (pair : ProducerIdAndEpoch) (moment : ℕ)
      (p : TopicPartition) (ps : List TopicPartition) (t : Transaction)
      → id ≢ [] → id_record c.transactions id ≡ Some t → pair.producer ≢ t.pair.producer
      → IsTold (pos 49) c (add_partitions c id pair moment (p ∷ ps))
  pub groups : (c : CoordinatorValue) (id : List ℕ) (pair : ProducerIdAndEpoch) (moment : ℕ)
      (g : List ℕ) (t : Transaction)
      → id ≢ [] → id_record c.transactions id ≡ Some t → pair.producer ≢ t.pair.producer
      → IsTold (pos 49) c (add_group c id pair moment g)
  pub ends : (c : CoordinatorValue) (form : EndForm) (id : List ℕ) (pair : ProducerIdAndEpoch)
      (outcome : TransactionResult) (t : Transaction)
      → id ≢ [] → id_record c.transactions id ≡ Some t → t.kept ≢ Some pair
      → pair.producer ≢ t.pair.producer → IsTold (pos 49) c (end c form id pair outcome)

-- another epoch
pub record OtherEpoch (add_partitions : AddRule) (add_group : GroupRule) (end : EndRule)
    : Type 0 where
  pub adds : (c : CoordinatorValue) (id : List ℕ) (pair : ProducerIdAndEpoch) (moment : ℕ)
      (p : TopicPartition) (ps : List TopicPartition) (t : Transaction)
      → id ≢ [] → id_record c.transactions id ≡ Some t → IsOfOtherEpoch t pair
      → IsTold (pos 47) c (add_partitions c id pair moment (p ∷ ps))
  pub groups : (c : CoordinatorValue) (id : List ℕ) (pair : ProducerIdAndEpoch) (moment : ℕ)
      (g : List ℕ) (t : Transaction)
      → id ≢ [] → id_record c.transactions id ≡ Some t → IsOfOtherEpoch t pair
      → IsTold (pos 47) c (add_group c id pair moment g)
  pub ends : (c : CoordinatorValue) (form : EndForm) (id : List ℕ) (pair : ProducerIdAndEpoch)
      (outcome : TransactionResult) (t : Transaction)
      → id ≢ [] → id_record c.transactions id ≡ Some t → t.kept ≢ Some pair → IsOfOtherEpoch t pair
      → IsTold (epoch_number form) c (end c form id pair outcome)

-- the code of each call that is turned away, which changes nothing
pub record TurnsAwayByTable (init : InitRule) (add_partitions : AddRule) (add_group : GroupRule)
    (end : EndRule) : Type 0 where
  pub empty : EmptyId init add_partitions add_group end
  pub unknown : UnknownId add_partitions add_group end
  pub producer : OtherProducer add_partitions add_group end
  pub epoch : OtherEpoch add_partitions add_group end
  -- a timeout that isn't from 1 to the greatest
  pub timeout : (c : CoordinatorValue) (id : List ℕ) (timeout greatest : ℤ) → id ≢ []
      → (timeout ≤ℤ pos 0) ⊎ (greatest <ℤ timeout) → IsTold (pos 50) c (init c id timeout greatest)
  -- no partition at all
  pub nothing : (c : CoordinatorValue) (id : List ℕ) (pair : ProducerIdAndEpoch) (moment : ℕ)
      → IsTold (pos 0) c (add_partitions c id pair moment [])
  -- once more
  pub again : (c : CoordinatorValue) (id : List ℕ) (pair : ProducerIdAndEpoch)
      (outcome : TransactionResult) (t : Transaction)
      → id ≢ [] → id_record c.transactions id ≡ Some t → t.kept ≡ Some pair
      → IsTold (again_number t.state outcome) c (end c Raising id pair outcome)
