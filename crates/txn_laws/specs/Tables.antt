-- What an EndTxn, an InitProducerId, an AddPartitionsToTxn and an AddOffsetsToTxn come to, as
-- tables: by the state of the id's transaction, in the numbers of the protocol's guide (KIP-98,
-- 'Transaction Coordinator'; KIP-890 for version 5). 48 is INVALID_TXN_STATE, 51
-- CONCURRENT_TRANSACTIONS.
use Rattle.std.specs.Prelude.{◌≡◌, ◌≢◌, ◌⊎◌, ◌<ℤ◌, ◌≤ℤ◌, ◌+ℤ◌, ℕ, ◌+◌, ◌≤◌, ℤ, pos, List, [], ◌∷◌, length, Some, None}
use Rattle.wire_types.specs.ErrorCode.{number_of}
use Rattle.record_batch.specs.declared.transaction_result.TransactionResult.{TransactionResult}
use Rattle.record_batch.specs.declared.transaction_result.TransactionResult.TheVariants.{Commit, Abort}
use Rattle.txn_coordinator.specs.declared.producer_id.ProducerIdAndEpoch.{ProducerIdAndEpoch}
use Rattle.txn_coordinator.specs.declared.transaction.Transaction.{Transaction}
use Rattle.txn_coordinator.specs.declared.transaction.TransactionState.{TransactionState}
use Rattle.txn_coordinator.specs.declared.transaction.TransactionState.TheVariants.{Empty, Ongoing, PrepareCommit, PrepareAbort, CompleteCommit, CompleteAbort}
use Rattle.txn_coordinator.specs.declared.ending.EndForm.{EndForm}
use Rattle.txn_coordinator.specs.declared.ending.EndForm.TheVariants.{Plain, Fencing, Raising}
use Rattle.txn_coordinator.specs.Coordinator.{CoordinatorValue, id_record, transition_code, apply_transition, transition_answer}
use Rattle.txn_coordinator.specs.declared.target.TopicPartition.{TopicPartition}
use Rattle.txn_coordinator.specs.Transition.{Transition}
use Rattle.txn_laws.specs.Sound.{IsAmong}

-- ---- EndTxn

-- versions 0 to 4
abbrev pub code_until_4 : TransactionState → TransactionResult → ℤ
code_until_4 Empty Commit = pos 48
code_until_4 Empty Abort = pos 48
code_until_4 Ongoing Commit = pos 0
code_until_4 Ongoing Abort = pos 0
code_until_4 PrepareCommit Commit = pos 51
code_until_4 PrepareCommit Abort = pos 48
code_until_4 PrepareAbort Commit = pos 48
code_until_4 PrepareAbort Abort = pos 51
code_until_4 CompleteCommit Commit = pos 0
code_until_4 CompleteCommit Abort = pos 48
code_until_4 CompleteAbort Commit = pos 48
code_until_4 CompleteAbort Abort = pos 0

-- version 5, in which nothing that is closed is committed, and all that is closed may be aborted
abbrev pub code_of_5 : TransactionState → TransactionResult → ℤ
code_of_5 Empty Commit = pos 48
code_of_5 Empty Abort = pos 0
code_of_5 Ongoing Commit = pos 0
code_of_5 Ongoing Abort = pos 0
code_of_5 PrepareCommit Commit = pos 51
code_of_5 PrepareCommit Abort = pos 48
code_of_5 PrepareAbort Commit = pos 48
code_of_5 PrepareAbort Abort = pos 51
code_of_5 CompleteCommit Commit = pos 48
code_of_5 CompleteCommit Abort = pos 0
code_of_5 CompleteAbort Commit = pos 48
code_of_5 CompleteAbort Abort = pos 0

abbrev pub end_code : EndForm → TransactionState → TransactionResult → ℤ
end_code Plain state outcome = code_until_4 state outcome
end_code Fencing state outcome = code_until_4 state outcome
end_code Raising state outcome = code_of_5 state outcome

-- the markers that are pending then: one for each partition and group of an open transaction, and
-- none else
abbrev pub end_markers : TransactionState → Transaction → ℕ
end_markers Ongoing t = length t.partitions + length t.groups
end_markers Empty t = 0
end_markers PrepareCommit t = 0
end_markers PrepareAbort t = 0
end_markers CompleteCommit t = 0
end_markers CompleteAbort t = 0

-- version 5 gives the id another pair, where it ends a transaction or aborts what is closed
abbrev pub IsRenewing : EndForm → TransactionState → TransactionResult → Type 0
IsRenewing Raising Ongoing outcome = Unit {0}
IsRenewing Raising Empty Abort = Unit {0}
IsRenewing Raising CompleteCommit Abort = Unit {0}
IsRenewing Raising CompleteAbort Abort = Unit {0}
IsRenewing form state outcome = ⊥

-- ---- the next pair

-- the same producer id in the next epoch, and from epoch 32,766 on the next producer id that wasn't
-- given out, in epoch 0
pub record IsNext (c : CoordinatorValue) (old new : ProducerIdAndEpoch) : Type 0 where
  pub raised : old.epoch <ℤ pos 32766
      → (new.producer ≡ old.producer) × (new.epoch ≡ old.epoch +ℤ pos 1)
  pub fresh : pos 32766 ≤ℤ old.epoch → (new.producer ≡ pos (length c.given)) × (new.epoch ≡ pos 0)

-- a call that comes with the id's own pair, and not once more with the one that version 5 left
pub record ComesWithOwn (c : CoordinatorValue) (id : List ℕ) (pair : ProducerIdAndEpoch)
    (t : Transaction) : Type 0 where
  pub named : id ≢ []
  pub found : id_record c.transactions id ≡ Some t
  pub own : pair ≡ t.pair
  pub low : t.pair.epoch <ℤ pos 32767
  pub new : t.kept ≢ Some pair

-- what an EndTxn comes to
abbrev pub EndRule : Type 0
EndRule =
    CoordinatorValue → EndForm → List ℕ → ProducerIdAndEpoch → TransactionResult → Transition

pub record EndsByTable (end : EndRule) (c : CoordinatorValue) (form : EndForm) (id : List ℕ)
    (pair : ProducerIdAndEpoch) (outcome : TransactionResult) (t : Transaction) : Type 0 where
  pub code : number_of (transition_code (end c form id pair outcome))
      ≡ end_code form t.state outcome
  pub markers : length (apply_transition c (end c form id pair outcome)).warrants
      ≡ length c.warrants + end_markers t.state t
  pub renewed : IsRenewing form t.state outcome
      → IsNext c t.pair (transition_answer c id (end c form id pair outcome)).pair

-- an EndTxn with the id's own producer id and epoch: its code, the markers that it leaves pending,
-- and the pair that comes next
abbrev pub EndTable : EndRule → Type 0
EndTable end =
    (c : CoordinatorValue) (form : EndForm) (id : List ℕ) (pair : ProducerIdAndEpoch)
    (outcome : TransactionResult) (t : Transaction)
    → ComesWithOwn c id pair t → EndsByTable end c form id pair outcome t

-- ---- InitProducerId

-- what an InitProducerId comes to: by the coordinator, the id, the timeout that is asked for, and
-- the greatest one
abbrev pub InitRule : Type 0
InitRule = CoordinatorValue → List ℕ → ℤ → ℤ → Transition

abbrev pub init_code : TransactionState → ℤ
init_code Empty = pos 0
init_code CompleteCommit = pos 0
init_code CompleteAbort = pos 0
init_code Ongoing = pos 51
init_code PrepareCommit = pos 51
init_code PrepareAbort = pos 51

abbrev pub IsClosed : TransactionState → Type 0
IsClosed Empty = Unit {0}
IsClosed CompleteCommit = Unit {0}
IsClosed CompleteAbort = Unit {0}
IsClosed Ongoing = ⊥
IsClosed PrepareCommit = ⊥
IsClosed PrepareAbort = ⊥

-- an id that has a record: what is closed gets the next pair, anything else is waited for
pub record InitsByTable (init : InitRule) (c : CoordinatorValue) (id : List ℕ)
    (timeout greatest : ℤ) (t : Transaction) : Type 0 where
  pub code : number_of (transition_code (init c id timeout greatest)) ≡ init_code t.state
  pub next : IsClosed t.state
      → IsNext c t.pair (transition_answer c id (init c id timeout greatest)).pair

-- a new id gets the next producer id, in epoch 0
pub record InitsNew (init : InitRule) (c : CoordinatorValue) (id : List ℕ)
    (timeout greatest : ℤ) : Type 0 where
  pub code : number_of (transition_code (init c id timeout greatest)) ≡ pos 0
  pub producer : (transition_answer c id (init c id timeout greatest)).pair.producer
      ≡ pos (length c.given)
  pub epoch : (transition_answer c id (init c id timeout greatest)).pair.epoch ≡ pos 0

-- an InitProducerId with a transactional id and a timeout in range: its code, and the pair that it
-- gives
pub record InitTable (init : InitRule) : Type 0 where
  pub known : (c : CoordinatorValue) (id : List ℕ) (n : ℕ) (greatest : ℤ) (t : Transaction)
      → id ≢ [] → 1 ≤ n → pos n ≤ℤ greatest → id_record c.transactions id ≡ Some t
      → InitsByTable init c id (pos n) greatest t
  pub new : (c : CoordinatorValue) (id : List ℕ) (n : ℕ) (greatest : ℤ) → id ≢ [] → 1 ≤ n
      → pos n ≤ℤ greatest → id_record c.transactions id ≡ None → InitsNew init c id (pos n) greatest

-- ---- AddPartitionsToTxn

abbrev pub add_code : TransactionState → ℤ
add_code Ongoing = pos 0
add_code Empty = pos 0
add_code CompleteCommit = pos 0
add_code CompleteAbort = pos 0
add_code PrepareCommit = pos 51
add_code PrepareAbort = pos 51

-- those that were there and those that are named, and nothing else
pub record AddsEach {X : Type 0} (old named new : List X) : Type 0 where
  pub kept : (x : X) → IsAmong old x → IsAmong new x
  pub all : (x : X) → IsAmong named x → IsAmong new x
  pub alone : (x : X) → IsAmong new x → IsAmong old x ⊎ IsAmong named x

-- the id's transaction t is open then, since this moment where it was closed, and has taken them in
pub record TakesIn (c : CoordinatorValue) (id : List ℕ) (moment : ℕ) (ps : List TopicPartition)
    (t : Transaction) (transition : Transition) : Type 0 where
  pub transaction : Transaction
  pub found : id_record (apply_transition c transition).transactions id ≡ Some transaction
  pub ongoing : transaction.state ≡ Ongoing
  pub pair : transaction.pair ≡ t.pair
  pub begins : IsClosed t.state → transaction.start ≡ moment
  pub goes_on : t.state ≡ Ongoing → transaction.start ≡ t.start
  pub partitions : AddsEach t.partitions ps transaction.partitions
  pub groups : transaction.groups ≡ t.groups

-- what an AddPartitionsToTxn comes to, at this moment
abbrev pub AddRule : Type 0
AddRule =
    CoordinatorValue → List ℕ → ProducerIdAndEpoch → ℕ → List TopicPartition → Transition

pub record AddsByTable (add_partitions : AddRule) (c : CoordinatorValue) (id : List ℕ)
    (pair : ProducerIdAndEpoch) (moment : ℕ) (ps : List TopicPartition) (t : Transaction)
    : Type 0 where
  pub code : number_of (transition_code (add_partitions c id pair moment ps)) ≡ add_code t.state
  pub taken : add_code t.state ≡ pos 0
      → TakesIn c id moment ps t (add_partitions c id pair moment ps)

-- an AddPartitionsToTxn with the id's own producer id and epoch, of one partition or more: its
-- code, and what the transaction then takes in
abbrev pub AddTable : AddRule → Type 0
AddTable add_partitions =
    (c : CoordinatorValue) (id : List ℕ) (pair : ProducerIdAndEpoch) (moment : ℕ)
    (p : TopicPartition) (ps : List TopicPartition) (t : Transaction)
    → id ≢ [] → id_record c.transactions id ≡ Some t → pair ≡ t.pair → t.pair.epoch <ℤ pos 32767
    → AddsByTable add_partitions c id pair moment (p ∷ ps) t

-- ---- AddOffsetsToTxn

-- the same of a group
pub record TakesGroupIn (c : CoordinatorValue) (id : List ℕ) (moment : ℕ) (group : List ℕ)
    (t : Transaction) (transition : Transition) : Type 0 where
  pub transaction : Transaction
  pub found : id_record (apply_transition c transition).transactions id ≡ Some transaction
  pub ongoing : transaction.state ≡ Ongoing
  pub pair : transaction.pair ≡ t.pair
  pub begins : IsClosed t.state → transaction.start ≡ moment
  pub goes_on : t.state ≡ Ongoing → transaction.start ≡ t.start
  pub groups : AddsEach t.groups (group ∷ []) transaction.groups
  pub partitions : transaction.partitions ≡ t.partitions

-- what an AddOffsetsToTxn comes to, at this moment
abbrev pub GroupRule : Type 0
GroupRule = CoordinatorValue → List ℕ → ProducerIdAndEpoch → ℕ → List ℕ → Transition

pub record AddsGroupByTable (add_group : GroupRule) (c : CoordinatorValue) (id : List ℕ)
    (pair : ProducerIdAndEpoch) (moment : ℕ) (group : List ℕ) (t : Transaction) : Type 0 where
  pub code : number_of (transition_code (add_group c id pair moment group)) ≡ add_code t.state
  pub taken : add_code t.state ≡ pos 0
      → TakesGroupIn c id moment group t (add_group c id pair moment group)

-- the same of an AddOffsetsToTxn and its group
abbrev pub GroupTable : GroupRule → Type 0
GroupTable add_group =
    (c : CoordinatorValue) (id : List ℕ) (pair : ProducerIdAndEpoch) (moment : ℕ) (group : List ℕ)
    (t : Transaction)
    → id ≢ [] → id_record c.transactions id ≡ Some t → pair ≡ t.pair → t.pair.epoch <ℤ pos 32767
    → AddsGroupByTable add_group c id pair moment group t
