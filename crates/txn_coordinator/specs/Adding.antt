-- AddPartitionsToTxn and AddOffsetsToTxn (KIP-98, 'AddPartitionsToTxnRequest',
-- 'AddOffsetsToTxnRequest').
use Rattle.std.specs.Prelude.{ℕ, List, [], ◌∷◌, ◌++◌, Option, Some, None, Result, Ok, Err, if◌then◌else◌}
use Rattle.wire_types.specs.declared.error_code.ErrorCode.{ErrorCode}
use Rattle.wire_types.specs.declared.error_code.ErrorCode.TheVariants as codes
use Rattle.txn_coordinator.specs.declared.producer_id.ProducerIdAndEpoch.{ProducerIdAndEpoch}
use Rattle.txn_coordinator.specs.declared.target.TopicPartition.{TopicPartition}
use Rattle.txn_coordinator.specs.declared.transaction.TransactionState.{TransactionState}
use Rattle.txn_coordinator.specs.declared.transaction.TransactionState.TheVariants.{Empty, Ongoing, PrepareCommit, PrepareAbort, CompleteCommit, CompleteAbort}
use Rattle.txn_coordinator.specs.declared.transaction.Transaction.{Transaction}
use Rattle.txn_coordinator.specs.Transition.{Transition, Stays, Puts}
use Rattle.txn_coordinator.specs.Words.{is_empty, is_ongoing, has_partition, has_group}
use Rattle.txn_coordinator.specs.Coordinator.{CoordinatorValue, id_record}
use Rattle.txn_coordinator.specs.Preparing.{producer_refusal}

-- ---- what is added, once each

abbrev pub partition_added : List TopicPartition → TopicPartition → List TopicPartition
partition_added added p = if has_partition added p then added else added ++ p ∷ []

abbrev pub partitions_added : List TopicPartition → List TopicPartition → List TopicPartition
partitions_added added [] = added
partitions_added added (p ∷ ps) = partitions_added (partition_added added p) ps

abbrev pub with_partitions : List TopicPartition → Transaction → Transaction
with_partitions ps t = record t { partitions = partitions_added t.partitions ps }

abbrev pub group_added : List (List ℕ) → List ℕ → List (List ℕ)
group_added added g = if has_group added g then added else added ++ g ∷ []

abbrev pub with_group : List ℕ → Transaction → Transaction
with_group g t = record t { groups = group_added t.groups g }

-- ---- to what it is added

-- a transaction that begins now
abbrev pub begun_transaction : Transaction → ℕ → Transaction
begun_transaction t moment = record t { state = Ongoing; start = moment; kept = None }

-- the open transaction, or one that begins; one that waits for its markers is waited for
abbrev pub open_in : TransactionState → Transaction → ℕ → Result Transaction ErrorCode
open_in Ongoing t moment = Ok (record t { kept = None })
open_in Empty t moment = Ok (begun_transaction t moment)
open_in CompleteCommit t moment = Ok (begun_transaction t moment)
open_in CompleteAbort t moment = Ok (begun_transaction t moment)
open_in PrepareCommit t moment = Err codes.ConcurrentTransactions
open_in PrepareAbort t moment = Err codes.ConcurrentTransactions

abbrev pub open_by : Option ErrorCode → Transaction → ℕ → Result Transaction ErrorCode
open_by (Some code) t moment = Err code
open_by None t moment = open_in t.state t moment

abbrev pub open_found : Option Transaction → ProducerIdAndEpoch → ℕ → Result Transaction ErrorCode
open_found None pair moment = Err codes.InvalidProducerIdMapping
open_found (Some t) pair moment =
    open_by (producer_refusal codes.InvalidProducerEpoch t pair) t moment

-- the transaction of the id that a call with this pair adds to, or its refusal
abbrev pub open_transaction : CoordinatorValue → List ℕ → ProducerIdAndEpoch → ℕ
    → Result Transaction ErrorCode
open_transaction c id pair moment =
    if is_empty id then Err codes.InvalidRequest
    else open_found (id_record c.transactions id) pair moment

abbrev pub refusal_of : Result Transaction ErrorCode → Option ErrorCode
refusal_of (Ok t) = None
refusal_of (Err code) = Some code

-- one that isn't refused, once it is open
abbrev pub opened_transaction : Transaction → ℕ → Transaction
opened_transaction t moment =
    if is_ongoing t.state then record t { kept = None } else begun_transaction t moment

-- ---- the calls

abbrev pub growth_transition : (Transaction → Transaction) → Result Transaction ErrorCode
    → Transition
growth_transition grow (Ok t) = Puts codes.None (grow t) [] []
growth_transition grow (Err code) = Stays code

-- the record of the id after a call
abbrev pub record_after : Transition → Transaction → Transaction
record_after (Stays code) t = t
record_after (Puts code new given owed) t = new

-- where no partition is named, nothing changes
abbrev pub add_partitions : CoordinatorValue → List ℕ → ProducerIdAndEpoch → ℕ → List TopicPartition
    → Transition
add_partitions c id pair moment [] = Stays codes.None
add_partitions c id pair moment (p ∷ ps) =
    growth_transition (with_partitions (p ∷ ps)) (open_transaction c id pair moment)

abbrev pub add_group : CoordinatorValue → List ℕ → ProducerIdAndEpoch → ℕ → List ℕ → Transition
add_group c id pair moment group =
    growth_transition (with_group group) (open_transaction c id pair moment)
