-- Whether what a producer sent for a partition can be appended (Kafka protocol guide, "Produce API
-- (Key: 0)"; KIP-98).
use Rattle.std.specs.Prelude.{ℕ, ℤ, pos, negsuc, Bool, ◌||◌, int_lt, ◌==◌, List, length, Option, Some, None, Result, Ok, Err, if◌then◌else◌}
use Rattle.std.specs.Ordering.{int_eq}
use Rattle.wire_types.specs.declared.error_code.ErrorCode.{ErrorCode}
use Rattle.wire_types.specs.declared.error_code.ErrorCode.TheVariants as codes
use Rattle.record_batch.specs.declared.header.BatchHeader.{BatchHeader}
use Rattle.record_batch.specs.declared.fault.BatchFault.{BatchFault}
use Rattle.record_batch.specs.BatchHeader.{is_transactional}
use Rattle.record_batch.specs.Batch.{BatchData}
use Rattle.record_batch.specs.Fault.{code_of}
use Rattle.txn_coordinator.specs.declared.producer_id.ProducerIdAndEpoch.{ProducerIdAndEpoch}
use Rattle.txn_coordinator.specs.declared.producer_id.ProducerIdOwner.{ProducerIdOwner}
use Rattle.txn_coordinator.specs.declared.producer_id.ProducerIdOwner.TheVariants.{Never, Free, Owned}
use Rattle.txn_coordinator.specs.declared.target.Target.{Target}
use Rattle.txn_coordinator.specs.declared.target.Target.TheVariants.{Partition}
use Rattle.txn_coordinator.specs.Coordinator.{CoordinatorValue, owner, given_by}
use Rattle.txn_coordinator.specs.Holding.{holding_code}
use Rattle.broker_world.specs.World.{TopicValue}
use Rattle.broker_world.specs.Logs.{topics_with_batch}
use Rattle.data_handlers.specs.Sent.{batch_or_fault}
use Rattle.broker_world.specs.Codes.{code_unless_none}

-- acks: all replicas, none, or the leader alone
abbrev pub are_acks : ℤ → Bool
are_acks acks = int_eq acks (negsuc 0) || int_eq acks (pos 0) || int_eq acks (pos 1)

-- the producer that a batch names
abbrev pub id_and_epoch_of : BatchHeader → ProducerIdAndEpoch
id_and_epoch_of h = record { producer = h.producer_id; epoch = h.producer_epoch }

abbrev pub partition_at : List ℕ → ℤ → Target
partition_at name index = Partition (record { topic = name; index = index })

-- A batch of a transaction has to name a transactional id, whose open transaction has to be of this
-- producer and to take the partition in.
abbrev pub held_code : CoordinatorValue → Option (List ℕ) → ProducerIdAndEpoch → Target
    → Option ErrorCode
held_code c None pair target = Some codes.InvalidTxnState
held_code c (Some id) pair target = code_unless_none (holding_code c id pair target)

-- a producer id has to be one that was given out, and one of a transactional id is for its
-- transactions alone
abbrev pub given_code : ProducerIdOwner → Option ErrorCode
given_code Never = Some codes.InvalidProducerIdMapping
given_code Free = None
given_code Owned = Some codes.InvalidTxnState

-- the transaction check: a batch without a producer passes
abbrev pub producer_code : CoordinatorValue → Option (List ℕ) → Target → BatchHeader
    → Option ErrorCode
producer_code c id target h =
    if is_transactional h then held_code c id (id_and_epoch_of h) target
    else if int_lt h.producer_id (pos 0) then None
    else given_code (given_by (owner c h.producer_id))

abbrev pub batch_or_error_by : Option ErrorCode → BatchData → Result BatchData ErrorCode
batch_or_error_by (Some code) b = Err code
batch_or_error_by None b = Ok b

abbrev pub batch_or_error : CoordinatorValue → Option (List ℕ) → Target
    → Result BatchData BatchFault → Result BatchData ErrorCode
batch_or_error c id target (Err fault) = Err (code_of fault)
batch_or_error c id target (Ok b) = batch_or_error_by (producer_code c id target b.header) b

-- there have to be records
abbrev pub batch_in : ℕ → CoordinatorValue → Option (List ℕ) → Target → Option (List ℕ)
    → Result BatchData ErrorCode
batch_in most c id target None = Err codes.InvalidRecord
batch_in most c id target (Some records) =
    if length records == 0 then Err codes.InvalidRecord
    else batch_or_error c id target (batch_or_fault most records)

-- the batch to be appended to a partition, or why none is, whether or not the partition is there
abbrev pub batch_to_append : ℕ → CoordinatorValue → Option (List ℕ) → ℤ → Target → Option (List ℕ)
    → Result BatchData ErrorCode
batch_to_append most c id acks target records =
    if are_acks acks then batch_in most c id target records else Err codes.InvalidRequiredAcks

-- ---- what it changes

abbrev pub topics_produced : Result BatchData ErrorCode → List TopicValue → List ℕ → ℤ
    → List TopicValue
topics_produced (Err code) topics name index = topics
topics_produced (Ok b) topics name index = topics_with_batch topics name index b

abbrev pub records_size : Option (List ℕ) → ℕ
records_size None = 0
records_size (Some records) = length records
