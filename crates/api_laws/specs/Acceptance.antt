-- What a Produce has to take in, in words of its own (Kafka protocol guide, "Produce API (Key: 0)";
-- KIP-98).
use Rattle.std.specs.Prelude.{◌≡◌, ◌≤◌, ◌≤ℤ◌, ◌+ℤ◌, ◌-ℤ◌, ◌⊎◌, ◌&&◌, ◌/◌, ◌%◌, ℕ, ℤ, pos, negsuc, is_none, List, [], ◌∷◌, ◌++◌, length, drop, slice_range, slice_get, Option, Some, None, Result}
use Rattle.std.specs.Int.{w16, cast_unsigned, int_rem_euclid}
use Rattle.std.specs.List.{AllByRecursion, filter}
use Rattle.std.specs.Ordering.{int_eq}
use Rattle.acl_binding.specs.declared.words.Kind.TheVariants as kinds
use Rattle.acl_binding.specs.declared.words.Operation.TheVariants.{Write}
use Rattle.acl_binding.specs.declared.question.Caller.{Caller}
use Rattle.acl_binding.specs.declared.question.Verdict.TheVariants.{Yes}
use Rattle.acl_binding.specs.Verdict.{question_of}
use Rattle.authorizer.specs.Policy.{verdict}
use Rattle.wire_types.specs.declared.error_code.ErrorCode.{ErrorCode}
use Rattle.wire_types.specs.declared.error_code.ErrorCode.TheVariants as codes
use Rattle.wire_types.specs.ErrorCode.{number_of}
use Rattle.wire_types.specs.declared.topic.Topic.{Topic}
use Rattle.record_batch.specs.declared.header.BatchHeader.{BatchHeader}
use Rattle.record_batch.specs.Batch.{BatchData, IsBatch}
use Rattle.msg_data.specs.declared.produce.ProduceRequest.{ProduceRequest}
use Rattle.msg_data.specs.declared.produce.ProducedRecords.{ProducedRecords}
use Rattle.msg_data.specs.declared.produce.ProducedOffset.{ProducedOffset}
use Rattle.msg_admin.specs.declared.reply.Reply.TheVariants as replies
use Rattle.walk.specs.Alike.{AllTopics}
use Rattle.txn_coordinator.specs.declared.target.Target.{Target}
use Rattle.txn_coordinator.specs.declared.target.TopicPartition.{TopicPartition}
use Rattle.txn_coordinator.specs.declared.transaction.Transaction.{Transaction}
use Rattle.txn_coordinator.specs.declared.transaction.TransactionState.TheVariants.{Ongoing}
use Rattle.txn_coordinator.specs.Coordinator.{CoordinatorValue}
use Rattle.broker_world.specs.World.{World, TopicValue, LogValue}
use Rattle.broker_world.specs.Logs.{log_at}
use Rattle.data_handlers.specs.Judged.{partition_at, batch_to_append, topics_produced}
use Rattle.data_handlers.specs.Produce.{produce_answer}
use Rattle.api_laws.specs.DataTenants.{ProduceRule}

-- ---- whose batch it is

-- bit 4 of the attributes, which is set where a batch is of a transaction (Kafka documentation,
-- "Record Batch")
abbrev pub transactional_bit : BatchHeader → ℕ
transactional_bit h = cast_unsigned w16 h.attributes / 16 % 2

-- of no producer, which the id -1 says, and of no transaction
pub record IsOfNobody (h : BatchHeader) : Type 0 where
  pub id : h.producer_id ≡ negsuc 0
  pub bit : transactional_bit h ≡ 0

-- of an idempotent producer, whose id was given out to no transactional id; and of no transaction
pub record IsOfFreeId (c : CoordinatorValue) (h : BatchHeader) : Type 0 where
  pub id : ℕ
  pub is_id : h.producer_id ≡ pos id
  pub given : slice_get c.given id ≡ Some None
  pub epoch : pos 0 ≤ℤ h.producer_epoch
  pub sequence : pos 0 ≤ℤ h.base_sequence
  pub bit : transactional_bit h ≡ 0

-- of the request's transactional id: its record (ids have one each) has this producer id and epoch,
-- its transaction is open, and took the partition in
pub record IsOfTransaction (c : CoordinatorValue) (named : Option (List ℕ)) (name : List ℕ)
    (index : ℤ) (h : BatchHeader) : Type 0 where
  pub transaction : Transaction
  pub before : List Transaction
  pub after : List Transaction
  pub stands : c.transactions ≡ before ++ transaction ∷ after
  pub first : AllByRecursion (λ (t : Transaction). t.id ≡ transaction.id → ⊥) before
  pub asked_for : named ≡ Some transaction.id
  pub producer : h.producer_id ≡ transaction.pair.producer
  pub same_epoch : h.producer_epoch ≡ transaction.pair.epoch
  pub ongoing : transaction.state ≡ Ongoing
  pub earlier : List TopicPartition
  pub later : List TopicPartition
  pub added : transaction.partitions ≡ earlier ++ record { topic = name; index = index } ∷ later
  pub id : pos 0 ≤ℤ h.producer_id
  pub epoch : pos 0 ≤ℤ h.producer_epoch
  pub sequence : pos 0 ≤ℤ h.base_sequence
  pub bit : transactional_bit h ≡ 1

-- What was sent for the partition is one batch of records, of at most so many bytes and of one of
-- the three, with acks -1 (all replicas), 0 (none) or 1 (the leader).
pub record IsProper (most : ℤ) (c : CoordinatorValue) (id : Option (List ℕ)) (acks : ℤ)
    (name : List ℕ) (p : ProducedRecords) (b : BatchData) : Type 0 where
  pub known_acks : (acks ≡ negsuc 0) ⊎ ((acks ≡ pos 0) ⊎ (acks ≡ pos 1))
  pub sent : p.records ≡ Some b.bytes
  pub batch : IsBatch b
  pub no_marker : b.marker ≡ None
  pub small : pos (length b.bytes) ≤ℤ most
  pub writer : IsOfNobody b.header
      ⊎ (IsOfFreeId c b.header ⊎ IsOfTransaction c id name p.index b.header)

-- ---- what is next

-- the data batches of a log that are of this batch's producer and epoch
abbrev pub same_writer : BatchData → List BatchData → List BatchData
same_writer b log =
    filter
    (λ (x : BatchData). is_none x.marker
    && (int_eq x.header.producer_id b.header.producer_id
    && int_eq x.header.producer_epoch b.header.producer_epoch))
    log

-- no batch and no marker of its producer in the log tells a greater epoch
abbrev pub IsInLatestEpoch : List BatchData → BatchData → Type 0
IsInLatestEpoch log b =
    AllByRecursion
    (λ (x : BatchData). x.header.producer_id ≡ b.header.producer_id
    → x.header.producer_epoch ≤ℤ b.header.producer_epoch)
    log

-- the sequence number of its last record: 2^31 - 1 is followed by 0
abbrev pub last_number : BatchData → ℤ
last_number b =
    int_rem_euclid (b.header.base_sequence +ℤ (b.header.record_count -ℤ pos 1)) (pos 2147483648)

-- where the one after it begins
abbrev pub next_number : BatchData → ℤ
next_number b = int_rem_euclid (b.header.base_sequence +ℤ b.header.record_count) (pos 2147483648)

-- none of the last five of its producer in its epoch has both its first and its last number
abbrev pub IsNew : List BatchData → BatchData → Type 0
IsNew log b =
    (before after : List BatchData) (x : BatchData) → same_writer b log ≡ before ++ x ∷ after
    → length after ≤ 4 → x.header.base_sequence ≡ b.header.base_sequence
    → last_number x ≡ last_number b → ⊥

-- the first one of its producer in this epoch: it begins at 0
pub record IsFirst (log : List BatchData) (b : BatchData) : Type 0 where
  pub alone : same_writer b log ≡ []
  pub begins : b.header.base_sequence ≡ pos 0

-- a later one: it begins where the last one ended
pub record GoesOn (log : List BatchData) (b : BatchData) : Type 0 where
  pub earlier : List BatchData
  pub last : BatchData
  pub own : same_writer b log ≡ earlier ++ last ∷ []
  pub follows : b.header.base_sequence ≡ next_number last
  pub new : IsNew log b

-- it has no producer, or is the next one of its producer
abbrev pub IsNextOf : List BatchData → BatchData → Type 0
IsNextOf log b =
    (b.header.producer_id ≡ negsuc 0) ⊎ (IsInLatestEpoch log b × (IsFirst log b ⊎ GoesOn log b))

-- ---- what becomes of it

-- where a log ends: after the last record of its last batch, and an empty one at 0
abbrev pub EndsAt : List BatchData → ℤ → Type 0
EndsAt [] end = end ≡ pos 0
EndsAt (b ∷ []) end = end ≡ b.header.base_offset +ℤ (b.header.last_offset_delta +ℤ pos 1)
EndsAt (b ∷ c ∷ rest) end = EndsAt (c ∷ rest) end

-- No error is answered, no time of the append, and the offset at which the log ended. There the
-- batch stands now: it has the records that were sent, and of the bytes that were sent all but
-- those of the base offset (0 to 7) and of the leader epoch (12 to 15).
pub record IsTakenIn (after : List TopicValue) (name : List ℕ) (index : ℤ) (log : LogValue)
    (b : BatchData) (answer : ProducedOffset) : Type 0 where
  pub same_index : answer.index ≡ index
  pub error : number_of answer.error ≡ pos 0
  pub append_time : answer.log_append_time ≡ negsuc 0
  pub offset : EndsAt log answer.base_offset
  pub placed : BatchData
  pub goes_on : log_at after name index ≡ Some (log ++ placed ∷ [])
  pub stands : placed.header.base_offset ≡ answer.base_offset
  pub no_marker : placed.marker ≡ None
  pub records : placed.records ≡ b.records
  pub as_long : length placed.bytes ≡ length b.bytes
  pub length_bytes : slice_range placed.bytes 8 12 ≡ slice_range b.bytes 8 12
  pub rest : drop 16 placed.bytes ≡ drop 16 b.bytes

-- ---- a request

-- it has this part for a partition of the topic, and no other one for the same partition; and its
-- caller may write the topic, and the transactional id, if one is named
pub record HasPart (w : World) (caller : Caller) (r : ProduceRequest) (name : List ℕ)
    (p : ProducedRecords) : Type 0 where
  pub before : List (Topic ProducedRecords)
  pub parts : List ProducedRecords
  pub rest : List ProducedRecords
  pub after : List (Topic ProducedRecords)
  pub asks : r.topics ≡ before ++ record { name = name; partitions = parts ++ p ∷ rest } ∷ after
  pub others : AllTopics (λ (n : List ℕ) (q : ProducedRecords). n ≡ name → q.index ≡ p.index → ⊥)
      (before ++ record { name = name; partitions = parts ++ rest } ∷ after)
  pub topic_granted : verdict w.book w.supers (question_of caller Write kinds.Topic name) ≡ Yes
  pub id_granted : (id : List ℕ) → r.transactional_id ≡ Some id
      → verdict w.book w.supers (question_of caller Write kinds.TransactionalId id) ≡ Yes

-- its reply has this answer at these places of the topic and of the partition; with acks 0 it isn't
-- sent
pub record IsTold (produce_outcome : ProduceRule) (w : World) (caller : Caller)
    (r : ProduceRequest) (i j : ℕ) (name : List ℕ) (answer : ProducedOffset) : Type 0 where
  pub topics : List (Topic ProducedOffset)
  pub silent : r.acks ≡ pos 0
      → (produce_outcome w caller r).reply
      ≡ replies.SilentProduce (record { topics = topics; throttle = pos 0 })
  pub told : (r.acks ≡ pos 0 → ⊥)
      → (produce_outcome w caller r).reply
      ≡ replies.Produce (record { topics = topics; throttle = pos 0 })
  pub topic : Topic ProducedOffset
  pub topic_there : slice_get topics i ≡ Some topic
  pub named : topic.name ≡ name
  pub answer_there : slice_get topic.partitions j ≡ Some answer

-- and the batch is taken in
pub record IsServed (produce_outcome : ProduceRule) (w : World) (caller : Caller)
    (r : ProduceRequest) (i j : ℕ) (name : List ℕ) (p : ProducedRecords) (log : LogValue)
    (b : BatchData) : Type 0 where
  pub answer : ProducedOffset
  pub told : IsTold produce_outcome w caller r i j name answer
  pub taken : IsTakenIn (produce_outcome w caller r).world.topics name p.index log b answer

-- ---- the laws

-- a batch that is proper and next, of a part that is granted, is taken in
pub record AcceptsWhatItOught (produce_outcome : ProduceRule) : Type 0 where
  -- a partition that is there takes in what is proper and next
  pub part : (most : ℕ) (c : CoordinatorValue) (id : Option (List ℕ)) (acks : ℤ)
      (topics : List TopicValue) (name : List ℕ) (p : ProducedRecords) (log : LogValue)
      (b : BatchData)
      → IsProper (pos most) c id acks name p b → log_at topics name p.index ≡ Some log
      → IsNextOf log b
      → IsTakenIn
      (topics_produced (batch_to_append most c id acks (partition_at name p.index) p.records)
      topics name p.index)
      name p.index log b
      (produce_answer (batch_to_append most c id acks (partition_at name p.index) p.records)
      topics name p)
  -- and so it does wherever the part stands in a request
  pub request : (w : World) (caller : Caller) (r : ProduceRequest) (name : List ℕ)
      (p : ProducedRecords) (log : LogValue) (b : BatchData) (part : HasPart w caller r name p)
      → IsProper w.node.max_batch w.coordinator r.transactional_id r.acks name p b
      → log_at w.topics name p.index ≡ Some log → IsNextOf log b
      → IsServed produce_outcome w caller r (length part.before) (length part.parts) name p log b

-- What was sent for the partition, which is there, is proper; and it is next, or nothing is
-- changed.
pub record IsRightlyAnswered (most : ℕ) (c : CoordinatorValue) (id : Option (List ℕ)) (acks : ℤ)
    (topics after : List TopicValue) (name : List ℕ) (p : ProducedRecords) : Type 0 where
  pub log : LogValue
  pub b : BatchData
  pub there : log_at topics name p.index ≡ Some log
  pub proper : IsProper (pos most) c id acks name p b
  pub next : IsNextOf log b ⊎ (after ≡ topics)

-- the batch that is appended of what was sent, or why none is
abbrev pub AppendRule : Type 0
AppendRule = ℕ → CoordinatorValue → Option (List ℕ) → ℤ → Target → Option (List ℕ)
    → Result BatchData ErrorCode

-- no error is answered but for a batch that is proper, and next or sent again
abbrev pub AcceptsNothingElse : AppendRule → Type 0
AcceptsNothingElse batch_to_append =
    (most : ℕ) (c : CoordinatorValue) (id : Option (List ℕ)) (acks : ℤ) (topics : List TopicValue)
    (name : List ℕ) (p : ProducedRecords)
    → (produce_answer (batch_to_append most c id acks (partition_at name p.index) p.records) topics
    name p).error
    ≡ codes.None
    → IsRightlyAnswered most c id acks topics
    (topics_produced (batch_to_append most c id acks (partition_at name p.index) p.records) topics
    name p.index)
    name p
