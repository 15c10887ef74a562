-- What was acknowledged stays (Kafka documentation, "Message Delivery Semantics": once a message is
-- committed to the log, it isn't lost).
use Rattle.std.specs.Prelude.{◌≡◌, ◌⊎◌, ◌≤ℤ◌, ◌+ℤ◌, ◌-ℤ◌, ℕ, ℤ, pos, List, [], ◌∷◌, ◌++◌, length, take, drop, slice_range, Option, Some}
use Rattle.std.specs.Int.{int_rem_euclid}
use Rattle.acl_binding.specs.declared.question.Caller.{Caller}
use Rattle.wire_types.specs.declared.topic.Topic.{Topic}
use Rattle.wire_types.specs.ErrorCode.{number_of}
use Rattle.wire_types.specs.Schema.{int64}
use Rattle.record_batch.specs.Batch.{BatchData, IsBatch}
use Rattle.msg_data.specs.declared.produce.ProduceRequest.{ProduceRequest}
use Rattle.msg_data.specs.declared.produce.ProducedRecords.{ProducedRecords}
use Rattle.msg_data.specs.declared.produce.ProducedOffset.{ProducedOffset}
use Rattle.msg_admin.specs.declared.request.Request.TheVariants.{Produce}
use Rattle.msg_admin.specs.declared.reply.Reply.{Reply}
use Rattle.msg_admin.specs.declared.reply.Reply.TheVariants as replies
use Rattle.audit_trail.specs.declared.event.Event.{Event}
use Rattle.audit_trail.specs.declared.event.Event.TheVariants.{Ask}
use Rattle.walk.specs.Headline.{element_at}
use Rattle.broker_world.specs.World.{World}
use Rattle.broker_world.specs.Logs.{log_at}
use Rattle.read_laws.specs.Fetches.{at_place}
use Rattle.durability_laws.specs.Steps.{StepRule, world_after, world_later}

-- ---- what stands in a log

-- the batch stands at this offset in the partition's log
pub record StandsAt (w : World) (name : List ℕ) (index offset : ℤ) (b : BatchData) : Type 0 where
  pub before : List BatchData
  pub after : List BatchData
  pub log : log_at w.topics name index ≡ Some (before ++ b ∷ after)
  pub at : b.header.base_offset ≡ offset

-- It has the bytes that were sent, but for the base offset (0 to 7), which is the one at which it
-- stands, and the leader epoch (12 to 15).
pub record HasBytesSent (sent : List ℕ) (b : BatchData) : Type 0 where
  pub base_offset : take 8 b.bytes ≡ int64.written b.header.base_offset
  pub as_long : length b.bytes ≡ length sent
  pub length_bytes : slice_range b.bytes 8 12 ≡ slice_range sent 8 12
  pub rest : drop 16 b.bytes ≡ drop 16 sent

-- the sequence number of a batch's last record: 2^31 - 1 is followed by 0
abbrev pub last_sequence_number : BatchData → ℤ
last_sequence_number b =
    int_rem_euclid (b.header.base_sequence +ℤ (b.header.record_count -ℤ pos 1)) (pos 2147483648)

-- Or what was sent is its duplicate: a batch of the same producer id and epoch, with the same first
-- and last sequence numbers.
pub record HasDuplicateSent (sent : List ℕ) (b : BatchData) : Type 0 where
  pub duplicate : BatchData
  pub is_batch : IsBatch duplicate
  pub bytes : duplicate.bytes ≡ sent
  pub of_producer : pos 0 ≤ℤ duplicate.header.producer_id
  pub producer : b.header.producer_id ≡ duplicate.header.producer_id
  pub epoch : b.header.producer_epoch ≡ duplicate.header.producer_epoch
  pub first : b.header.base_sequence ≡ duplicate.header.base_sequence
  pub last : last_sequence_number b ≡ last_sequence_number duplicate

-- what was sent for a partition stands at this offset in its log
pub record IsStored (w : World) (name : List ℕ) (index offset : ℤ) (records : Option (List ℕ))
    : Type 0 where
  pub batch : BatchData
  pub stands : StandsAt w name index offset batch
  pub sent : List ℕ
  pub is_sent : records ≡ Some sent
  pub stored : HasBytesSent sent batch ⊎ HasDuplicateSent sent batch

-- ---- the laws

-- the topics in the reply to a Produce, which isn't sent with acks 0
abbrev pub topics_acknowledged : Reply → List (Topic ProducedOffset)
topics_acknowledged (replies.Produce reply) = reply.topics
topics_acknowledged reply = []

-- Where a Produce tells a partition no error and an offset, what was sent for that stands at the
-- offset, now and after all later events.
abbrev pub KeepsWhatIsAcknowledged : StepRule → Type 0
KeepsWhatIsAcknowledged rule =
    (w : World) (caller : Caller) (client : Option (List ℕ)) (r : ProduceRequest) (i j : ℕ)
    (t : Topic ProducedRecords) (p : ProducedRecords) (answer : ProducedOffset) (later : List Event)
    → element_at r.topics i ≡ Some t → element_at t.partitions j ≡ Some p
    → at_place (topics_acknowledged (rule w (Ask caller client (Produce r))).reply) i j
    ≡ Some answer
    → number_of answer.error ≡ pos 0
    → IsStored (world_later rule (world_after rule w (Ask caller client (Produce r))) later) t.name
    p.index answer.base_offset p.records

-- What stands in a log stands there after all later events, at the same offset.
abbrev pub KeepsWhatStands : StepRule → Type 0
KeepsWhatStands rule =
    (w : World) (name : List ℕ) (index offset : ℤ) (b : BatchData) (later : List Event)
    → StandsAt w name index offset b → StandsAt (world_later rule w later) name index offset b
