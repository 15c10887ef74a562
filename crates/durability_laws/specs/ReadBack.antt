-- What was acknowledged is read back: a Produce and a Fetch together (Kafka documentation, "Message
-- Delivery Semantics"; Kafka protocol guide, "Produce API (Key: 0)", "Fetch API (Key: 1)").
use Rattle.std.specs.Prelude.{◌≡◌, ℕ, ℤ, pos, List, Option, Some, length}
use Rattle.acl_binding.specs.declared.question.Caller.{Caller}
use Rattle.wire_types.specs.declared.topic.Topic.{Topic}
use Rattle.wire_types.specs.ErrorCode.{number_of}
use Rattle.settings.specs.declared.settings.Settings.{Settings}
use Rattle.record_batch.specs.Batch.{BatchData}
use Rattle.msg_data.specs.declared.isolation.Isolation.{Isolation}
use Rattle.msg_data.specs.declared.isolation.Isolation.TheVariants.{ReadUncommitted, ReadCommitted}
use Rattle.msg_data.specs.declared.produce.ProduceRequest.{ProduceRequest}
use Rattle.msg_data.specs.declared.produce.ProducedRecords.{ProducedRecords}
use Rattle.msg_data.specs.declared.produce.ProducedOffset.{ProducedOffset}
use Rattle.msg_data.specs.declared.fetch.FetchRequest.{FetchRequest}
use Rattle.msg_data.specs.declared.fetch.FetchPartition.{FetchPartition}
use Rattle.msg_admin.specs.declared.request.Request.TheVariants.{Produce, Fetch}
use Rattle.audit_trail.specs.declared.event.Event.{Event}
use Rattle.audit_trail.specs.declared.event.Event.TheVariants.{Ask}
use Rattle.walk.specs.Headline.{element_at}
use Rattle.broker_world.specs.World.{World}
use Rattle.broker_world.specs.First.{first_world}
use Rattle.read_laws.specs.Fetches.{at_place, topics_fetched, records_before, IsFetched, BeginsWith, MayRead, HasRoom}
use Rattle.durability_laws.specs.Steps.{StepRule, world_after, world_later}
use Rattle.durability_laws.specs.Acknowledged.{IsStored, topics_acknowledged}
use Rattle.durability_laws.specs.Committed.{IsStable}

-- the request asks for this partition of the topic at the place, from the offset on, and its caller
-- may READ the topic
pub record AsksFrom (w : World) (caller : Caller) (r : FetchRequest) (i j : ℕ) (name : List ℕ)
    (index offset : ℤ) (p : FetchPartition) : Type 0 where
  pub topic : Topic FetchPartition
  pub named : element_at r.topics i ≡ Some topic
  pub asked : element_at topic.partitions j ≡ Some p
  pub same_name : topic.name ≡ name
  pub same_index : p.index ≡ index
  pub may_read : MayRead w caller name
  pub from : p.offset ≡ offset

-- read_uncommitted sees each batch, and read_committed those up to the last stable offset
abbrev pub IsVisible : Isolation → World → List ℕ → ℤ → BatchData → Type 0
IsVisible ReadUncommitted w name index b = Unit {0}
IsVisible ReadCommitted w name index b = IsStable w name index b

-- what was sent stands at the offset, and a Fetch from there begins with it
pub record IsReadBack (rule : StepRule) (w : World) (name : List ℕ) (index offset : ℤ)
    (records : Option (List ℕ)) : Type 0 where
  pub stored : IsStored w name index offset records
  pub read : (caller : Caller) (client : Option (List ℕ)) (r : FetchRequest) (i j : ℕ)
      (p : FetchPartition)
      → AsksFrom w caller r i j name index offset p
      → IsVisible r.isolation w name index stored.batch
      → HasRoom r p
      (length (records_before (topics_fetched (rule w (Ask caller client (Fetch r))).reply) i j))
      (length stored.batch.bytes)
      → IsFetched (rule w (Ask caller client (Fetch r))) i j (BeginsWith stored.batch.bytes)

-- Where a Produce tells a partition no error and an offset, what was sent for that is read from the
-- offset on, after all later events.
abbrev pub ReadsWhatIsAcknowledged : StepRule → Type 0
ReadsWhatIsAcknowledged rule =
    (s : Settings) (events : List Event) (writer : Caller) (client : Option (List ℕ))
    (r : ProduceRequest) (i j : ℕ) (t : Topic ProducedRecords) (p : ProducedRecords)
    (answer : ProducedOffset) (later : List Event)
    → element_at r.topics i ≡ Some t → element_at t.partitions j ≡ Some p
    → at_place
    (topics_acknowledged
    (rule (world_later rule (first_world s) events) (Ask writer client (Produce r))).reply)
    i j
    ≡ Some answer
    → number_of answer.error ≡ pos 0 → (v : World)
    → v
    ≡ world_later rule
    (world_after rule (world_later rule (first_world s) events) (Ask writer client (Produce r)))
    later
    → IsReadBack rule v t.name p.index answer.base_offset p.records
