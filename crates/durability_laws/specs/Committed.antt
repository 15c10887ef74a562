-- What is committed can be read for good: it stays below the last stable offset, and is served to
-- whoever may read it (KIP-98, "Read Committed"; Kafka protocol guide, "Fetch API (Key: 1)").
use Rattle.std.specs.Prelude.{◌≡◌, ℕ, ℤ, ◌≤ℤ◌, ◌<ℤ◌, List, ◌∷◌, ◌++◌, length, Option, Some}
use Rattle.acl_binding.specs.declared.question.Caller.{Caller}
use Rattle.wire_types.specs.declared.topic.Topic.{Topic}
use Rattle.settings.specs.declared.settings.Settings.{Settings}
use Rattle.record_batch.specs.Batch.{BatchData, next_offset}
use Rattle.partition_log.specs.Log.{last_stable_offset}
use Rattle.msg_data.specs.declared.fetch.FetchRequest.{FetchRequest}
use Rattle.msg_data.specs.declared.fetch.FetchPartition.{FetchPartition}
use Rattle.msg_admin.specs.declared.request.Request.TheVariants.{Fetch}
use Rattle.audit_trail.specs.declared.event.Event.{Event}
use Rattle.audit_trail.specs.declared.event.Event.TheVariants.{Ask}
use Rattle.walk.specs.Headline.{element_at}
use Rattle.broker_world.specs.World.{World}
use Rattle.broker_world.specs.First.{first_world}
use Rattle.broker_world.specs.Logs.{log_at}
use Rattle.read_laws.specs.Fetches.{topics_fetched, records_before, IsFetched, BeginsWith, MayRead, HasRoom}
use Rattle.durability_laws.specs.Steps.{StepRule, world_later}

-- the batch stands in the partition's log, and ends at the last stable offset or below it
pub record IsStable (w : World) (name : List ℕ) (index : ℤ) (b : BatchData) : Type 0 where
  pub before : List BatchData
  pub after : List BatchData
  pub log : log_at w.topics name index ≡ Some (before ++ b ∷ after)
  pub below : next_offset b ≤ℤ last_stable_offset (before ++ b ∷ after)

-- In whatever world events lead to from the settings: what is stable there is stable after all
-- later events.
abbrev pub KeepsWhatIsStable : StepRule → Type 0
KeepsWhatIsStable rule =
    (s : Settings) (events later : List Event) (name : List ℕ) (index : ℤ) (b : BatchData)
    → IsStable (world_later rule (first_world s) events) name index b
    → IsStable (world_later rule (world_later rule (first_world s) events) later) name index b

-- the request asks for this partition of the topic at the place, from an offset of the batch on,
-- and its caller may READ the topic
pub record AsksFor (w : World) (caller : Caller) (r : FetchRequest) (i j : ℕ) (name : List ℕ)
    (index : ℤ) (b : BatchData) (p : FetchPartition) : Type 0 where
  pub topic : Topic FetchPartition
  pub named : element_at r.topics i ≡ Some topic
  pub asked : element_at topic.partitions j ≡ Some p
  pub same_name : topic.name ≡ name
  pub same_index : p.index ≡ index
  pub may_read : MayRead w caller name
  pub from : b.header.base_offset ≤ℤ p.offset
  pub to : p.offset <ℤ next_offset b

-- What is stable is served after all later events, at either level, to whoever may READ the topic
-- then: the answer begins with it, as long as the partitions before it left room for it.
abbrev pub ServesWhatIsStable : StepRule → Type 0
ServesWhatIsStable rule =
    (s : Settings) (events later : List Event) (name : List ℕ) (index : ℤ) (b : BatchData)
    → IsStable (world_later rule (first_world s) events) name index b
    → (v : World) → v ≡ world_later rule (world_later rule (first_world s) events) later
    → (caller : Caller) (client : Option (List ℕ)) (r : FetchRequest) (i j : ℕ) (p : FetchPartition)
    → AsksFor v caller r i j name index b p
    → HasRoom r p
    (length (records_before (topics_fetched (rule v (Ask caller client (Fetch r))).reply) i j))
    (length b.bytes)
    → IsFetched (rule v (Ask caller client (Fetch r))) i j (BeginsWith b.bytes)
