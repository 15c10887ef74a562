-- What the answers to Produce, Fetch and ListOffsets depend on: beside the book and the numbers,
-- only what the questions of their parts were granted.
use Rattle.std.specs.Prelude.{◌≡◌, ℕ, ℤ, List, Option, None}
use Rattle.acl_binding.specs.declared.question.Caller.{Caller}
use Rattle.authorizer.specs.Asking.{Rules, part_refusal}
use Rattle.wire_types.specs.declared.topic.Topic.{Topic}
use Rattle.msg_data.specs.declared.produce.ProduceRequest.{ProduceRequest}
use Rattle.msg_data.specs.declared.produce.ProducedRecords.{ProducedRecords}
use Rattle.msg_data.specs.declared.fetch.FetchRequest.{FetchRequest}
use Rattle.msg_data.specs.declared.list_offsets.ListOffsetsRequest.{ListOffsetsRequest}
use Rattle.walk.specs.Rule.{PartRule}
use Rattle.walk.specs.Alike.{AllTopics}
use Rattle.broker_world.specs.World.{World, rules_of, find_topic}
use Rattle.broker_world.specs.Logs.{log_at}
use Rattle.broker_world.specs.HandlerResult.{HandlerResult}
use Rattle.data_handlers.specs.Produce.{produce_questions, producing_rule}
use Rattle.data_handlers.specs.Fetch.{fetch_rule}
use Rattle.data_handlers.specs.ListOffsets.{list_rule}
use Rattle.api_laws.specs.Tenants.{SameBase, SameGranted}
use Rattle.api_laws.specs.FetchSizes.{FetchRule}

-- the worlds agree on what each question of a part is about that is granted
abbrev pub SameForParts : {P A W : Type 0} → World → World → PartRule P A W → List (Topic P)
    → Type 0
SameForParts v w api ts = AllTopics (λ name p. SameGranted v w (api.questions name p)) ts

-- the same reply and the same refusals
pub record SameAnswer (a b : HandlerResult) : Type 0 where
  pub reply : a.reply ≡ b.reply
  pub refusals : a.refusals ≡ b.refusals

-- what a Produce and a ListOffsets come to
abbrev pub ProduceRule : Type 0
ProduceRule = World → Caller → ProduceRequest → HandlerResult

abbrev pub ListOffsetsRule : Type 0
ListOffsetsRule = World → Caller → ListOffsetsRequest → HandlerResult

-- worlds that agree on what a request was granted give it the same answer
abbrev pub FetchDependsOnGrants : FetchRule → Type 0
FetchDependsOnGrants fetch_outcome =
    (v w : World) (caller : Caller) (r : FetchRequest) → SameBase v w
    → SameForParts v w (fetch_rule caller r.isolation w.topics) r.topics
    → SameAnswer (fetch_outcome v caller r) (fetch_outcome w caller r)

-- worlds that agree on what a ListOffsets is granted give it the same answer
abbrev pub ListOffsetsDependsOnGrants : ListOffsetsRule → Type 0
ListOffsetsDependsOnGrants list_offsets_outcome =
    (v w : World) (caller : Caller) (r : ListOffsetsRequest) → SameBase v w
    → SameForParts v w (list_rule caller r.isolation w.topics) r.topics
    → SameAnswer (list_offsets_outcome v caller r) (list_offsets_outcome w caller r)

-- worlds that agree on what a Produce is granted give it the same answer
abbrev pub ProduceDependsOnGrants : ProduceRule → Type 0
ProduceDependsOnGrants produce_outcome =
    (v w : World) (caller : Caller) (r : ProduceRequest) → SameBase v w
    → SameForParts v w (producing_rule w caller r) r.topics
    → SameAnswer (produce_outcome v caller r) (produce_outcome w caller r)

-- a topic that a Produce was not granted is as before
abbrev pub ProduceKeepsTheRest : ProduceRule → Type 0
ProduceKeepsTheRest produce_outcome =
    (w : World) (caller : Caller) (r : ProduceRequest) (name : List ℕ)
    → (part_refusal (rules_of w) (produce_questions caller r.transactional_id name) ≡ None → ⊥)
    → find_topic (produce_outcome w caller r).world.topics name ≡ find_topic w.topics name

-- a part that was granted is of another partition
abbrev pub IsAnother : Rules → Caller → Option (List ℕ) → List ℕ → ℤ → List ℕ → ProducedRecords
    → Type 0
IsAnother rules caller id name index n p =
    part_refusal rules (produce_questions caller id n) ≡ None → n ≡ name → p.index ≡ index → ⊥

-- a partition for which a Produce has no part that was granted is as before, whatever the other
-- partitions are sent
abbrev pub ProduceKeepsOtherPartitions : ProduceRule → Type 0
ProduceKeepsOtherPartitions produce_outcome =
    (w : World) (caller : Caller) (r : ProduceRequest) (name : List ℕ) (index : ℤ)
    → AllTopics (IsAnother (rules_of w) caller r.transactional_id name index) r.topics
    → log_at (produce_outcome w caller r).world.topics name index ≡ log_at w.topics name index
