-- What a request's answer depends on: beside the book and the numbers, only what its questions were
-- granted.
use Rattle.std.specs.Prelude.{◌≡◌, ℕ, List, [], ◌∷◌, map, Option, Some, None, is_some}
use Rattle.acl_binding.specs.declared.question.Caller.{Caller}
use Rattle.acl_binding.specs.declared.question.Question.{Question}
use Rattle.acl_binding.specs.declared.words.Kind.{Kind}
use Rattle.acl_binding.specs.declared.words.Kind.TheVariants.{Topic, Group, Cluster, TransactionalId}
use Rattle.acl_binding.specs.declared.words.Operation.TheVariants.{Describe}
use Rattle.acl_binding.specs.declared.question.Verdict.TheVariants.{Yes}
use Rattle.acl_binding.specs.Verdict.{question_of}
use Rattle.authorizer.specs.Policy.{verdict}
use Rattle.msg_data.specs.declared.metadata.MetadataRequest.{MetadataRequest}
use Rattle.msg_data.specs.declared.metadata.MetadataReply.{MetadataReply}
use Rattle.txn_coordinator.specs.Coordinator.{id_record}
use Rattle.group_offsets.specs.Groups.{find_group}
use Rattle.broker_world.specs.World.{World, rules_of, find_topic, topic_names}
use Rattle.data_handlers.specs.Metadata.{describable, metadata_refusals}

-- the same settings but for topics, book, moment and number of events, and as many producer ids
-- given out, each of them free in both or owned in both, by whatever id
pub record SameBase (v w : World) : Type 0 where
  pub node : v.node ≡ w.node
  pub rules : rules_of v ≡ rules_of w
  pub moment : v.moment ≡ w.moment
  pub events : v.events ≡ w.events
  pub given : map is_some v.coordinator.given ≡ map is_some w.coordinator.given

-- whether the resource is there, and all that it holds
abbrev pub SameOn : World → World → Kind → List ℕ → Type 0
SameOn v w Topic name = find_topic v.topics name ≡ find_topic w.topics name
SameOn v w Group name = find_group v.groups name ≡ find_group w.groups name
SameOn v w Cluster name = Unit {0}
SameOn v w TransactionalId name =
    id_record v.coordinator.transactions name ≡ id_record w.coordinator.transactions name

-- the worlds agree on what each question that is granted is about
abbrev pub SameGranted : World → World → List Question → Type 0
SameGranted v w [] = Unit {0}
SameGranted v w (q ∷ qs) =
    (verdict w.book w.supers q ≡ Yes → SameOn v w q.kind q.name) × SameGranted v w qs

-- the questions of named topics
abbrev pub topic_questions : Caller → List (List ℕ) → List Question
topic_questions caller [] = []
topic_questions caller (name ∷ names) =
    question_of caller Describe Topic name ∷ topic_questions caller names

-- the worlds agree on these topics
abbrev pub SameTopics : World → World → List (List ℕ) → Type 0
SameTopics v w [] = Unit {0}
SameTopics v w (name ∷ names) = SameOn v w Topic name × SameTopics v w names

-- the same topics may be described, in the same order, and the worlds agree on them
pub record SameListed (v w : World) (caller : Caller) : Type 0 where
  pub names : describable (rules_of v) caller (topic_names v.topics)
      ≡ describable (rules_of w) caller (topic_names w.topics)
  pub topics : SameTopics v w (describable (rules_of w) caller (topic_names w.topics))

-- the worlds agree on what a Metadata request is granted: named topics, or all that may be
-- described
abbrev pub SameForMetadata : World → World → Caller → Option (List (List ℕ)) → Type 0
SameForMetadata v w caller (Some names) = SameGranted v w (topic_questions caller names)
SameForMetadata v w caller None = SameListed v w caller

-- what a Metadata request is told
abbrev pub MetadataRule : Type 0
MetadataRule = World → Caller → MetadataRequest → MetadataReply

-- worlds that agree on what a Metadata is granted give it the same answer and the same refusals
abbrev pub DependsOnGrants : MetadataRule → Type 0
DependsOnGrants metadata_answer =
    (v w : World) (caller : Caller) (m : MetadataRequest) → SameBase v w
    → SameForMetadata v w caller m.topics
    → (metadata_answer v caller m ≡ metadata_answer w caller m)
    × (metadata_refusals (rules_of v) caller m ≡ metadata_refusals (rules_of w) caller m)
