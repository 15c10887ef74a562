-- Metadata: what the plain broker answers, and what is refused of it (Kafka protocol guide,
-- "Metadata API (Key: 3)").
use Rattle.std.specs.Prelude.{ℕ, ℤ, false, List, [], ◌∷◌, map, filter, length, Option, Some, None, is_none}
use Rattle.std.specs.List.{filter_map}
use Rattle.std.specs.Option.{option_map}
use Rattle.acl_binding.specs.declared.question.Caller.{Caller}
use Rattle.acl_binding.specs.declared.question.Question.{Question}
use Rattle.authorizer.specs.declared.answer.Refusal.{Refusal}
use Rattle.authorizer.specs.Asking.{Rules}
use Rattle.wire_types.specs.declared.error_code.ErrorCode.{ErrorCode}
use Rattle.wire_types.specs.declared.error_code.ErrorCode.TheVariants as codes
use Rattle.msg_data.specs.declared.metadata.TopicInfo.{TopicInfo}
use Rattle.msg_data.specs.declared.metadata.MetadataRequest.{MetadataRequest}
use Rattle.msg_data.specs.declared.metadata.MetadataReply.{MetadataReply}
use Rattle.broker_world.specs.Brokers.{brokers_of}
use Rattle.broker_world.specs.World.{World, TopicValue, rules_of, find_topic, topic_names}
use Rattle.broker_world.specs.Partitions.{partitions_from}
use Rattle.broker_world.specs.HandlerResult.{HandlerResult}
use Rattle.msg_admin.specs.declared.reply.Reply.TheVariants as replies
use Rattle.walk.specs.Codes.{refusal_code}
use Rattle.walk.specs.Weave.{weave}
use Rattle.broker_world.specs.Questions.{topic_part, topic_refusal}

-- ---- the plain broker, which knows no permission

-- a topic that is answered with an error code has no partitions
abbrev pub topic_error : ErrorCode → List ℕ → TopicInfo
topic_error code name = record { error = code; name = name; internal = false; partitions = [] }

-- a topic that is there, with its partitions, or else its name with the code that it is unknown
abbrev pub topic_found : ℤ → List ℕ → Option TopicValue → TopicInfo
topic_found node name None = topic_error codes.UnknownTopicOrPartition name
topic_found node name (Some t) =
    record {
      error = codes.None;
      name = name;
      internal = false;
      partitions = partitions_from node 0 (length t.partitions);
    }

abbrev pub plain_topic : World → List ℕ → TopicInfo
plain_topic w name = topic_found w.node.node_id name (find_topic w.topics name)

abbrev pub plain_topics : World → List (List ℕ) → List TopicInfo
plain_topics w names = map (plain_topic w) names

-- ---- parts

-- the topics that may be described
abbrev pub describable : Rules → Caller → List (List ℕ) → List (List ℕ)
describable rules caller names = filter (λ name. is_none (topic_refusal rules caller name)) names

-- the request with its refused parts taken out; a null list is all topics that may be described, in
-- the settings' order
abbrev pub allowed_topics : World → Caller → Option (List (List ℕ)) → List (List ℕ)
allowed_topics w caller None = describable (rules_of w) caller (topic_names w.topics)
allowed_topics w caller (Some names) = describable (rules_of w) caller names

-- what stands in the answer for each refused part
abbrev pub refused_topic : Rules → Caller → List ℕ → Option TopicInfo
refused_topic rules caller name =
    option_map (λ r. topic_error (refusal_code r) name) (topic_refusal rules caller name)

abbrev pub refused_topics : Rules → Caller → Option (List (List ℕ)) → List (Option TopicInfo)
refused_topics rules caller None = []
refused_topics rules caller (Some names) = map (refused_topic rules caller) names

-- what each topic asks that is described; a null list asks for all
abbrev pub metadata_parts : World → Caller → Option (List (List ℕ)) → List (List Question)
metadata_parts w caller None = map (topic_part caller) (topic_names w.topics)
metadata_parts w caller (Some names) = map (topic_part caller) names

-- ---- the answer

abbrev pub metadata_topics : World → Caller → Option (List (List ℕ)) → List TopicInfo
metadata_topics w caller topics =
    weave (refused_topics (rules_of w) caller topics)
    (plain_topics w (allowed_topics w caller topics))

-- the one node leads the cluster
abbrev pub metadata_answer : World → Caller → MetadataRequest → MetadataReply
metadata_answer w caller m =
    record {
      brokers = brokers_of w.node;
      controller = w.node.node_id;
      topics = metadata_topics w caller m.topics;
    }

-- one refusal for each refused part, in order
abbrev pub topic_refusals : Rules → Caller → Option (List (List ℕ)) → List Refusal
topic_refusals rules caller None = []
topic_refusals rules caller (Some names) = filter_map (topic_refusal rules caller) names

abbrev pub metadata_refusals : Rules → Caller → MetadataRequest → List Refusal
metadata_refusals rules caller m = topic_refusals rules caller m.topics

abbrev pub metadata_outcome : World → Caller → MetadataRequest → HandlerResult
metadata_outcome w caller m =
    record {
      world = w;
      reply = replies.Metadata (metadata_answer w caller m);
      refusals = metadata_refusals (rules_of w) caller m;
    }

-- ---- one topic after the other

abbrev pub answer_by : Option Refusal → List ℕ → TopicInfo → TopicInfo
answer_by (Some r) name plain = topic_error (refusal_code r) name
answer_by None name plain = plain

-- what is answered for a named topic
abbrev pub topic_answer : World → Caller → List ℕ → TopicInfo
topic_answer w caller name =
    answer_by (topic_refusal (rules_of w) caller name) name (plain_topic w name)

abbrev pub if_granted : Option Refusal → TopicInfo → Option TopicInfo
if_granted (Some r) plain = None
if_granted None plain = Some plain

-- a topic's answer, if it may be described
abbrev pub described_topic : World → Caller → List ℕ → Option TopicInfo
described_topic w caller name =
    if_granted (topic_refusal (rules_of w) caller name) (plain_topic w name)
