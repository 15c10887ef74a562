-- OffsetFetch: the request is asked first, then each partition (Kafka protocol guide, "OffsetFetch
-- API (Key: 9)"). No existence is looked up.
use Rattle.std.specs.Prelude.{ℕ, ◌+◌, zero, suc, ℤ, pos, negsuc, Bool, List, [], ◌∷◌, ◌++◌, length, map, Option, Some, None, is_none, Result, Ok, Err, if◌then◌else◌}
use Rattle.std.specs.List.{filter_map, flat_map}
use Rattle.std.proofs.Common.{zero-le}
use Rattle.acl_binding.specs.declared.question.Caller.{Caller}
use Rattle.acl_binding.specs.declared.question.Question.{Question}
use Rattle.acl_binding.specs.declared.words.Kind.TheVariants as kinds
use Rattle.acl_binding.specs.declared.words.Operation.TheVariants as operations
use Rattle.acl_binding.specs.Verdict.{question_of}
use Rattle.authorizer.specs.declared.answer.Refusal.{Refusal}
use Rattle.authorizer.specs.Asking.{Rules, part_refusal}
use Rattle.wire_types.specs.declared.error_code.ErrorCode.{ErrorCode}
use Rattle.wire_types.specs.declared.error_code.ErrorCode.TheVariants as codes
use Rattle.wire_types.specs.declared.topic.Topic.{Topic}
use Rattle.msg_group.specs.declared.offset_fetch.OffsetFetchRequest.{OffsetFetchRequest}
use Rattle.msg_group.specs.declared.offset_fetch.FetchedOffset.{FetchedOffset}
use Rattle.msg_admin.specs.declared.reply.Reply.{Reply}
use Rattle.msg_admin.specs.declared.reply.Reply.TheVariants as replies
use Rattle.walk.specs.Rule.{PartRule}
use Rattle.walk.specs.Walk.{answers, refusals}
use Rattle.walk.specs.Codes.{refusal_code}
use Rattle.group_offsets.specs.declared.event.PartitionOffset.{PartitionOffset}
use Rattle.group_offsets.specs.declared.event.OffsetEvent.{OffsetEvent}
use Rattle.group_offsets.specs.Groups.{group_of}
use Rattle.group_offsets.specs.Offsets.{fetch_result, is_listed}
use Rattle.broker_world.specs.World.{World, TopicValue, rules_of}
use Rattle.broker_world.specs.HandlerResult.{HandlerResult}
use Rattle.broker_world.specs.Questions.{topic_part, topic_refusal}

-- ---- what is asked

-- to describe the group
abbrev pub group_question : Caller → List ℕ → Question
group_question caller group = question_of caller operations.Describe kinds.Group group

-- ---- a partition, permission aside

abbrev pub fetched_code : ErrorCode → ℤ → FetchedOffset
fetched_code code index =
    record {
      index = index;
      offset = negsuc 0;
      leader_epoch = negsuc 0;
      metadata = Some [];
      error = code;
    }

abbrev pub fetched_at : PartitionOffset → ℤ → FetchedOffset
fetched_at o index =
    record {
      index = index;
      offset = o.offset;
      leader_epoch = negsuc 0;
      metadata = Some o.metadata;
      error = codes.None;
    }

abbrev pub fetched_offset : Result (Option PartitionOffset) ErrorCode → ℤ → FetchedOffset
fetched_offset (Err code) index = fetched_code code index
fetched_offset (Ok None) index = fetched_code codes.None index
fetched_offset (Ok (Some o)) index = fetched_at o index

abbrev pub offset_rule : Caller → List OffsetEvent → Bool → PartRule ℤ FetchedOffset (Unit {0})
offset_rule caller es stable = record {
  questions = λ name index. question_of caller operations.Describe kinds.Topic name ∷ [];
  plain = λ w name index. fetched_offset (fetch_result es stable name index) index;
  after = λ w name index. w;
  refused = λ code name index. fetched_code code index;
  weight = λ index. 0;
  budget = λ w. 0;
  takes = λ w name index. zero-le;
}

-- ---- all partitions of which something is told, among the topics that may be described, in the
-- settings' order

abbrev pub listed_offset_at : List OffsetEvent → Bool → List ℕ → ℤ → List FetchedOffset
listed_offset_at es stable name index =
    if is_listed es stable name index
    then fetched_offset (fetch_result es stable name index) index ∷ []
    else []

-- of so many partitions from this one on
abbrev pub listed_offsets_from : List OffsetEvent → Bool → List ℕ → ℕ → ℕ → List FetchedOffset
listed_offsets_from es stable name index zero = []
listed_offsets_from es stable name index (suc count) =
    listed_offset_at es stable name (pos index)
    ++ listed_offsets_from es stable name (index + 1) count

-- a topic of which nothing is told is left out
abbrev pub listed_topic_of : List ℕ → List FetchedOffset → Option (Topic FetchedOffset)
listed_topic_of name [] = None
listed_topic_of name (p ∷ ps) = Some (record { name = name; partitions = p ∷ ps })

abbrev pub listed_topic : Rules → Caller → List OffsetEvent → Bool → TopicValue
    → Option (Topic FetchedOffset)
listed_topic rules caller es stable t =
    if is_none (topic_refusal rules caller t.name)
    then listed_topic_of t.name (listed_offsets_from es stable t.name 0 (length t.partitions))
    else None

abbrev pub listed_topics : Rules → Caller → List OffsetEvent → Bool → List TopicValue
    → List (Topic FetchedOffset)
listed_topics rules caller es stable topics =
    filter_map (listed_topic rules caller es stable) topics

-- ---- the parts for which permits are spent

-- each partition that is named; a null list asks for each topic
abbrev pub parts_asked : World → Caller → Option (List (Topic ℤ)) → List (List Question)
parts_asked w caller None = map (λ (t : TopicValue). topic_part caller t.name) w.topics
parts_asked w caller (Some ts) =
    flat_map (λ (t : Topic ℤ). map (λ index. topic_part caller t.name) t.partitions) ts

-- where the group is refused, nothing else is asked
abbrev pub parts_after : Option Refusal → World → Caller → Option (List (Topic ℤ))
    → List (List Question)
parts_after None w caller ts = parts_asked w caller ts
parts_after (Some refusal) w caller ts = []

abbrev pub fetch_parts : World → Caller → OffsetFetchRequest → List (List Question)
fetch_parts w caller r =
    parts_after (part_refusal (rules_of w) (group_question caller r.group ∷ [])) w caller r.topics

-- ---- the request

abbrev pub fetch_reply : ErrorCode → List (Topic FetchedOffset) → Reply
fetch_reply code topics =
    replies.OffsetFetch (record { throttle = pos 0; topics = topics; error = code })

abbrev pub offsets_of : World → List ℕ → List OffsetEvent
offsets_of w group = (group_of w.groups group).offsets

abbrev pub named_outcome : World → Caller → List OffsetEvent → Bool → List (Topic ℤ) → HandlerResult
named_outcome w caller es stable ts = record {
  world = w;
  reply = fetch_reply codes.None (answers (offset_rule caller es stable) (rules_of w) tt ts);
  refusals = refusals (offset_rule caller es stable) (rules_of w) ts;
}

abbrev pub fetched_outcome : World → Caller → List OffsetEvent → Bool → Option (List (Topic ℤ))
    → HandlerResult
fetched_outcome w caller es stable None =
    record {
      world = w;
      reply = fetch_reply codes.None (listed_topics (rules_of w) caller es stable w.topics);
      refusals = [];
    }
fetched_outcome w caller es stable (Some ts) = named_outcome w caller es stable ts

abbrev pub offset_fetch_by : Option Refusal → World → Caller → OffsetFetchRequest → HandlerResult
offset_fetch_by None w caller r =
    fetched_outcome w caller (offsets_of w r.group) r.require_stable r.topics
offset_fetch_by (Some refusal) w caller r =
    record { world = w; reply = fetch_reply (refusal_code refusal) []; refusals = refusal ∷ [] }

abbrev pub offset_fetch_outcome : World → Caller → OffsetFetchRequest → HandlerResult
offset_fetch_outcome w caller r =
    offset_fetch_by (part_refusal (rules_of w) (group_question caller r.group ∷ [])) w caller r
