-- All that a request asks to be allowed, part by part and in order (Kafka documentation,
-- 'Authorization and ACLs': 'Operations and Resources on Protocols'). A part is granted where each
-- of its questions is, and else refused at the first that isn't.
--
--   Produce               each partition: to write with the transactional id, if one is given; to
--                         write the topic
--   Fetch                 each partition: to read the topic
--   ListOffsets           each partition: to describe the topic
--   Metadata              each named topic: to describe it
--   OffsetCommit          each partition: to read the group; to read the topic
--   OffsetFetch           first the request: to describe the group; then each named partition: to
--                         describe the topic
--   FindCoordinator       the request: to describe the group or the transactional id; nothing for
--                         another type of key
--   JoinGroup, SyncGroup, Heartbeat, LeaveGroup
--                         the request: to read the group
--   InitProducerId        the request: to write with the transactional id, or without one to write
--                         idempotently to the cluster;
--                         without one nothing, where that isn't granted but bindings let the caller
--                         write to some topic
--   AddPartitionsToTxn    each partition: to write with the transactional id; to write the topic
--   AddOffsetsToTxn       the request: to write with the transactional id; to read the group
--   EndTxn                the request: to write with the transactional id
--   TxnOffsetCommit       each partition: to write with the transactional id; to read the group; to
--                         read the topic
--   DescribeAcls          the request: to describe the cluster
--   CreateAcls, DeleteAcls
--                         the request: to alter the cluster
--   ApiVersions, SaslHandshake, SaslAuthenticate
--                         nothing
use Rattle.std.specs.Prelude.{ℕ, ℤ, Bool, false, List, [], ◌∷◌, map, Option, Some, None, is_none, if◌then◌else◌}
use Rattle.std.specs.List.{flat_map}
use Rattle.acl_binding.specs.declared.question.Caller.{Caller}
use Rattle.acl_binding.specs.declared.question.Question.{Question}
use Rattle.acl_binding.specs.declared.words.Kind.TheVariants as kinds
use Rattle.acl_binding.specs.declared.words.Operation.TheVariants as operations
use Rattle.acl_binding.specs.Verdict.{question_of}
use Rattle.authorizer.specs.Asking.{Rules}
use Rattle.wire_types.specs.declared.topic.Topic.{Topic}
use Rattle.msg_admin.specs.declared.request.Request.{Request}
use Rattle.msg_admin.specs.declared.request.Request.TheVariants as requests
use Rattle.audit_trail.specs.declared.event.Event.{Event}
use Rattle.audit_trail.specs.declared.event.Event.TheVariants.{Ask, Mark, Tick}
use Rattle.broker_world.specs.World.{World, rules_of}
use Rattle.broker_world.specs.Questions.{topic_part}
use Rattle.data_handlers.specs.Metadata.{metadata_parts}
use Rattle.data_handlers.specs.Produce.{produce_questions}
use Rattle.broker_world.specs.Questions.{read_question}
use Rattle.group_handlers.specs.OffsetCommit.{commit_questions}
use Rattle.group_handlers.specs.OffsetFetch.{group_question, fetch_parts}
use Rattle.group_handlers.specs.FindCoordinator.{kind_of, find_questions}
use Rattle.txn_handlers.specs.EndTxn.{end_questions}
use Rattle.txn_handlers.specs.InitProducerId.{init_questions}
use Rattle.txn_handlers.specs.AddPartitions.{add_questions, is_cut}
use Rattle.txn_handlers.specs.AddOffsets.{add_offsets_questions}
use Rattle.txn_handlers.specs.TxnOffsetCommit.{staging_of, stage_questions}
use Rattle.acl_handlers.specs.DescribeAcls.{describe_acls_questions}
use Rattle.acl_handlers.specs.CreateAcls.{alter_questions}

-- to read the topic
abbrev pub fetch_questions : Caller → List ℕ → List Question
fetch_questions caller name = question_of caller operations.Read kinds.Topic name ∷ []

-- what the request itself asks; nothing, where its parts are asked for alone
abbrev pub asks_itself : Rules → Caller → Request → List Question
asks_itself rules caller (requests.OffsetFetch r) = group_question caller r.group ∷ []
asks_itself rules caller (requests.FindCoordinator r) =
    find_questions caller (kind_of r.key_type) r.key
asks_itself rules caller (requests.JoinGroup r) = read_question caller r.group ∷ []
asks_itself rules caller (requests.Heartbeat r) = read_question caller r.group ∷ []
asks_itself rules caller (requests.LeaveGroup r) = read_question caller r.group ∷ []
asks_itself rules caller (requests.SyncGroup r) = read_question caller r.group ∷ []
asks_itself rules caller (requests.InitProducerId r) =
    init_questions rules caller r.transactional_id
asks_itself rules caller (requests.AddOffsetsToTxn r) =
    add_offsets_questions caller r.transactional_id r.group
asks_itself rules caller (requests.EndTxn r) = end_questions caller r
asks_itself rules caller (requests.DescribeAcls r) = describe_acls_questions caller
asks_itself rules caller (requests.CreateAcls r) = alter_questions caller
asks_itself rules caller (requests.DeleteAcls r) = alter_questions caller
asks_itself rules caller request = []

-- what an event asks for itself: a marker step and a tick of the clock ask nothing
abbrev pub event_asks : Rules → Event → List Question
event_asks rules (Ask caller client request) = asks_itself rules caller request
event_asks rules Mark = []
event_asks rules (Tick told) = []

-- what each of its parts asks that is of the topic of this name: a partition, or in Metadata the
-- topic
abbrev pub asks_at : Caller → Request → List ℕ → List Question
asks_at caller (requests.Produce r) name = produce_questions caller r.transactional_id name
asks_at caller (requests.Fetch r) name = fetch_questions caller name
asks_at caller (requests.ListOffsets r) name = topic_part caller name
asks_at caller (requests.Metadata r) name = topic_part caller name
asks_at caller (requests.OffsetCommit r) name = commit_questions caller r.group name
asks_at caller (requests.OffsetFetch r) name = topic_part caller name
asks_at caller (requests.AddPartitionsToTxn r) name = add_questions caller r.transactional_id name
asks_at caller (requests.TxnOffsetCommit r) name = stage_questions caller (staging_of r) name
asks_at caller request name = []

-- each partition is a part, and asks by its topic
abbrev pub partition_parts : {P : Type 0} → (List ℕ → List Question) → List (Topic P)
    → List (List Question)
partition_parts {P} asks ts =
    flat_map (λ (t : Topic P). map (λ (p : P). asks t.name) t.partitions) ts

-- each topic is a part; a null list has none
abbrev pub topic_parts : Caller → Option (List (List ℕ)) → List (List Question)
topic_parts caller None = []
topic_parts caller (Some names) = map (topic_part caller) names

abbrev pub offset_parts : Caller → Option (List (Topic ℤ)) → List (List Question)
offset_parts caller None = []
offset_parts caller (Some ts) = partition_parts (topic_part caller) ts

-- what each part of the request asks, in order
abbrev pub parts_of : Rules → Caller → Request → List (List Question)
parts_of rules caller (requests.Produce r) =
    partition_parts (asks_at caller (requests.Produce r)) r.topics
parts_of rules caller (requests.Fetch r) =
    partition_parts (asks_at caller (requests.Fetch r)) r.topics
parts_of rules caller (requests.ListOffsets r) =
    partition_parts (asks_at caller (requests.ListOffsets r)) r.topics
parts_of rules caller (requests.Metadata r) = topic_parts caller r.topics
parts_of rules caller (requests.OffsetCommit r) =
    partition_parts (asks_at caller (requests.OffsetCommit r)) r.topics
parts_of rules caller (requests.OffsetFetch r) =
    asks_itself rules caller (requests.OffsetFetch r) ∷ offset_parts caller r.topics
parts_of rules caller (requests.AddPartitionsToTxn r) =
    partition_parts (asks_at caller (requests.AddPartitionsToTxn r)) r.topics
parts_of rules caller (requests.TxnOffsetCommit r) =
    partition_parts (asks_at caller (requests.TxnOffsetCommit r)) r.topics
parts_of rules caller request = asks_itself rules caller request ∷ []

-- The parts that are walked, one after the other, where permits are spent for them: all but the
-- part that stands for the request. Of an AddPartitionsToTxn that is cut none, after a group that
-- may not be described none; and under a null list each topic there is, though it may not be
-- described.
abbrev pub parts_walked : World → Caller → Request → List (List Question)
parts_walked w caller (requests.Produce r) =
    partition_parts (asks_at caller (requests.Produce r)) r.topics
parts_walked w caller (requests.Fetch r) =
    partition_parts (asks_at caller (requests.Fetch r)) r.topics
parts_walked w caller (requests.ListOffsets r) =
    partition_parts (asks_at caller (requests.ListOffsets r)) r.topics
parts_walked w caller (requests.Metadata r) = metadata_parts w caller r.topics
parts_walked w caller (requests.OffsetCommit r) =
    partition_parts (asks_at caller (requests.OffsetCommit r)) r.topics
parts_walked w caller (requests.OffsetFetch r) = fetch_parts w caller r
parts_walked w caller (requests.AddPartitionsToTxn r) =
    if is_cut caller r.transactional_id w.topics (rules_of w) r.topics then []
    else partition_parts (asks_at caller (requests.AddPartitionsToTxn r)) r.topics
parts_walked w caller (requests.TxnOffsetCommit r) =
    partition_parts (asks_at caller (requests.TxnOffsetCommit r)) r.topics
parts_walked w caller request = []

abbrev pub event_parts : World → Event → List (List Question)
event_parts w (Ask caller client request) = parts_walked w caller request
event_parts w Mark = []
event_parts w (Tick told) = []

-- all questions of all parts
abbrev pub questions_of : Rules → Caller → Request → List Question
questions_of rules caller request = flat_map (λ part. part) (parts_of rules caller request)

-- its list of topics is null: it wants all that may be described
abbrev pub wants_all : Request → Bool
wants_all (requests.Metadata r) = is_none r.topics
wants_all (requests.OffsetFetch r) = is_none r.topics
wants_all request = false
