-- Wrong rules of apis, each of which a law refutes.
use Rattle.authorizer.specs.Policy.{verdict}
use Rattle.msg_data.specs.declared.metadata.TopicInfo.{TopicInfo}
use Rattle.acl_binding.specs.declared.words.Operation.TheVariants as operations
use Rattle.acl_binding.specs.Verdict.{question_of}
use Rattle.acl_binding.specs.declared.question.Caller.{Caller}
use Rattle.acl_binding.specs.Book.{empty_book}
use Rattle.std.specs.Prelude.{◌+◌, ◌-◌, ◌-ℤ◌, List, Result, Ok, Err, pos, [], length, take, Option, Some, None, negsuc, ◌+ℤ◌, Bool, ◌∷◌, ◌++◌, flat_map, map, is_some, is_none, ℕ, ℤ, drop, if◌then◌else◌, codes as codes_of}
use Rattle.std.proofs.Common.{zero-le}
use Rattle.acl_binding.specs.declared.words.Kind.{Kind}
use Rattle.acl_binding.specs.declared.words.Kind.TheVariants as kinds
use Rattle.authorizer.specs.declared.answer.DenyReason.TheVariants as why
use Rattle.authorizer.specs.declared.answer.Refusal.{Refusal}
use Rattle.wire_types.specs.declared.error_code.ErrorCode.{ErrorCode}
use Rattle.wire_types.specs.declared.error_code.ErrorCode.TheVariants as codes
use Rattle.wire_types.specs.declared.topic.Topic.{Topic}
use Rattle.msg_data.specs.declared.list_offsets.FoundOffset.{FoundOffset}
use Rattle.msg_txn.specs.declared.end_txn.EndTxnReply.TheVariants as told
use Rattle.partition_log.specs.declared.served.Served.{Served}
use Rattle.msg_data.specs.declared.isolation.Isolation.TheVariants.{ReadUncommitted}
use Rattle.msg_data.specs.declared.metadata.PartitionInfo.{PartitionInfo}
use Rattle.msg_admin.specs.declared.request.Request.TheVariants as requests
use Rattle.msg_admin.specs.declared.reply.Reply.{Reply}
use Rattle.msg_admin.specs.declared.reply.Reply.TheVariants as replies
use Rattle.msg_admin.specs.Response.{response}
use Rattle.audit_trail.specs.declared.event.Event.TheVariants.{Ask, Mark, Tick}
use Rattle.walk.specs.Codes.{permission_code}
use Rattle.walk.specs.Walk.{answers, refusals}
use Rattle.partition_log.specs.Fetch.{served_of}
use Rattle.broker_world.specs.World.{rules_of, topic_names, find_topic, World, TopicValue, LogValue}
use Rattle.data_handlers.specs.Fetch.{fetch_rule, whole_budget, fetch_outcome, served_at}
use Rattle.data_handlers.specs.Metadata.{metadata_topics, plain_topics, allowed_topics, topic_refusals, metadata_answer}
use Rattle.data_handlers.specs.ListOffsets.{listed_offset, list_offsets_outcome}
use Rattle.broker_world.specs.HandlerResult.{HandlerResult}
use Rattle.std.specs.List.{filter}
use Rattle.std.specs.Str.{bytes_eq}
use Rattle.authorizer.specs.Asking.{part_refusal}
use Rattle.msg_acl.specs.declared.entries.BindingEntry.{BindingEntry}
use Rattle.msg_acl.specs.declared.describe_acls.DescribedAcl.{DescribedAcl}
use Rattle.msg_acl.specs.declared.describe_acls.DescribedResource.{DescribedResource}
use Rattle.msg_txn.specs.declared.add_partitions.AddPartitionsToTxnRequest.{AddPartitionsToTxnRequest}
use Rattle.msg_txn.specs.declared.add_partitions.AddedPartition.{AddedPartition}
use Rattle.msg_data.specs.declared.fetch.FetchPartition.{FetchPartition}
use Rattle.msg_data.specs.declared.produce.ProducedRecords.{ProducedRecords}
use Rattle.txn_coordinator.specs.Coordinator.{has_id}
use Rattle.group_offsets.specs.declared.group.Group.{Group}
use Rattle.group_offsets.specs.Groups.{group_of, groups_with}
use Rattle.broker_world.specs.Logs.{log_at, with_log}
use Rattle.std.specs.Ordering.{int_eq}
use Rattle.record_batch.specs.Batch.{BatchData}
use Rattle.producer_state.specs.declared.judgment.Judgment.{Judgment}
use Rattle.producer_state.specs.declared.judgment.Judgment.TheVariants.{Next, Repeat, Refused}
use Rattle.producer_state.specs.Sequences.{judgment_of}
use Rattle.partition_log.specs.Log.{at_end, end_of, last_stable_offset}
use Rattle.data_handlers.specs.Judged.{batch_to_append}
use Rattle.data_handlers.specs.Produce.{produce_answer, produce_outcome}
use Rattle.group_handlers.specs.Members.{join_group_outcome}
use Rattle.group_handlers.specs.OffsetFetch.{offset_fetch_outcome}
use Rattle.txn_handlers.specs.InitProducerId.{init_producer_id_outcome}
use Rattle.txn_handlers.specs.AddPartitions.{add_questions, add_partitions_outcome}
use Rattle.txn_handlers.specs.EndTxn.{ending_id, end_txn_outcome}
use Rattle.txn_handlers.specs.AddOffsets.{add_offsets_outcome}
use Rattle.txn_handlers.specs.TxnOffsetCommit.{txn_offset_commit_outcome}
use Rattle.acl_handlers.specs.DescribeAcls.{describe_acls_reply, describe_acls_outcome}
use Rattle.acl_handlers.specs.CreateAcls.{create_acls_outcome}
use Rattle.acl_handlers.specs.DeleteAcls.{delete_acls_outcome}
use Rattle.api_dispatch.specs.Step.{outcome, reply_to, refusals_of, world_after_events}
use Rattle.api_laws.specs.Headline.{TopicsRule, TopicRefusalsRule, is_yes}
use Rattle.api_laws.specs.DataLaws.{ListRule, ServedRule, ProducedRule, TopicsAfterRule}
use Rattle.api_laws.specs.Acceptance.{AppendRule}
use Rattle.api_laws.specs.Repeats.{JudgeRule}
use Rattle.api_laws.specs.Runs.{RunRule}
use Rattle.api_laws.specs.RefusedRows.{RefusalsRule}
use Rattle.api_laws.specs.AskedTable.{AnswerRule}
use Rattle.api_laws.specs.AclLaws.{CreateRule, DeleteRule, DescribeAclsRule}
use Rattle.api_laws.specs.DescribeLaws.{DescribeRule}
use Rattle.api_laws.specs.ProducerLaws.{InitRule}
use Rattle.api_laws.specs.TxnLaws.{AddRule, EndRule}
use Rattle.api_laws.specs.KeptOut.{StepRule}
use Rattle.api_laws.specs.Tenants.{MetadataRule}
use Rattle.api_laws.specs.DataTenants.{ProduceRule, ListOffsetsRule}
use Rattle.api_laws.specs.GroupLaws.{OffsetFetchRule, JoinRule}
use Rattle.api_laws.specs.StagingLaws.{AddOffsetsRule, StageRule}
use Rattle.api_laws.specs.Framing.{ResponseRule}
use Rattle.api_laws.specs.Numbers.{CodeRule}
use Rattle.api_laws.specs.LastStable.{OffsetRule}
use Rattle.api_laws.specs.Longest.{ServeRule}
use Rattle.api_laws.specs.FetchSizes.{FetchRule}

-- ---- where nobody is asked anything

abbrev pub as_super : World → Caller → World
as_super w caller = record w { supers = caller.who ∷ [] }

-- what comes of it in that world, with its super users again
abbrev pub with_supers_of : World → HandlerResult → HandlerResult
with_supers_of w o = record o { world = record o.world { supers = w.supers } }

-- ---- codes of refused parts

-- each refusal is told as that of a topic
abbrev pub code_of_topics : CodeRule
code_of_topics r = codes.TopicAuthorizationFailed

abbrev pub ids_as_groups : Kind → Kind
ids_as_groups kinds.TransactionalId = kinds.Group
ids_as_groups kind = kind

-- a refused transactional id is told as a group
abbrev pub code_of_ids_as_groups : CodeRule
code_of_ids_as_groups r = permission_code (ids_as_groups r.question.kind)

-- ---- Metadata of a null list

-- a null list is told all topics, whoever asks
abbrev pub topics_for_everybody : TopicsRule
topics_for_everybody w caller None = plain_topics w (topic_names w.topics)
topics_for_everybody w caller (Some names) = metadata_topics w caller (Some names)

-- a null list is told no topic
abbrev pub topics_for_nobody : TopicsRule
topics_for_nobody w caller None = []
topics_for_nobody w caller (Some names) = metadata_topics w caller (Some names)

-- ---- Metadata of named topics

-- each named topic is told, whoever asks
abbrev pub topics_unasked : TopicsRule
topics_unasked w caller names = metadata_topics (as_super w caller) caller names

-- a named topic that may not be described is left out
abbrev pub topics_left_out : TopicsRule
topics_left_out w caller names = plain_topics w (allowed_topics w caller names)

-- the trail keeps no refusal of a topic
abbrev pub refusals_of_no_topic : TopicRefusalsRule
refusals_of_no_topic rules caller names = []

-- the trail keeps the first refusal alone
abbrev pub first_refused_topic : TopicRefusalsRule
first_refused_topic rules caller names = take 1 (topic_refusals rules caller names)

-- ---- how much is served

-- read_committed is served up to the log's end
abbrev pub serving_to_the_end : ServeRule
serving_to_the_end log offset level budget forced =
    served_of log offset ReadUncommitted budget forced

-- the last batch that fits isn't served
abbrev pub serving_one_less : ServeRule
serving_one_less log offset level budget forced =
    let right = served_of log offset level budget forced in
    record right { batches = take (length right.batches - 1) right.batches }

-- a thousand bytes more than there is room for
abbrev pub serving_too_much : ServeRule
serving_too_much log offset level budget forced =
    served_of log offset level (budget + 1000) forced

-- what is served of a partition isn't taken off what is left for the others
abbrev pub fetch_keeping_the_budget : FetchRule
fetch_keeping_the_budget w caller r =
    let api = record (fetch_rule caller r.isolation w.topics) {
      after = λ budget name p. budget;
      takes = λ budget name p. zero-le;
    } in
    record {
      world = w;
      reply = replies.Fetch
          (record {
            throttle = pos 0;
            topics = answers api (rules_of w) (whole_budget r) r.topics;
          });
      refusals = refusals api (rules_of w) r.topics;
    }

-- the request's max_bytes isn't looked at
abbrev pub fetch_without_max_bytes : FetchRule
fetch_without_max_bytes w caller r = fetch_outcome w caller (record r { max_bytes = pos 1000000 })

abbrev pub stable_as_high : Result Served ErrorCode → Result Served ErrorCode
stable_as_high (Ok s) = Ok (record s { high = s.stable })
stable_as_high (Err code) = Err code

-- the last stable offset is told as the high watermark
abbrev pub serving_stable_as_high : ServedRule
serving_stable_as_high level topics budget name p =
    stable_as_high (served_at level topics budget name p)

-- whatever the offset, the log is served from its start
abbrev pub serving_from_the_start : ServedRule
serving_from_the_start level topics budget name p =
    served_at level topics budget name (record p { offset = pos 0 })

-- ---- the last stable offset

-- the log's end, whatever transactions are open
abbrev pub stable_at_the_end : OffsetRule
stable_at_the_end log = end_of log

-- the offset before the last stable one
abbrev pub stable_at_the_last : OffsetRule
stable_at_the_last log = last_stable_offset log -ℤ pos 1

-- ---- the offsets that are listed

-- read_committed is told the log's end, whatever transactions are open
abbrev pub listing_the_end : ListRule
listing_the_end level topics name p = listed_offset ReadUncommitted topics name p

-- the last record's offset is told, and not the one after it
abbrev pub listing_the_last : ListRule
listing_the_last level topics name p =
    let right = listed_offset level topics name p in
    record right { offset = right.offset -ℤ pos 1 }

-- ---- what is asked

-- nobody is asked anything
abbrev pub reply_to_anybody : AnswerRule
reply_to_anybody w (Ask caller client request) =
    reply_to (as_super w caller) (Ask caller client request)
reply_to_anybody w Mark = reply_to w Mark
reply_to_anybody w (Tick moment) = reply_to w (Tick moment)

abbrev pub may_alter : World → Caller → Bool
may_alter w caller =
    is_yes
    (verdict w.book w.supers
    (question_of caller operations.Alter kinds.Cluster (codes_of "kafka-cluster")))

abbrev pub describe_refused : Reply
describe_refused =
    replies.DescribeAcls
    (record {
      throttle = pos 0;
      error = codes.ClusterAuthorizationFailed;
      message = None;
      resources = [];
    })

-- a DescribeAcls asks to alter the cluster
abbrev pub reply_to_alterers : AnswerRule
reply_to_alterers w (Ask caller client (requests.DescribeAcls r)) =
    if may_alter w caller then reply_to w (Ask caller client (requests.DescribeAcls r))
    else describe_refused
reply_to_alterers w e = reply_to w e

-- ---- what is refused

-- no refusal names the binding that denies
abbrev pub refusals_without_bindings : RefusalsRule
refusals_without_bindings w e =
    map (λ (r : Refusal). record r { why = why.Nothing }) (refusals_of w e)

-- the trail keeps the first refusal of a request alone
abbrev pub first_refusal_of : RefusalsRule
first_refusal_of w e = take 1 (refusals_of w e)

abbrev pub tell_acls_of : Reply → Reply → Reply
tell_acls_of (replies.DescribeAcls other) (replies.DescribeAcls reply) =
    replies.DescribeAcls (record reply { resources = other.resources })
tell_acls_of other reply = reply

-- a DescribeAcls that is refused tells the bindings beside its error
abbrev pub reply_with_acls : AnswerRule
reply_with_acls w (Ask caller client request) =
    tell_acls_of (reply_to (as_super w caller) (Ask caller client request))
    (reply_to w (Ask caller client request))
reply_with_acls w e = reply_to w e

abbrev pub with_end : FoundOffset → FoundOffset → FoundOffset
with_end other p = record p { offset = other.offset }

abbrev pub with_ends_in : List FoundOffset → List FoundOffset → List FoundOffset
with_ends_in [] ps = ps
with_ends_in (other ∷ others) [] = []
with_ends_in (other ∷ others) (p ∷ ps) = with_end other p ∷ with_ends_in others ps

abbrev pub with_ends : List (Topic FoundOffset) → List (Topic FoundOffset)
    → List (Topic FoundOffset)
with_ends [] topics = topics
with_ends (other ∷ others) [] = []
with_ends (other ∷ others) (t ∷ ts) =
    record t { partitions = with_ends_in other.partitions t.partitions } ∷ with_ends others ts

abbrev pub tell_ends_of : Reply → Reply → Reply
tell_ends_of (replies.ListOffsets other) (replies.ListOffsets reply) =
    replies.ListOffsets (record reply { topics = with_ends other.topics reply.topics })
tell_ends_of other reply = reply

-- a partition of a ListOffsets that is refused is told its offset beside its error
abbrev pub reply_with_ends : AnswerRule
reply_with_ends w (Ask caller client request) =
    tell_ends_of (reply_to (as_super w caller) (Ask caller client request))
    (reply_to w (Ask caller client request))
reply_with_ends w e = reply_to w e

-- ---- which errors are told

abbrev pub id_as_group : ErrorCode → ErrorCode
id_as_group codes.TransactionalIdAuthorizationFailed = codes.GroupAuthorizationFailed
id_as_group code = code

abbrev pub tell_id_as_group : Reply → Reply
tell_id_as_group (replies.FindCoordinator reply) =
    replies.FindCoordinator (record reply { error = id_as_group reply.error })
tell_id_as_group reply = reply

-- a FindCoordinator of a transactional id that is refused is told GROUP_AUTHORIZATION_FAILED
abbrev pub reply_ids_as_groups : AnswerRule
reply_ids_as_groups w e = tell_id_as_group (reply_to w e)

abbrev pub unfenced : ErrorCode → ErrorCode
unfenced codes.ProducerFenced = codes.InvalidProducerEpoch
unfenced code = code

abbrev pub tell_unfenced : Reply → Reply
tell_unfenced (replies.EndTxn (told.Version2 reply)) =
    replies.EndTxn (told.Version2 (record reply { error = unfenced reply.error }))
tell_unfenced reply = reply

-- an EndTxn of version 2 is told INVALID_PRODUCER_EPOCH, and not PRODUCER_FENCED
abbrev pub reply_unfenced : AnswerRule
reply_unfenced w e = tell_unfenced (reply_to w e)

-- each Heartbeat is told no error, whoever sends it
abbrev pub reply_beating_anyway : AnswerRule
reply_beating_anyway w (Ask caller client (requests.Heartbeat r)) =
    replies.Heartbeat (record { throttle = pos 0; error = codes.None })
reply_beating_anyway w e = reply_to w e

-- ---- the one node

abbrev pub led_by_nobody : PartitionInfo → PartitionInfo
led_by_nobody p = record p { leader = negsuc 0 }

abbrev pub tell_no_leader : Reply → Reply
tell_no_leader (replies.Metadata reply) =
    replies.Metadata
    (record reply {
      topics = map
          (λ (t : TopicInfo). record t { partitions = map led_by_nobody t.partitions })
          reply.topics;
    })
tell_no_leader reply = reply

-- no partition has a leader
abbrev pub reply_without_leaders : AnswerRule
reply_without_leaders w e = tell_no_leader (reply_to w e)

abbrev pub tell_no_broker : Reply → Reply
tell_no_broker (replies.Metadata reply) = replies.Metadata (record reply { brokers = [] })
tell_no_broker reply = reply

-- Metadata tells of no broker
abbrev pub reply_without_brokers : AnswerRule
reply_without_brokers w e = tell_no_broker (reply_to w e)

-- ---- edits of the book

-- nothing is created
abbrev pub creating_nothing : CreateRule
creating_nothing w caller r = record (create_acls_outcome w caller r) { world = w }

-- the book begins anew by what is created
abbrev pub creating_alone : CreateRule
creating_alone w caller r = create_acls_outcome (record w { book = empty_book }) caller r

-- nothing is deleted
abbrev pub deleting_nothing : DeleteRule
deleting_nothing w caller r = record (delete_acls_outcome w caller r) { world = w }

-- everything is deleted
abbrev pub deleting_everything : DeleteRule
deleting_everything w caller r =
    record (delete_acls_outcome w caller r) { world = record w { book = empty_book } }

-- a CreateAcls asks nothing
abbrev pub creating_unasked : CreateRule
creating_unasked w caller r =
    with_supers_of w (create_acls_outcome (as_super w caller) caller r)

-- a DeleteAcls asks nothing
abbrev pub deleting_unasked : DeleteRule
deleting_unasked w caller r =
    with_supers_of w (delete_acls_outcome (as_super w caller) caller r)

-- a CreateAcls creates the topics that it names
abbrev pub creating_topics : CreateRule
creating_topics w caller r =
    let right = create_acls_outcome w caller r in
    record right {
      world = record right.world {
        topics = right.world.topics
            ++ map
            (λ (e : BindingEntry). record { name = e.name; partitions = [] ∷ [] })
            r.creations;
      };
    }

-- a CreateAcls creates bindings of those topics alone that are there
abbrev pub creating_for_topics_there : CreateRule
creating_for_topics_there w caller r =
    create_acls_outcome w caller
    (record r {
      creations = filter
          (λ (e : BindingEntry). is_some (find_topic w.topics e.name))
          r.creations;
    })

-- the first resource is told alone
abbrev pub describing_one_resource : DescribeRule
describing_one_resource book filter =
    let right = describe_acls_reply book filter in
    record right { resources = take 1 right.resources }

abbrev pub each_alone : DescribedResource → List DescribedResource
each_alone r = map (λ (a : DescribedAcl). record r { acls = a ∷ [] }) r.acls

-- each binding is told as a resource of its own
abbrev pub describing_each_alone : DescribeRule
describing_each_alone book filter =
    let right = describe_acls_reply book filter in
    record right { resources = flat_map each_alone right.resources }

abbrev pub tell_resources_there : World → Reply → Reply
tell_resources_there w (replies.DescribeAcls reply) =
    replies.DescribeAcls
    (record reply {
      resources = filter
          (λ (d : DescribedResource). is_some (find_topic w.topics d.name))
          reply.resources;
    })
tell_resources_there w reply = reply

-- a DescribeAcls tells bindings of those topics alone that are there
abbrev pub describing_topics_there : DescribeAclsRule
describing_topics_there w caller r =
    let right = describe_acls_outcome w caller r in
    record right { reply = tell_resources_there w right.reply }

-- ---- InitProducerId

-- a producer id that was given out may be given out again
abbrev pub initing_again : InitRule
initing_again w caller r = record (init_producer_id_outcome w caller r) { world = w }

-- an InitProducerId asks nothing
abbrev pub initing_unasked : InitRule
initing_unasked w caller r =
    with_supers_of w (init_producer_id_outcome (as_super w caller) caller r)

-- ---- AddPartitionsToTxn and EndTxn

abbrev pub is_there : World → List ℕ → ℤ → Bool
is_there w name index = is_some (log_at w.topics name index)

-- the partitions that are there are added, whatever becomes of the others
abbrev pub adding_what_is_there : AddRule
adding_what_is_there w caller r =
    record (add_partitions_outcome w caller r) {
      world = (add_partitions_outcome w caller
          (record r {
            topics = map
                (λ (t : Topic ℤ).
                record t { partitions = filter (is_there w t.name) t.partitions })
                r.topics;
          })).world;
    }

-- nothing is added to the transaction, whatever is told
abbrev pub adding_nothing : AddRule
adding_nothing w caller r = record (add_partitions_outcome w caller r) { world = w }

-- an AddPartitionsToTxn asks nothing
abbrev pub adding_unasked : AddRule
adding_unasked w caller r =
    with_supers_of w (add_partitions_outcome (as_super w caller) caller r)

-- an EndTxn asks nothing
abbrev pub ending_unasked : EndRule
ending_unasked w caller r = with_supers_of w (end_txn_outcome (as_super w caller) caller r)

abbrev pub with_transaction_alone : List ℕ → World → World
with_transaction_alone id w =
    record w {
      coordinator = record w.coordinator {
        transactions = filter (has_id id) w.coordinator.transactions;
      };
    }

-- after an EndTxn no other transactional id has a record any more
abbrev pub ending_keeping_one : EndRule
ending_keeping_one w caller r =
    let right = end_txn_outcome w caller r in
    record right { world = with_transaction_alone (ending_id r) right.world }

abbrev pub is_addable : World → Caller → List ℕ → Topic ℤ → Bool
is_addable w caller id t = is_none (part_refusal (rules_of w) (add_questions caller id t.name))

abbrev pub addable_alone : World → Caller → AddPartitionsToTxnRequest → AddPartitionsToTxnRequest
addable_alone w caller r =
    record r { topics = filter (is_addable w caller r.transactional_id) r.topics }

-- where a partition of an AddPartitionsToTxn is refused, the others are added
abbrev pub step_adding_the_others : StepRule
step_adding_the_others w (Ask caller client (requests.AddPartitionsToTxn r)) =
    record (outcome w (Ask caller client (requests.AddPartitionsToTxn r))) {
      world = (outcome w
          (Ask caller client (requests.AddPartitionsToTxn (addable_alone w caller r)))).world;
    }
step_adding_the_others w e = outcome w e

abbrev pub missing_as_untried : ErrorCode → ErrorCode
missing_as_untried codes.UnknownTopicOrPartition = codes.OperationNotAttempted
missing_as_untried code = code

abbrev pub tell_missing_as_untried : Reply → Reply
tell_missing_as_untried (replies.AddPartitionsToTxn reply) =
    replies.AddPartitionsToTxn
    (record reply {
      topics = map
          (λ (t : Topic AddedPartition).
          record t {
            partitions = map
                (λ (p : AddedPartition). record p { error = missing_as_untried p.error })
                t.partitions;
          })
          reply.topics;
    })
tell_missing_as_untried reply = reply

-- a partition that isn't there is told OPERATION_NOT_ATTEMPTED too
abbrev pub step_telling_missing_as_untried : StepRule
step_telling_missing_as_untried w e =
    let right = outcome w e in
    record right { reply = tell_missing_as_untried right.reply }

abbrev pub beginning_group : List ℕ → World → World
beginning_group group w = record w { groups = groups_with w.groups (group_of w.groups group) }

-- a JoinGroup begins its group, even where it is told an error
abbrev pub step_beginning_groups : StepRule
step_beginning_groups w (Ask caller client (requests.JoinGroup r)) =
    let right = outcome w (Ask caller client (requests.JoinGroup r)) in
    record right { world = beginning_group r.group right.world }
step_beginning_groups w e = outcome w e

-- ---- tenants

-- a Metadata request with a null list is told all topics, whoever asks
abbrev pub metadata_of_everybody : MetadataRule
metadata_of_everybody w caller m =
    record (metadata_answer w caller m) { topics = topics_for_everybody w caller m.topics }

abbrev pub told_if_there : World → TopicInfo → TopicInfo
told_if_there w t =
    if is_some (find_topic w.topics t.name) then t
    else record t { error = codes.UnknownTopicOrPartition }

-- a topic that isn't there is told so, even to those who may not describe it
abbrev pub metadata_telling_missing : MetadataRule
metadata_telling_missing w caller m =
    let right = metadata_answer w caller m in
    record right { topics = map (told_if_there w) right.topics }

-- a Fetch asks nothing
abbrev pub fetching_unasked : FetchRule
fetching_unasked w caller r = with_supers_of w (fetch_outcome (as_super w caller) caller r)

abbrev pub is_topic_there : World → List ℕ → Bool
is_topic_there w name = is_some (find_topic w.topics name)

-- a topic that isn't there is left out of a Fetch before anybody is asked
abbrev pub fetching_telling_missing : FetchRule
fetching_telling_missing w caller r =
    fetch_outcome w caller
    (record r {
      topics = filter (λ (t : Topic FetchPartition). is_topic_there w t.name) r.topics;
    })

-- a ListOffsets asks nothing
abbrev pub listing_unasked : ListOffsetsRule
listing_unasked w caller r =
    with_supers_of w (list_offsets_outcome (as_super w caller) caller r)

-- a Produce asks nothing
abbrev pub producing_unasked : ProduceRule
producing_unasked w caller r = with_supers_of w (produce_outcome (as_super w caller) caller r)

-- whatever the partition, the batch is appended to the topic's first
abbrev pub producing_to_the_first : ProduceRule
producing_to_the_first w caller r =
    produce_outcome w caller
    (record r {
      topics = map
          (λ (t : Topic ProducedRecords).
          record t {
            partitions = map
                (λ (p : ProducedRecords). record p { index = pos 0 })
                t.partitions;
          })
          r.topics;
    })

-- an OffsetFetch asks nothing
abbrev pub fetching_offsets_unasked : OffsetFetchRule
fetching_offsets_unasked w caller r =
    with_supers_of w (offset_fetch_outcome (as_super w caller) caller r)

-- a JoinGroup asks nothing
abbrev pub joining_unasked : JoinRule
joining_unasked w caller r = with_supers_of w (join_group_outcome (as_super w caller) caller r)

abbrev pub with_group_alone : List ℕ → World → World
with_group_alone name w =
    record w { groups = filter (λ (g : Group). bytes_eq g.name name) w.groups }

-- after a JoinGroup there is no other group any more
abbrev pub joining_alone : JoinRule
joining_alone w caller r =
    let right = join_group_outcome w caller r in
    record right { world = with_group_alone r.group right.world }

-- an AddOffsetsToTxn asks nothing
abbrev pub adding_groups_unasked : AddOffsetsRule
adding_groups_unasked w caller r =
    with_supers_of w (add_offsets_outcome (as_super w caller) caller r)

-- a TxnOffsetCommit asks nothing
abbrev pub staging_unasked : StageRule
staging_unasked w caller r =
    with_supers_of w (txn_offset_commit_outcome (as_super w caller) caller r)

-- after a TxnOffsetCommit there is no other group any more
abbrev pub staging_alone : StageRule
staging_alone w caller r =
    let right = txn_offset_commit_outcome w caller r in
    record right { world = with_group_alone r.group right.world }

-- ---- what a Produce appends

-- nothing is appended, whatever is answered
abbrev pub topics_kept : TopicsAfterRule
topics_kept batch topics name index = topics

abbrev pub appended : List TopicValue → List ℕ → ℤ → BatchData → Option LogValue → List TopicValue
appended topics name index b None = topics
appended topics name index b (Some log) = with_log topics name index (log ++ at_end log b ∷ [])

-- whatever the log says of it a batch is appended, so that one sent again stands there twice
abbrev pub topics_with_repeats : TopicsAfterRule
topics_with_repeats (Err code) topics name index = topics
topics_with_repeats (Ok b) topics name index =
    appended topics name index b (log_at topics name index)

-- whatever was sent, no error is told
abbrev pub answering_without_error : ProducedRule
answering_without_error batch topics name p =
    record (produce_answer batch topics name p) { error = codes.None }

-- any number of acks is taken for one
abbrev pub batch_under_any_acks : AppendRule
batch_under_any_acks most c id acks target records =
    batch_to_append most c id (pos 1) target records

-- the settings' max_batch isn't looked at
abbrev pub batch_of_any_size : AppendRule
batch_of_any_size most c id acks target records =
    batch_to_append 1000000 c id acks target records

-- a batch is answered, and not appended
abbrev pub producing_nothing : ProduceRule
producing_nothing w caller r = record (produce_outcome w caller r) { world = w }

-- acks have to be -1, for all replicas
abbrev pub producing_for_all_replicas : ProduceRule
producing_for_all_replicas w caller r =
    if int_eq r.acks (negsuc 0) then produce_outcome w caller r
    else produce_outcome w caller (record r { acks = pos 2 })

abbrev pub repeat_as_next : Judgment → Judgment
repeat_as_next (Repeat offset) = Next
repeat_as_next judgment = judgment

-- a batch that is sent again is taken for the next one
abbrev pub judging_repeats_as_next : JudgeRule
judging_repeats_as_next log b = repeat_as_next (judgment_of log b)

abbrev pub gap_as_next : Judgment → Judgment
gap_as_next (Refused codes.OutOfOrderSequenceNumber) = Next
gap_as_next judgment = judgment

-- a batch that leaves a gap is taken for the next one
abbrev pub judging_gaps_as_next : JudgeRule
judging_gaps_as_next log b = gap_as_next (judgment_of log b)

-- ---- what logs hold

abbrev pub with_logs : (LogValue → LogValue) → World → World
with_logs change w =
    record w {
      topics = map
          (λ (t : TopicValue). record t { partitions = map change t.partitions })
          w.topics;
    }

-- a log keeps the headers of its batches alone
abbrev pub world_of_headers : RunRule
world_of_headers w es =
    with_logs (λ log. map (λ (b : BatchData). record b { bytes = take 61 b.bytes }) log)
    (world_after_events w es)

-- a log holds each batch twice, as after a retry
abbrev pub world_of_repeats : RunRule
world_of_repeats w es = with_logs (λ log. log ++ log) (world_after_events w es)

abbrev pub at_next_offset : BatchData → BatchData
at_next_offset b =
    record b { header = record b.header { base_offset = b.header.base_offset +ℤ pos 1 } }

-- the first record of a log has offset 1
abbrev pub world_from_offset_one : RunRule
world_from_offset_one w es =
    with_logs (λ log. map at_next_offset log) (world_after_events w es)

-- ---- responses

-- a response comes under the next correlation id
abbrev pub response_under_another_id : ResponseRule
response_under_another_id correlation r = response (correlation +ℤ pos 1) r

-- a response has no size before it
abbrev pub response_without_size : ResponseRule
response_without_size correlation r = drop 4 (response correlation r)
