-- What a refused part is answered, and the answers with those of the refused parts at their places:
-- each has the code of the first of its questions that the binding list doesn't grant.
use Rattle.std.specs.Prelude.{ℕ, ℤ, List, [], ◌∷◌, map, filter, Option, Some, None, Err, is_none}
use Rattle.std.specs.Option.{option_map}
use Rattle.acl_binding.specs.declared.question.Caller.{Caller}
use Rattle.authorizer.specs.declared.answer.Refusal.{Refusal}
use Rattle.authorizer.specs.Asking.{Rules}
use Rattle.wire_types.specs.declared.error_code.ErrorCode.{ErrorCode}
use Rattle.wire_types.specs.declared.topic.Topic.{Topic}
use Rattle.msg_data.specs.declared.metadata.TopicInfo.{TopicInfo}
use Rattle.msg_group.specs.declared.offset_fetch.FetchedOffset.{FetchedOffset}
use Rattle.msg_acl.specs.declared.entries.BindingEntry.{BindingEntry}
use Rattle.msg_acl.specs.declared.entries.FilterEntry.{FilterEntry}
use Rattle.msg_admin.specs.declared.request.Request.{Request}
use Rattle.msg_admin.specs.declared.request.Request.TheVariants as requests
use Rattle.msg_admin.specs.declared.reply.Reply.{Reply}
use Rattle.msg_admin.specs.declared.reply.Reply.TheVariants as replies
use Rattle.walk.specs.Codes.{refusal_code}
use Rattle.walk.specs.Weave.{weave}
use Rattle.data_handlers.specs.Metadata.{topic_error}
use Rattle.data_handlers.specs.Produce.{produced_error}
use Rattle.data_handlers.specs.Fetch.{fetched_error}
use Rattle.data_handlers.specs.ListOffsets.{listed_error}
use Rattle.group_handlers.specs.OffsetCommit.{committed_code}
use Rattle.group_handlers.specs.OffsetFetch.{fetched_code, fetch_reply}
use Rattle.group_handlers.specs.FindCoordinator.{find_error}
use Rattle.group_handlers.specs.Members.{join_error, sync_reply, beat_reply, leave_reply}
use Rattle.txn_handlers.specs.InitProducerId.{init_error}
use Rattle.txn_handlers.specs.AddPartitions.{added_partition}
use Rattle.txn_handlers.specs.AddOffsets.{add_offsets_reply}
use Rattle.txn_handlers.specs.EndTxn.{end_error}
use Rattle.txn_handlers.specs.TxnOffsetCommit.{staged_code}
use Rattle.acl_handlers.specs.DescribeAcls.{describe_acls_error}
use Rattle.acl_handlers.specs.CreateAcls.{creation_result_with, create_acls_reply}
use Rattle.acl_handlers.specs.DeleteAcls.{deletion_error, delete_acls_reply}
use Rattle.plain_broker.specs.Allowed.{refused_at}

-- ---- the answers of topics, with those of the refused parts at their places

abbrev pub topics_with_refused : {P A : Type 0} → (List ℕ → Option Refusal) → (ErrorCode → P → A)
    → List (Topic P) → List (Topic A) → List (Topic A)
topics_with_refused refused told [] answers = answers
topics_with_refused refused told (t ∷ ts) [] = []
topics_with_refused {P} refused told (t ∷ ts) (a ∷ answers) =
    record {
      name = a.name;
      partitions = weave
          (map (λ (p : P). option_map (λ (r : Refusal). told (refusal_code r) p) (refused t.name))
          t.partitions)
          a.partitions;
    }
    ∷ topics_with_refused refused told ts answers

-- ---- lists that may be null: then what may not be described is left out

abbrev pub infos_with_refused : (List ℕ → Option Refusal) → Option (List (List ℕ)) → List TopicInfo
    → List TopicInfo
infos_with_refused refused (Some names) answers =
    weave
    (map
    (λ (name : List ℕ). option_map (λ (r : Refusal). topic_error (refusal_code r) name)
    (refused name))
    names)
    answers
infos_with_refused refused None answers =
    filter (λ (a : TopicInfo). is_none (refused a.name)) answers

abbrev pub offsets_with_refused : (List ℕ → Option Refusal) → Option (List (Topic ℤ))
    → List (Topic FetchedOffset) → List (Topic FetchedOffset)
offsets_with_refused refused (Some ts) answers = topics_with_refused refused fetched_code ts answers
offsets_with_refused refused None answers =
    filter (λ (a : Topic FetchedOffset). is_none (refused a.name)) answers

-- ---- the answer to the request, from the answer to its allowed part

abbrev pub reply_with_refused_at : (List ℕ → Option Refusal) → Request → Reply → Reply
reply_with_refused_at refused (requests.Produce r) (replies.Produce a) =
    replies.Produce
    (record a { topics = topics_with_refused refused produced_error r.topics a.topics })
reply_with_refused_at refused (requests.Produce r) (replies.SilentProduce a) =
    replies.SilentProduce
    (record a { topics = topics_with_refused refused produced_error r.topics a.topics })
reply_with_refused_at refused (requests.Fetch r) (replies.Fetch a) =
    replies.Fetch
    (record a { topics = topics_with_refused refused fetched_error r.topics a.topics })
reply_with_refused_at refused (requests.ListOffsets r) (replies.ListOffsets a) =
    replies.ListOffsets
    (record a { topics = topics_with_refused refused listed_error r.topics a.topics })
reply_with_refused_at refused (requests.Metadata r) (replies.Metadata a) =
    replies.Metadata (record a { topics = infos_with_refused refused r.topics a.topics })
reply_with_refused_at refused (requests.OffsetCommit r) (replies.OffsetCommit a) =
    replies.OffsetCommit
    (record a { topics = topics_with_refused refused committed_code r.topics a.topics })
reply_with_refused_at refused (requests.OffsetFetch r) (replies.OffsetFetch a) =
    replies.OffsetFetch (record a { topics = offsets_with_refused refused r.topics a.topics })
reply_with_refused_at refused (requests.AddPartitionsToTxn r) (replies.AddPartitionsToTxn a) =
    replies.AddPartitionsToTxn
    (record a { topics = topics_with_refused refused added_partition r.topics a.topics })
reply_with_refused_at refused (requests.TxnOffsetCommit r) (replies.TxnOffsetCommit a) =
    replies.TxnOffsetCommit
    (record a { topics = topics_with_refused refused staged_code r.topics a.topics })
reply_with_refused_at refused request answer = answer

abbrev pub reply_with_refused : Rules → Caller → Request → Reply → Reply
reply_with_refused rules caller request answer =
    reply_with_refused_at (refused_at rules caller request) request answer

-- ---- a request that is refused whole

abbrev pub refused_whole : ErrorCode → Request → Reply
refused_whole code (requests.OffsetFetch r) = fetch_reply code []
refused_whole code (requests.FindCoordinator r) = replies.FindCoordinator (find_error code)
refused_whole code (requests.JoinGroup r) = replies.JoinGroup (join_error code r)
refused_whole code (requests.Heartbeat r) = replies.Heartbeat (beat_reply code)
refused_whole code (requests.LeaveGroup r) = replies.LeaveGroup (leave_reply code)
refused_whole code (requests.SyncGroup r) = replies.SyncGroup (sync_reply (Err code))
refused_whole code (requests.InitProducerId r) = replies.InitProducerId (init_error code)
refused_whole code (requests.AddOffsetsToTxn r) = replies.AddOffsetsToTxn (add_offsets_reply code)
refused_whole code (requests.EndTxn r) = replies.EndTxn (end_error r code)
refused_whole code (requests.DescribeAcls r) = replies.DescribeAcls (describe_acls_error code)
refused_whole code (requests.CreateAcls r) =
    replies.CreateAcls
    (create_acls_reply (map (λ (e : BindingEntry). creation_result_with code) r.creations))
refused_whole code (requests.DeleteAcls r) =
    replies.DeleteAcls
    (delete_acls_reply (map (λ (e : FilterEntry). deletion_error code) r.filters))
-- no other is
refused_whole code request = replies.Idle
