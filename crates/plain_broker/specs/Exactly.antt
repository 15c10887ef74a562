-- The allowed part holds exactly the parts whose questions are all granted, and what a refused one
-- is answered.
use Rattle.std.specs.Prelude.{◌≡◌, ℕ, ℤ, pos, negsuc, Bool, false, List, [], ◌∷◌, map, filter, Some, None, is_none}
use Rattle.acl_binding.specs.declared.question.Caller.{Caller}
use Rattle.acl_binding.specs.declared.question.Question.{Question}
use Rattle.authorizer.specs.declared.answer.Refusal.{Refusal}
use Rattle.authorizer.specs.Asking.{Rules, part_refusal}
use Rattle.wire_types.specs.declared.error_code.ErrorCode.{ErrorCode}
use Rattle.msg_data.specs.declared.produce.ProducedRecords.{ProducedRecords}
use Rattle.msg_data.specs.declared.fetch.FetchPartition.{FetchPartition}
use Rattle.msg_data.specs.declared.list_offsets.WantedOffset.{WantedOffset}
use Rattle.msg_group.specs.declared.offset_commit.OffsetToCommit.{OffsetToCommit}
use Rattle.msg_group.specs.declared.join_group.JoinGroupRequest.{JoinGroupRequest}
use Rattle.msg_txn.specs.declared.txn_offset_commit.OffsetToStage.{OffsetToStage}
use Rattle.msg_txn.specs.declared.find_coordinator.FindCoordinatorRequest.{FindCoordinatorRequest}
use Rattle.msg_txn.specs.declared.init_producer_id.InitProducerIdRequest.{InitProducerIdRequest}
use Rattle.msg_txn.specs.declared.add_offsets.AddOffsetsToTxnRequest.{AddOffsetsToTxnRequest}
use Rattle.msg_txn.specs.declared.end_txn.EndTxn.{EndTxn}
use Rattle.msg_txn.specs.declared.end_txn.FlexibleEndTxn.{FlexibleEndTxn}
use Rattle.msg_txn.specs.declared.end_txn.EndTxnRequest.TheVariants as endings
use Rattle.msg_txn.specs.declared.end_txn.EndTxnReply.TheVariants as ended
use Rattle.msg_group.specs.declared.offset_fetch.OffsetFetchRequest.{OffsetFetchRequest}
use Rattle.msg_group.specs.declared.heartbeat.HeartbeatRequest.{HeartbeatRequest}
use Rattle.msg_group.specs.declared.leave_group.LeaveGroupRequest.{LeaveGroupRequest}
use Rattle.msg_group.specs.declared.sync_group.SyncGroupRequest.{SyncGroupRequest}
use Rattle.msg_acl.specs.declared.entries.BindingEntry.{BindingEntry}
use Rattle.msg_acl.specs.declared.entries.FilterEntry.{FilterEntry}
use Rattle.msg_acl.specs.declared.describe_acls.DescribeAclsRequest.{DescribeAclsRequest}
use Rattle.msg_acl.specs.declared.create_acls.CreateAclsRequest.{CreateAclsRequest}
use Rattle.msg_acl.specs.declared.delete_acls.DeleteAclsRequest.{DeleteAclsRequest}
use Rattle.msg_admin.specs.declared.reply.Reply.TheVariants as replies
use Rattle.plain_broker.specs.PutBack.{refused_whole}
use Rattle.msg_admin.specs.declared.request.Request.{Request}
use Rattle.msg_admin.specs.declared.request.Request.TheVariants as requests
use Rattle.walk.specs.Codes.{refusal_code}
use Rattle.data_handlers.specs.Metadata.{topic_error}
use Rattle.data_handlers.specs.Produce.{produced_error}
use Rattle.data_handlers.specs.Fetch.{fetched_error}
use Rattle.data_handlers.specs.ListOffsets.{listed_error}
use Rattle.group_handlers.specs.OffsetCommit.{committed_code}
use Rattle.group_handlers.specs.OffsetFetch.{fetched_code}
use Rattle.txn_handlers.specs.AddPartitions.{added_partition}
use Rattle.txn_handlers.specs.TxnOffsetCommit.{staged_code}
use Rattle.api_dispatch.specs.Questions.{parts_of}
use Rattle.api_dispatch.specs.Refusals.{request_refusals}
use Rattle.plain_broker.specs.Allowed.{Allowed, Rest, Cut, Nothing, allowed_part}

-- each of the questions has the verdict Yes
abbrev pub is_granted : Rules → List Question → Bool
is_granted rules questions = is_none (part_refusal rules questions)

-- what is left asks what the granted parts of the request asked, in order; nothing is left where
-- one refusal is all
abbrev pub IsExact : Rules → Caller → Request → Allowed → Type 0
IsExact rules caller request (Rest rest) =
    parts_of rules caller rest ≡ filter (is_granted rules) (parts_of rules caller request)
IsExact rules caller request (Cut cut) =
    parts_of rules caller (requests.AddPartitionsToTxn cut)
    ≡ filter (is_granted rules) (parts_of rules caller request)
IsExact rules caller request (Nothing code) =
    (r : Refusal) × (request_refusals rules caller request ≡ r ∷ []) × (refusal_code r ≡ code)

abbrev pub AllowedIsExact : Type 0
AllowedIsExact =
    (rules : Rules) (caller : Caller) (request : Request)
    → IsExact rules caller request (allowed_part rules caller request)

-- each answer to what is refused is this: beside the code, what stands there for every code
pub record RefusedAnswers : Type 0 where
  pub produce : (code : ErrorCode) (p : ProducedRecords)
      → produced_error code p
      ≡ record {
        index = p.index;
        error = code;
        base_offset = negsuc 0;
        log_append_time = negsuc 0;
      }
  pub fetch : (code : ErrorCode) (p : FetchPartition)
      → fetched_error code p
      ≡ record {
        index = p.index;
        error = code;
        high_watermark = negsuc 0;
        last_stable_offset = negsuc 0;
        aborted = None;
        records = [];
      }
  pub list_offsets : (code : ErrorCode) (p : WantedOffset)
      → listed_error code p
      ≡ record { index = p.index; error = code; timestamp = negsuc 0; offset = negsuc 0 }
  pub metadata : (code : ErrorCode) (name : List ℕ)
      → topic_error code name
      ≡ record { error = code; name = name; internal = false; partitions = [] }
  pub offset_commit : (code : ErrorCode) (p : OffsetToCommit)
      → committed_code code p ≡ record { index = p.index; error = code }
  pub offset_fetch : (code : ErrorCode) (index : ℤ)
      → fetched_code code index
      ≡ record {
        index = index;
        offset = negsuc 0;
        leader_epoch = negsuc 0;
        metadata = Some [];
        error = code;
      }
  pub add_partitions : (code : ErrorCode) (index : ℤ)
      → added_partition code index ≡ record { index = index; error = code }
  pub txn_offset_commit : (code : ErrorCode) (p : OffsetToStage)
      → staged_code code p ≡ record { index = p.index; error = code }
  -- requests that are refused themselves
  pub offset_fetch_itself : (code : ErrorCode) (r : OffsetFetchRequest)
      → refused_whole code (requests.OffsetFetch r)
      ≡ replies.OffsetFetch (record { throttle = pos 0; topics = []; error = code })
  pub find_coordinator : (code : ErrorCode) (r : FindCoordinatorRequest)
      → refused_whole code (requests.FindCoordinator r)
      ≡ replies.FindCoordinator
      (record {
        throttle = pos 0;
        error = code;
        message = None;
        node = negsuc 0;
        host = [];
        port = negsuc 0;
      })
  pub join_group : (code : ErrorCode) (r : JoinGroupRequest)
      → refused_whole code (requests.JoinGroup r)
      ≡ replies.JoinGroup
      (record {
        throttle = pos 0;
        error = code;
        generation = negsuc 0;
        protocol = [];
        leader = [];
        member = r.member;
        members = [];
      })
  pub sync_group : (code : ErrorCode) (r : SyncGroupRequest)
      → refused_whole code (requests.SyncGroup r)
      ≡ replies.SyncGroup (record { throttle = pos 0; error = code; assignment = [] })
  pub heartbeat : (code : ErrorCode) (r : HeartbeatRequest)
      → refused_whole code (requests.Heartbeat r)
      ≡ replies.Heartbeat (record { throttle = pos 0; error = code })
  pub leave_group : (code : ErrorCode) (r : LeaveGroupRequest)
      → refused_whole code (requests.LeaveGroup r)
      ≡ replies.LeaveGroup (record { throttle = pos 0; error = code })
  pub init_producer_id : (code : ErrorCode) (r : InitProducerIdRequest)
      → refused_whole code (requests.InitProducerId r)
      ≡ replies.InitProducerId
      (record { throttle = pos 0; error = code; producer = negsuc 0; epoch = negsuc 0 })
  pub add_offsets : (code : ErrorCode) (r : AddOffsetsToTxnRequest)
      → refused_whole code (requests.AddOffsetsToTxn r)
      ≡ replies.AddOffsetsToTxn (record { throttle = pos 0; error = code })
  pub end_txn_0 : (code : ErrorCode) (r : EndTxn)
      → refused_whole code (requests.EndTxn (endings.Version0 r))
      ≡ replies.EndTxn (ended.Version0 (record { throttle = pos 0; error = code }))
  pub end_txn_1 : (code : ErrorCode) (r : EndTxn)
      → refused_whole code (requests.EndTxn (endings.Version1 r))
      ≡ replies.EndTxn (ended.Version1 (record { throttle = pos 0; error = code }))
  pub end_txn_2 : (code : ErrorCode) (r : EndTxn)
      → refused_whole code (requests.EndTxn (endings.Version2 r))
      ≡ replies.EndTxn (ended.Version2 (record { throttle = pos 0; error = code }))
  pub end_txn_3 : (code : ErrorCode) (r : FlexibleEndTxn)
      → refused_whole code (requests.EndTxn (endings.Version3 r))
      ≡ replies.EndTxn (ended.Version3 (record { throttle = pos 0; error = code }))
  pub end_txn_4 : (code : ErrorCode) (r : FlexibleEndTxn)
      → refused_whole code (requests.EndTxn (endings.Version4 r))
      ≡ replies.EndTxn (ended.Version4 (record { throttle = pos 0; error = code }))
  pub end_txn_5 : (code : ErrorCode) (r : FlexibleEndTxn)
      → refused_whole code (requests.EndTxn (endings.Version5 r))
      ≡ replies.EndTxn
      (ended.Version5
      (record { throttle = pos 0; error = code; producer = negsuc 0; epoch = negsuc 0 }))
  pub describe_acls : (code : ErrorCode) (r : DescribeAclsRequest)
      → refused_whole code (requests.DescribeAcls r)
      ≡ replies.DescribeAcls
      (record { throttle = pos 0; error = code; message = None; resources = [] })
  -- with an answer for each entry
  pub create_acls : (code : ErrorCode) (r : CreateAclsRequest)
      → refused_whole code (requests.CreateAcls r)
      ≡ replies.CreateAcls
      (record {
        throttle = pos 0;
        results = map (λ (e : BindingEntry). record { error = code; message = None })
            r.creations;
      })
  pub delete_acls : (code : ErrorCode) (r : DeleteAclsRequest)
      → refused_whole code (requests.DeleteAcls r)
      ≡ replies.DeleteAcls
      (record {
        throttle = pos 0;
        results = map
            (λ (e : FilterEntry). record { error = code; message = None; matches = [] })
            r.filters;
      })
