-- What a refused part is told beside its error: nothing (Kafka protocol guide: -1 stands for no
-- number).
use Rattle.std.specs.Prelude.{◌≡◌, ℕ, ℤ, pos, negsuc, false, List, [], map, Option, Some, None}
use Rattle.acl_binding.specs.declared.question.Caller.{Caller}
use Rattle.acl_binding.specs.declared.words.Kind.{Kind}
use Rattle.acl_binding.specs.declared.words.Kind.TheVariants as kinds
use Rattle.wire_types.specs.declared.error_code.ErrorCode.{ErrorCode}
use Rattle.wire_types.specs.declared.error_code.ErrorCode.TheVariants as codes
use Rattle.wire_types.specs.declared.topic.Topic.{Topic}
use Rattle.msg_data.specs.declared.produce.ProduceRequest.{ProduceRequest}
use Rattle.msg_data.specs.declared.produce.ProducedRecords.{ProducedRecords}
use Rattle.msg_data.specs.declared.produce.ProducedOffset.{ProducedOffset}
use Rattle.msg_data.specs.declared.fetch.FetchRequest.{FetchRequest}
use Rattle.msg_data.specs.declared.fetch.FetchPartition.{FetchPartition}
use Rattle.msg_data.specs.declared.fetch.FetchedRecords.{FetchedRecords}
use Rattle.msg_data.specs.declared.list_offsets.ListOffsetsRequest.{ListOffsetsRequest}
use Rattle.msg_data.specs.declared.list_offsets.WantedOffset.{WantedOffset}
use Rattle.msg_data.specs.declared.list_offsets.FoundOffset.{FoundOffset}
use Rattle.msg_data.specs.declared.metadata.MetadataRequest.{MetadataRequest}
use Rattle.msg_data.specs.declared.metadata.TopicInfo.{TopicInfo}
use Rattle.msg_group.specs.declared.offset_commit.OffsetCommitRequest.{OffsetCommitRequest}
use Rattle.msg_group.specs.declared.offset_commit.OffsetToCommit.{OffsetToCommit}
use Rattle.msg_group.specs.declared.offset_commit.CommittedOffset.{CommittedOffset}
use Rattle.msg_group.specs.declared.offset_fetch.OffsetFetchRequest.{OffsetFetchRequest}
use Rattle.msg_group.specs.declared.offset_fetch.FetchedOffset.{FetchedOffset}
use Rattle.msg_txn.specs.declared.add_partitions.AddPartitionsToTxnRequest.{AddPartitionsToTxnRequest}
use Rattle.msg_txn.specs.declared.add_partitions.AddedPartition.{AddedPartition}
use Rattle.msg_txn.specs.declared.end_txn.EndTxnRequest.{EndTxnRequest}
use Rattle.msg_txn.specs.declared.end_txn.EndTxnRequest.TheVariants as versions
use Rattle.msg_txn.specs.declared.end_txn.EndTxnReply.{EndTxnReply}
use Rattle.msg_txn.specs.declared.end_txn.EndTxnReply.TheVariants as told
use Rattle.msg_txn.specs.declared.txn_offset_commit.TxnOffsetCommitRequest.{TxnOffsetCommitRequest}
use Rattle.msg_txn.specs.declared.txn_offset_commit.OffsetToStage.{OffsetToStage}
use Rattle.msg_txn.specs.declared.txn_offset_commit.StagedOffset.{StagedOffset}
use Rattle.msg_acl.specs.declared.entries.BindingEntry.{BindingEntry}
use Rattle.msg_acl.specs.declared.entries.FilterEntry.{FilterEntry}
use Rattle.msg_acl.specs.declared.create_acls.CreatedAcl.{CreatedAcl}
use Rattle.msg_acl.specs.declared.delete_acls.DeletedAcls.{DeletedAcls}
use Rattle.msg_admin.specs.declared.request.Request.{Request}
use Rattle.msg_admin.specs.declared.request.Request.TheVariants as requests
use Rattle.msg_admin.specs.declared.reply.Reply.{Reply}
use Rattle.msg_admin.specs.declared.reply.Reply.TheVariants as replies
use Rattle.audit_trail.specs.declared.event.Event.TheVariants.{Ask}
use Rattle.walk.specs.Headline.{element_at}
use Rattle.broker_world.specs.World.{World}
use Rattle.api_laws.specs.AskedTable.{Row, request_rows, topic_rows, first_refused, AnswerRule}

abbrev pub refusal_error : Kind → ErrorCode
refusal_error kinds.Topic = codes.TopicAuthorizationFailed
refusal_error kinds.Group = codes.GroupAuthorizationFailed
refusal_error kinds.Cluster = codes.ClusterAuthorizationFailed
refusal_error kinds.TransactionalId = codes.TransactionalIdAuthorizationFailed

-- ---- a refused part: no offset, no records, no partitions and no metadata

abbrev pub bare_produced : ErrorCode → ProducedRecords → ProducedOffset
bare_produced error p =
    record { index = p.index; error = error; base_offset = negsuc 0; log_append_time = negsuc 0 }

abbrev pub bare_fetched : ErrorCode → FetchPartition → FetchedRecords
bare_fetched error p =
    record {
      index = p.index;
      error = error;
      high_watermark = negsuc 0;
      last_stable_offset = negsuc 0;
      aborted = None;
      records = [];
    }

abbrev pub bare_listed : ErrorCode → WantedOffset → FoundOffset
bare_listed error p =
    record { index = p.index; error = error; timestamp = negsuc 0; offset = negsuc 0 }

abbrev pub bare_info : ErrorCode → List ℕ → TopicInfo
bare_info error name = record { error = error; name = name; internal = false; partitions = [] }

abbrev pub bare_committed : ErrorCode → OffsetToCommit → CommittedOffset
bare_committed error p = record { index = p.index; error = error }

abbrev pub bare_offset : ErrorCode → ℤ → FetchedOffset
bare_offset error index =
    record {
      index = index;
      offset = negsuc 0;
      leader_epoch = negsuc 0;
      metadata = Some [];
      error = error;
    }

abbrev pub bare_added : ErrorCode → ℤ → AddedPartition
bare_added error index = record { index = index; error = error }

abbrev pub bare_staged : ErrorCode → OffsetToStage → StagedOffset
bare_staged error p = record { index = p.index; error = error }

-- ---- a refused request: no coordinator, no member, no producer id and no binding

-- in its version
abbrev pub bare_ended : ErrorCode → EndTxnRequest → EndTxnReply
bare_ended error (versions.Version0 r) = told.Version0 (record { throttle = pos 0; error = error })
bare_ended error (versions.Version1 r) = told.Version1 (record { throttle = pos 0; error = error })
bare_ended error (versions.Version2 r) = told.Version2 (record { throttle = pos 0; error = error })
bare_ended error (versions.Version3 r) = told.Version3 (record { throttle = pos 0; error = error })
bare_ended error (versions.Version4 r) = told.Version4 (record { throttle = pos 0; error = error })
bare_ended error (versions.Version5 r) =
    told.Version5
    (record { throttle = pos 0; error = error; producer = negsuc 0; epoch = negsuc 0 })

abbrev pub bare_created : ErrorCode → BindingEntry → CreatedAcl
bare_created error e = record { error = error; message = None }

abbrev pub bare_deleted : ErrorCode → FilterEntry → DeletedAcls
bare_deleted error e = record { error = error; message = None; matches = [] }

abbrev pub bare_reply : ErrorCode → Request → Reply
bare_reply error (requests.OffsetFetch r) =
    replies.OffsetFetch (record { throttle = pos 0; topics = []; error = error })
bare_reply error (requests.FindCoordinator r) =
    replies.FindCoordinator
    (record {
      throttle = pos 0;
      error = error;
      message = None;
      node = negsuc 0;
      host = [];
      port = negsuc 0;
    })
bare_reply error (requests.JoinGroup r) =
    replies.JoinGroup
    (record {
      throttle = pos 0;
      error = error;
      generation = negsuc 0;
      protocol = [];
      leader = [];
      member = r.member;
      members = [];
    })
bare_reply error (requests.Heartbeat r) =
    replies.Heartbeat (record { throttle = pos 0; error = error })
bare_reply error (requests.LeaveGroup r) =
    replies.LeaveGroup (record { throttle = pos 0; error = error })
bare_reply error (requests.SyncGroup r) =
    replies.SyncGroup (record { throttle = pos 0; error = error; assignment = [] })
bare_reply error (requests.InitProducerId r) =
    replies.InitProducerId
    (record { throttle = pos 0; error = error; producer = negsuc 0; epoch = negsuc 0 })
bare_reply error (requests.AddOffsetsToTxn r) =
    replies.AddOffsetsToTxn (record { throttle = pos 0; error = error })
bare_reply error (requests.EndTxn r) = replies.EndTxn (bare_ended error r)
bare_reply error (requests.DescribeAcls r) =
    replies.DescribeAcls
    (record { throttle = pos 0; error = error; message = None; resources = [] })
bare_reply error (requests.CreateAcls r) =
    replies.CreateAcls (record { throttle = pos 0; results = map (bare_created error) r.creations })
bare_reply error (requests.DeleteAcls r) =
    replies.DeleteAcls (record { throttle = pos 0; results = map (bare_deleted error) r.filters })
-- no other is
bare_reply error request = replies.Idle

-- ---- the topics of an answer

abbrev pub produced_in : Reply → List (Topic ProducedOffset)
produced_in (replies.Produce a) = a.topics
produced_in (replies.SilentProduce a) = a.topics
produced_in reply = []

abbrev pub fetched_in : Reply → List (Topic FetchedRecords)
fetched_in (replies.Fetch a) = a.topics
fetched_in reply = []

abbrev pub listed_in : Reply → List (Topic FoundOffset)
listed_in (replies.ListOffsets a) = a.topics
listed_in reply = []

abbrev pub infos_in : Reply → List TopicInfo
infos_in (replies.Metadata a) = a.topics
infos_in reply = []

abbrev pub committed_in : Reply → List (Topic CommittedOffset)
committed_in (replies.OffsetCommit a) = a.topics
committed_in reply = []

abbrev pub offsets_in : Reply → List (Topic FetchedOffset)
offsets_in (replies.OffsetFetch a) = a.topics
offsets_in reply = []

abbrev pub added_in : Reply → List (Topic AddedPartition)
added_in (replies.AddPartitionsToTxn a) = a.topics
added_in reply = []

abbrev pub staged_in : Reply → List (Topic StagedOffset)
staged_in (replies.TxnOffsetCommit a) = a.topics
staged_in reply = []

-- ---- the law

abbrev pub part_at : {A : Type 0} → Option (Topic A) → ℕ → Option A
part_at None j = None
part_at (Some t) j = element_at t.partitions j

-- each partition of these topics that is refused is answered so, at its place in those
abbrev pub RefusesBarely : {P A : Type 0} → World → Caller → (List ℕ → List Row)
    → (ErrorCode → P → A) → List (Topic P) → List (Topic A) → Type 0
RefusesBarely {P} w caller rows bare ts answered =
    (i j : ℕ) (t : Topic P) (p : P) (x : Row) → element_at ts i ≡ Some t
    → element_at t.partitions j ≡ Some p → first_refused w caller (rows t.name) ≡ Some x
    → part_at (element_at answered i) j ≡ Some (bare (refusal_error x.kind) p)

-- a request that is refused itself, and each refused part at its place, is answered as above,
-- whatever there is
pub record RefusalsTellNothing (reply_to : AnswerRule) : Type 0 where
  pub itself : (w : World) (caller : Caller) (client : Option (List ℕ)) (request : Request)
      (x : Row)
      → first_refused w caller (request_rows w caller request) ≡ Some x
      → reply_to w (Ask caller client request) ≡ bare_reply (refusal_error x.kind) request
  pub produce : (w : World) (caller : Caller) (client : Option (List ℕ)) (r : ProduceRequest)
      → RefusesBarely w caller (topic_rows (requests.Produce r)) bare_produced r.topics
      (produced_in (reply_to w (Ask caller client (requests.Produce r))))
  pub fetch : (w : World) (caller : Caller) (client : Option (List ℕ)) (r : FetchRequest)
      → RefusesBarely w caller (topic_rows (requests.Fetch r)) bare_fetched r.topics
      (fetched_in (reply_to w (Ask caller client (requests.Fetch r))))
  pub list : (w : World) (caller : Caller) (client : Option (List ℕ)) (r : ListOffsetsRequest)
      → RefusesBarely w caller (topic_rows (requests.ListOffsets r)) bare_listed r.topics
      (listed_in (reply_to w (Ask caller client (requests.ListOffsets r))))
  pub metadata : (w : World) (caller : Caller) (client : Option (List ℕ)) (r : MetadataRequest)
      (names : List (List ℕ)) (i : ℕ) (name : List ℕ) (x : Row)
      → r.topics ≡ Some names → element_at names i ≡ Some name
      → first_refused w caller (topic_rows (requests.Metadata r) name) ≡ Some x
      → element_at (infos_in (reply_to w (Ask caller client (requests.Metadata r)))) i
      ≡ Some (bare_info (refusal_error x.kind) name)
  pub commit : (w : World) (caller : Caller) (client : Option (List ℕ)) (r : OffsetCommitRequest)
      → RefusesBarely w caller (topic_rows (requests.OffsetCommit r)) bare_committed r.topics
      (committed_in (reply_to w (Ask caller client (requests.OffsetCommit r))))
  pub offsets : (w : World) (caller : Caller) (client : Option (List ℕ)) (r : OffsetFetchRequest)
      (ts : List (Topic ℤ))
      → r.topics ≡ Some ts
      → first_refused w caller (request_rows w caller (requests.OffsetFetch r)) ≡ None
      → RefusesBarely w caller (topic_rows (requests.OffsetFetch r)) bare_offset ts
      (offsets_in (reply_to w (Ask caller client (requests.OffsetFetch r))))
  pub adds : (w : World) (caller : Caller) (client : Option (List ℕ))
      (r : AddPartitionsToTxnRequest)
      → RefusesBarely w caller (topic_rows (requests.AddPartitionsToTxn r)) bare_added r.topics
      (added_in (reply_to w (Ask caller client (requests.AddPartitionsToTxn r))))
  pub stages : (w : World) (caller : Caller) (client : Option (List ℕ)) (r : TxnOffsetCommitRequest)
      → RefusesBarely w caller (topic_rows (requests.TxnOffsetCommit r)) bare_staged r.topics
      (staged_in (reply_to w (Ask caller client (requests.TxnOffsetCommit r))))
