-- The grammars of the bodies: what each api is asked, and what it answers.
use Rattle.std.specs.Prelude.{◌≡◌, ℕ, ℤ, List, [], Bool, true, false, Option, Some, None, refl}
use Rattle.wire_types.specs.Grammar.{Grammar, Body}
use Rattle.wire_types.specs.Combinators.{variant, body_of, empty_body}
use Rattle.msg_data.specs.declared.produce.ProduceRequest.{ProduceRequest}
use Rattle.msg_data.specs.declared.produce.ProduceReply.{ProduceReply}
use Rattle.msg_data.specs.Produce.{produce_request, produce_reply, produce_strings}
use Rattle.msg_data.specs.declared.fetch.FetchRequest.{FetchRequest}
use Rattle.msg_data.specs.declared.fetch.FetchReply.{FetchReply}
use Rattle.msg_data.specs.Fetch.{fetch_request, fetch_reply, fetch_strings}
use Rattle.msg_data.specs.declared.list_offsets.ListOffsetsRequest.{ListOffsetsRequest}
use Rattle.msg_data.specs.declared.list_offsets.ListOffsetsReply.{ListOffsetsReply}
use Rattle.msg_data.specs.ListOffsets.{list_offsets_request, list_offsets_reply, list_offsets_strings}
use Rattle.msg_data.specs.declared.metadata.MetadataRequest.{MetadataRequest}
use Rattle.msg_data.specs.declared.metadata.MetadataReply.{MetadataReply}
use Rattle.msg_data.specs.Metadata.{metadata_request, metadata_reply, metadata_strings}
use Rattle.msg_acl.specs.declared.describe_acls.DescribeAclsRequest.{DescribeAclsRequest}
use Rattle.msg_acl.specs.declared.describe_acls.DescribeAclsReply.{DescribeAclsReply}
use Rattle.msg_acl.specs.DescribeAcls.{describe_acls_request, describe_acls_reply, describe_acls_strings}
use Rattle.wire_types.specs.Strings.{no_strings}
use Rattle.msg_txn.specs.declared.init_producer_id.InitProducerIdRequest.{InitProducerIdRequest}
use Rattle.msg_txn.specs.declared.init_producer_id.InitProducerIdReply.{InitProducerIdReply}
use Rattle.msg_txn.specs.InitProducerId.{init_producer_id_request, init_producer_id_reply}
use Rattle.msg_group.specs.declared.offset_commit.OffsetCommitRequest.{OffsetCommitRequest}
use Rattle.msg_group.specs.declared.offset_commit.OffsetCommitReply.{OffsetCommitReply}
use Rattle.msg_group.specs.OffsetCommit.{offset_commit_request, offset_commit_reply, offset_commit_strings}
use Rattle.msg_group.specs.declared.offset_fetch.OffsetFetchRequest.{OffsetFetchRequest}
use Rattle.msg_group.specs.declared.offset_fetch.OffsetFetchReply.{OffsetFetchReply}
use Rattle.msg_group.specs.OffsetFetch.{offset_fetch_request, offset_fetch_reply}
use Rattle.msg_txn.specs.declared.find_coordinator.FindCoordinatorRequest.{FindCoordinatorRequest}
use Rattle.msg_txn.specs.declared.find_coordinator.FindCoordinatorReply.{FindCoordinatorReply}
use Rattle.msg_txn.specs.FindCoordinator.{find_coordinator_request, find_coordinator_reply, find_coordinator_strings}
use Rattle.msg_group.specs.declared.join_group.JoinGroupRequest.{JoinGroupRequest}
use Rattle.msg_group.specs.declared.join_group.JoinGroupReply.{JoinGroupReply}
use Rattle.msg_group.specs.JoinGroup.{join_group_request, join_group_reply, join_group_strings}
use Rattle.msg_group.specs.declared.heartbeat.HeartbeatRequest.{HeartbeatRequest}
use Rattle.msg_group.specs.declared.heartbeat.HeartbeatReply.{HeartbeatReply}
use Rattle.msg_group.specs.Heartbeat.{heartbeat_request, heartbeat_reply}
use Rattle.msg_group.specs.declared.leave_group.LeaveGroupRequest.{LeaveGroupRequest}
use Rattle.msg_group.specs.declared.leave_group.LeaveGroupReply.{LeaveGroupReply}
use Rattle.msg_group.specs.LeaveGroup.{leave_group_request, leave_group_reply}
use Rattle.msg_group.specs.declared.sync_group.SyncGroupRequest.{SyncGroupRequest}
use Rattle.msg_group.specs.declared.sync_group.SyncGroupReply.{SyncGroupReply}
use Rattle.msg_group.specs.SyncGroup.{sync_group_request, sync_group_reply}
use Rattle.msg_txn.specs.declared.add_partitions.AddPartitionsToTxnRequest.{AddPartitionsToTxnRequest}
use Rattle.msg_txn.specs.declared.add_partitions.AddPartitionsToTxnReply.{AddPartitionsToTxnReply}
use Rattle.msg_txn.specs.AddPartitions.{add_partitions_to_txn_request, add_partitions_to_txn_reply, add_partitions_to_txn_strings}
use Rattle.msg_txn.specs.declared.add_offsets.AddOffsetsToTxnRequest.{AddOffsetsToTxnRequest}
use Rattle.msg_txn.specs.declared.add_offsets.AddOffsetsToTxnReply.{AddOffsetsToTxnReply}
use Rattle.msg_txn.specs.AddOffsets.{add_offsets_to_txn_request, add_offsets_to_txn_reply}
use Rattle.msg_txn.specs.declared.end_txn.EndTxnRequest.{EndTxnRequest}
use Rattle.msg_txn.specs.declared.end_txn.EndTxnReply.{EndTxnReply}
use Rattle.msg_txn.specs.EndTxn.{version_asked, version_answered, end_txn_request, end_txn_reply}
use Rattle.msg_txn.specs.declared.txn_offset_commit.TxnOffsetCommitRequest.{TxnOffsetCommitRequest}
use Rattle.msg_txn.specs.declared.txn_offset_commit.TxnOffsetCommitReply.{TxnOffsetCommitReply}
use Rattle.msg_txn.specs.TxnOffsetCommit.{txn_offset_commit_request, txn_offset_commit_reply}
use Rattle.msg_acl.specs.declared.create_acls.CreateAclsRequest.{CreateAclsRequest}
use Rattle.msg_acl.specs.declared.create_acls.CreateAclsReply.{CreateAclsReply}
use Rattle.msg_acl.specs.CreateAcls.{create_acls_request, create_acls_reply, create_acls_strings}
use Rattle.msg_acl.specs.declared.delete_acls.DeleteAclsRequest.{DeleteAclsRequest}
use Rattle.msg_acl.specs.declared.delete_acls.DeleteAclsReply.{DeleteAclsReply}
use Rattle.msg_acl.specs.DeleteAcls.{delete_acls_request, delete_acls_reply, delete_acls_strings}
use Rattle.msg_login.specs.declared.sasl_handshake.SaslHandshakeRequest.{SaslHandshakeRequest}
use Rattle.msg_login.specs.declared.sasl_handshake.SaslHandshakeReply.{SaslHandshakeReply}
use Rattle.msg_login.specs.SaslHandshake.{sasl_handshake_request, sasl_handshake_reply, sasl_handshake_strings}
use Rattle.msg_login.specs.declared.api_versions.ApiVersionsReply.{ApiVersionsReply}
use Rattle.msg_login.specs.ApiVersions.{api_versions_reply}
use Rattle.msg_login.specs.declared.sasl_authenticate.SaslAuthenticateRequest.{SaslAuthenticateRequest}
use Rattle.msg_login.specs.declared.sasl_authenticate.SaslAuthenticateReply.{SaslAuthenticateReply}
use Rattle.msg_login.specs.SaslAuthenticate.{sasl_authenticate_request, sasl_authenticate_reply, sasl_authenticate_strings}
use Rattle.msg_admin.specs.declared.api_key.ApiKey.{ApiKey}
use Rattle.msg_admin.specs.declared.api_key.ApiKey.TheVariants as keys
use Rattle.msg_admin.specs.declared.api.Api.{Api}
use Rattle.msg_admin.specs.declared.request.Request.{Request}
use Rattle.msg_admin.specs.declared.request.Request.TheVariants as requests
use Rattle.msg_admin.specs.declared.reply.Reply.{Reply}
use Rattle.msg_admin.specs.declared.reply.Reply.TheVariants as replies
use Rattle.msg_admin.specs.Api.{api_in, in_last_version}

-- the api that a request asks: an EndTxn in its version, and each other api in the last, which is
-- the only one
abbrev pub api_of : Request → Api
api_of (requests.Produce r) = in_last_version keys.Produce
api_of (requests.Fetch r) = in_last_version keys.Fetch
api_of (requests.ListOffsets r) = in_last_version keys.ListOffsets
api_of (requests.Metadata r) = in_last_version keys.Metadata
api_of (requests.OffsetCommit r) = in_last_version keys.OffsetCommit
api_of (requests.OffsetFetch r) = in_last_version keys.OffsetFetch
api_of (requests.FindCoordinator r) = in_last_version keys.FindCoordinator
api_of (requests.JoinGroup r) = in_last_version keys.JoinGroup
api_of (requests.Heartbeat r) = in_last_version keys.Heartbeat
api_of (requests.LeaveGroup r) = in_last_version keys.LeaveGroup
api_of (requests.SyncGroup r) = in_last_version keys.SyncGroup
api_of (requests.SaslHandshake r) = in_last_version keys.SaslHandshake
api_of requests.ApiVersions = in_last_version keys.ApiVersions
api_of (requests.InitProducerId r) = in_last_version keys.InitProducerId
api_of (requests.AddPartitionsToTxn r) = in_last_version keys.AddPartitionsToTxn
api_of (requests.AddOffsetsToTxn r) = in_last_version keys.AddOffsetsToTxn
api_of (requests.EndTxn r) = api_in keys.EndTxn (version_asked r)
api_of (requests.TxnOffsetCommit r) = in_last_version keys.TxnOffsetCommit
api_of (requests.DescribeAcls r) = in_last_version keys.DescribeAcls
api_of (requests.CreateAcls r) = in_last_version keys.CreateAcls
api_of (requests.DeleteAcls r) = in_last_version keys.DeleteAcls
api_of (requests.SaslAuthenticate r) = in_last_version keys.SaslAuthenticate

-- the api whose answer a reply is sent as, in its version, if it is sent; what is no answer to a
-- request is not
abbrev pub sent_as : Reply → Option Api
sent_as (replies.Produce r) = Some (in_last_version keys.Produce)
sent_as (replies.SilentProduce r) = None
sent_as (replies.Fetch r) = Some (in_last_version keys.Fetch)
sent_as (replies.ListOffsets r) = Some (in_last_version keys.ListOffsets)
sent_as (replies.Metadata r) = Some (in_last_version keys.Metadata)
sent_as (replies.OffsetCommit r) = Some (in_last_version keys.OffsetCommit)
sent_as (replies.OffsetFetch r) = Some (in_last_version keys.OffsetFetch)
sent_as (replies.FindCoordinator r) = Some (in_last_version keys.FindCoordinator)
sent_as (replies.JoinGroup r) = Some (in_last_version keys.JoinGroup)
sent_as (replies.Heartbeat r) = Some (in_last_version keys.Heartbeat)
sent_as (replies.LeaveGroup r) = Some (in_last_version keys.LeaveGroup)
sent_as (replies.SyncGroup r) = Some (in_last_version keys.SyncGroup)
sent_as (replies.SaslHandshake r) = Some (in_last_version keys.SaslHandshake)
sent_as (replies.ApiVersions r) = Some (in_last_version keys.ApiVersions)
sent_as (replies.InitProducerId r) = Some (in_last_version keys.InitProducerId)
sent_as (replies.AddPartitionsToTxn r) = Some (in_last_version keys.AddPartitionsToTxn)
sent_as (replies.AddOffsetsToTxn r) = Some (in_last_version keys.AddOffsetsToTxn)
sent_as (replies.EndTxn r) = Some (api_in keys.EndTxn (version_answered r))
sent_as (replies.TxnOffsetCommit r) = Some (in_last_version keys.TxnOffsetCommit)
sent_as (replies.DescribeAcls r) = Some (in_last_version keys.DescribeAcls)
sent_as (replies.CreateAcls r) = Some (in_last_version keys.CreateAcls)
sent_as (replies.DeleteAcls r) = Some (in_last_version keys.DeleteAcls)
sent_as (replies.SaslAuthenticate r) = Some (in_last_version keys.SaslAuthenticate)
sent_as (replies.Marked left) = None
sent_as replies.Idle = None
sent_as (replies.Ticked left) = None

-- the texts of a reply that stand after a length of two bytes
abbrev pub strings_of : Reply → List (List ℕ)
strings_of (replies.Produce r) = produce_strings r
strings_of (replies.SilentProduce r) = produce_strings r
strings_of (replies.Fetch r) = fetch_strings r
strings_of (replies.ListOffsets r) = list_offsets_strings r
strings_of (replies.Metadata r) = metadata_strings r
strings_of (replies.OffsetCommit r) = offset_commit_strings r
strings_of (replies.OffsetFetch r) = no_strings r
strings_of (replies.FindCoordinator r) = find_coordinator_strings r
strings_of (replies.JoinGroup r) = join_group_strings r
strings_of (replies.Heartbeat r) = no_strings r
strings_of (replies.LeaveGroup r) = no_strings r
strings_of (replies.SyncGroup r) = no_strings r
strings_of (replies.SaslHandshake r) = sasl_handshake_strings r
strings_of (replies.ApiVersions r) = no_strings r
strings_of (replies.InitProducerId r) = no_strings r
strings_of (replies.AddPartitionsToTxn r) = add_partitions_to_txn_strings r
strings_of (replies.AddOffsetsToTxn r) = no_strings r
strings_of (replies.EndTxn r) = no_strings r
strings_of (replies.TxnOffsetCommit r) = no_strings r
strings_of (replies.DescribeAcls r) = describe_acls_strings r
strings_of (replies.CreateAcls r) = create_acls_strings r
strings_of (replies.DeleteAcls r) = delete_acls_strings r
strings_of (replies.SaslAuthenticate r) = sasl_authenticate_strings r
strings_of (replies.Marked left) = []
strings_of replies.Idle = []
strings_of (replies.Ticked left) = []

-- ---- Produce

abbrev pub asked_produce : Request → Option ProduceRequest
asked_produce (requests.Produce r) = Some r
asked_produce _ = None

pub produce-asked : (r : Request) (x : ProduceRequest) → asked_produce r ≡ Some x
    → requests.Produce x ≡ r
produce-asked (requests.Produce y) x e = cc
produce-asked _ x e = absurd cc

abbrev pub answered_produce : Reply → Option ProduceReply
answered_produce (replies.Produce r) = Some r
answered_produce _ = None

pub produce-answered : (r : Reply) (x : ProduceReply) → answered_produce r ≡ Some x
    → replies.Produce x ≡ r
produce-answered (replies.Produce y) x e = cc
produce-answered _ x e = absurd cc

-- ---- Fetch

abbrev pub asked_fetch : Request → Option FetchRequest
asked_fetch (requests.Fetch r) = Some r
asked_fetch _ = None

pub fetch-asked : (r : Request) (x : FetchRequest) → asked_fetch r ≡ Some x → requests.Fetch x ≡ r
fetch-asked (requests.Fetch y) x e = cc
fetch-asked _ x e = absurd cc

abbrev pub answered_fetch : Reply → Option FetchReply
answered_fetch (replies.Fetch r) = Some r
answered_fetch _ = None

pub fetch-answered : (r : Reply) (x : FetchReply) → answered_fetch r ≡ Some x → replies.Fetch x ≡ r
fetch-answered (replies.Fetch y) x e = cc
fetch-answered _ x e = absurd cc

-- ---- ListOffsets

abbrev pub asked_list_offsets : Request → Option ListOffsetsRequest
asked_list_offsets (requests.ListOffsets r) = Some r
asked_list_offsets _ = None

pub list_offsets-asked : (r : Request) (x : ListOffsetsRequest) → asked_list_offsets r ≡ Some x
    → requests.ListOffsets x ≡ r
list_offsets-asked (requests.ListOffsets y) x e = cc
list_offsets-asked _ x e = absurd cc

abbrev pub answered_list_offsets : Reply → Option ListOffsetsReply
answered_list_offsets (replies.ListOffsets r) = Some r
answered_list_offsets _ = None

pub list_offsets-answered : (r : Reply) (x : ListOffsetsReply) → answered_list_offsets r ≡ Some x
    → replies.ListOffsets x ≡ r
list_offsets-answered (replies.ListOffsets y) x e = cc
list_offsets-answered _ x e = absurd cc

-- ---- Metadata

abbrev pub asked_metadata : Request → Option MetadataRequest
asked_metadata (requests.Metadata r) = Some r
asked_metadata _ = None

pub metadata-asked : (r : Request) (x : MetadataRequest) → asked_metadata r ≡ Some x
    → requests.Metadata x ≡ r
metadata-asked (requests.Metadata y) x e = cc
metadata-asked _ x e = absurd cc

abbrev pub answered_metadata : Reply → Option MetadataReply
answered_metadata (replies.Metadata r) = Some r
answered_metadata _ = None

pub metadata-answered : (r : Reply) (x : MetadataReply) → answered_metadata r ≡ Some x
    → replies.Metadata x ≡ r
metadata-answered (replies.Metadata y) x e = cc
metadata-answered _ x e = absurd cc

-- ---- OffsetCommit

abbrev pub asked_offset_commit : Request → Option OffsetCommitRequest
asked_offset_commit (requests.OffsetCommit r) = Some r
asked_offset_commit _ = None

pub offset_commit-asked : (r : Request) (x : OffsetCommitRequest) → asked_offset_commit r ≡ Some x
    → requests.OffsetCommit x ≡ r
offset_commit-asked (requests.OffsetCommit y) x e = cc
offset_commit-asked _ x e = absurd cc

abbrev pub answered_offset_commit : Reply → Option OffsetCommitReply
answered_offset_commit (replies.OffsetCommit r) = Some r
answered_offset_commit _ = None

pub offset_commit-answered : (r : Reply) (x : OffsetCommitReply) → answered_offset_commit r ≡ Some x
    → replies.OffsetCommit x ≡ r
offset_commit-answered (replies.OffsetCommit y) x e = cc
offset_commit-answered _ x e = absurd cc

-- ---- OffsetFetch

abbrev pub asked_offset_fetch : Request → Option OffsetFetchRequest
asked_offset_fetch (requests.OffsetFetch r) = Some r
asked_offset_fetch _ = None

pub offset_fetch-asked : (r : Request) (x : OffsetFetchRequest) → asked_offset_fetch r ≡ Some x
    → requests.OffsetFetch x ≡ r
offset_fetch-asked (requests.OffsetFetch y) x e = cc
offset_fetch-asked _ x e = absurd cc

abbrev pub answered_offset_fetch : Reply → Option OffsetFetchReply
answered_offset_fetch (replies.OffsetFetch r) = Some r
answered_offset_fetch _ = None

pub offset_fetch-answered : (r : Reply) (x : OffsetFetchReply) → answered_offset_fetch r ≡ Some x
    → replies.OffsetFetch x ≡ r
offset_fetch-answered (replies.OffsetFetch y) x e = cc
offset_fetch-answered _ x e = absurd cc

-- ---- FindCoordinator

abbrev pub asked_find_coordinator : Request → Option FindCoordinatorRequest
asked_find_coordinator (requests.FindCoordinator r) = Some r
asked_find_coordinator _ = None

pub find_coordinator-asked : (r : Request) (x : FindCoordinatorRequest)
    → asked_find_coordinator r ≡ Some x → requests.FindCoordinator x ≡ r
find_coordinator-asked (requests.FindCoordinator y) x e = cc
find_coordinator-asked _ x e = absurd cc

abbrev pub answered_find_coordinator : Reply → Option FindCoordinatorReply
answered_find_coordinator (replies.FindCoordinator r) = Some r
answered_find_coordinator _ = None

pub find_coordinator-answered : (r : Reply) (x : FindCoordinatorReply)
    → answered_find_coordinator r ≡ Some x → replies.FindCoordinator x ≡ r
find_coordinator-answered (replies.FindCoordinator y) x e = cc
find_coordinator-answered _ x e = absurd cc

-- ---- JoinGroup

abbrev pub asked_join_group : Request → Option JoinGroupRequest
asked_join_group (requests.JoinGroup r) = Some r
asked_join_group _ = None

pub join_group-asked : (r : Request) (x : JoinGroupRequest) → asked_join_group r ≡ Some x
    → requests.JoinGroup x ≡ r
join_group-asked (requests.JoinGroup y) x e = cc
join_group-asked _ x e = absurd cc

abbrev pub answered_join_group : Reply → Option JoinGroupReply
answered_join_group (replies.JoinGroup r) = Some r
answered_join_group _ = None

pub join_group-answered : (r : Reply) (x : JoinGroupReply) → answered_join_group r ≡ Some x
    → replies.JoinGroup x ≡ r
join_group-answered (replies.JoinGroup y) x e = cc
join_group-answered _ x e = absurd cc

-- ---- Heartbeat

abbrev pub asked_heartbeat : Request → Option HeartbeatRequest
asked_heartbeat (requests.Heartbeat r) = Some r
asked_heartbeat _ = None

pub heartbeat-asked : (r : Request) (x : HeartbeatRequest) → asked_heartbeat r ≡ Some x
    → requests.Heartbeat x ≡ r
heartbeat-asked (requests.Heartbeat y) x e = cc
heartbeat-asked _ x e = absurd cc

abbrev pub answered_heartbeat : Reply → Option HeartbeatReply
answered_heartbeat (replies.Heartbeat r) = Some r
answered_heartbeat _ = None

pub heartbeat-answered : (r : Reply) (x : HeartbeatReply) → answered_heartbeat r ≡ Some x
    → replies.Heartbeat x ≡ r
heartbeat-answered (replies.Heartbeat y) x e = cc
heartbeat-answered _ x e = absurd cc

-- ---- LeaveGroup

abbrev pub asked_leave_group : Request → Option LeaveGroupRequest
asked_leave_group (requests.LeaveGroup r) = Some r
asked_leave_group _ = None

pub leave_group-asked : (r : Request) (x : LeaveGroupRequest) → asked_leave_group r ≡ Some x
    → requests.LeaveGroup x ≡ r
leave_group-asked (requests.LeaveGroup y) x e = cc
leave_group-asked _ x e = absurd cc

abbrev pub answered_leave_group : Reply → Option LeaveGroupReply
answered_leave_group (replies.LeaveGroup r) = Some r
answered_leave_group _ = None

pub leave_group-answered : (r : Reply) (x : LeaveGroupReply) → answered_leave_group r ≡ Some x
    → replies.LeaveGroup x ≡ r
leave_group-answered (replies.LeaveGroup y) x e = cc
leave_group-answered _ x e = absurd cc

-- ---- SyncGroup

abbrev pub asked_sync_group : Request → Option SyncGroupRequest
asked_sync_group (requests.SyncGroup r) = Some r
asked_sync_group _ = None

pub sync_group-asked : (r : Request) (x : SyncGroupRequest) → asked_sync_group r ≡ Some x
    → requests.SyncGroup x ≡ r
sync_group-asked (requests.SyncGroup y) x e = cc
sync_group-asked _ x e = absurd cc

abbrev pub answered_sync_group : Reply → Option SyncGroupReply
answered_sync_group (replies.SyncGroup r) = Some r
answered_sync_group _ = None

pub sync_group-answered : (r : Reply) (x : SyncGroupReply) → answered_sync_group r ≡ Some x
    → replies.SyncGroup x ≡ r
sync_group-answered (replies.SyncGroup y) x e = cc
sync_group-answered _ x e = absurd cc

-- ---- SaslHandshake

abbrev pub asked_sasl_handshake : Request → Option SaslHandshakeRequest
asked_sasl_handshake (requests.SaslHandshake r) = Some r
asked_sasl_handshake _ = None

pub sasl_handshake-asked : (r : Request) (x : SaslHandshakeRequest)
    → asked_sasl_handshake r ≡ Some x → requests.SaslHandshake x ≡ r
sasl_handshake-asked (requests.SaslHandshake y) x e = cc
sasl_handshake-asked _ x e = absurd cc

abbrev pub answered_sasl_handshake : Reply → Option SaslHandshakeReply
answered_sasl_handshake (replies.SaslHandshake r) = Some r
answered_sasl_handshake _ = None

pub sasl_handshake-answered : (r : Reply) (x : SaslHandshakeReply)
    → answered_sasl_handshake r ≡ Some x → replies.SaslHandshake x ≡ r
sasl_handshake-answered (replies.SaslHandshake y) x e = cc
sasl_handshake-answered _ x e = absurd cc

-- ---- ApiVersions

abbrev pub is_api_versions : Request → Bool
is_api_versions requests.ApiVersions = true
is_api_versions _ = false

pub api_versions-only : (r : Request) → is_api_versions r ≡ true → r ≡ requests.ApiVersions
api_versions-only requests.ApiVersions e = refl
api_versions-only _ e = absurd cc

abbrev pub answered_api_versions : Reply → Option ApiVersionsReply
answered_api_versions (replies.ApiVersions r) = Some r
answered_api_versions _ = None

pub api_versions-answered : (r : Reply) (x : ApiVersionsReply) → answered_api_versions r ≡ Some x
    → replies.ApiVersions x ≡ r
api_versions-answered (replies.ApiVersions y) x e = cc
api_versions-answered _ x e = absurd cc

-- ---- InitProducerId

abbrev pub asked_init_producer_id : Request → Option InitProducerIdRequest
asked_init_producer_id (requests.InitProducerId r) = Some r
asked_init_producer_id _ = None

pub init_producer_id-asked : (r : Request) (x : InitProducerIdRequest)
    → asked_init_producer_id r ≡ Some x → requests.InitProducerId x ≡ r
init_producer_id-asked (requests.InitProducerId y) x e = cc
init_producer_id-asked _ x e = absurd cc

abbrev pub answered_init_producer_id : Reply → Option InitProducerIdReply
answered_init_producer_id (replies.InitProducerId r) = Some r
answered_init_producer_id _ = None

pub init_producer_id-answered : (r : Reply) (x : InitProducerIdReply)
    → answered_init_producer_id r ≡ Some x → replies.InitProducerId x ≡ r
init_producer_id-answered (replies.InitProducerId y) x e = cc
init_producer_id-answered _ x e = absurd cc

-- ---- AddPartitionsToTxn

abbrev pub asked_add_partitions_to_txn : Request → Option AddPartitionsToTxnRequest
asked_add_partitions_to_txn (requests.AddPartitionsToTxn r) = Some r
asked_add_partitions_to_txn _ = None

pub add_partitions_to_txn-asked : (r : Request) (x : AddPartitionsToTxnRequest)
    → asked_add_partitions_to_txn r ≡ Some x → requests.AddPartitionsToTxn x ≡ r
add_partitions_to_txn-asked (requests.AddPartitionsToTxn y) x e = cc
add_partitions_to_txn-asked _ x e = absurd cc

abbrev pub answered_add_partitions_to_txn : Reply → Option AddPartitionsToTxnReply
answered_add_partitions_to_txn (replies.AddPartitionsToTxn r) = Some r
answered_add_partitions_to_txn _ = None

pub add_partitions_to_txn-answered : (r : Reply) (x : AddPartitionsToTxnReply)
    → answered_add_partitions_to_txn r ≡ Some x → replies.AddPartitionsToTxn x ≡ r
add_partitions_to_txn-answered (replies.AddPartitionsToTxn y) x e = cc
add_partitions_to_txn-answered _ x e = absurd cc

-- ---- AddOffsetsToTxn

abbrev pub asked_add_offsets_to_txn : Request → Option AddOffsetsToTxnRequest
asked_add_offsets_to_txn (requests.AddOffsetsToTxn r) = Some r
asked_add_offsets_to_txn _ = None

pub add_offsets_to_txn-asked : (r : Request) (x : AddOffsetsToTxnRequest)
    → asked_add_offsets_to_txn r ≡ Some x → requests.AddOffsetsToTxn x ≡ r
add_offsets_to_txn-asked (requests.AddOffsetsToTxn y) x e = cc
add_offsets_to_txn-asked _ x e = absurd cc

abbrev pub answered_add_offsets_to_txn : Reply → Option AddOffsetsToTxnReply
answered_add_offsets_to_txn (replies.AddOffsetsToTxn r) = Some r
answered_add_offsets_to_txn _ = None

pub add_offsets_to_txn-answered : (r : Reply) (x : AddOffsetsToTxnReply)
    → answered_add_offsets_to_txn r ≡ Some x → replies.AddOffsetsToTxn x ≡ r
add_offsets_to_txn-answered (replies.AddOffsetsToTxn y) x e = cc
add_offsets_to_txn-answered _ x e = absurd cc

-- ---- EndTxn

abbrev pub asked_end_txn : Request → Option EndTxnRequest
asked_end_txn (requests.EndTxn r) = Some r
asked_end_txn _ = None

pub end_txn-asked : (r : Request) (x : EndTxnRequest) → asked_end_txn r ≡ Some x
    → requests.EndTxn x ≡ r
end_txn-asked (requests.EndTxn y) x e = cc
end_txn-asked _ x e = absurd cc

abbrev pub answered_end_txn : Reply → Option EndTxnReply
answered_end_txn (replies.EndTxn r) = Some r
answered_end_txn _ = None

pub end_txn-answered : (r : Reply) (x : EndTxnReply) → answered_end_txn r ≡ Some x
    → replies.EndTxn x ≡ r
end_txn-answered (replies.EndTxn y) x e = cc
end_txn-answered _ x e = absurd cc

-- ---- TxnOffsetCommit

abbrev pub asked_txn_offset_commit : Request → Option TxnOffsetCommitRequest
asked_txn_offset_commit (requests.TxnOffsetCommit r) = Some r
asked_txn_offset_commit _ = None

pub txn_offset_commit-asked : (r : Request) (x : TxnOffsetCommitRequest)
    → asked_txn_offset_commit r ≡ Some x → requests.TxnOffsetCommit x ≡ r
txn_offset_commit-asked (requests.TxnOffsetCommit y) x e = cc
txn_offset_commit-asked _ x e = absurd cc

abbrev pub answered_txn_offset_commit : Reply → Option TxnOffsetCommitReply
answered_txn_offset_commit (replies.TxnOffsetCommit r) = Some r
answered_txn_offset_commit _ = None

pub txn_offset_commit-answered : (r : Reply) (x : TxnOffsetCommitReply)
    → answered_txn_offset_commit r ≡ Some x → replies.TxnOffsetCommit x ≡ r
txn_offset_commit-answered (replies.TxnOffsetCommit y) x e = cc
txn_offset_commit-answered _ x e = absurd cc

-- ---- DescribeAcls

abbrev pub asked_describe_acls : Request → Option DescribeAclsRequest
asked_describe_acls (requests.DescribeAcls r) = Some r
asked_describe_acls _ = None

pub describe_acls-asked : (r : Request) (x : DescribeAclsRequest) → asked_describe_acls r ≡ Some x
    → requests.DescribeAcls x ≡ r
describe_acls-asked (requests.DescribeAcls y) x e = cc
describe_acls-asked _ x e = absurd cc

abbrev pub answered_describe_acls : Reply → Option DescribeAclsReply
answered_describe_acls (replies.DescribeAcls r) = Some r
answered_describe_acls _ = None

pub describe_acls-answered : (r : Reply) (x : DescribeAclsReply) → answered_describe_acls r ≡ Some x
    → replies.DescribeAcls x ≡ r
describe_acls-answered (replies.DescribeAcls y) x e = cc
describe_acls-answered _ x e = absurd cc

-- ---- CreateAcls

abbrev pub asked_create_acls : Request → Option CreateAclsRequest
asked_create_acls (requests.CreateAcls r) = Some r
asked_create_acls _ = None

pub create_acls-asked : (r : Request) (x : CreateAclsRequest) → asked_create_acls r ≡ Some x
    → requests.CreateAcls x ≡ r
create_acls-asked (requests.CreateAcls y) x e = cc
create_acls-asked _ x e = absurd cc

abbrev pub answered_create_acls : Reply → Option CreateAclsReply
answered_create_acls (replies.CreateAcls r) = Some r
answered_create_acls _ = None

pub create_acls-answered : (r : Reply) (x : CreateAclsReply) → answered_create_acls r ≡ Some x
    → replies.CreateAcls x ≡ r
create_acls-answered (replies.CreateAcls y) x e = cc
create_acls-answered _ x e = absurd cc

-- ---- DeleteAcls

abbrev pub asked_delete_acls : Request → Option DeleteAclsRequest
asked_delete_acls (requests.DeleteAcls r) = Some r
asked_delete_acls _ = None

pub delete_acls-asked : (r : Request) (x : DeleteAclsRequest) → asked_delete_acls r ≡ Some x
    → requests.DeleteAcls x ≡ r
delete_acls-asked (requests.DeleteAcls y) x e = cc
delete_acls-asked _ x e = absurd cc

abbrev pub answered_delete_acls : Reply → Option DeleteAclsReply
answered_delete_acls (replies.DeleteAcls r) = Some r
answered_delete_acls _ = None

pub delete_acls-answered : (r : Reply) (x : DeleteAclsReply) → answered_delete_acls r ≡ Some x
    → replies.DeleteAcls x ≡ r
delete_acls-answered (replies.DeleteAcls y) x e = cc
delete_acls-answered _ x e = absurd cc

-- ---- SaslAuthenticate

abbrev pub asked_sasl_authenticate : Request → Option SaslAuthenticateRequest
asked_sasl_authenticate (requests.SaslAuthenticate r) = Some r
asked_sasl_authenticate _ = None

pub sasl_authenticate-asked : (r : Request) (x : SaslAuthenticateRequest)
    → asked_sasl_authenticate r ≡ Some x → requests.SaslAuthenticate x ≡ r
sasl_authenticate-asked (requests.SaslAuthenticate y) x e = cc
sasl_authenticate-asked _ x e = absurd cc

abbrev pub answered_sasl_authenticate : Reply → Option SaslAuthenticateReply
answered_sasl_authenticate (replies.SaslAuthenticate r) = Some r
answered_sasl_authenticate _ = None

pub sasl_authenticate-answered : (r : Reply) (x : SaslAuthenticateReply)
    → answered_sasl_authenticate r ≡ Some x → replies.SaslAuthenticate x ≡ r
sasl_authenticate-answered (replies.SaslAuthenticate y) x e = cc
sasl_authenticate-answered _ x e = absurd cc

-- ---- by api

-- in the form of a version
abbrev pub request_form : ApiKey → ℤ → Body Request
request_form keys.Produce version =
    body_of (variant requests.Produce asked_produce (λ x. refl) produce-asked produce_request)
request_form keys.Fetch version =
    body_of (variant requests.Fetch asked_fetch (λ x. refl) fetch-asked fetch_request)
request_form keys.ListOffsets version =
    body_of
    (variant requests.ListOffsets asked_list_offsets (λ x. refl) list_offsets-asked
    list_offsets_request)
request_form keys.Metadata version =
    body_of (variant requests.Metadata asked_metadata (λ x. refl) metadata-asked metadata_request)
request_form keys.OffsetCommit version =
    body_of
    (variant requests.OffsetCommit asked_offset_commit (λ x. refl) offset_commit-asked
    offset_commit_request)
request_form keys.OffsetFetch version =
    body_of
    (variant requests.OffsetFetch asked_offset_fetch (λ x. refl) offset_fetch-asked
    offset_fetch_request)
request_form keys.FindCoordinator version =
    body_of
    (variant requests.FindCoordinator asked_find_coordinator (λ x. refl) find_coordinator-asked
    find_coordinator_request)
request_form keys.JoinGroup version =
    body_of
    (variant requests.JoinGroup asked_join_group (λ x. refl) join_group-asked join_group_request)
request_form keys.Heartbeat version =
    body_of
    (variant requests.Heartbeat asked_heartbeat (λ x. refl) heartbeat-asked heartbeat_request)
request_form keys.LeaveGroup version =
    body_of
    (variant requests.LeaveGroup asked_leave_group (λ x. refl) leave_group-asked
    leave_group_request)
request_form keys.SyncGroup version =
    body_of
    (variant requests.SyncGroup asked_sync_group (λ x. refl) sync_group-asked sync_group_request)
request_form keys.SaslHandshake version =
    body_of
    (variant requests.SaslHandshake asked_sasl_handshake (λ x. refl) sasl_handshake-asked
    sasl_handshake_request)
request_form keys.ApiVersions version =
    empty_body requests.ApiVersions is_api_versions refl api_versions-only
request_form keys.InitProducerId version =
    body_of
    (variant requests.InitProducerId asked_init_producer_id (λ x. refl) init_producer_id-asked
    init_producer_id_request)
request_form keys.AddPartitionsToTxn version =
    body_of
    (variant requests.AddPartitionsToTxn asked_add_partitions_to_txn (λ x. refl)
    add_partitions_to_txn-asked add_partitions_to_txn_request)
request_form keys.AddOffsetsToTxn version =
    body_of
    (variant requests.AddOffsetsToTxn asked_add_offsets_to_txn (λ x. refl)
    add_offsets_to_txn-asked add_offsets_to_txn_request)
request_form keys.EndTxn version =
    body_of
    (variant requests.EndTxn asked_end_txn (λ x. refl) end_txn-asked (end_txn_request version))
request_form keys.TxnOffsetCommit version =
    body_of
    (variant requests.TxnOffsetCommit asked_txn_offset_commit (λ x. refl) txn_offset_commit-asked
    txn_offset_commit_request)
request_form keys.DescribeAcls version =
    body_of
    (variant requests.DescribeAcls asked_describe_acls (λ x. refl) describe_acls-asked
    describe_acls_request)
request_form keys.CreateAcls version =
    body_of
    (variant requests.CreateAcls asked_create_acls (λ x. refl) create_acls-asked
    create_acls_request)
request_form keys.DeleteAcls version =
    body_of
    (variant requests.DeleteAcls asked_delete_acls (λ x. refl) delete_acls-asked
    delete_acls_request)
request_form keys.SaslAuthenticate version =
    body_of
    (variant requests.SaslAuthenticate asked_sasl_authenticate (λ x. refl) sasl_authenticate-asked
    sasl_authenticate_request)

unfoldable pub request_body : Api → Body Request
request_body api = request_form api.key api.version

abbrev pub reply_form : ApiKey → ℤ → Grammar Reply
reply_form keys.Produce version =
    variant replies.Produce answered_produce (λ x. refl) produce-answered produce_reply
reply_form keys.Fetch version =
    variant replies.Fetch answered_fetch (λ x. refl) fetch-answered fetch_reply
reply_form keys.ListOffsets version =
    variant replies.ListOffsets answered_list_offsets (λ x. refl) list_offsets-answered
    list_offsets_reply
reply_form keys.Metadata version =
    variant replies.Metadata answered_metadata (λ x. refl) metadata-answered metadata_reply
reply_form keys.OffsetCommit version =
    variant replies.OffsetCommit answered_offset_commit (λ x. refl) offset_commit-answered
    offset_commit_reply
reply_form keys.OffsetFetch version =
    variant replies.OffsetFetch answered_offset_fetch (λ x. refl) offset_fetch-answered
    offset_fetch_reply
reply_form keys.FindCoordinator version =
    variant replies.FindCoordinator answered_find_coordinator (λ x. refl) find_coordinator-answered
    find_coordinator_reply
reply_form keys.JoinGroup version =
    variant replies.JoinGroup answered_join_group (λ x. refl) join_group-answered join_group_reply
reply_form keys.Heartbeat version =
    variant replies.Heartbeat answered_heartbeat (λ x. refl) heartbeat-answered heartbeat_reply
reply_form keys.LeaveGroup version =
    variant replies.LeaveGroup answered_leave_group (λ x. refl) leave_group-answered
    leave_group_reply
reply_form keys.SyncGroup version =
    variant replies.SyncGroup answered_sync_group (λ x. refl) sync_group-answered sync_group_reply
reply_form keys.SaslHandshake version =
    variant replies.SaslHandshake answered_sasl_handshake (λ x. refl) sasl_handshake-answered
    sasl_handshake_reply
reply_form keys.ApiVersions version =
    variant replies.ApiVersions answered_api_versions (λ x. refl) api_versions-answered
    api_versions_reply
reply_form keys.InitProducerId version =
    variant replies.InitProducerId answered_init_producer_id (λ x. refl) init_producer_id-answered
    init_producer_id_reply
reply_form keys.AddPartitionsToTxn version =
    variant replies.AddPartitionsToTxn answered_add_partitions_to_txn (λ x. refl)
    add_partitions_to_txn-answered add_partitions_to_txn_reply
reply_form keys.AddOffsetsToTxn version =
    variant replies.AddOffsetsToTxn answered_add_offsets_to_txn (λ x. refl)
    add_offsets_to_txn-answered add_offsets_to_txn_reply
reply_form keys.EndTxn version =
    variant replies.EndTxn answered_end_txn (λ x. refl) end_txn-answered (end_txn_reply version)
reply_form keys.TxnOffsetCommit version =
    variant replies.TxnOffsetCommit answered_txn_offset_commit (λ x. refl)
    txn_offset_commit-answered txn_offset_commit_reply
reply_form keys.DescribeAcls version =
    variant replies.DescribeAcls answered_describe_acls (λ x. refl) describe_acls-answered
    describe_acls_reply
reply_form keys.CreateAcls version =
    variant replies.CreateAcls answered_create_acls (λ x. refl) create_acls-answered
    create_acls_reply
reply_form keys.DeleteAcls version =
    variant replies.DeleteAcls answered_delete_acls (λ x. refl) delete_acls-answered
    delete_acls_reply
reply_form keys.SaslAuthenticate version =
    variant replies.SaslAuthenticate answered_sasl_authenticate (λ x. refl)
    sasl_authenticate-answered sasl_authenticate_reply

unfoldable pub reply_body : Api → Grammar Reply
reply_body api = reply_form api.key api.version
