-- One event: the plain answer to the allowed part of a request, with each refused part's code at
-- its place.
use Rattle.std.specs.Prelude.{Bool, true, false, ◌+◌, List, [], ◌∷◌}
use Rattle.acl_binding.specs.declared.question.Caller.{Caller}
use Rattle.authorizer.specs.declared.answer.Refusal.{Refusal}
use Rattle.msg_admin.specs.declared.request.Request.{Request}
use Rattle.msg_admin.specs.declared.request.Request.TheVariants as requests
use Rattle.msg_admin.specs.declared.reply.Reply.{Reply}
use Rattle.audit_trail.specs.declared.event.Event.{Event}
use Rattle.audit_trail.specs.declared.event.Event.TheVariants.{Ask, Mark, Tick}
use Rattle.broker_world.specs.World.{World}
use Rattle.broker_world.specs.HandlerResult.{HandlerResult}
use Rattle.data_handlers.specs.Metadata.{metadata_outcome}
use Rattle.data_handlers.specs.Produce.{produce_outcome}
use Rattle.data_handlers.specs.Fetch.{fetch_outcome}
use Rattle.data_handlers.specs.ListOffsets.{list_offsets_outcome}
use Rattle.txn_handlers.specs.InitProducerId.{init_producer_id_outcome}
use Rattle.txn_handlers.specs.AddPartitions.{add_partitions_outcome}
use Rattle.txn_handlers.specs.AddOffsets.{add_offsets_outcome}
use Rattle.txn_handlers.specs.EndTxn.{end_txn_outcome}
use Rattle.txn_handlers.specs.TxnOffsetCommit.{txn_offset_commit_outcome}
use Rattle.txn_handlers.specs.Marks.{mark_outcome}
use Rattle.api_dispatch.specs.Ticks.{tick_outcome}
use Rattle.api_dispatch.specs.Logins.{api_versions_outcome, sasl_handshake_outcome, sasl_authenticate_outcome}
use Rattle.group_handlers.specs.Members.{join_group_outcome, sync_group_outcome, heartbeat_outcome, leave_group_outcome}
use Rattle.group_handlers.specs.FindCoordinator.{find_coordinator_outcome}
use Rattle.group_handlers.specs.OffsetCommit.{offset_commit_outcome}
use Rattle.group_handlers.specs.OffsetFetch.{offset_fetch_outcome}
use Rattle.acl_handlers.specs.DescribeAcls.{describe_acls_outcome}
use Rattle.acl_handlers.specs.CreateAcls.{create_acls_outcome}
use Rattle.acl_handlers.specs.DeleteAcls.{delete_acls_outcome}

-- permissions are those of the book at the event's start
abbrev pub request_outcome : World → Caller → Request → HandlerResult
request_outcome w caller (requests.Produce r) = produce_outcome w caller r
request_outcome w caller (requests.Fetch r) = fetch_outcome w caller r
request_outcome w caller (requests.ListOffsets r) = list_offsets_outcome w caller r
request_outcome w caller (requests.Metadata r) = metadata_outcome w caller r
request_outcome w caller (requests.OffsetCommit r) = offset_commit_outcome w caller r
request_outcome w caller (requests.OffsetFetch r) = offset_fetch_outcome w caller r
request_outcome w caller (requests.FindCoordinator r) = find_coordinator_outcome w caller r
request_outcome w caller (requests.JoinGroup r) = join_group_outcome w caller r
request_outcome w caller (requests.Heartbeat r) = heartbeat_outcome w caller r
request_outcome w caller (requests.LeaveGroup r) = leave_group_outcome w caller r
request_outcome w caller (requests.SyncGroup r) = sync_group_outcome w caller r
request_outcome w caller (requests.SaslHandshake r) = sasl_handshake_outcome w
request_outcome w caller requests.ApiVersions = api_versions_outcome w
request_outcome w caller (requests.InitProducerId r) = init_producer_id_outcome w caller r
request_outcome w caller (requests.AddPartitionsToTxn r) = add_partitions_outcome w caller r
request_outcome w caller (requests.AddOffsetsToTxn r) = add_offsets_outcome w caller r
request_outcome w caller (requests.EndTxn r) = end_txn_outcome w caller r
request_outcome w caller (requests.TxnOffsetCommit r) = txn_offset_commit_outcome w caller r
request_outcome w caller (requests.DescribeAcls r) = describe_acls_outcome w caller r
request_outcome w caller (requests.CreateAcls r) = create_acls_outcome w caller r
request_outcome w caller (requests.DeleteAcls r) = delete_acls_outcome w caller r
request_outcome w caller (requests.SaslAuthenticate r) = sasl_authenticate_outcome w

abbrev pub outcome : World → Event → HandlerResult
outcome w (Ask caller client request) = request_outcome w caller request
outcome w Mark = mark_outcome w
outcome w (Tick told) = tick_outcome w told

-- one event more
abbrev pub with_event_counted : World → World
with_event_counted w = record w { events = w.events + 1 }

abbrev pub step : World → Event → World
step w e = with_event_counted (outcome w e).world

abbrev pub reply_to : World → Event → Reply
reply_to w e = (outcome w e).reply

abbrev pub refusals_of : World → Event → List Refusal
refusals_of w e = (outcome w e).refusals

-- the world after the events, one after the other
abbrev pub world_after_events : World → List Event → World
world_after_events w [] = w
world_after_events w (e ∷ es) = world_after_events (step w e) es

-- ---- requests that only read

abbrev pub is_reading_request : Request → Bool
is_reading_request (requests.Produce r) = false
is_reading_request (requests.Fetch r) = true
is_reading_request (requests.ListOffsets r) = true
is_reading_request (requests.Metadata r) = true
is_reading_request (requests.OffsetCommit r) = false
is_reading_request (requests.OffsetFetch r) = true
is_reading_request (requests.FindCoordinator r) = true
is_reading_request (requests.JoinGroup r) = false
is_reading_request (requests.Heartbeat r) = false
is_reading_request (requests.LeaveGroup r) = false
is_reading_request (requests.SyncGroup r) = false
is_reading_request (requests.SaslHandshake r) = true
is_reading_request requests.ApiVersions = true
is_reading_request (requests.InitProducerId r) = false
is_reading_request (requests.AddPartitionsToTxn r) = false
is_reading_request (requests.AddOffsetsToTxn r) = false
is_reading_request (requests.EndTxn r) = false
is_reading_request (requests.TxnOffsetCommit r) = false
is_reading_request (requests.DescribeAcls r) = true
is_reading_request (requests.CreateAcls r) = false
is_reading_request (requests.DeleteAcls r) = false
is_reading_request (requests.SaslAuthenticate r) = true

-- the event changes nothing but the number of events
abbrev pub is_reading : Event → Bool
is_reading (Ask caller client request) = is_reading_request request
is_reading Mark = false
is_reading (Tick told) = false
