-- JoinGroup, SyncGroup, Heartbeat and LeaveGroup: what they ask, and what they are answered (Kafka
-- protocol guide, "JoinGroup API (Key: 11)", "Heartbeat API (Key: 12)", "LeaveGroup API (Key: 13)",
-- "SyncGroup API (Key: 14)").
use Rattle.std.specs.Prelude.{ℕ, pos, negsuc, List, [], ◌∷◌, Result, Ok, Err}
use Rattle.acl_binding.specs.declared.question.Caller.{Caller}
use Rattle.wire_types.specs.declared.error_code.ErrorCode.{ErrorCode}
use Rattle.wire_types.specs.declared.error_code.ErrorCode.TheVariants as codes
use Rattle.msg_group.specs.declared.join_group.JoinGroupRequest.{JoinGroupRequest}
use Rattle.msg_group.specs.declared.join_group.JoinGroupReply.{JoinGroupReply}
use Rattle.msg_group.specs.declared.sync_group.SyncGroupRequest.{SyncGroupRequest}
use Rattle.msg_group.specs.declared.sync_group.SyncGroupReply.{SyncGroupReply}
use Rattle.msg_group.specs.declared.heartbeat.HeartbeatRequest.{HeartbeatRequest}
use Rattle.msg_group.specs.declared.heartbeat.HeartbeatReply.{HeartbeatReply}
use Rattle.msg_group.specs.declared.leave_group.LeaveGroupRequest.{LeaveGroupRequest}
use Rattle.msg_group.specs.declared.leave_group.LeaveGroupReply.{LeaveGroupReply}
use Rattle.msg_admin.specs.declared.reply.Reply.TheVariants as replies
use Rattle.group_offsets.specs.declared.member.Joined.{Joined}
use Rattle.group_offsets.specs.GroupTransition.{answer_of}
use Rattle.group_offsets.specs.Groups.{groups_after, join, sync, beat, leave}
use Rattle.broker_world.specs.World.{World}
use Rattle.broker_world.specs.HandlerResult.{HandlerResult}
use Rattle.broker_world.specs.Whole.{Served, whole_outcome}
use Rattle.broker_world.specs.Questions.{read_question}
use Rattle.broker_world.specs.Codes.{code_in}

-- ---- JoinGroup

-- the one member leads, and is told of itself
abbrev pub join_welcome : Joined → JoinGroupReply
join_welcome j = record {
  throttle = pos 0;
  error = codes.None;
  generation = j.generation;
  protocol = j.protocol.name;
  leader = j.member;
  member = j.member;
  members = record { member = j.member; metadata = j.protocol.metadata } ∷ [];
}

abbrev pub join_error : ErrorCode → JoinGroupRequest → JoinGroupReply
join_error code r =
    record {
      throttle = pos 0;
      error = code;
      generation = negsuc 0;
      protocol = [];
      leader = [];
      member = r.member;
      members = [];
    }

abbrev pub join_reply : Result Joined ErrorCode → JoinGroupRequest → JoinGroupReply
join_reply (Ok j) r = join_welcome j
join_reply (Err code) r = join_error code r

-- a new member is named after the event's place
abbrev pub served_join : World → JoinGroupRequest → Served
served_join w r =
    record {
      world = record w
          { groups = groups_after w.groups (join w.groups r w.events w.moment) };
      reply = replies.JoinGroup (join_reply (answer_of (join w.groups r w.events w.moment)) r);
    }

abbrev pub join_group_outcome : World → Caller → JoinGroupRequest → HandlerResult
join_group_outcome w caller r =
    whole_outcome w (read_question caller r.group ∷ [])
    (λ code. replies.JoinGroup (join_error code r)) (served_join w r)

-- ---- SyncGroup

abbrev pub sync_reply : Result (List ℕ) ErrorCode → SyncGroupReply
sync_reply (Ok assignment) =
    record { throttle = pos 0; error = codes.None; assignment = assignment }
sync_reply (Err code) = record { throttle = pos 0; error = code; assignment = [] }

abbrev pub served_sync : World → SyncGroupRequest → Served
served_sync w r =
    record {
      world = record w { groups = groups_after w.groups (sync w.groups r w.moment) };
      reply = replies.SyncGroup (sync_reply (answer_of (sync w.groups r w.moment)));
    }

abbrev pub sync_group_outcome : World → Caller → SyncGroupRequest → HandlerResult
sync_group_outcome w caller r =
    whole_outcome w (read_question caller r.group ∷ [])
    (λ code. replies.SyncGroup (sync_reply (Err code))) (served_sync w r)

-- ---- Heartbeat

abbrev pub beat_reply : ErrorCode → HeartbeatReply
beat_reply code = record { throttle = pos 0; error = code }

abbrev pub served_heartbeat : World → HeartbeatRequest → Served
served_heartbeat w r =
    record {
      world = record w { groups = groups_after w.groups (beat w.groups r w.moment) };
      reply = replies.Heartbeat (beat_reply (code_in (answer_of (beat w.groups r w.moment))));
    }

abbrev pub heartbeat_outcome : World → Caller → HeartbeatRequest → HandlerResult
heartbeat_outcome w caller r =
    whole_outcome w (read_question caller r.group ∷ [])
    (λ code. replies.Heartbeat (beat_reply code)) (served_heartbeat w r)

-- ---- LeaveGroup

abbrev pub leave_reply : ErrorCode → LeaveGroupReply
leave_reply code = record { throttle = pos 0; error = code }

abbrev pub served_leave : World → LeaveGroupRequest → Served
served_leave w r =
    record {
      world = record w { groups = groups_after w.groups (leave w.groups r) };
      reply = replies.LeaveGroup (leave_reply (code_in (answer_of (leave w.groups r))));
    }

abbrev pub leave_group_outcome : World → Caller → LeaveGroupRequest → HandlerResult
leave_group_outcome w caller r =
    whole_outcome w (read_question caller r.group ∷ [])
    (λ code. replies.LeaveGroup (leave_reply code)) (served_leave w r)
