-- The grammars of the SyncGroup messages, version 1 (Kafka protocol guide, "SyncGroup API (Key:
-- 14)").
use Rattle.std.specs.Prelude.{refl}
use Rattle.wire_types.specs.Grammar.{Grammar}
use Rattle.wire_types.specs.Combinators.{struct, ◌⨟◌}
use Rattle.wire_types.specs.Schema.{int32, string, bytes, array}
use Rattle.wire_types.specs.ErrorCode.{error_code}
use Rattle.msg_group.specs.declared.sync_group.MemberAssignment.{MemberAssignment}
use Rattle.msg_group.specs.declared.sync_group.SyncGroupRequest.{SyncGroupRequest}
use Rattle.msg_group.specs.declared.sync_group.SyncGroupReply.{SyncGroupReply}

-- assignments => member_id assignment
abbrev pub member_assignment : Grammar MemberAssignment
member_assignment = struct
    (λ (member, assignment). record { member = member; assignment = assignment })
    (λ a. (a.member, a.assignment))
    (λ x. refl) (λ a. refl)
    (string  -- member_id
    ⨟ bytes)  -- assignment

-- SyncGroup Request => group_id generation_id member_id [assignments]
abbrev pub sync_group_request : Grammar SyncGroupRequest
sync_group_request = struct
    (λ (group, (generation, (member, assignments))).
    record { group = group; generation = generation; member = member; assignments = assignments })
    (λ r. (r.group, (r.generation, (r.member, r.assignments))))
    (λ x. refl) (λ r. refl)
    (string  -- group_id
    ⨟ int32  -- generation_id
    ⨟ string  -- member_id
    ⨟ array member_assignment)  -- assignments

-- SyncGroup Response => throttle_time_ms error_code assignment
abbrev pub sync_group_reply : Grammar SyncGroupReply
sync_group_reply = struct
    (λ (throttle, (error, assignment)).
    record { throttle = throttle; error = error; assignment = assignment })
    (λ r. (r.throttle, (r.error, r.assignment)))
    (λ x. refl) (λ r. refl)
    (int32  -- throttle_time_ms
    ⨟ error_code  -- error_code
    ⨟ bytes)  -- assignment
