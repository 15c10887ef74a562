-- The grammars of the LeaveGroup messages, version 1 (Kafka protocol guide, "LeaveGroup API (Key:
-- 13)").
use Rattle.std.specs.Prelude.{refl}
use Rattle.wire_types.specs.Grammar.{Grammar}
use Rattle.wire_types.specs.Combinators.{struct, ◌⨟◌}
use Rattle.wire_types.specs.Schema.{int32, string}
use Rattle.wire_types.specs.ErrorCode.{error_code}
use Rattle.msg_group.specs.declared.leave_group.LeaveGroupRequest.{LeaveGroupRequest}
use Rattle.msg_group.specs.declared.leave_group.LeaveGroupReply.{LeaveGroupReply}

-- LeaveGroup Request => group_id member_id
abbrev pub leave_group_request : Grammar LeaveGroupRequest
leave_group_request = struct
    (λ (group, member). record { group = group; member = member })
    (λ r. (r.group, r.member))
    (λ x. refl) (λ r. refl)
    (string  -- group_id
    ⨟ string)  -- member_id

-- LeaveGroup Response => throttle_time_ms error_code
abbrev pub leave_group_reply : Grammar LeaveGroupReply
leave_group_reply = struct
    (λ (throttle, error). record { throttle = throttle; error = error })
    (λ r. (r.throttle, r.error))
    (λ x. refl) (λ r. refl)
    (int32  -- throttle_time_ms
    ⨟ error_code)  -- error_code
