-- The grammars of the Heartbeat messages, version 1 (Kafka protocol guide, "Heartbeat API (Key:
-- 12)").
use Rattle.std.specs.Prelude.{refl}
use Rattle.wire_types.specs.Grammar.{Grammar}
use Rattle.wire_types.specs.Combinators.{struct, ◌⨟◌}
use Rattle.wire_types.specs.Schema.{int32, string}
use Rattle.wire_types.specs.ErrorCode.{error_code}
use Rattle.msg_group.specs.declared.heartbeat.HeartbeatRequest.{HeartbeatRequest}
use Rattle.msg_group.specs.declared.heartbeat.HeartbeatReply.{HeartbeatReply}

-- Heartbeat Request => group_id generation_id member_id
abbrev pub heartbeat_request : Grammar HeartbeatRequest
heartbeat_request = struct
    (λ (group, (generation, member)).
    record { group = group; generation = generation; member = member })
    (λ r. (r.group, (r.generation, r.member)))
    (λ x. refl) (λ r. refl)
    (string  -- group_id
    ⨟ int32  -- generation_id
    ⨟ string)  -- member_id

-- Heartbeat Response => throttle_time_ms error_code
abbrev pub heartbeat_reply : Grammar HeartbeatReply
heartbeat_reply = struct
    (λ (throttle, error). record { throttle = throttle; error = error })
    (λ r. (r.throttle, r.error))
    (λ x. refl) (λ r. refl)
    (int32  -- throttle_time_ms
    ⨟ error_code)  -- error_code
