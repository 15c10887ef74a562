-- The grammars of the JoinGroup messages, version 2 (Kafka protocol guide, "JoinGroup API (Key:
-- 11)").
use Rattle.std.specs.Prelude.{ℕ, List, [], ◌∷◌, refl}
use Rattle.std.specs.List.{flat_map}
use Rattle.wire_types.specs.Grammar.{Grammar}
use Rattle.wire_types.specs.Combinators.{struct, ◌⨟◌}
use Rattle.wire_types.specs.Schema.{int32, string, bytes, array}
use Rattle.wire_types.specs.ErrorCode.{error_code}
use Rattle.msg_group.specs.declared.join_group.OfferedProtocol.{OfferedProtocol}
use Rattle.msg_group.specs.declared.join_group.JoinGroupRequest.{JoinGroupRequest}
use Rattle.msg_group.specs.declared.join_group.JoinedMember.{JoinedMember}
use Rattle.msg_group.specs.declared.join_group.JoinGroupReply.{JoinGroupReply}

-- protocols => name metadata
abbrev pub offered_protocol : Grammar OfferedProtocol
offered_protocol = struct
    (λ (name, metadata). record { name = name; metadata = metadata })
    (λ p. (p.name, p.metadata))
    (λ x. refl) (λ p. refl)
    (string  -- name
    ⨟ bytes)  -- metadata

-- JoinGroup Request => group_id session_timeout_ms rebalance_timeout_ms member_id protocol_type
-- [protocols]
abbrev pub join_group_request : Grammar JoinGroupRequest
join_group_request = struct
    (λ (group, (session_timeout, (rebalance_timeout, (member, (protocol_type, protocols))))).
    record {
      group = group;
      session_timeout = session_timeout;
      rebalance_timeout = rebalance_timeout;
      member = member;
      protocol_type = protocol_type;
      protocols = protocols;
    })
    (λ r. (
      r.group,
      (r.session_timeout, (r.rebalance_timeout, (r.member, (r.protocol_type, r.protocols)))),
    ))
    (λ x. refl) (λ r. refl)
    (string  -- group_id
    ⨟ int32  -- session_timeout_ms
    ⨟ int32  -- rebalance_timeout_ms
    ⨟ string  -- member_id
    ⨟ string  -- protocol_type
    ⨟ array offered_protocol)  -- protocols

-- members => member_id metadata
abbrev pub joined_member : Grammar JoinedMember
joined_member = struct
    (λ (member, metadata). record { member = member; metadata = metadata })
    (λ m. (m.member, m.metadata))
    (λ x. refl) (λ m. refl)
    (string  -- member_id
    ⨟ bytes)  -- metadata

-- JoinGroup Response => throttle_time_ms error_code generation_id protocol_name leader member_id
-- [members]
abbrev pub join_group_reply : Grammar JoinGroupReply
join_group_reply = struct
    (λ (throttle, (error, (generation, (protocol, (leader, (member, members)))))). record {
      throttle = throttle;
      error = error;
      generation = generation;
      protocol = protocol;
      leader = leader;
      member = member;
      members = members;
    })
    (λ r. (r.throttle, (r.error, (r.generation, (r.protocol, (r.leader, (r.member, r.members)))))))
    (λ x. refl) (λ r. refl)
    (int32  -- throttle_time_ms
    ⨟ error_code  -- error_code
    ⨟ int32  -- generation_id
    ⨟ string  -- protocol_name
    ⨟ string  -- leader
    ⨟ string  -- member_id
    ⨟ array joined_member)  -- members

-- ---- the texts of an answer

abbrev pub member_strings : JoinedMember → List (List ℕ)
member_strings m = m.member ∷ []

abbrev pub join_group_strings : JoinGroupReply → List (List ℕ)
join_group_strings r = r.protocol ∷ r.leader ∷ r.member ∷ flat_map member_strings r.members
