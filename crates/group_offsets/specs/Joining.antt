-- What joining a group answers, and what that leaves (Kafka protocol guide, JoinGroup; KIP-389 for
-- the limit of a group's size, which is one here).
use Rattle.std.specs.Prelude.{ℕ, ℤ, pos, negsuc, ◌+ℤ◌, ◌&&◌, List, ◌++◌, nat_le, if◌then◌else◌, Option, Some, None, is_some, slice_get, codes, decimal}
use Rattle.wire_types.specs.declared.error_code.ErrorCode.{ErrorCode}
use Rattle.wire_types.specs.declared.error_code.ErrorCode.TheVariants.{InvalidGroupId, InvalidSessionTimeout, InconsistentGroupProtocol, UnknownMemberId, GroupMaxSizeReached}
use Rattle.msg_group.specs.declared.join_group.JoinGroupRequest.{JoinGroupRequest}
use Rattle.msg_group.specs.declared.join_group.OfferedProtocol.{OfferedProtocol}
use Rattle.group_offsets.specs.declared.member.Joined.{Joined}
use Rattle.group_offsets.specs.declared.group.Group.{Group}
use Rattle.group_offsets.specs.GroupTransition.{GroupTransition, Stays, Puts}
use Rattle.group_offsets.specs.Group.{is_empty, is_member}

-- a session timeout that may be had, in milliseconds
abbrev pub session_timeout : ℤ → Option ℕ
session_timeout (pos n) = if nat_le 6000 n && nat_le n 1800000 then Some n else None
session_timeout (negsuc n) = None

-- the protocol that is chosen: the first that is offered, if its type is told
abbrev pub chosen_protocol : JoinGroupRequest → Option OfferedProtocol
chosen_protocol request =
    if is_empty request.protocol_type then None else slice_get request.protocols 0

-- why a member may not come in: it is not the member that it says to be, or there is one already
abbrev pub entry_refusal : Group → List ℕ → Option ErrorCode
entry_refusal g member =
    if is_empty member then (if is_some g.member then Some GroupMaxSizeReached else None) else
    (if is_member g member then None else Some UnknownMemberId)

-- the id of a member that joins by the event at this place: a new one if it brings none
abbrev pub member_id : List ℕ → ℕ → List ℕ
member_id member place = if is_empty member then codes "m-" ++ decimal place else member

-- with the member in: a new generation begins, and its sync is awaited
abbrev pub with_member : List ℕ → ℕ → Group → ℕ → Group
with_member id timeout g moment =
    record g {
      member = Some (record { id = id; session_timeout = timeout; heard = moment });
      generation = g.generation +ℤ pos 1;
      assignment = None;
    }

-- what the member is told
abbrev pub welcome : Group → List ℕ → ℕ → OfferedProtocol → Joined
welcome g member place protocol =
    record {
      generation = g.generation +ℤ pos 1;
      member = member_id member place;
      protocol = protocol;
    }

abbrev pub join_transition : Option ErrorCode → Group → List ℕ → ℕ → ℕ → OfferedProtocol → ℕ
    → GroupTransition Joined
join_transition (Some code) g member timeout place protocol moment = Stays code
join_transition None g member timeout place protocol moment =
    Puts (welcome g member place protocol) (with_member (member_id member place) timeout g moment)

abbrev pub join_under : Option OfferedProtocol → ℕ → Group → List ℕ → ℕ → ℕ → GroupTransition Joined
join_under None timeout g member place moment = Stays InconsistentGroupProtocol
join_under (Some protocol) timeout g member place moment =
    join_transition (entry_refusal g member) g member timeout place protocol moment

abbrev pub join_within : Option ℕ → Group → JoinGroupRequest → ℕ → ℕ → GroupTransition Joined
join_within None g request place moment = Stays InvalidSessionTimeout
join_within (Some timeout) g request place moment =
    join_under (chosen_protocol request) timeout g request.member place moment

abbrev pub join_group : Group → JoinGroupRequest → ℕ → ℕ → GroupTransition Joined
join_group g request place moment =
    if is_empty request.group then Stays InvalidGroupId else
    join_within (session_timeout request.session_timeout) g request place moment
