-- What a group with at most one member answers, and what that leaves (Kafka protocol guide, the
-- group membership APIs; KIP-98 and KIP-447 for offsets in a transaction).
use Rattle.std.specs.Prelude.{ℕ, ℤ, pos, negsuc, ◌+◌, Bool, false, ◌&&◌, not, List, [], ◌∷◌, ◌++◌, length, nat_eq, nat_lt, if◌then◌else◌, Option, Some, None, is_some, unwrap_or}
use Rattle.std.specs.Ordering.{int_eq}
use Rattle.std.specs.Option.{option_map}
use Rattle.std.specs.List.{find}
use Rattle.std.specs.Str.{bytes_eq}
use Rattle.wire_types.specs.declared.error_code.ErrorCode.{ErrorCode}
use Rattle.wire_types.specs.declared.error_code.ErrorCode.TheVariants.{InvalidGroupId, UnknownMemberId, IllegalGeneration, RebalanceInProgress}
use Rattle.msg_group.specs.declared.sync_group.MemberAssignment.{MemberAssignment}
use Rattle.msg_group.specs.declared.sync_group.SyncGroupRequest.{SyncGroupRequest}
use Rattle.msg_group.specs.declared.heartbeat.HeartbeatRequest.{HeartbeatRequest}
use Rattle.msg_group.specs.declared.leave_group.LeaveGroupRequest.{LeaveGroupRequest}
use Rattle.group_offsets.specs.declared.event.PartitionOffset.{PartitionOffset}
use Rattle.group_offsets.specs.declared.event.OffsetEvent.{OffsetEvent}
use Rattle.group_offsets.specs.declared.event.OffsetEvent.TheVariants.{Put, Stage}
use Rattle.group_offsets.specs.declared.member.Member.{Member}
use Rattle.group_offsets.specs.declared.group.Group.{Group}
use Rattle.group_offsets.specs.GroupTransition.{GroupTransition, Stays, Puts}

-- a group that nobody joined and no offset was committed for
abbrev pub fresh_group : List ℕ → Group
fresh_group name =
    record { name = name; member = None; generation = pos 0; assignment = None; offsets = [] }

abbrev pub is_empty : List ℕ → Bool
is_empty text = nat_eq (length text) 0

abbrev pub has_id : List ℕ → Option Member → Bool
has_id id None = false
has_id id (Some m) = bytes_eq m.id id

-- the group's member has this id
abbrev pub is_member : Group → List ℕ → Bool
is_member g id = has_id id g.member

-- why a call of a member of a generation is refused: it is not the member, or the generation is
-- another
abbrev pub member_refusal : Group → ℤ → List ℕ → Option ErrorCode
member_refusal g generation member =
    if not (is_member g member) then Some UnknownMemberId else
    (if not (int_eq g.generation generation) then Some IllegalGeneration else None)

-- the group once it has heard from its member
abbrev pub heard_at : ℕ → Group → Group
heard_at moment g =
    record g { member = option_map (λ (m : Member). record m { heard = moment }) g.member }

-- ---- SyncGroup

-- the first assignment for the member, or nothing at all
abbrev pub given_to : List ℕ → List MemberAssignment → List ℕ
given_to member gs =
    unwrap_or
    (option_map (λ (g : MemberAssignment). g.assignment)
    (find (λ g. bytes_eq g.member member) gs))
    []

-- the assignment that is stored, or where a sync is awaited the one that this sync brings
abbrev pub assignment_of : Group → SyncGroupRequest → List ℕ
assignment_of g request = unwrap_or g.assignment (given_to request.member request.assignments)

abbrev pub sync_transition : Option ErrorCode → Group → SyncGroupRequest → ℕ
    → GroupTransition (List ℕ)
sync_transition (Some code) g request moment = Stays code
sync_transition None g request moment =
    Puts (assignment_of g request)
    (record (heard_at moment g) { assignment = Some (assignment_of g request) })

abbrev pub sync_group : Group → SyncGroupRequest → ℕ → GroupTransition (List ℕ)
sync_group g request moment =
    if is_empty request.group then Stays InvalidGroupId else
    sync_transition (member_refusal g request.generation request.member) g request moment

-- ---- Heartbeat

abbrev pub beat_transition : Option ErrorCode → Group → ℕ → GroupTransition (Unit {0})
beat_transition (Some code) g moment = Stays code
beat_transition None g moment = Puts tt (heard_at moment g)

abbrev pub beat_group : Group → HeartbeatRequest → ℕ → GroupTransition (Unit {0})
beat_group g request moment =
    if is_empty request.group then Stays InvalidGroupId else
    beat_transition (member_refusal g request.generation request.member) g moment

-- ---- LeaveGroup

-- nobody is left; the generation stays
abbrev pub without_member : Group → Group
without_member g = record g { member = None }

abbrev pub leave_group : Group → LeaveGroupRequest → GroupTransition (Unit {0})
leave_group g request =
    if is_empty request.group then Stays InvalidGroupId else
    (if not (is_member g request.member) then Stays UnknownMemberId else Puts tt (without_member g))

-- ---- a tick

-- the member was not heard of for longer than its session timeout
abbrev pub is_lapsed : ℕ → Option Member → Bool
is_lapsed moment None = false
is_lapsed moment (Some m) = nat_lt (m.heard + m.session_timeout) moment

abbrev pub without_lapsed : ℕ → Group → Group
without_lapsed moment g = if is_lapsed moment g.member then without_member g else g

-- ---- OffsetCommit

-- generation -1 without a member's id: offsets of a group that is not managed by its members
abbrev pub is_unmanaged : ℤ → List ℕ → Bool
is_unmanaged generation member = int_eq generation (negsuc 0) && is_empty member

-- the refusal, or that a sync is awaited
abbrev pub or_awaited : Option ErrorCode → Option (List ℕ) → Option ErrorCode
or_awaited (Some code) assignment = Some code
or_awaited None None = Some RebalanceInProgress
or_awaited None (Some assignment) = None

abbrev pub commit_refusal : Group → ℤ → List ℕ → Option ErrorCode
commit_refusal g generation member =
    if is_unmanaged generation member then (if is_some g.member then Some UnknownMemberId else None)
    else
    or_awaited (member_refusal g generation member) g.assignment

abbrev pub with_event : OffsetEvent → Group → Group
with_event e g = record g { offsets = g.offsets ++ e ∷ [] }

abbrev pub event_transition : Option ErrorCode → Group → OffsetEvent → GroupTransition (Unit {0})
event_transition (Some code) g e = Stays code
event_transition None g e = Puts tt (with_event e g)

abbrev pub commit_group : Group → ℤ → List ℕ → PartitionOffset → GroupTransition (Unit {0})
commit_group g generation member o = event_transition (commit_refusal g generation member) g (Put o)

-- ---- TxnOffsetCommit

abbrev pub stage_refusal : Group → ℤ → List ℕ → Option ErrorCode
stage_refusal g generation member =
    if is_unmanaged generation member then None else member_refusal g generation member

abbrev pub stage_group : Group → ℤ → ℤ → List ℕ → PartitionOffset → GroupTransition (Unit {0})
stage_group g producer generation member o =
    event_transition (stage_refusal g generation member) g (Stage producer o)
