-- The groups in the order of their beginning, and what each call on one of them comes to. A group
-- begins with the first call that changes it; until then it is as if nobody joined and nothing was
-- committed.
use Rattle.std.specs.Prelude.{ℕ, ℤ, ◌+◌, List, [], ◌∷◌, if◌then◌else◌, Option, Some, None, unwrap_or}
use Rattle.std.specs.Option.{option_map}
use Rattle.std.specs.List.{find}
use Rattle.std.specs.Str.{bytes_eq}
use Rattle.record_batch.specs.declared.transaction_result.TransactionResult.{TransactionResult}
use Rattle.wire_types.specs.declared.error_code.ErrorCode.{ErrorCode}
use Rattle.wire_types.specs.declared.error_code.ErrorCode.TheVariants.{InvalidGroupId, UnknownMemberId}
use Rattle.msg_group.specs.declared.join_group.JoinGroupRequest.{JoinGroupRequest}
use Rattle.msg_group.specs.declared.sync_group.SyncGroupRequest.{SyncGroupRequest}
use Rattle.msg_group.specs.declared.heartbeat.HeartbeatRequest.{HeartbeatRequest}
use Rattle.msg_group.specs.declared.leave_group.LeaveGroupRequest.{LeaveGroupRequest}
use Rattle.group_offsets.specs.declared.event.PartitionOffset.{PartitionOffset}
use Rattle.group_offsets.specs.declared.event.OffsetEvent.TheVariants.{Decide}
use Rattle.group_offsets.specs.declared.member.Joined.{Joined}
use Rattle.group_offsets.specs.declared.group.Group.{Group}
use Rattle.group_offsets.specs.GroupTransition.{GroupTransition, Stays, Puts}
use Rattle.group_offsets.specs.Group.{fresh_group, is_empty, sync_group, beat_group, leave_group, commit_group, stage_group, with_event}
use Rattle.group_offsets.specs.Joining.{join_group}

abbrev pub find_group : List Group → List ℕ → Option Group
find_group gs name = find (λ g. bytes_eq g.name name) gs

-- the group of this name, begun or not
abbrev pub group_of : List Group → List ℕ → Group
group_of gs name = unwrap_or (find_group gs name) (fresh_group name)

-- with this group in the place of the one of its name, or else after all others
abbrev pub groups_with : List Group → Group → List Group
groups_with [] new = new ∷ []
groups_with (g ∷ gs) new = if bytes_eq g.name new.name then new ∷ gs else g ∷ groups_with gs new

-- the groups after a transition
abbrev pub groups_after : {A : Type 0} → List Group → GroupTransition A → List Group
groups_after gs (Stays code) = gs
groups_after gs (Puts answer g) = groups_with gs g

-- ---- the calls

-- by the event at this place
abbrev pub join : List Group → JoinGroupRequest → ℕ → ℕ → GroupTransition Joined
join gs request place moment = join_group (group_of gs request.group) request place moment

abbrev pub sync : List Group → SyncGroupRequest → ℕ → GroupTransition (List ℕ)
sync gs request moment = sync_group (group_of gs request.group) request moment

abbrev pub beat : List Group → HeartbeatRequest → ℕ → GroupTransition (Unit {0})
beat gs request moment = beat_group (group_of gs request.group) request moment

abbrev pub leave : List Group → LeaveGroupRequest → GroupTransition (Unit {0})
leave gs request = leave_group (group_of gs request.group) request

abbrev pub commit : List Group → List ℕ → ℤ → List ℕ → PartitionOffset → GroupTransition (Unit {0})
commit gs name generation member o = commit_group (group_of gs name) generation member o

abbrev pub stage : List Group → List ℕ → ℤ → ℤ → List ℕ → PartitionOffset
    → GroupTransition (Unit {0})
stage gs name producer generation member o =
    stage_group (group_of gs name) producer generation member o

-- what the producer staged for the group is decided
abbrev pub decide : List Group → List ℕ → ℤ → TransactionResult → GroupTransition (Unit {0})
decide gs name producer outcome = Puts tt (with_event (Decide producer outcome) (group_of gs name))

-- ---- where a group stands

-- why a group that nobody joined yet refuses its member's calls
abbrev pub unknown_group_error : List ℕ → ErrorCode
unknown_group_error name = if is_empty name then InvalidGroupId else UnknownMemberId

abbrev pub place_of : List Group → List ℕ → Option ℕ
place_of [] name = None
place_of (g ∷ gs) name =
    if bytes_eq g.name name then Some 0 else option_map (λ i. i + 1) (place_of gs name)
