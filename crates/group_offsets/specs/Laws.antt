-- Laws of groups and of their offsets.
use Rattle.std.specs.Prelude.{◌≡◌, ℕ, ℤ, Bool, true, ◌&&◌, List, [], ◌∷◌, ◌++◌, map, if◌then◌else◌, Option, Some, None, is_none, is_some, Result, Ok}
use Rattle.std.specs.Ordering.{int_eq}
use Rattle.std.specs.Str.{bytes_eq}
use Rattle.record_batch.specs.declared.transaction_result.TransactionResult.{TransactionResult}
use Rattle.record_batch.specs.declared.transaction_result.TransactionResult.TheVariants.{Abort, Commit}
use Rattle.wire_types.specs.declared.error_code.ErrorCode.{ErrorCode}
use Rattle.msg_group.specs.declared.join_group.JoinGroupRequest.{JoinGroupRequest}
use Rattle.msg_group.specs.declared.sync_group.SyncGroupRequest.{SyncGroupRequest}
use Rattle.msg_group.specs.declared.heartbeat.HeartbeatRequest.{HeartbeatRequest}
use Rattle.msg_group.specs.declared.leave_group.LeaveGroupRequest.{LeaveGroupRequest}
use Rattle.group_offsets.specs.declared.event.PartitionOffset.{PartitionOffset}
use Rattle.group_offsets.specs.declared.event.OffsetEvent.{OffsetEvent}
use Rattle.group_offsets.specs.declared.event.OffsetEvent.TheVariants as events
use Rattle.group_offsets.specs.declared.member.Joined.{Joined}
use Rattle.group_offsets.specs.declared.group.Group.{Group}
use Rattle.group_offsets.specs.GroupTransition.{answer_of}
use Rattle.group_offsets.specs.Offsets.{is_of, first_decision, offset_of, is_staged}
use Rattle.group_offsets.specs.Group.{without_lapsed}
use Rattle.group_offsets.specs.Groups.{find_group, groups_after, join, sync, beat, leave, commit, stage, decide}

-- ---- offsets, event by event

-- the first of two that is there
abbrev pub or_else : {A : Type 0} → Option A → Option A → Option A
or_else (Some a) b = Some a
or_else None b = b

-- an event stages this producer's offset of the partition, and no event after it decides it
abbrev pub pending_offset_by : ℤ → List ℕ → ℤ → OffsetEvent → List OffsetEvent
    → Option PartitionOffset
pending_offset_by producer topic index (events.Put o) after = None
pending_offset_by producer topic index (events.Stage p o) after =
    if (int_eq producer p && is_of topic index o) && is_none (first_decision p 0 after) then Some o
    else None
pending_offset_by producer topic index (events.Decide p outcome) after = None

-- the last offset of the partition that this producer has staged and that waits for its decision
abbrev pub pending_offset : List OffsetEvent → ℤ → List ℕ → ℤ → Option PartitionOffset
pending_offset [] producer topic index = None
pending_offset (e ∷ es) producer topic index =
    or_else (pending_offset es producer topic index) (pending_offset_by producer topic index e es)

-- what each further event makes of the committed offset of a partition: a commit replaces it,
-- whatever it is; what a producer stages shows nothing, until its commit shows what it staged last;
-- its abort shows nothing
pub record CommittedGoesOn : Type 0 where
  pub none : (topic : List ℕ) (index : ℤ) → offset_of [] topic index ≡ None
  pub put : (es : List OffsetEvent) (o : PartitionOffset) (topic : List ℕ) (index : ℤ)
      → offset_of (es ++ events.Put o ∷ []) topic index
      ≡ (if is_of topic index o then Some o else offset_of es topic index)
  pub stage : (es : List OffsetEvent) (p : ℤ) (o : PartitionOffset) (topic : List ℕ) (index : ℤ)
      → offset_of (es ++ events.Stage p o ∷ []) topic index ≡ offset_of es topic index
  pub commit : (es : List OffsetEvent) (p : ℤ) (topic : List ℕ) (index : ℤ)
      → offset_of (es ++ events.Decide p Commit ∷ []) topic index
      ≡ or_else (pending_offset es p topic index) (offset_of es topic index)
  pub abort : (es : List OffsetEvent) (p : ℤ) (topic : List ℕ) (index : ℤ)
      → offset_of (es ++ events.Decide p Abort ∷ []) topic index ≡ offset_of es topic index

-- what each further event makes of what a producer has staged: a decision of that producer ends the
-- waiting of all of it
pub record PendingGoesOn : Type 0 where
  pub put : (es : List OffsetEvent) (o : PartitionOffset) (p : ℤ) (topic : List ℕ) (index : ℤ)
      → pending_offset (es ++ events.Put o ∷ []) p topic index ≡ pending_offset es p topic index
  pub stage : (es : List OffsetEvent) (q : ℤ) (o : PartitionOffset) (p : ℤ) (topic : List ℕ)
      (index : ℤ)
      → pending_offset (es ++ events.Stage q o ∷ []) p topic index
      ≡ (if int_eq p q && is_of topic index o then Some o else pending_offset es p topic index)
  pub decide : (es : List OffsetEvent) (q : ℤ) (outcome : TransactionResult) (p : ℤ)
      (topic : List ℕ) (index : ℤ)
      → pending_offset (es ++ events.Decide q outcome ∷ []) p topic index
      ≡ (if int_eq q p then None else pending_offset es p topic index)

-- a partition counts as staged exactly where some producer's offset of it waits
pub record StagedIsPending : Type 0 where
  pub staged : (es : List OffsetEvent) (p : ℤ) (topic : List ℕ) (index : ℤ)
      → is_some (pending_offset es p topic index) ≡ true → is_staged es topic index ≡ true
  pub pending : (es : List OffsetEvent) (topic : List ℕ) (index : ℤ)
      → is_staged es topic index ≡ true
      → (p : ℤ) × (is_some (pending_offset es p topic index) ≡ true)

-- ---- groups apart

-- a call on the groups, or a tick
pub data Call : Type 0 where
  Join : JoinGroupRequest → ℕ → ℕ → Call
  Sync : SyncGroupRequest → ℕ → Call
  Beat : HeartbeatRequest → ℕ → Call
  Leave : LeaveGroupRequest → Call
  Commits : List ℕ → ℤ → List ℕ → PartitionOffset → Call
  Stages : List ℕ → ℤ → ℤ → List ℕ → PartitionOffset → Call
  Decides : List ℕ → ℤ → TransactionResult → Call
  Tick : ℕ → Call

-- the groups after it
abbrev pub groups_after_call : List Group → Call → List Group
groups_after_call gs (Join request place moment) = groups_after gs (join gs request place moment)
groups_after_call gs (Sync request moment) = groups_after gs (sync gs request moment)
groups_after_call gs (Beat request moment) = groups_after gs (beat gs request moment)
groups_after_call gs (Leave request) = groups_after gs (leave gs request)
groups_after_call gs (Commits name generation member o) =
    groups_after gs (commit gs name generation member o)
groups_after_call gs (Stages name producer generation member o) =
    groups_after gs (stage gs name producer generation member o)
groups_after_call gs (Decides name producer outcome) =
    groups_after gs (decide gs name producer outcome)
groups_after_call gs (Tick moment) = map (without_lapsed moment) gs

-- it may change the group of this name: it names the group, or is a tick
abbrev pub concerns : List ℕ → Call → Bool
concerns name (Join request place moment) = bytes_eq request.group name
concerns name (Sync request moment) = bytes_eq request.group name
concerns name (Beat request moment) = bytes_eq request.group name
concerns name (Leave request) = bytes_eq request.group name
concerns name (Commits own generation member o) = bytes_eq own name
concerns name (Stages own producer generation member o) = bytes_eq own name
concerns name (Decides own producer outcome) = bytes_eq own name
concerns name (Tick moment) = true

abbrev pub groups_after_calls : List Group → List Call → List Group
groups_after_calls gs [] = gs
groups_after_calls gs (c ∷ cs) = groups_after_calls (groups_after_call gs c) cs

-- the calls among these that may change the group
abbrev pub concerning_calls : List ℕ → List Call → List Call
concerning_calls name [] = []
concerning_calls name (c ∷ cs) =
    if concerns name c then c ∷ concerning_calls name cs else concerning_calls name cs

-- what a group holds after any calls is what it held before and what the calls that concern it make
-- of that; whatever other groups hold, and whatever is called on them, changes nothing in it
abbrev pub GroupsAreApart : Type 0
GroupsAreApart =
    (gs hs : List Group) (cs : List Call) (name : List ℕ) → find_group gs name ≡ find_group hs name
    → find_group (groups_after_calls gs cs) name
    ≡ find_group (groups_after_calls hs (concerning_calls name cs)) name

-- what a call on a group is answered: by a member's data, or by nothing but a code
pub data Answer : Type 0 where
  IsJoined : Result Joined ErrorCode → Answer
  IsAssigned : Result (List ℕ) ErrorCode → Answer
  IsDone : Result (Unit {0}) ErrorCode → Answer

abbrev pub answer_to : List Group → Call → Answer
answer_to gs (Join request place moment) = IsJoined (answer_of (join gs request place moment))
answer_to gs (Sync request moment) = IsAssigned (answer_of (sync gs request moment))
answer_to gs (Beat request moment) = IsDone (answer_of (beat gs request moment))
answer_to gs (Leave request) = IsDone (answer_of (leave gs request))
answer_to gs (Commits name generation member o) =
    IsDone (answer_of (commit gs name generation member o))
answer_to gs (Stages name producer generation member o) =
    IsDone (answer_of (stage gs name producer generation member o))
answer_to gs (Decides name producer outcome) = IsDone (answer_of (decide gs name producer outcome))
answer_to gs (Tick moment) = IsDone (Ok tt)

-- what a call on a group is answered after any other calls depends on that group alone
abbrev pub AnswersAreApart : Type 0
AnswersAreApart =
    (gs hs : List Group) (cs : List Call) (c : Call) (name : List ℕ)
    → find_group gs name ≡ find_group hs name → concerns name c ≡ true
    → answer_to (groups_after_calls gs cs) c
    ≡ answer_to (groups_after_calls hs (concerning_calls name cs)) c
