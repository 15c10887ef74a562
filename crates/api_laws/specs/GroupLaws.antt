-- What holds of the requests about groups and offsets.
use Rattle.std.specs.Prelude.{◌≡◌, ℕ, ℤ, List, [], ◌∷◌, Option, Some, None, is_none}
use Rattle.std.specs.List.{filter}
use Rattle.acl_binding.specs.declared.question.Caller.{Caller}
use Rattle.authorizer.specs.declared.answer.Refusal.{Refusal}
use Rattle.authorizer.specs.Asking.{Rules, part_refusal}
use Rattle.wire_types.specs.declared.topic.Topic.{Topic}
use Rattle.msg_txn.specs.declared.find_coordinator.FindCoordinatorRequest.{FindCoordinatorRequest}
use Rattle.msg_group.specs.declared.join_group.JoinGroupRequest.{JoinGroupRequest}
use Rattle.msg_group.specs.declared.sync_group.SyncGroupRequest.{SyncGroupRequest}
use Rattle.msg_group.specs.declared.heartbeat.HeartbeatRequest.{HeartbeatRequest}
use Rattle.msg_group.specs.declared.leave_group.LeaveGroupRequest.{LeaveGroupRequest}
use Rattle.msg_group.specs.declared.offset_commit.OffsetCommitRequest.{OffsetCommitRequest}
use Rattle.msg_group.specs.declared.offset_fetch.OffsetFetchRequest.{OffsetFetchRequest}
use Rattle.group_offsets.specs.Groups.{find_group}
use Rattle.broker_world.specs.World.{World, TopicValue, rules_of}
use Rattle.broker_world.specs.HandlerResult.{HandlerResult}
use Rattle.broker_world.specs.Questions.{topic_refusal}
use Rattle.broker_world.specs.Questions.{read_question}
use Rattle.group_handlers.specs.Members.{sync_group_outcome, heartbeat_outcome, leave_group_outcome}
use Rattle.group_handlers.specs.FindCoordinator.{find_coordinator_outcome}
use Rattle.group_handlers.specs.OffsetCommit.{committing_rule, offset_commit_outcome}
use Rattle.group_handlers.specs.OffsetFetch.{group_question}
use Rattle.api_laws.specs.Tenants.{SameBase, SameGranted}
use Rattle.api_laws.specs.DataTenants.{SameForParts, SameAnswer}
use Rattle.api_laws.specs.AclLaws.{IsRefusedWhole}

-- ---- what the answers depend on

-- the topics that may be described, in order, with all that they hold
abbrev pub described_slots : Rules → Caller → List TopicValue → List TopicValue
described_slots rules caller topics =
    filter (λ (t : TopicValue). is_none (topic_refusal rules caller t.name)) topics

-- where all offsets of a group are asked for, the worlds agree on the topics that may be described
abbrev pub SameWanted : World → World → Caller → Option (List (Topic ℤ)) → Type 0
SameWanted v w caller None =
    described_slots (rules_of v) caller v.topics ≡ described_slots (rules_of w) caller w.topics
SameWanted v w caller (Some ts) = Unit {0}

-- what an OffsetFetch and a JoinGroup come to
abbrev pub OffsetFetchRule : Type 0
OffsetFetchRule = World → Caller → OffsetFetchRequest → HandlerResult

abbrev pub JoinRule : Type 0
JoinRule = World → Caller → JoinGroupRequest → HandlerResult

-- Worlds that agree on what is granted of a request give it the same answer.
pub record GroupsDependOnGrants (join_group_outcome : JoinRule)
    (offset_fetch_outcome : OffsetFetchRule) : Type 0 where
  pub joins : (v w : World) (caller : Caller) (r : JoinGroupRequest) → SameBase v w
      → SameGranted v w (read_question caller r.group ∷ [])
      → SameAnswer (join_group_outcome v caller r) (join_group_outcome w caller r)
  pub syncs : (v w : World) (caller : Caller) (r : SyncGroupRequest) → SameBase v w
      → SameGranted v w (read_question caller r.group ∷ [])
      → SameAnswer (sync_group_outcome v caller r) (sync_group_outcome w caller r)
  pub beats : (v w : World) (caller : Caller) (r : HeartbeatRequest) → SameBase v w
      → SameGranted v w (read_question caller r.group ∷ [])
      → SameAnswer (heartbeat_outcome v caller r) (heartbeat_outcome w caller r)
  pub leaves : (v w : World) (caller : Caller) (r : LeaveGroupRequest) → SameBase v w
      → SameGranted v w (read_question caller r.group ∷ [])
      → SameAnswer (leave_group_outcome v caller r) (leave_group_outcome w caller r)
  pub finds : (v w : World) (caller : Caller) (r : FindCoordinatorRequest) → SameBase v w
      → SameAnswer (find_coordinator_outcome v caller r) (find_coordinator_outcome w caller r)
  pub commits : (v w : World) (caller : Caller) (r : OffsetCommitRequest) → SameBase v w
      → SameForParts v w (committing_rule w caller r) r.topics
      → SameAnswer (offset_commit_outcome v caller r) (offset_commit_outcome w caller r)
  pub fetches : (v w : World) (caller : Caller) (r : OffsetFetchRequest) → SameBase v w
      → SameGranted v w (group_question caller r.group ∷ []) → SameWanted v w caller r.topics
      → SameAnswer (offset_fetch_outcome v caller r) (offset_fetch_outcome w caller r)

-- ---- what stays as it was

-- another group is as before, and no log and no transactional id is touched
pub record KeepsOtherGroups (w : World) (group : List ℕ) (o : HandlerResult) : Type 0 where
  pub others : (other : List ℕ) → (other ≡ group → ⊥)
      → find_group o.world.groups other ≡ find_group w.groups other
  pub topics : o.world.topics ≡ w.topics
  pub coordinator : o.world.coordinator ≡ w.coordinator

-- a request about one group leaves each other one as it was
pub record GroupsKeepTheRest (join_group_outcome : JoinRule) : Type 0 where
  pub joins : (w : World) (caller : Caller) (r : JoinGroupRequest)
      → KeepsOtherGroups w r.group (join_group_outcome w caller r)
  pub syncs : (w : World) (caller : Caller) (r : SyncGroupRequest)
      → KeepsOtherGroups w r.group (sync_group_outcome w caller r)
  pub beats : (w : World) (caller : Caller) (r : HeartbeatRequest)
      → KeepsOtherGroups w r.group (heartbeat_outcome w caller r)
  pub leaves : (w : World) (caller : Caller) (r : LeaveGroupRequest)
      → KeepsOtherGroups w r.group (leave_group_outcome w caller r)
  pub commits : (w : World) (caller : Caller) (r : OffsetCommitRequest)
      → KeepsOtherGroups w r.group (offset_commit_outcome w caller r)
  -- and where reading the group isn't granted, nothing changes
  pub refused_join : (w : World) (caller : Caller) (q : JoinGroupRequest) (r : Refusal)
      → part_refusal (rules_of w) (read_question caller q.group ∷ []) ≡ Some r
      → IsRefusedWhole w r (join_group_outcome w caller q)
  pub refused_sync : (w : World) (caller : Caller) (q : SyncGroupRequest) (r : Refusal)
      → part_refusal (rules_of w) (read_question caller q.group ∷ []) ≡ Some r
      → IsRefusedWhole w r (sync_group_outcome w caller q)
  pub refused_beat : (w : World) (caller : Caller) (q : HeartbeatRequest) (r : Refusal)
      → part_refusal (rules_of w) (read_question caller q.group ∷ []) ≡ Some r
      → IsRefusedWhole w r (heartbeat_outcome w caller q)
  pub refused_leave : (w : World) (caller : Caller) (q : LeaveGroupRequest) (r : Refusal)
      → part_refusal (rules_of w) (read_question caller q.group ∷ []) ≡ Some r
      → IsRefusedWhole w r (leave_group_outcome w caller q)
  pub refused_commit : (w : World) (caller : Caller) (q : OffsetCommitRequest) (r : Refusal)
      → part_refusal (rules_of w) (read_question caller q.group ∷ []) ≡ Some r
      → (offset_commit_outcome w caller q).world.groups ≡ w.groups
