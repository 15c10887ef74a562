-- What the calls of members are told, by number (Kafka protocol guide, "Error Codes"): 0 is
-- NONE, 22 ILLEGAL_GENERATION, 23 INCONSISTENT_GROUP_PROTOCOL, 24 INVALID_GROUP_ID, 25
-- UNKNOWN_MEMBER_ID, 26 INVALID_SESSION_TIMEOUT, 81 GROUP_MAX_SIZE_REACHED.
use Rattle.std.specs.Prelude.{◌≡◌, ◌≢◌, ℕ, ℤ, pos, negsuc, ◌<ℤ◌, ◌≤ℤ◌, List, [], Option, Some, None}
use Rattle.acl_binding.specs.declared.question.Caller.{Caller}
use Rattle.authorizer.specs.Asking.{part_refusal}
use Rattle.wire_types.specs.ErrorCode.{number_of}
use Rattle.msg_group.specs.declared.join_group.JoinGroupRequest.{JoinGroupRequest}
use Rattle.msg_group.specs.declared.join_group.JoinGroupReply.{JoinGroupReply}
use Rattle.msg_group.specs.declared.sync_group.SyncGroupRequest.{SyncGroupRequest}
use Rattle.msg_group.specs.declared.sync_group.SyncGroupReply.{SyncGroupReply}
use Rattle.msg_group.specs.declared.heartbeat.HeartbeatRequest.{HeartbeatRequest}
use Rattle.msg_group.specs.declared.heartbeat.HeartbeatReply.{HeartbeatReply}
use Rattle.msg_group.specs.declared.leave_group.LeaveGroupRequest.{LeaveGroupRequest}
use Rattle.msg_group.specs.declared.leave_group.LeaveGroupReply.{LeaveGroupReply}
use Rattle.msg_admin.specs.declared.request.Request.{Request}
use Rattle.msg_admin.specs.declared.request.Request.TheVariants.{JoinGroup, SyncGroup, Heartbeat, LeaveGroup}
use Rattle.msg_admin.specs.declared.reply.Reply.TheVariants as replies
use Rattle.audit_trail.specs.declared.event.Event.TheVariants.{Ask}
use Rattle.group_offsets.specs.declared.group.Group.{Group}
use Rattle.group_offsets.specs.declared.member.Member.{Member}
use Rattle.broker_world.specs.World.{World, rules_of}
use Rattle.api_dispatch.specs.Questions.{asks_itself}
use Rattle.broker_laws.specs.Rules.{ReplyRule}
use Rattle.broker_laws.specs.Members.{group_in, IsMember, IsMemberIn}

-- ---- JoinGroup

-- a session timeout from 6 seconds to 30 minutes
abbrev pub IsLasting : JoinGroupRequest → Type 0
IsLasting r = (r.group ≢ []) × (pos 6000 ≤ℤ r.session_timeout) × (r.session_timeout ≤ℤ pos 1800000)

-- and some protocol, of a type
abbrev pub IsOffering : JoinGroupRequest → Type 0
IsOffering r = IsLasting r × (r.protocol_type ≢ []) × (r.protocols ≢ [])

pub record IsJoinNumber (g : Group) (r : JoinGroupRequest) (number : ℤ) : Type 0 where
  pub no_group : r.group ≡ [] → number ≡ pos 24
  pub short : r.group ≢ [] → r.session_timeout <ℤ pos 6000 → number ≡ pos 26
  pub long : r.group ≢ [] → pos 1800000 <ℤ r.session_timeout → number ≡ pos 26
  pub no_type : IsLasting r → r.protocol_type ≡ [] → number ≡ pos 23
  pub no_protocol : IsLasting r → r.protocols ≡ [] → number ≡ pos 23
  -- who names no member comes in where there is none
  pub new : IsOffering r → r.member ≡ [] → g.member ≡ None → number ≡ pos 0
  pub full : IsOffering r → r.member ≡ [] → (m : Member) → g.member ≡ Some m → number ≡ pos 81
  -- who names a member is that member
  pub back : IsOffering r → r.member ≢ [] → IsMember g r.member → number ≡ pos 0
  pub stranger : IsOffering r → r.member ≢ [] → (IsMember g r.member → ⊥) → number ≡ pos 25

-- ---- SyncGroup, Heartbeat, LeaveGroup

-- of the member, in its generation
pub record IsOwnNumber (g : Group) (group : List ℕ) (generation : ℤ) (member : List ℕ) (number : ℤ)
    : Type 0 where
  pub no_group : group ≡ [] → number ≡ pos 24
  pub stranger : group ≢ [] → (IsMember g member → ⊥) → number ≡ pos 25
  pub other_generation : group ≢ [] → IsMember g member → g.generation ≢ generation
      → number ≡ pos 22
  pub own : group ≢ [] → IsMemberIn g member generation → number ≡ pos 0

-- of the member
pub record IsLeaveNumber (g : Group) (group member : List ℕ) (number : ℤ) : Type 0 where
  pub no_group : group ≡ [] → number ≡ pos 24
  pub stranger : group ≢ [] → (IsMember g member → ⊥) → number ≡ pos 25
  pub own : group ≢ [] → IsMember g member → number ≡ pos 0

-- ---- over whole events

-- what the request asks for is granted
abbrev pub IsGranted : World → Caller → Request → Type 0
IsGranted w caller request =
    part_refusal (rules_of w) (asks_itself (rules_of w) caller request) ≡ None

-- then the number is by the table, and else 30, GROUP_AUTHORIZATION_FAILED
abbrev pub ByNumber : World → Caller → Request → (ℤ → Type 0) → ℤ → Type 0
ByNumber w caller request Table number =
    (IsGranted w caller request → Table number)
    × ((IsGranted w caller request → ⊥) → number ≡ pos 30)

-- who is told an error is told nothing of the group
pub record TellsNothing (r : JoinGroupRequest) (reply : JoinGroupReply) : Type 0 where
  pub generation : reply.generation ≡ negsuc 0
  pub member : reply.member ≡ r.member
  pub leader : reply.leader ≡ []
  pub members : reply.members ≡ []

pub record TellsByNumber (reply_to : ReplyRule) (w : World) : Type 0 where
  pub joins : (caller : Caller) (client : Option (List ℕ)) (r : JoinGroupRequest)
      (reply : JoinGroupReply)
      → reply_to w (Ask caller client (JoinGroup r)) ≡ replies.JoinGroup reply
      → ByNumber w caller (JoinGroup r) (IsJoinNumber (group_in w r.group) r)
      (number_of reply.error)
  pub syncs : (caller : Caller) (client : Option (List ℕ)) (r : SyncGroupRequest)
      (reply : SyncGroupReply)
      → reply_to w (Ask caller client (SyncGroup r)) ≡ replies.SyncGroup reply
      → ByNumber w caller (SyncGroup r)
      (IsOwnNumber (group_in w r.group) r.group r.generation r.member) (number_of reply.error)
  pub beats : (caller : Caller) (client : Option (List ℕ)) (r : HeartbeatRequest)
      (reply : HeartbeatReply)
      → reply_to w (Ask caller client (Heartbeat r)) ≡ replies.Heartbeat reply
      → ByNumber w caller (Heartbeat r)
      (IsOwnNumber (group_in w r.group) r.group r.generation r.member) (number_of reply.error)
  pub leaves : (caller : Caller) (client : Option (List ℕ)) (r : LeaveGroupRequest)
      (reply : LeaveGroupReply)
      → reply_to w (Ask caller client (LeaveGroup r)) ≡ replies.LeaveGroup reply
      → ByNumber w caller (LeaveGroup r) (IsLeaveNumber (group_in w r.group) r.group r.member)
      (number_of reply.error)
  pub unjoined : (caller : Caller) (client : Option (List ℕ)) (r : JoinGroupRequest)
      (reply : JoinGroupReply)
      → reply_to w (Ask caller client (JoinGroup r)) ≡ replies.JoinGroup reply
      → number_of reply.error ≢ pos 0 → TellsNothing r reply
  pub unsynced : (caller : Caller) (client : Option (List ℕ)) (r : SyncGroupRequest)
      (reply : SyncGroupReply)
      → reply_to w (Ask caller client (SyncGroup r)) ≡ replies.SyncGroup reply
      → number_of reply.error ≢ pos 0 → reply.assignment ≡ []

-- whatever the world is, the calls of members are told these numbers, and with an error nothing
-- else of the group
abbrev pub CallsByNumber : ReplyRule → Type 0
CallsByNumber reply_to = (w : World) → TellsByNumber reply_to w
