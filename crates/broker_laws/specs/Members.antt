-- The member of a group, over whole events: a group has at most one (Kafka protocol guide,
-- "JoinGroup API (Key: 11)", "Heartbeat API (Key: 12)", "LeaveGroup API (Key: 13)", "SyncGroup API
-- (Key: 14)"; KIP-62, 'session.timeout.ms'; KIP-389, 'group.max.size', which is one here).
use Rattle.std.specs.Prelude.{◌≡◌, ◌≢◌, ◌⊎◌, ℕ, ◌+◌, ◌<◌, ◌≤◌, ℤ, pos, ◌+ℤ◌, List, [], ◌∷◌, ◌++◌, slice_get, Option, Some, None, codes, decimal}
use Rattle.acl_binding.specs.declared.question.Caller.{Caller}
use Rattle.wire_types.specs.ErrorCode.{number_of}
use Rattle.msg_group.specs.declared.join_group.JoinGroupRequest.{JoinGroupRequest}
use Rattle.msg_group.specs.declared.join_group.JoinGroupReply.{JoinGroupReply}
use Rattle.msg_group.specs.declared.join_group.JoinedMember.{JoinedMember}
use Rattle.msg_group.specs.declared.join_group.OfferedProtocol.{OfferedProtocol}
use Rattle.msg_group.specs.declared.sync_group.MemberAssignment.{MemberAssignment}
use Rattle.msg_group.specs.declared.sync_group.SyncGroupRequest.{SyncGroupRequest}
use Rattle.msg_group.specs.declared.sync_group.SyncGroupReply.{SyncGroupReply}
use Rattle.msg_group.specs.declared.heartbeat.HeartbeatRequest.{HeartbeatRequest}
use Rattle.msg_group.specs.declared.heartbeat.HeartbeatReply.{HeartbeatReply}
use Rattle.msg_group.specs.declared.leave_group.LeaveGroupRequest.{LeaveGroupRequest}
use Rattle.msg_group.specs.declared.leave_group.LeaveGroupReply.{LeaveGroupReply}
use Rattle.msg_admin.specs.declared.request.Request.TheVariants.{JoinGroup, SyncGroup, Heartbeat, LeaveGroup}
use Rattle.msg_admin.specs.declared.reply.Reply.TheVariants as replies
use Rattle.audit_trail.specs.declared.event.Event.{Event}
use Rattle.audit_trail.specs.declared.event.Event.TheVariants.{Ask, Tick}
use Rattle.group_offsets.specs.declared.group.Group.{Group}
use Rattle.group_offsets.specs.declared.member.Member.{Member}
use Rattle.group_offsets.specs.Groups.{group_of}
use Rattle.broker_world.specs.World.{World}
use Rattle.broker_laws.specs.Rules.{WorldRule, ReplyRule, world_after}

-- the group of this name
abbrev pub group_in : World → List ℕ → Group
group_in w g = group_of w.groups g

-- ---- who is a member

-- the group's one member has this id
pub record IsMember (g : Group) (id : List ℕ) : Type 0 where
  pub member : Member
  pub has : g.member ≡ Some member
  pub named : member.id ≡ id

-- and the group's generation is this one
pub record IsMemberIn (g : Group) (id : List ℕ) (generation : ℤ) : Type 0 where
  pub is : IsMember g id
  pub current : g.generation ≡ generation

-- ---- what may change that

-- a JoinGroup for the group that is told no error
pub record IsJoin (reply_to : ReplyRule) (w : World) (e : Event) (g : List ℕ)
    : Type 0 where
  pub caller : Caller
  pub client : Option (List ℕ)
  pub request : JoinGroupRequest
  pub reply : JoinGroupReply
  pub event : e ≡ Ask caller client (JoinGroup request)
  pub group : request.group ≡ g
  pub answer : reply_to w e ≡ replies.JoinGroup reply
  pub no_error : number_of reply.error ≡ pos 0

-- a SyncGroup for it that is told no error
pub record IsSync (reply_to : ReplyRule) (w : World) (e : Event) (g : List ℕ)
    : Type 0 where
  pub caller : Caller
  pub client : Option (List ℕ)
  pub request : SyncGroupRequest
  pub reply : SyncGroupReply
  pub event : e ≡ Ask caller client (SyncGroup request)
  pub group : request.group ≡ g
  pub answer : reply_to w e ≡ replies.SyncGroup reply
  pub no_error : number_of reply.error ≡ pos 0

-- a Heartbeat for it that is told no error
pub record IsBeat (reply_to : ReplyRule) (w : World) (e : Event) (g : List ℕ)
    : Type 0 where
  pub caller : Caller
  pub client : Option (List ℕ)
  pub request : HeartbeatRequest
  pub reply : HeartbeatReply
  pub event : e ≡ Ask caller client (Heartbeat request)
  pub group : request.group ≡ g
  pub answer : reply_to w e ≡ replies.Heartbeat reply
  pub no_error : number_of reply.error ≡ pos 0

-- a LeaveGroup for it that is told no error
pub record IsLeave (reply_to : ReplyRule) (w : World) (e : Event) (g : List ℕ)
    : Type 0 where
  pub caller : Caller
  pub client : Option (List ℕ)
  pub request : LeaveGroupRequest
  pub reply : LeaveGroupReply
  pub event : e ≡ Ask caller client (LeaveGroup request)
  pub group : request.group ≡ g
  pub answer : reply_to w e ≡ replies.LeaveGroup reply
  pub no_error : number_of reply.error ≡ pos 0

-- a tick, at whose moment nothing was heard of the member for longer than its session timeout
pub record IsLapse (step : WorldRule) (w : World) (e : Event) (g : List ℕ) : Type 0 where
  pub told : ℕ
  pub event : e ≡ Tick told
  pub member : Member
  pub had : (group_in w g).member ≡ Some member
  pub silent : member.heard + member.session_timeout < (step w e).moment

abbrev pub MayChange : WorldRule → ReplyRule → World → Event → List ℕ → Type 0
MayChange step reply_to w e g =
    IsJoin reply_to w e g
    ⊎ (IsSync reply_to w e g
    ⊎ (IsBeat reply_to w e g ⊎ (IsLeave reply_to w e g ⊎ IsLapse step w e g)))

-- ---- what it makes of the group

-- who names no member comes in where there is none, and is named after the number of events so far
pub record ComesNew (w : World) (old : Group) (request : JoinGroupRequest) (reply : JoinGroupReply)
    : Type 0 where
  pub nameless : request.member ≡ []
  pub no_member : old.member ≡ None
  pub named : reply.member ≡ codes "m-" ++ decimal w.events

-- who names a member is that member, and comes back
pub record ComesBack (old : Group) (request : JoinGroupRequest) (reply : JoinGroupReply)
    : Type 0 where
  pub names : request.member ≢ []
  pub was : IsMember old request.member
  pub named : reply.member ≡ request.member

abbrev pub sole_member : List ℕ → List ℕ → List JoinedMember
sole_member member metadata = record { member = member; metadata = metadata } ∷ []

pub record Joins (w : World) (old new : Group) (request : JoinGroupRequest) (reply : JoinGroupReply)
    : Type 0 where
  pub who : ComesNew w old request reply ⊎ ComesBack old request reply
  -- whom the answer names is the member, heard of at this moment, with the session timeout that it
  -- asked for
  pub member : Member
  pub has : new.member ≡ Some member
  pub named : reply.member ≡ member.id
  pub heard : member.heard ≡ w.moment
  pub timeout : request.session_timeout ≡ pos member.session_timeout
  pub least : 6000 ≤ member.session_timeout
  pub most : member.session_timeout ≤ 1800000
  -- a new generation begins, and its SyncGroup is awaited
  pub raised : new.generation ≡ old.generation +ℤ pos 1
  pub told : reply.generation ≡ new.generation
  pub awaited : new.assignment ≡ None
  -- the member leads, and is told of itself alone, under the protocol that it offers first, of a
  -- type that it names
  pub leads : reply.leader ≡ reply.member
  pub typed : request.protocol_type ≢ []
  pub protocol : OfferedProtocol
  pub first : slice_get request.protocols 0 ≡ Some protocol
  pub chosen : reply.protocol ≡ protocol.name
  pub alone : reply.members ≡ sole_member reply.member protocol.metadata

-- the member is the one that it was, and was heard of at this moment
pub record IsHeardOf (w : World) (old new : Group) : Type 0 where
  pub before : Member
  pub after : Member
  pub had : old.member ≡ Some before
  pub has : new.member ≡ Some after
  pub same : after.id ≡ before.id
  pub timeout : after.session_timeout ≡ before.session_timeout
  pub heard : after.heard ≡ w.moment

-- of the assignments the first for the member, or nothing at all
abbrev pub IsGiven : List ℕ → List MemberAssignment → List ℕ → Type 0
IsGiven member [] assignment = assignment ≡ []
IsGiven member (a ∷ rest) assignment =
    (a.member ≡ member → assignment ≡ a.assignment)
    × (a.member ≢ member → IsGiven member rest assignment)

-- it comes from the member in its generation, who is told the assignment that is stored, or where
-- it is awaited the one that it brings
pub record Syncs (w : World) (old new : Group) (request : SyncGroupRequest) (reply : SyncGroupReply)
    : Type 0 where
  pub by : IsMemberIn old request.member request.generation
  pub heard : IsHeardOf w old new
  pub generation : new.generation ≡ old.generation
  pub stored : new.assignment ≡ Some reply.assignment
  pub stays : (a : List ℕ) → old.assignment ≡ Some a → reply.assignment ≡ a
  pub brought : old.assignment ≡ None → IsGiven request.member request.assignments reply.assignment

-- it comes from the member in its generation
pub record Beats (w : World) (old new : Group) (request : HeartbeatRequest) : Type 0 where
  pub by : IsMemberIn old request.member request.generation
  pub heard : IsHeardOf w old new
  pub generation : new.generation ≡ old.generation
  pub assignment : new.assignment ≡ old.assignment

-- there is no member any more, and the generation stays
pub record IsLeft (old new : Group) : Type 0 where
  pub no_member : new.member ≡ None
  pub generation : new.generation ≡ old.generation

-- it comes from the member
pub record Leaves (old new : Group) (request : LeaveGroupRequest) : Type 0 where
  pub by : IsMember old request.member
  pub left : IsLeft old new

pub record IsAsBefore (old new : Group) : Type 0 where
  pub member : new.member ≡ old.member
  pub generation : new.generation ≡ old.generation
  pub assignment : new.assignment ≡ old.assignment

-- what each event makes of each group
pub record MembersGo (step : WorldRule) (reply_to : ReplyRule) (w : World) (e : Event) (g : List ℕ)
    : Type 0 where
  pub joins : (j : IsJoin reply_to w e g)
      → Joins w (group_in w g) (group_in (step w e) g) j.request j.reply
  pub syncs : (s : IsSync reply_to w e g)
      → Syncs w (group_in w g) (group_in (step w e) g) s.request s.reply
  pub beats : (b : IsBeat reply_to w e g) → Beats w (group_in w g) (group_in (step w e) g) b.request
  pub leaves : (l : IsLeave reply_to w e g)
      → Leaves (group_in w g) (group_in (step w e) g) l.request
  pub lapses : IsLapse step w e g → IsLeft (group_in w g) (group_in (step w e) g)
  pub nothing_else : MayChange step reply_to w e g
      ⊎ IsAsBefore (group_in w g) (group_in (step w e) g)

-- ---- in short

-- a leave of this member, or a lapse of it
pub record IsLeaveOf (reply_to : ReplyRule) (w : World) (e : Event) (g id : List ℕ) : Type 0 where
  pub leave : IsLeave reply_to w e g
  pub whose : leave.request.member ≡ id

pub record IsLapseOf (step : WorldRule) (w : World) (e : Event) (g id : List ℕ) : Type 0 where
  pub lapse : IsLapse step w e g
  pub whose : lapse.member.id ≡ id

abbrev pub Ends : WorldRule → ReplyRule → World → Event → List ℕ → List ℕ → Type 0
Ends step reply_to w e g id = IsLeaveOf reply_to w e g id ⊎ IsLapseOf step w e g id

pub record MembersInShort (step : WorldRule) (reply_to : ReplyRule) (w : World) (e : Event)
    (g : List ℕ) : Type 0 where
  -- each join that is told no error raises the generation by one, and nothing else changes it
  pub raised : IsJoin reply_to w e g
      → (group_in (step w e) g).generation ≡ (group_in w g).generation +ℤ pos 1
  pub kept : (IsJoin reply_to w e g → ⊥)
      → (group_in (step w e) g).generation ≡ (group_in w g).generation
  -- nobody comes in but by a join, goes but by a leave or a lapse, or becomes another
  pub comes : (m : Member) → (group_in w g).member ≡ None → (group_in (step w e) g).member ≡ Some m
      → IsJoin reply_to w e g
  pub goes : (m : Member) → (group_in w g).member ≡ Some m → (group_in (step w e) g).member ≡ None
      → Ends step reply_to w e g m.id
  pub stays : (m n : Member) → (group_in w g).member ≡ Some m
      → (group_in (step w e) g).member ≡ Some n → n.id ≡ m.id

-- one of these events ends the membership
pub record EndsAmong (step : WorldRule) (reply_to : ReplyRule) (w : World) (es : List Event)
    (g id : List ℕ) : Type 0 where
  pub before : List Event
  pub event : Event
  pub after : List Event
  pub parts : es ≡ before ++ event ∷ after
  pub ends : Ends step reply_to (world_after step w before) event g id

-- between two joins of one group that are told no error and name different members there is a leave
-- or a lapse of the first
abbrev pub EndsBetween : WorldRule → ReplyRule → World → Type 0
EndsBetween step reply_to w =
    (g : List ℕ) (e f : Event) (between : List Event) (j : IsJoin reply_to w e g)
    (k : IsJoin reply_to (world_after step (step w e) between) f g)
    → j.reply.member ≢ k.reply.member → EndsAmong step reply_to (step w e) between g j.reply.member

-- so it is before a group begins
pub record IsFirst (g : Group) : Type 0 where
  pub no_member : g.member ≡ None
  pub generation : g.generation ≡ pos 0
  pub assignment : g.assignment ≡ None
  pub offsets : g.offsets ≡ []

pub record MembersFrom (step : WorldRule) (reply_to : ReplyRule) (w : World) : Type 0 where
  pub first : w.groups ≡ [] → (g : List ℕ) → IsFirst (group_in w g)
  pub each : (e : Event) (g : List ℕ) → MembersGo step reply_to w e g
  pub short : (e : Event) (g : List ℕ) → MembersInShort step reply_to w e g
  pub between : EndsBetween step reply_to w

-- whatever the world is, members come in by a JoinGroup and by nothing else, and go by a LeaveGroup
-- of their own or by their time
abbrev pub MembersComeAndGo : WorldRule → ReplyRule → Type 0
MembersComeAndGo step reply_to = (w : World) → MembersFrom step reply_to w
