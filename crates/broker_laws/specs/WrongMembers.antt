-- Wrong rules of a group's member, each of which a law refutes.
use Rattle.std.specs.Prelude.{ℕ, pos, List, [], ◌∷◌, Option, Some, None}
use Rattle.wire_types.specs.declared.error_code.ErrorCode.{ErrorCode}
use Rattle.wire_types.specs.declared.error_code.ErrorCode.TheVariants as codes
use Rattle.msg_admin.specs.declared.request.Request.TheVariants.{JoinGroup, SyncGroup, Heartbeat, LeaveGroup}
use Rattle.msg_admin.specs.declared.reply.Reply.{Reply}
use Rattle.msg_admin.specs.declared.reply.Reply.TheVariants as replies
use Rattle.audit_trail.specs.declared.event.Event.{Event}
use Rattle.audit_trail.specs.declared.event.Event.TheVariants.{Ask}
use Rattle.group_offsets.specs.declared.group.Group.{Group}
use Rattle.group_offsets.specs.declared.member.Member.{Member}
use Rattle.group_offsets.specs.Group.{without_member}
use Rattle.group_offsets.specs.Groups.{groups_with}
use Rattle.broker_world.specs.World.{World}
use Rattle.api_dispatch.specs.Step.{step, reply_to}
use Rattle.broker_laws.specs.Rules.{WorldRule, ReplyRule}
use Rattle.broker_laws.specs.Members.{group_in}

-- the id of a member, or no id where there is none
abbrev pub id_of : Option Member → List ℕ
id_of None = []
id_of (Some m) = m.id

-- the world with this group in the place of the one of its name
abbrev pub with_group : World → Group → World
with_group w g = record w { groups = groups_with w.groups g }

-- ---- who comes in

-- the world without the group's member, for a JoinGroup that names none
abbrev pub without_member_for : List ℕ → World → List ℕ → World
without_member_for [] w group = with_group w (without_member (group_in w group))
without_member_for (c ∷ id) w group = w

abbrev pub as_if_empty : World → Event → World
as_if_empty w (Ask caller client (JoinGroup r)) = without_member_for r.member w r.group
as_if_empty w e = w

-- a second member comes in, and the first one is out
abbrev pub step_letting_a_second_in : WorldRule
step_letting_a_second_in w e = step (as_if_empty w e) e

-- a second member is told that it is in
abbrev pub reply_letting_a_second_in : ReplyRule
reply_letting_a_second_in w e = reply_to (as_if_empty w e) e

-- a JoinGroup begins no new generation
abbrev pub step_keeping_generations : WorldRule
step_keeping_generations w (Ask caller client (JoinGroup r)) =
    with_group (step w (Ask caller client (JoinGroup r)))
    (record (group_in (step w (Ask caller client (JoinGroup r))) r.group) {
      generation = (group_in w r.group).generation;
    })
step_keeping_generations w e = step w e

-- ---- who goes

-- a LeaveGroup as the group's member would send it
abbrev pub as_the_member : World → Event → Event
as_the_member w (Ask caller client (LeaveGroup r)) =
    Ask caller client (LeaveGroup (record r { member = id_of (group_in w r.group).member }))
as_the_member w e = e

-- whoever sends a LeaveGroup takes the member out
abbrev pub step_leaving_for_anybody : WorldRule
step_leaving_for_anybody w e = step w (as_the_member w e)

-- whoever sends a LeaveGroup is told no error
abbrev pub reply_leaving_for_anybody : ReplyRule
reply_leaving_for_anybody w e = reply_to w (as_the_member w e)

-- ---- what they are told

-- each Heartbeat is told no error
abbrev pub reply_beating_for_anybody : ReplyRule
reply_beating_for_anybody w (Ask caller client (Heartbeat r)) =
    replies.Heartbeat (record { throttle = pos 0; error = codes.None })
reply_beating_for_anybody w e = reply_to w e

-- a SyncGroup is taken for one of the group's generation, whichever it names
abbrev pub reply_in_any_generation : ReplyRule
reply_in_any_generation w (Ask caller client (SyncGroup r)) =
    reply_to w
    (Ask caller client (SyncGroup (record r { generation = (group_in w r.group).generation })))
reply_in_any_generation w e = reply_to w e

abbrev pub unknown_for_full : ErrorCode → ErrorCode
unknown_for_full codes.GroupMaxSizeReached = codes.UnknownMemberId
unknown_for_full code = code

abbrev pub with_unknown_for_full : Reply → Reply
with_unknown_for_full (replies.JoinGroup reply) =
    replies.JoinGroup (record reply { error = unknown_for_full reply.error })
with_unknown_for_full reply = reply

-- a JoinGroup of a group that is full is told UNKNOWN_MEMBER_ID
abbrev pub reply_unknown_for_full : ReplyRule
reply_unknown_for_full w e = with_unknown_for_full (reply_to w e)

abbrev pub with_leader : List ℕ → Reply → Reply
with_leader id (replies.JoinGroup reply) = replies.JoinGroup (record reply { leader = id })
with_leader id reply = reply

-- a JoinGroup that is told an error is told, too, who is the group's member
abbrev pub reply_telling_the_member : ReplyRule
reply_telling_the_member w (Ask caller client (JoinGroup r)) =
    with_leader (id_of (group_in w r.group).member) (reply_to w (Ask caller client (JoinGroup r)))
reply_telling_the_member w e = reply_to w e
