-- Wrong rules of committed offsets, each of which a law refutes.
use Rattle.std.specs.Prelude.{ℤ, pos, negsuc, false, List, [], map, Option, Some, None, Ok}
use Rattle.wire_types.specs.declared.error_code.ErrorCode.TheVariants as codes
use Rattle.wire_types.specs.declared.topic.Topic.{Topic}
use Rattle.msg_group.specs.declared.offset_fetch.FetchedOffset.{FetchedOffset}
use Rattle.msg_admin.specs.declared.request.Request.TheVariants.{OffsetCommit, OffsetFetch}
use Rattle.msg_admin.specs.declared.reply.Reply.{Reply}
use Rattle.msg_admin.specs.declared.reply.Reply.TheVariants as replies
use Rattle.audit_trail.specs.declared.event.Event.{Event}
use Rattle.audit_trail.specs.declared.event.Event.TheVariants.{Ask}
use Rattle.group_offsets.specs.Offsets.{fetch_result}
use Rattle.broker_world.specs.World.{World}
use Rattle.api_dispatch.specs.Step.{step, reply_to}
use Rattle.broker_laws.specs.Rules.{WorldRule, ReplyRule}
use Rattle.broker_laws.specs.Members.{group_in}
use Rattle.broker_laws.specs.Fetches.{FetchRule}
use Rattle.broker_laws.specs.Wrong.{committed_at_once}
use Rattle.broker_laws.specs.WrongMembers.{id_of}

-- ---- who commits

-- an OffsetCommit as it would be in the group's generation
abbrev pub in_generation : World → Event → Event
in_generation w (Ask caller client (OffsetCommit r)) =
    Ask caller client (OffsetCommit (record r { generation = (group_in w r.group).generation }))
in_generation w e = e

-- an OffsetCommit in any generation commits
abbrev pub step_committing_in_any_generation : WorldRule
step_committing_in_any_generation w e = step w (in_generation w e)

-- an OffsetCommit in any generation is told no error
abbrev pub reply_committing_in_any_generation : ReplyRule
reply_committing_in_any_generation w e = reply_to w (in_generation w e)

-- an OffsetCommit as the group's member would send it
abbrev pub of_the_member : World → Event → Event
of_the_member w (Ask caller client (OffsetCommit r)) =
    Ask caller client (OffsetCommit (record r { member = id_of (group_in w r.group).member }))
of_the_member w e = e

-- whoever names the group's generation commits
abbrev pub step_committing_for_anybody : WorldRule
step_committing_for_anybody w e = step w (of_the_member w e)

-- whoever names the group's generation is told no error
abbrev pub reply_committing_for_anybody : ReplyRule
reply_committing_for_anybody w e = reply_to w (of_the_member w e)

-- an OffsetCommit is told no error, and commits nothing
abbrev pub step_committing_nothing : WorldRule
step_committing_nothing w (Ask caller client (OffsetCommit r)) =
    record (step w (Ask caller client (OffsetCommit r))) { groups = w.groups }
step_committing_nothing w e = step w e

-- ---- what is fetched, by a group's offset events

-- no committed offset is told
abbrev pub fetch_of_nothing : FetchRule
fetch_of_nothing es stable topic index = Ok None

-- an offset is told as soon as it is staged, before its transaction commits
abbrev pub fetch_of_staged : FetchRule
fetch_of_staged es stable topic index =
    fetch_result (map committed_at_once es) stable topic index

-- who requires a stable offset is told the committed one, though another waits
abbrev pub fetch_of_unstable : FetchRule
fetch_of_unstable es stable topic index = fetch_result es false topic index

-- ---- what an OffsetFetch is answered

abbrev pub untold : FetchedOffset → FetchedOffset
untold a = record a { offset = negsuc 0 }

abbrev pub with_offsets_untold : Reply → Reply
with_offsets_untold (replies.OffsetFetch reply) =
    replies.OffsetFetch
    (record reply {
      topics = map
          (λ (t : Topic FetchedOffset). record t { partitions = map untold t.partitions })
          reply.topics;
    })
with_offsets_untold reply = reply

-- an OffsetFetch tells the offset -1 of each partition
abbrev pub reply_without_offsets : ReplyRule
reply_without_offsets w e = with_offsets_untold (reply_to w e)

-- an OffsetFetch is answered as one that requires no stable offset
abbrev pub reply_with_unstable_offsets : ReplyRule
reply_with_unstable_offsets w (Ask caller client (OffsetFetch r)) =
    reply_to w (Ask caller client (OffsetFetch (record r { require_stable = false })))
reply_with_unstable_offsets w e = reply_to w e

abbrev pub if_named : Option (List (Topic ℤ)) → Reply → Reply
if_named None reply =
    replies.OffsetFetch (record { throttle = pos 0; topics = []; error = codes.None })
if_named (Some topics) reply = reply

-- an OffsetFetch without a list of topics is told of none
abbrev pub reply_naming_nothing : ReplyRule
reply_naming_nothing w (Ask caller client (OffsetFetch r)) =
    if_named r.topics (reply_to w (Ask caller client (OffsetFetch r)))
reply_naming_nothing w e = reply_to w e
