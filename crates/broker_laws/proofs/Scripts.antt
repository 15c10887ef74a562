-- The scripts are played, and the wrong steps with them.
use Rattle.std.proofs.Common.{◌≡◌, ℤ, pos, negsuc, List, [], ◌∷◌, refl, ap}
use Rattle.wire_types.specs.declared.topic.Topic.{Topic}
use Rattle.msg_group.specs.declared.offset_fetch.FetchedOffset.{FetchedOffset}
use Rattle.msg_admin.specs.declared.reply.Reply.{Reply}
use Rattle.msg_admin.specs.declared.reply.Reply.TheVariants as replies
use Rattle.api_dispatch.specs.Step.{step, reply_to}
use Rattle.broker_laws.specs.Scripts.{OffsetsFollowTheEnd}
use Rattle.broker_laws.specs.Wrong.{step_committing_at_once}
use Rattle.broker_laws.specs.WrongEnds.{step_swapping_outcomes, step_deciding_nothing}

pub offsets_follow : OffsetsFollowTheEnd step reply_to
offsets_follow = record { undecided = refl; committed = refl; aborted = refl }

-- the offset that a reply tells first
abbrev first_offset : List FetchedOffset → ℤ
first_offset [] = negsuc 0
first_offset (a ∷ rest) = a.offset

abbrev offset_in_first : List (Topic FetchedOffset) → ℤ
offset_in_first [] = negsuc 0
offset_in_first (t ∷ ts) = first_offset t.partitions

abbrev offset_told : Reply → ℤ
offset_told (replies.OffsetFetch reply) = offset_in_first reply.topics
offset_told reply = negsuc 0

pub not_the_other_end : ¬ OffsetsFollowTheEnd step_swapping_outcomes reply_to
not_the_other_end law = let clash : ◌≡◌ {A = ℤ} (negsuc 0) (pos 5) = ap offset_told law.committed in cc

pub not_while_open : ¬ OffsetsFollowTheEnd step_committing_at_once reply_to
not_while_open law = let clash : ◌≡◌ {A = ℤ} (pos 5) (negsuc 0) = ap offset_told law.undecided in cc

pub not_undecided : ¬ OffsetsFollowTheEnd step_deciding_nothing reply_to
not_undecided law = let clash : ◌≡◌ {A = ℤ} (negsuc 0) (pos 5) = ap offset_told law.committed in cc
