-- The wrong steps for offsets are refuted, each by a worked history.
use Rattle.std.proofs.Common.{◌≡◌, ℤ, pos, negsuc, true, false, List, [], ◌∷◌, Option, Some, None, refl, sym, ap, ◌∙◌, codes as bytes, ◌++◌}
use Rattle.wire_types.specs.declared.error_code.ErrorCode.TheVariants as codes
use Rattle.wire_types.specs.declared.topic.Topic.{Topic}
use Rattle.wire_types.specs.ErrorCode.{number_of}
use Rattle.msg_group.specs.declared.offset_commit.OffsetCommitRequest.{OffsetCommitRequest}
use Rattle.msg_group.specs.declared.offset_commit.OffsetCommitReply.{OffsetCommitReply}
use Rattle.msg_group.specs.declared.offset_fetch.OffsetFetchRequest.{OffsetFetchRequest}
use Rattle.msg_group.specs.declared.offset_fetch.FetchedOffset.{FetchedOffset}
use Rattle.msg_admin.specs.declared.request.Request.TheVariants.{OffsetCommit, OffsetFetch}
use Rattle.msg_admin.specs.declared.reply.Reply.{Reply}
use Rattle.msg_admin.specs.declared.reply.Reply.TheVariants as replies
use Rattle.audit_trail.specs.declared.event.Event.{Event}
use Rattle.audit_trail.specs.declared.event.Event.TheVariants.{Ask, Mark, Tick}
use Rattle.group_offsets.specs.declared.event.PartitionOffset.{PartitionOffset}
use Rattle.broker_world.specs.World.{World}
use Rattle.read_laws.specs.Fetches.{at_place}
use Rattle.read_laws.proofs.WrongFetches.{root, holding}
use Rattle.group_offsets.specs.declared.event.OffsetEvent.{OffsetEvent}
use Rattle.group_offsets.specs.declared.event.OffsetEvent.TheVariants.{Put, Stage}
use Rattle.broker_laws.specs.Fetches.{IsLastOf, Waits}
use Rattle.durability_laws.specs.Steps.{world_after, world_later}
use Rattle.durability_laws.specs.Offsets.{LeavesCommitted, IsOffsetTold, KeepsCommittedOffsets, TellsUnstableOffsets}
use Rattle.durability_laws.specs.WrongSteps.{step_forgetting_offsets, step_committing_nothing, step_telling_no_offset, step_ignoring_require_stable, step_always_unstable}

-- ---- the group `g` commits the offset 5 for partition 0 of the topic `a`

abbrev w : World
w = holding ([] ∷ [])

abbrev commit : OffsetCommitRequest
commit = record { group = bytes "g"; generation = negsuc 0; member = []; retention = negsuc 0; topics = record { name = bytes "a"; partitions = record { index = pos 0; offset = pos 5; metadata = Some (bytes "m") } ∷ [] } ∷ [] }

abbrev committed : OffsetCommitReply
committed = record { topics = record { name = bytes "a"; partitions = record { index = pos 0; error = codes.None } ∷ [] } ∷ [] }

abbrev five : PartitionOffset
five = record { topic = bytes "a"; index = pos 0; offset = pos 5; metadata = bytes "m" }

abbrev commits : Event
commits = Ask root None (OffsetCommit commit)

abbrev fetch : OffsetFetchRequest
fetch = record { group = bytes "g"; topics = Some (record { name = bytes "a"; partitions = pos 0 ∷ [] } ∷ []); require_stable = false }

abbrev fetches : Event
fetches = Ask root None (OffsetFetch fetch)

last : IsLastOf commit.topics committed five
unfolding number_of
last = record { before = []; after = []; put = refl; last = tt }

abbrev offset_in : Option FetchedOffset → ℤ
offset_in None = negsuc 9
offset_in (Some a) = a.offset

abbrev topics_in : Reply → List (Topic FetchedOffset)
topics_in (replies.OffsetFetch reply) = reply.topics
topics_in reply = []

offset_is : (reply : Reply) (found : ℤ) → IsOffsetTold reply 0 0 five → offset_in (at_place (topics_in reply) 0 0) ≡ found → found ≡ pos 5
offset_is reply found told is = sym is ∙ ap (λ (x : Reply). offset_in (at_place (topics_in x) 0 0)) told.is ∙ ap offset_in told.there ∙ told.offset

-- a tick leaves what was committed
tick_leaves : (v : World) → LeavesCommitted v (Tick 0) (bytes "g") (bytes "a") (pos 0)
tick_leaves v = record {
  no_commit = λ caller client r is group. absurd (let clash : Tick 0 ≡ Ask caller client (OffsetCommit r) = is in cc);
  no_decision = λ producer outcome is waits. let clash : Tick 0 ≡ Mark = is.event in cc;
}

-- who doesn't require a stable offset asks at any time
not_stable : false ≡ true → ⊥
not_stable h = cc

pub not_forgotten : ¬ KeepsCommittedOffsets step_forgetting_offsets
not_forgotten law =
    let v = world_later step_forgetting_offsets w (commits ∷ Tick 0 ∷ []) in
    let told = law w root None commit committed five (Tick 0 ∷ []) refl last (tick_leaves (world_after step_forgetting_offsets w commits), tt) v refl root None fetch 0 0
    (record { same_group = refl; topics = record { name = bytes "a"; partitions = pos 0 ∷ [] } ∷ []; listed = refl; named = record { name = bytes "a"; partitions = pos 0 ∷ [] }; at = refl; same_topic = refl; asked = refl; may_describe_group = refl; may_describe_topic = refl }) (λ stable producer waits. not_stable stable)
    in
    let clash : ◌≡◌ {A = ℤ} (negsuc 0) (pos 5) = offset_is (step_forgetting_offsets v fetches).reply (negsuc 0) told refl in
    cc

pub not_dropped : ¬ KeepsCommittedOffsets step_committing_nothing
not_dropped law =
    let v = world_later step_committing_nothing w (commits ∷ []) in
    let told = law w root None commit committed five [] refl last tt v refl root None fetch 0 0
    (record { same_group = refl; topics = record { name = bytes "a"; partitions = pos 0 ∷ [] } ∷ []; listed = refl; named = record { name = bytes "a"; partitions = pos 0 ∷ [] }; at = refl; same_topic = refl; asked = refl; may_describe_group = refl; may_describe_topic = refl }) (λ stable producer waits. not_stable stable)
    in
    let clash : ◌≡◌ {A = ℤ} (negsuc 0) (pos 5) = offset_is (step_committing_nothing v fetches).reply (negsuc 0) told refl in
    cc

pub not_untold : ¬ KeepsCommittedOffsets step_telling_no_offset
not_untold law =
    let v = world_later step_telling_no_offset w (commits ∷ []) in
    let told = law w root None commit committed five [] refl last tt v refl root None fetch 0 0
    (record { same_group = refl; topics = record { name = bytes "a"; partitions = pos 0 ∷ [] } ∷ []; listed = refl; named = record { name = bytes "a"; partitions = pos 0 ∷ [] }; at = refl; same_topic = refl; asked = refl; may_describe_group = refl; may_describe_topic = refl }) (λ stable producer waits. not_stable stable)
    in
    let clash : ◌≡◌ {A = ℤ} (negsuc 0) (pos 5) = offset_is (step_telling_no_offset v fetches).reply (negsuc 0) told refl in
    cc

-- ---- who requires a stable offset

abbrev stable_fetch : OffsetFetchRequest
stable_fetch = record fetch { require_stable = true }

none_waits : (producer : ℤ) → Waits (Put five ∷ []) producer (bytes "a") (pos 0) → ⊥
none_waits producer h = by_place h.before h.events where
  by_place : (before : List OffsetEvent) → Put five ∷ [] ≡ before ++ Stage producer h.offset ∷ h.after → ⊥
  by_place [] is = cc
  by_place (x ∷ []) is = cc
  by_place (x ∷ y ∷ before) is = cc

abbrev code_in : Option FetchedOffset → ℤ
code_in None = negsuc 9
code_in (Some a) = number_of a.error

pub not_always_unstable : ¬ KeepsCommittedOffsets step_always_unstable
unfolding number_of
not_always_unstable law =
    let v = world_later step_always_unstable w (commits ∷ []) in
    let told = law w root None commit committed five [] refl last tt v refl root None stable_fetch 0 0
    (record { same_group = refl; topics = record { name = bytes "a"; partitions = pos 0 ∷ [] } ∷ []; listed = refl; named = record { name = bytes "a"; partitions = pos 0 ∷ [] }; at = refl; same_topic = refl; asked = refl; may_describe_group = refl; may_describe_topic = refl }) (λ stable producer waits. none_waits producer waits)
    in
    let code : pos 88 ≡ pos 0 = ap (λ (x : Reply). code_in (at_place (topics_in x) 0 0)) told.is ∙ ap code_in told.there ∙ told.error in
    cc

-- an offset of the partition waits in the group
abbrev waiting : World
waiting = record w { groups = record { name = bytes "g"; member = None; generation = pos 0; assignment = None; offsets = Stage (pos 0) five ∷ [] } ∷ [] }

pub not_ignored : ¬ TellsUnstableOffsets step_ignoring_require_stable
unfolding number_of
not_ignored law =
    let told = law waiting root None stable_fetch 0 0 (bytes "g") (bytes "a") (pos 0) (pos 0)
    (record { same_group = refl; topics = record { name = bytes "a"; partitions = pos 0 ∷ [] } ∷ []; listed = refl; named = record { name = bytes "a"; partitions = pos 0 ∷ [] }; at = refl; same_topic = refl; asked = refl; may_describe_group = refl; may_describe_topic = refl }) refl
    (record { offset = five; is = record { of_topic = refl; of_index = refl }; before = []; after = []; events = refl; undecided = tt })
    in
    let code : pos 0 ≡ pos 88 = ap (λ (x : Reply). code_in (at_place (topics_in x) 0 0)) told.is ∙ ap code_in told.there ∙ told.error in
    cc
