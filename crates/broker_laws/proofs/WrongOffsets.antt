-- The wrong rules of committed offsets are refuted, each in a worked case.
use Rattle.std.proofs.Common.{◌≡◌, ℕ, ℤ, pos, negsuc, Bool, true, false, List, [], ◌∷◌, length, Option, Some, None, Result, Ok, Err, inl, refl, codes as bytes, ap, arith}
use Rattle.wire_types.specs.declared.error_code.ErrorCode.{ErrorCode}
use Rattle.wire_types.specs.declared.error_code.ErrorCode.TheVariants as codes
use Rattle.wire_types.specs.declared.topic.Topic.{Topic}
use Rattle.wire_types.specs.ErrorCode.{number_of}
use Rattle.msg_group.specs.declared.offset_commit.OffsetCommitRequest.{OffsetCommitRequest}
use Rattle.msg_group.specs.declared.offset_commit.OffsetCommitReply.{OffsetCommitReply}
use Rattle.msg_group.specs.declared.offset_fetch.OffsetFetchRequest.{OffsetFetchRequest}
use Rattle.msg_group.specs.declared.offset_fetch.OffsetFetchReply.{OffsetFetchReply}
use Rattle.msg_txn.specs.declared.txn_offset_commit.TxnOffsetCommitReply.{TxnOffsetCommitReply}
use Rattle.group_offsets.specs.declared.event.PartitionOffset.{PartitionOffset}
use Rattle.group_offsets.specs.declared.event.OffsetEvent.{OffsetEvent}
use Rattle.group_offsets.specs.declared.event.OffsetEvent.TheVariants.{Put, Stage}
use Rattle.broker_world.specs.World.{World}
use Rattle.api_dispatch.specs.Step.{reply_to}
use Rattle.broker_laws.specs.Commits.{CommitsAreOfMembers}
use Rattle.broker_laws.specs.Fetches.{FetchesByEvents, OffsetsAreTold}
use Rattle.broker_laws.specs.Wrong.{step_committing_at_once}
use Rattle.broker_laws.specs.WrongOffsets.{step_committing_in_any_generation, reply_committing_in_any_generation, step_committing_for_anybody, reply_committing_for_anybody, step_committing_nothing, fetch_of_nothing, fetch_of_staged, fetch_of_unstable, reply_without_offsets, reply_with_unstable_offsets, reply_naming_nothing}
use Rattle.broker_laws.proofs.Worked.{w, root, member, group, with_member, with_open, five, staging}
use Rattle.broker_laws.proofs.WrongMembers.{not_xx}

-- ---- who commits

-- an OffsetCommit of offset 5 for partition 0 of the topic `a`
abbrev commit_in : ℤ → List ℕ → OffsetCommitRequest
commit_in generation id = record { group = bytes "g"; generation = generation; member = id; retention = negsuc 0; topics = record { name = bytes "a"; partitions = record { index = pos 0; offset = pos 5; metadata = None } ∷ [] } ∷ [] }

abbrev committed : OffsetCommitReply
committed = record { topics = record { name = bytes "a"; partitions = record { index = pos 0; error = codes.None } ∷ [] } ∷ [] }

pub not_in_each_generation : ¬ CommitsAreOfMembers step_committing_in_any_generation reply_committing_in_any_generation
unfolding number_of
not_in_each_generation law =
    let told = ((law with_member).commits root None (commit_in (pos 7) (bytes "m")) committed refl).answers.1.0 in
    let clash : ◌≡◌ {A = ℤ} (pos 0) (pos 22) =
    (told.there refl [] refl).other_generation (λ nobody. let clash : ◌≡◌ {A = ℤ} (pos 7) (negsuc 0) = nobody.minus_one in cc) (record { member = member; has = refl; named = refl }) (λ (h : ◌≡◌ {A = ℤ} (pos 1) (pos 7)). cc) in
    cc

pub not_for_each : ¬ CommitsAreOfMembers step_committing_for_anybody reply_committing_for_anybody
unfolding number_of
not_for_each law =
    let told = ((law with_member).commits root None (commit_in (pos 1) (bytes "xx")) committed refl).answers.1.0 in
    let clash : ◌≡◌ {A = ℤ} (pos 0) (pos 25) = (told.there refl [] refl).stranger (λ nobody. let clash : ◌≡◌ {A = ℤ} (pos 1) (negsuc 0) = nobody.minus_one in cc) not_xx in
    cc

pub not_nothing : ¬ CommitsAreOfMembers step_committing_nothing reply_to
unfolding number_of
not_nothing law =
    let clash : ◌≡◌ {A = ℕ} 1 2 = ap (λ (l : List OffsetEvent). length l) ((law with_member).commits root None (commit_in (pos 1) (bytes "m")) committed refl).offsets in
    cc

-- the offset is put, or staged
is_put : List OffsetEvent → Bool
is_put (Put o ∷ es) = true
is_put es = false

abbrev staged : TxnOffsetCommitReply
staged = record { throttle = pos 0; topics = record { name = bytes "a"; partitions = record { index = pos 0; error = codes.None } ∷ [] } ∷ [] }

pub not_before_the_end : ¬ CommitsAreOfMembers step_committing_at_once reply_to
unfolding number_of is_put
not_before_the_end law = let clash : true ≡ false = ap is_put ((law with_open).stages root None staging staged refl).offsets in cc

-- ---- what is fetched, by a group's offset events

pub not_of_nothing : ¬ FetchesByEvents fetch_of_nothing
not_of_nothing law = let clash : ◌≡◌ {A = Result (Option PartitionOffset) ErrorCode} (Ok None) (Ok (Some five)) = law.put [] five (bytes "a") (pos 0) (record { of_topic = refl; of_index = refl }) in cc

pub not_of_staged : ¬ FetchesByEvents fetch_of_staged
not_of_staged law = let clash : ◌≡◌ {A = Result (Option PartitionOffset) ErrorCode} (Ok (Some five)) (Ok None) = law.stage [] (pos 0) five (bytes "a") (pos 0) in cc

pub not_of_unstable : ¬ FetchesByEvents fetch_of_unstable
not_of_unstable law =
    let told = law.unstable (Stage (pos 0) five ∷ []) (pos 0) (bytes "a") (pos 0) (record { offset = five; is = record { of_topic = refl; of_index = refl }; before = []; after = []; events = refl; undecided = tt }) in
    let clash : ◌≡◌ {A = Result (Option PartitionOffset) ErrorCode} (Ok None) (Err told.0) = told.1 in
    cc

-- ---- what an OffsetFetch is answered

abbrev fetch_of : Option (List (Topic ℤ)) → Bool → OffsetFetchRequest
fetch_of topics stable = record { group = bytes "g"; topics = topics; require_stable = stable }

abbrev a0 : List (Topic ℤ)
a0 = record { name = bytes "a"; partitions = pos 0 ∷ [] } ∷ []

-- the answer that no offset is there
abbrev none_told : OffsetFetchReply
none_told = record { throttle = pos 0; topics = record { name = bytes "a"; partitions = record { index = pos 0; offset = negsuc 0; leader_epoch = negsuc 0; metadata = Some []; error = codes.None } ∷ [] } ∷ []; error = codes.None }

pub not_without_offsets : ¬ OffsetsAreTold reply_without_offsets
unfolding number_of
not_without_offsets law =
    let told = ((law with_member).named root None (fetch_of (Some a0) false) a0 none_told refl refl).answers refl in
    let clash : ◌≡◌ {A = ℤ} (negsuc 0) (pos 5) = (told.1.0.told refl).0 in
    cc

abbrev with_staged : World
with_staged = record w { groups = record group { offsets = Stage (pos 0) five ∷ [] } ∷ [] }

pub not_with_unstable : ¬ OffsetsAreTold reply_with_unstable_offsets
unfolding number_of
not_with_unstable law =
    let told = ((law with_staged).named root None (fetch_of (Some a0) true) a0 none_told refl refl).answers refl in
    let clash : codes.None ≡ codes.UnstableOffsetCommit = (told.1.0.told refl).2 in
    cc

pub not_naming_nothing : ¬ OffsetsAreTold reply_naming_nothing
unfolding number_of
not_naming_nothing law =
    let all = (((law with_member).unnamed root None (fetch_of None false) (record { throttle = pos 0; topics = []; error = codes.None }) refl refl).granted refl).1.all in
    (all (record { name = bytes "a"; partitions = [] ∷ [] }) 0 (record { topic = inl refl; may = refl; partition = omega arith; some = λ (h : ◌≡◌ {A = Result (Option PartitionOffset) ErrorCode} (Ok (Some five)) (Ok None)). cc })).2.topic
