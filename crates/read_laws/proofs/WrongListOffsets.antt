-- The wrong rules for a ListOffsets are refuted, each in a worked world.
use Rattle.std.proofs.Common.{◌≡◌, ℕ, ℤ, pos, negsuc, [], ◌∷◌, Option, Some, None, refl, sym, ap, ◌∙◌, codes as bytes}
use Rattle.wire_types.specs.declared.topic.Topic.{Topic}
use Rattle.wire_types.specs.ErrorCode.{number_of}
use Rattle.msg_data.specs.declared.isolation.Isolation.{Isolation}
use Rattle.msg_data.specs.declared.isolation.Isolation.TheVariants.{ReadUncommitted, ReadCommitted}
use Rattle.msg_data.specs.declared.list_offsets.ListOffsetsRequest.{ListOffsetsRequest}
use Rattle.msg_data.specs.declared.list_offsets.WantedOffset.{WantedOffset}
use Rattle.msg_data.specs.declared.list_offsets.FoundOffset.{FoundOffset}
use Rattle.broker_world.specs.World.{LogValue}
use Rattle.broker_world.specs.HandlerResult.{HandlerResult}
use Rattle.read_laws.specs.Fetches.{at_place}
use Rattle.read_laws.specs.ListOffsets.{topics_listed, IsListed, IsListable, TellsInvalidTimestamp, TellsUnlisted, TellsTheLatest, TellsTheEarliest}
use Rattle.read_laws.specs.WrongListOffsets.{list_always_invalid, list_as_committed, list_as_uncommitted, list_other_end, list_never_an_error}
use Rattle.read_laws.proofs.WrongFetches.{root, holding, plain, unended, world, open_world}

abbrev wants : ℤ → WantedOffset
wants timestamp = record { index = pos 0; timestamp = timestamp }

abbrev asks : Isolation → ℤ → ListOffsetsRequest
asks level timestamp = record { replica = negsuc 0; isolation = level; topics = record { name = bytes "a"; partitions = wants timestamp ∷ [] } ∷ [] }

listable : (level : Isolation) (timestamp : ℤ) (log : LogValue) → IsListable (holding (log ∷ [])) root (asks level timestamp) 0 0 (wants timestamp) log
listable level timestamp log = record {
  topic = record { name = bytes "a"; partitions = wants timestamp ∷ [] };
  named = refl;
  asked = refl;
  may_describe = refl;
  there = refl;
}

abbrev offset_in : Option FoundOffset → ℤ
offset_in None = negsuc 9
offset_in (Some told) = told.offset

offset_is : (o : HandlerResult) (i j : ℕ) (offset found : ℤ) → IsListed o i j offset → offset_in (at_place (topics_listed o.reply) i j) ≡ found → found ≡ offset
offset_is o i j offset found told is = sym is ∙ ap offset_in told.told ∙ told.at

pub latest_not_invalid : ¬ TellsTheLatest list_always_invalid
latest_not_invalid law =
    let told = law world root (asks ReadUncommitted (negsuc 0)) 0 0 (wants (negsuc 0)) (plain ∷ []) (listable ReadUncommitted (negsuc 0) (plain ∷ [])) refl in
    let clash : ◌≡◌ {A = ℤ} (negsuc 0) (pos 1) = offset_is _ 0 0 (pos 1) (negsuc 0) told refl in
    cc

pub latest_of_level : ¬ TellsTheLatest list_as_committed
latest_of_level law =
    let told = law open_world root (asks ReadUncommitted (negsuc 0)) 0 0 (wants (negsuc 0)) (unended ∷ []) (listable ReadUncommitted (negsuc 0) (unended ∷ [])) refl in
    let clash : ◌≡◌ {A = ℤ} (pos 0) (pos 1) = offset_is _ 0 0 (pos 1) (pos 0) told refl in
    cc

pub latest_not_unstable : ¬ TellsTheLatest list_as_uncommitted
latest_not_unstable law =
    let told = law open_world root (asks ReadCommitted (negsuc 0)) 0 0 (wants (negsuc 0)) (unended ∷ []) (listable ReadCommitted (negsuc 0) (unended ∷ [])) refl in
    let clash : ◌≡◌ {A = ℤ} (pos 1) (pos 0) = offset_is _ 0 0 (pos 0) (pos 1) told refl in
    cc

pub latest_not_earliest : ¬ TellsTheLatest list_other_end
latest_not_earliest law =
    let told = law world root (asks ReadUncommitted (negsuc 0)) 0 0 (wants (negsuc 0)) (plain ∷ []) (listable ReadUncommitted (negsuc 0) (plain ∷ [])) refl in
    let clash : ◌≡◌ {A = ℤ} (pos 0) (pos 1) = offset_is _ 0 0 (pos 1) (pos 0) told refl in
    cc

pub earliest_not_invalid : ¬ TellsTheEarliest list_always_invalid
earliest_not_invalid law =
    let told = law world root (asks ReadUncommitted (negsuc 1)) 0 0 (wants (negsuc 1)) (plain ∷ []) (listable ReadUncommitted (negsuc 1) (plain ∷ [])) refl in
    let clash : ◌≡◌ {A = ℤ} (negsuc 0) (pos 0) = offset_is _ 0 0 (pos 0) (negsuc 0) told refl in
    cc

pub earliest_not_latest : ¬ TellsTheEarliest list_other_end
earliest_not_latest law =
    let told = law world root (asks ReadUncommitted (negsuc 1)) 0 0 (wants (negsuc 1)) (plain ∷ []) (listable ReadUncommitted (negsuc 1) (plain ∷ [])) refl in
    let clash : ◌≡◌ {A = ℤ} (pos 1) (pos 0) = offset_is _ 0 0 (pos 0) (pos 1) told refl in
    cc

-- ---- errors

abbrev code_in : Option FoundOffset → ℤ
code_in None = negsuc 9
code_in (Some told) = number_of told.error

abbrev named : ℤ → Topic WantedOffset
named timestamp = record { name = bytes "a"; partitions = wants timestamp ∷ [] }

timestamp_differs : (n : ℤ) → n ≡ pos 7 → n ≡ negsuc 0 → ⊥
timestamp_differs n is other = let clash : pos 7 ≡ negsuc 0 = sym is ∙ other in cc

timestamp_differs_too : (n : ℤ) → n ≡ pos 7 → n ≡ negsuc 1 → ⊥
timestamp_differs_too n is other = let clash : pos 7 ≡ negsuc 1 = sym is ∙ other in cc

pub invalid_is_told : ¬ TellsInvalidTimestamp list_never_an_error
unfolding number_of
invalid_is_told law =
    let told = law world root (asks ReadUncommitted (pos 7)) 0 0 (named (pos 7)) (wants (pos 7)) (plain ∷ []) (record { named = refl; asked = refl; may_describe = refl }) refl (timestamp_differs (pos 7) refl) (timestamp_differs_too (pos 7) refl) in
    let clash : ◌≡◌ {A = ℤ} (pos 0) (pos 42) = ap code_in told.told ∙ told.error in
    cc

pub missing_is_told : ¬ TellsUnlisted list_never_an_error
unfolding number_of
missing_is_told law =
    let told = law (holding []) root (asks ReadUncommitted (negsuc 0)) 0 0 (named (negsuc 0)) (wants (negsuc 0)) (record { named = refl; asked = refl; may_describe = refl }) refl in
    let clash : ◌≡◌ {A = ℤ} (pos 0) (pos 3) = ap code_in told.told ∙ told.error in
    cc
