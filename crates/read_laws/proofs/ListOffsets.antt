-- A ListOffsets tells the ends of a log.
use Rattle.std.proofs.Common.{◌≡◌, ℕ, ℤ, pos, negsuc, cond, List, Option, Some, None, refl, sym, ap, ◌∙◌, true, false, Bool}
use Rattle.std.specs.Ordering.{int_eq}
use Rattle.acl_binding.specs.declared.question.Caller.{Caller}
use Rattle.acl_binding.specs.declared.question.Verdict.{Verdict}
use Rattle.acl_binding.specs.declared.words.Kind.TheVariants as kinds
use Rattle.acl_binding.specs.declared.words.Operation.TheVariants as operations
use Rattle.acl_binding.specs.Verdict.{question_of}
use Rattle.authorizer.specs.declared.answer.Refusal.{Refusal}
use Rattle.authorizer.specs.Asking.{refusal_by, first_of}
use Rattle.wire_types.specs.declared.error_code.ErrorCode.TheVariants as codes
use Rattle.wire_types.specs.declared.topic.Topic.{Topic}
use Rattle.wire_types.specs.ErrorCode.{number_of}
use Rattle.partition_log.specs.Fetch.{limit_of}
use Rattle.partition_log.proofs.Numbers.{same_is}
use Rattle.msg_data.specs.declared.isolation.Isolation.{Isolation}
use Rattle.msg_data.specs.declared.list_offsets.ListOffsetsRequest.{ListOffsetsRequest}
use Rattle.msg_data.specs.declared.list_offsets.WantedOffset.{WantedOffset}
use Rattle.msg_data.specs.declared.list_offsets.FoundOffset.{FoundOffset}
use Rattle.walk.specs.Rule.{PartRule, refusal_of}
use Rattle.walk.specs.Walk.{answers}
use Rattle.walk.specs.Steps.{answer_by}
use Rattle.walk.proofs.Headlines.{answers_each_part}
use Rattle.broker_world.specs.World.{World, LogValue, rules_of}
use Rattle.broker_world.specs.Logs.{log_at}
use Rattle.data_handlers.specs.ListOffsets.{listed_at, listed_error, listed_in, listed_offset_by, list_rule, list_offsets_outcome}
use Rattle.read_laws.specs.Fetches.{at_place, partition_in, level_end}
use Rattle.read_laws.specs.ListOffsets.{IsListed, MayDescribe, IsListable, IsAllowed, TellsInvalidTimestamp, TellsUnlisted, TellsTheLatest, TellsTheEarliest}
use Rattle.read_laws.proofs.Fetches.{zero_is, same_end}

module _ (w : World) (caller : Caller) (r : ListOffsetsRequest) where
  abbrev api : PartRule WantedOffset FoundOffset (Unit {0})
  api = list_rule caller r.isolation w.topics

  granted : (name : List ℕ) (p : WantedOffset) → MayDescribe w caller name → refusal_of api (rules_of w) name p ≡ None
  granted name p may = ap (λ (v : Verdict). first_of (refusal_by v (question_of caller operations.Describe kinds.Topic name)) None) may

  listed : (i j : ℕ) (p : WantedOffset) (log : LogValue) → IsListable w caller r i j p log → at_place (answers api (rules_of w) tt r.topics) i j ≡ Some (listed_in r.isolation log p)
  listed i j p log is =
      let placed = answers_each_part.places api (rules_of w) tt r.topics i is.topic is.named in
      ap (partition_in j) placed.1.0
      ∙ placed.1.1.places j p is.asked
      ∙ ap (λ (o : Option Refusal). Some (answer_by api o tt is.topic.name p)) (granted is.topic.name p is.may_describe)
      ∙ ap (λ (o : Option LogValue). Some (listed_offset_by r.isolation p o)) is.there

  offset_listed : (i j : ℕ) (p : WantedOffset) (log : LogValue) (offset : ℤ) → IsListable w caller r i j p log → listed_in r.isolation log p ≡ listed_at offset p → IsListed (list_offsets_outcome w caller r) i j offset
  offset_listed i j p log offset is told = record { answer = listed_at offset p; told = listed i j p log is ∙ ap (λ (x : FoundOffset). Some x) told; error = zero_is; timestamp = refl; at = refl }

abbrev by_timestamp : Isolation → LogValue → WantedOffset → ℤ → FoundOffset
by_timestamp level log p timestamp =
    cond (int_eq timestamp (negsuc 0)) (listed_at (limit_of level log) p)
    (cond (int_eq timestamp (negsuc 1)) (listed_at (pos 0) p) (listed_error codes.InvalidRequest p))

pub tells_the_latest : TellsTheLatest list_offsets_outcome
tells_the_latest w caller r i j p log is latest =
    offset_listed w caller r i j p log (level_end r.isolation log) is (ap (by_timestamp r.isolation log p) latest ∙ ap (λ (n : ℤ). listed_at n p) (sym (same_end r.isolation log)))

pub tells_the_earliest : TellsTheEarliest list_offsets_outcome
tells_the_earliest w caller r i j p log is earliest = offset_listed w caller r i j p log (pos 0) is (ap (by_timestamp r.isolation log p) earliest)

-- ---- errors

allowed : (w : World) (caller : Caller) (r : ListOffsetsRequest) (i j : ℕ) (topic : Topic WantedOffset) (p : WantedOffset) → IsAllowed w caller r i j topic p → at_place (answers (api w caller r) (rules_of w) tt r.topics) i j ≡ Some (listed_offset_by r.isolation p (log_at w.topics topic.name p.index))
allowed w caller r i j topic p is =
    let placed = answers_each_part.places (api w caller r) (rules_of w) tt r.topics i topic is.named in
    ap (partition_in j) placed.1.0 ∙ placed.1.1.places j p is.asked ∙ ap (λ (o : Option Refusal). Some (answer_by (api w caller r) o tt topic.name p)) (granted w caller r topic.name p is.may_describe)

three_is : number_of codes.UnknownTopicOrPartition ≡ pos 3
unfolding number_of
three_is = refl

forty_two : number_of codes.InvalidRequest ≡ pos 42
unfolding number_of
forty_two = refl

other_than : (z n : ℤ) → (z ≡ n → ⊥) → int_eq z n ≡ false
other_than z n differ = by_test (int_eq z n) refl where
  by_test : (t : Bool) → int_eq z n ≡ t → t ≡ false
  by_test true e = absurd (differ (same_is z n e))
  by_test false e = refl

pub tells_invalid_timestamp : TellsInvalidTimestamp list_offsets_outcome
tells_invalid_timestamp w caller r i j topic p log is there latest earliest =
    let first = other_than p.timestamp (negsuc 0) latest in
    let second = other_than p.timestamp (negsuc 1) earliest in
    record {
      answer = listed_error codes.InvalidRequest p;
      told = allowed w caller r i j topic p is
          ∙ ap (λ (o : Option LogValue). Some (listed_offset_by r.isolation p o)) there
          ∙ ap (λ (t : Bool). Some (cond t (listed_at (limit_of r.isolation log) p) (cond (int_eq p.timestamp (negsuc 1)) (listed_at (pos 0) p) (listed_error codes.InvalidRequest p)))) first
          ∙ ap (λ (t : Bool). Some (cond t (listed_at (pos 0) p) (listed_error codes.InvalidRequest p))) second;
      error = forty_two;
      timestamp = refl;
      none = refl;
    }

pub tells_missing : TellsUnlisted list_offsets_outcome
tells_missing w caller r i j topic p is none = record {
  answer = listed_error codes.UnknownTopicOrPartition p;
  told = allowed w caller r i j topic p is ∙ ap (λ (o : Option LogValue). Some (listed_offset_by r.isolation p o)) none;
  error = three_is;
  timestamp = refl;
  none = refl;
}
