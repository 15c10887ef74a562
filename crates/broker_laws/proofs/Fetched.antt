-- What an OffsetFetch tells of the partitions that it names.
use Rattle.std.proofs.Common.{◌≡◌, ℕ, ℤ, pos, negsuc, List, [], ◌∷◌, Option, Some, None, Result, Ok, Err, refl, sym, ap, subst, ◌∙◌}
use Rattle.acl_binding.specs.declared.question.Caller.{Caller}
use Rattle.authorizer.specs.declared.answer.Refusal.{Refusal}
use Rattle.authorizer.specs.Asking.{part_refusal}
use Rattle.wire_types.specs.declared.error_code.ErrorCode.{ErrorCode}
use Rattle.wire_types.specs.declared.error_code.ErrorCode.TheVariants as errors
use Rattle.wire_types.specs.declared.topic.Topic.{Topic}
use Rattle.wire_types.specs.ErrorCode.{number_of}
use Rattle.msg_group.specs.declared.offset_fetch.OffsetFetchRequest.{OffsetFetchRequest}
use Rattle.msg_group.specs.declared.offset_fetch.OffsetFetchReply.{OffsetFetchReply}
use Rattle.msg_group.specs.declared.offset_fetch.FetchedOffset.{FetchedOffset}
use Rattle.msg_admin.specs.declared.reply.Reply.TheVariants as replies
use Rattle.walk.specs.Rule.{refusal_of}
use Rattle.walk.specs.Walk.{answers}
use Rattle.walk.specs.Codes.{refusal_code}
use Rattle.walk.proofs.Weaving.{woven}
use Rattle.group_offsets.specs.declared.event.PartitionOffset.{PartitionOffset}
use Rattle.group_offsets.specs.Offsets.{fetch_result}
use Rattle.broker_world.specs.World.{World, rules_of}
use Rattle.group_handlers.specs.OffsetFetch.{group_question, fetched_offset, offset_rule, offsets_of, fetched_outcome, offset_fetch_by}
use Rattle.broker_laws.specs.Commits.{BothTopics}
use Rattle.api_dispatch.specs.Step.{reply_to}
use Rattle.broker_laws.specs.Fetches.{IsTold, IsFetchAnswer, FetchesBy, FetchesNamed}
use Rattle.broker_laws.proofs.Passing.{never_none}
use Rattle.broker_laws.proofs.Turning.{zero_is, none_zero}
use Rattle.broker_laws.proofs.Refusing.{describe_number, topic_number}
use Rattle.broker_laws.proofs.Pairing.{IsOne, all_are}
use Rattle.broker_laws.proofs.Putting.{not_refused}

-- ---- an OffsetFetch

pub place_as : (told : Result (Option PartitionOffset) ErrorCode) (index : ℤ) → (fetched_offset told index).index ≡ index
place_as (Ok (Some o)) index = refl
place_as (Ok None) index = refl
place_as (Err code) index = refl

epoch_as : (told : Result (Option PartitionOffset) ErrorCode) (index : ℤ) → (fetched_offset told index).leader_epoch ≡ negsuc 0
epoch_as (Ok (Some o)) index = refl
epoch_as (Ok None) index = refl
epoch_as (Err code) index = refl

pub told_as_it : (told : Result (Option PartitionOffset) ErrorCode) (index : ℤ) → IsTold told (fetched_offset told index)
told_as_it (Ok (Some o)) index = (refl, refl, none_zero)
told_as_it (Ok None) index = (refl, refl, none_zero)
told_as_it (Err code) index = (refl, refl, refl)

-- nothing is kept, and nothing added
abbrev FetchKeeps : Unit {0} → Type 0
FetchKeeps u = Unit {0}

abbrev fetch_made : List ℕ → ℤ → FetchedOffset → List ℕ
fetch_made name index a = []

abbrev fetch_seen : Unit {0} → List ℕ
fetch_seen u = []

module _ (w : World) (caller : Caller) (r : OffsetFetchRequest) where
  fetch_one : (u : Unit {0}) (name : List ℕ) (index : ℤ) → FetchKeeps u → (o : Option Refusal) → refusal_of (offset_rule caller (offsets_of w r.group) r.require_stable) (rules_of w) name index ≡ o
      → IsOne (offset_rule caller (offsets_of w r.group) r.require_stable) FetchKeeps (IsFetchAnswer w caller r) fetch_made fetch_seen o u name index
  fetch_one u name index keeps (Some x) e = record {
    keeps = tt;
    is = record { place = refl; epoch = refl; refused = λ may_not. (refl, topic_number (rules_of w) caller name x e); told = λ may. absurd (not_refused (refusal_of (offset_rule caller (offsets_of w r.group) r.require_stable) (rules_of w) name index) x e may) };
    adds = refl;
  }
  fetch_one u name index keeps None e =
      let told = fetch_result (offsets_of w r.group) r.require_stable name index in
      record { keeps = tt; is = record { place = place_as told index; epoch = epoch_as told index; refused = λ may_not. absurd (may_not e); told = λ may. told_as_it told index }; adds = refl }

  fetch_all : (ts : List (Topic ℤ)) → BothTopics (IsFetchAnswer w caller r) ts (answers (offset_rule caller (offsets_of w r.group) r.require_stable) (rules_of w) tt ts)
  fetch_all ts =
      let rule = offset_rule caller (offsets_of w r.group) r.require_stable in
      subst (BothTopics (IsFetchAnswer w caller r) ts) (woven rule (rules_of w) tt ts).answers
      (all_are rule (rules_of w) FetchKeeps (IsFetchAnswer w caller r) fetch_made fetch_seen fetch_one tt ts tt).are

pub fetch_same : (a b : OffsetFetchReply) → replies.OffsetFetch a ≡ replies.OffsetFetch b → a ≡ b
fetch_same a b h = cc

-- a group that may not be described
pub fetch_refused : (w : World) (caller : Caller) (r : OffsetFetchRequest) (reply : OffsetFetchReply) → (offset_fetch_by (part_refusal (rules_of w) (group_question caller r.group ∷ [])) w caller r).reply ≡ replies.OffsetFetch reply
    → (part_refusal (rules_of w) (group_question caller r.group ∷ []) ≡ None → ⊥) → (number_of reply.error ≡ pos 30) × (reply.topics ≡ [])
fetch_refused w caller r reply told may_not = by_refusal (part_refusal (rules_of w) (group_question caller r.group ∷ [])) refl told where
  by_refusal : (o : Option Refusal) → part_refusal (rules_of w) (group_question caller r.group ∷ []) ≡ o → (offset_fetch_by o w caller r).reply ≡ replies.OffsetFetch reply → (number_of reply.error ≡ pos 30) × (reply.topics ≡ [])
  by_refusal (Some x) e h =
      let same = fetch_same (record { throttle = pos 0; topics = []; error = refusal_code x }) reply h in
      (ap (λ (y : OffsetFetchReply). number_of y.error) (sym same) ∙ describe_number (rules_of w) caller r.group x e, sym (ap (λ (y : OffsetFetchReply). y.topics) same))
  by_refusal None e h = absurd (may_not e)

pub fetches_named : (w : World) → FetchesNamed reply_to w
fetches_named w caller client r ts reply told is = by_refusal (part_refusal (rules_of w) (group_question caller r.group ∷ [])) refl told where
  by_refusal : (o : Option Refusal) → part_refusal (rules_of w) (group_question caller r.group ∷ []) ≡ o → (offset_fetch_by o w caller r).reply ≡ replies.OffsetFetch reply → FetchesBy w caller r ts reply
  by_refusal (Some x) e h =
      let same = fetch_same (record { throttle = pos 0; topics = []; error = refusal_code x }) reply h in
      let error : number_of reply.error ≡ pos 0 → ⊥ = λ zero. never_none x.question.kind (ap (λ (y : OffsetFetchReply). y.error) same ∙ zero_is reply.error zero) in
      record {
        granted = λ may. absurd (not_refused (part_refusal (rules_of w) (group_question caller r.group ∷ [])) x e may);
        refused = fetch_refused w caller r reply told;
        answers = λ zero. absurd (error zero);
      }
  by_refusal None e h =
      let named = ap (λ (o : Option (List (Topic ℤ))). (fetched_outcome w caller (offsets_of w r.group) r.require_stable o).reply) (sym is) ∙ h in
      let rule = offset_rule caller (offsets_of w r.group) r.require_stable in
      let same = fetch_same (record { throttle = pos 0; topics = answers rule (rules_of w) tt ts; error = errors.None }) reply named in
      record {
        granted = λ may. ap (λ (y : OffsetFetchReply). number_of y.error) (sym same) ∙ none_zero;
        refused = fetch_refused w caller r reply told;
        answers = λ zero. subst (BothTopics (IsFetchAnswer w caller r) ts) (ap (λ (y : OffsetFetchReply). y.topics) same) (fetch_all w caller r ts);
      }
