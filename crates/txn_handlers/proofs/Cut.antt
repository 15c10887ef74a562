-- An AddPartitionsToTxn of which something is refused or missing, and any other.
use Rattle.std.proofs.Common.{◌≡◌, ◌<◌, ℕ, ℤ, Bool, true, false, cond, List, [], ◌∷◌, refl, ap, arith}
use Rattle.std.specs.Prelude.{◌||◌, length}
use Rattle.acl_binding.specs.declared.question.Caller.{Caller}
use Rattle.authorizer.specs.Asking.{Rules}
use Rattle.wire_types.specs.declared.topic.Topic.{Topic}
use Rattle.msg_txn.specs.declared.add_partitions.AddPartitionsToTxnRequest.{AddPartitionsToTxnRequest}
use Rattle.walk.specs.Walk.{refusals, asked_in}
use Rattle.walk.specs.Woven.{has_any}
use Rattle.broker_world.specs.World.{World, TopicValue, rules_of}
use Rattle.txn_handlers.specs.AddPartitions.{cut_rule, is_cut, is_missing, added_parts, cut_outcome, added_outcome, add_partitions_outcome}

left_of : (a b : Bool) → a ≡ true → (a || b) ≡ true
left_of true b h = refl
left_of false b h = absurd (let clash : false ≡ true = h in cc)

right_of : (a b : Bool) → b ≡ true → (a || b) ≡ true
right_of true b h = refl
right_of false b h = h

neither : (a b : Bool) → a ≡ false → b ≡ false → (a || b) ≡ false
neither true b h k = absurd (let clash : true ≡ false = h in cc)
neither false b h k = k

pub any_of_some : {A : Type 0} (xs : List A) → 0 < length xs → has_any xs ≡ true
any_of_some [] h = absurd (omega (arith, h))
any_of_some (x ∷ xs) h = refl

pub none_of_zero : {A : Type 0} (xs : List A) → length xs ≡ 0 → xs ≡ []
none_of_zero [] h = refl
none_of_zero (x ∷ xs) h = absurd (omega (arith, h))

module _ (caller : Caller) (id : List ℕ) (topics : List TopicValue) (rules : Rules) (ts : List (Topic ℤ)) where
  pub cut_by_refusal : has_any (refusals (cut_rule caller id topics) rules ts) ≡ true → is_cut caller id topics rules ts ≡ true
  cut_by_refusal h = left_of _ (is_missing topics ts) h

  pub cut_by_missing : is_missing topics ts ≡ true → is_cut caller id topics rules ts ≡ true
  cut_by_missing h = right_of (has_any (refusals (cut_rule caller id topics) rules ts)) _ h

  pub not_cut : has_any (refusals (cut_rule caller id topics) rules ts) ≡ false → is_missing topics ts ≡ false → is_cut caller id topics rules ts ≡ false
  not_cut h k = neither _ _ h k

module _ (w : World) (caller : Caller) (r : AddPartitionsToTxnRequest) where
  pub cut_outcome_is : is_cut caller r.transactional_id w.topics (rules_of w) r.topics ≡ true → add_partitions_outcome w caller r ≡ cut_outcome w caller r
  cut_outcome_is h = ap (λ (b : Bool). cond b (cut_outcome w caller r) (added_outcome w r)) h

  pub added_outcome_is : is_cut caller r.transactional_id w.topics (rules_of w) r.topics ≡ false → add_partitions_outcome w caller r ≡ added_outcome w r
  added_outcome_is h = ap (λ (b : Bool). cond b (cut_outcome w caller r) (added_outcome w r)) h

  pub no_parts_paid : is_cut caller r.transactional_id w.topics (rules_of w) r.topics ≡ true → added_parts w caller r ≡ []
  no_parts_paid h = ap (λ (b : Bool). cond b [] (asked_in (cut_rule caller r.transactional_id w.topics) r.topics)) h

  pub all_parts_paid : is_cut caller r.transactional_id w.topics (rules_of w) r.topics ≡ false → added_parts w caller r ≡ asked_in (cut_rule caller r.transactional_id w.topics) r.topics
  all_parts_paid h = ap (λ (b : Bool). cond b [] (asked_in (cut_rule caller r.transactional_id w.topics) r.topics)) h
