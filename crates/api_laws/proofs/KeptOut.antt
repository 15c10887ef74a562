-- One refused partition of an AddPartitionsToTxn keeps all others out.
use Rattle.std.proofs.Common.{◌≡◌, ℕ, zero, suc, ℤ, Bool, true, false, cond, is_some, List, [], ◌∷◌, ◌++◌, Option, Some, None, refl, sym, ap, ◌∙◌}
use Rattle.std.specs.List.{cons_option}
use Rattle.acl_binding.specs.declared.question.Caller.{Caller}
use Rattle.authorizer.specs.declared.answer.Refusal.{Refusal}
use Rattle.authorizer.specs.Asking.{part_refusal}
use Rattle.wire_types.specs.ErrorCode.{number_of}
use Rattle.wire_types.specs.declared.topic.Topic.{Topic}
use Rattle.msg_txn.specs.declared.add_partitions.AddedPartition.{AddedPartition}
use Rattle.msg_txn.specs.declared.add_partitions.AddPartitionsToTxnRequest.{AddPartitionsToTxnRequest}
use Rattle.msg_admin.specs.declared.request.Request.TheVariants as requests
use Rattle.walk.specs.Headline.{element_at}
use Rattle.walk.specs.Steps.{answer_by, part_world, parts_world, parts_answers, topics_answers}
use Rattle.walk.specs.Walk.{parts_refused, refusals}
use Rattle.walk.proofs.Weaving.{woven}
use Rattle.broker_world.specs.World.{World, LogValue, rules_of}
use Rattle.broker_world.specs.Logs.{log_at}
use Rattle.txn_handlers.specs.AddPartitions.{add_questions, cut_code, cut_rule, is_missing, is_cut, cut_outcome, added_outcome}
use Rattle.api_dispatch.specs.Step.{outcome}
use Rattle.api_laws.specs.ToldErrors.{Place, TopicAt, PartitionAt, error_number, error_number_in, error_at}
use Rattle.api_laws.specs.AskedTable.{Row, topic_rows, rows_for, rows_in, rows_at, first_refused}
use Rattle.api_laws.specs.KeptOut.{not_attempted_code, RefusedKeepsOut}
use Rattle.api_laws.proofs.AskedTable.{Agree, agree, none_of}

same_element : {X : Type 0} (x y : X) → Some x ≡ Some y → x ≡ y
same_element x y h = cc

front_none : (xs ys : List Refusal) → xs ++ ys ≡ [] → xs ≡ []
front_none [] ys h = refl
front_none (x ∷ xs) ys h = absurd (let clash : x ∷ (xs ++ ys) ≡ [] = h in cc)

back_none : (xs ys : List Refusal) → xs ++ ys ≡ [] → ys ≡ []
back_none [] ys h = h
back_none (x ∷ xs) ys h = absurd (let clash : x ∷ (xs ++ ys) ≡ [] = h in cc)

none_there : (o : Option Refusal) (x : Option Row) (rest : List Refusal) → Agree o x → cons_option o rest ≡ [] → x ≡ None
none_there None None rest h none = refl
none_there None (Some x) rest h none = absurd h
none_there (Some r) x rest h none = absurd (let clash : r ∷ rest ≡ [] = none in cc)

none_rest : (o : Option Refusal) (rest : List Refusal) → cons_option o rest ≡ [] → rest ≡ []
none_rest None rest none = none
none_rest (Some r) rest none = absurd (let clash : r ∷ rest ≡ [] = none in cc)

untried_number : (log : Option LogValue) → number_of (cut_code log) ≡ not_attempted_code log
unfolding number_of
untried_number None = refl
untried_number (Some log) = refl

module _ (w : World) (caller : Caller) (r : AddPartitionsToTxnRequest) where
  abbrev rows : List ℕ → List Row
  rows name = topic_rows (requests.AddPartitionsToTxn r) name

  abbrev refused_parts : List ℕ → List ℤ → List Refusal
  refused_parts name ps = parts_refused (cut_rule caller r.transactional_id w.topics) (rules_of w) name ps

  abbrev refused_topics : List (Topic ℤ) → List Refusal
  refused_topics ts = refusals (cut_rule caller r.transactional_id w.topics) (rules_of w) ts

  -- where no part is refused, none is at any place
  parts_granted : (name : List ℕ) (ps : List ℤ) (j : ℕ) → refused_parts name ps ≡ [] → first_refused w caller (rows_for rows name (element_at ps j)) ≡ None
  parts_granted name [] j none = refl
  parts_granted name (p ∷ ps) zero none =
      none_there (part_refusal (rules_of w) (add_questions caller r.transactional_id name)) (first_refused w caller (rows name)) (refused_parts name ps) (agree w caller (rows name)) none
  parts_granted name (p ∷ ps) (suc j) none = parts_granted name ps j (none_rest (part_refusal (rules_of w) (add_questions caller r.transactional_id name)) (refused_parts name ps) none)

  topics_granted : (ts : List (Topic ℤ)) (i j : ℕ) → refused_topics ts ≡ [] → first_refused w caller (rows_in rows (element_at ts i) j) ≡ None
  topics_granted [] i j none = refl
  topics_granted (t ∷ ts) zero j none = parts_granted t.name t.partitions j (front_none (refused_parts t.name t.partitions) (refused_topics ts) none)
  topics_granted (t ∷ ts) (suc i) j none = topics_granted ts i j (back_none (refused_parts t.name t.partitions) (refused_topics ts) none)

  granted_at : (place : Place) → refused_topics r.topics ≡ [] → first_refused w caller (rows_at (requests.AddPartitionsToTxn r) place) ≡ None
  granted_at (TopicAt i) none = refl
  granted_at (PartitionAt i j) none = topics_granted r.topics i j none

  is_cut_by : (place : Place) → is_some (first_refused w caller (rows_at (requests.AddPartitionsToTxn r) place)) ≡ true → is_cut caller r.transactional_id w.topics (rules_of w) r.topics ≡ true
  is_cut_by place refused = by_test (is_cut caller r.transactional_id w.topics (rules_of w) r.topics) refl where
    by_test : (b : Bool) → is_cut caller r.transactional_id w.topics (rules_of w) r.topics ≡ b → is_cut caller r.transactional_id w.topics (rules_of w) r.topics ≡ true
    by_test true is = is
    by_test false is = absurd (let clash : false ≡ true = sym (ap (λ (o : Option Row). is_some o) (granted_at place (none_of (refused_topics r.topics) (is_missing w.topics r.topics) is))) ∙ refused in cc)

  -- ---- what the others are told

  part_untried : (o : Option Refusal) (x : Option Row) (v : Unit {0}) (name : List ℕ) (p : ℤ) → Agree o x → x ≡ None → number_of (answer_by (cut_rule caller r.transactional_id w.topics) o v name p).error ≡ not_attempted_code (log_at w.topics name p)
  part_untried None x v name p h none = untried_number (log_at w.topics name p)
  part_untried (Some refusal) None v name p h none = absurd h
  part_untried (Some refusal) (Some x) v name p h none = absurd (let clash : Some x ≡ None = none in cc)

  parts_untried : (v : Unit {0}) (name : List ℕ) (ps : List ℤ) (j : ℕ) (index : ℤ) → first_refused w caller (rows name) ≡ None → element_at ps j ≡ Some index
      → error_number (λ (p : AddedPartition). p.error) (element_at (parts_answers (cut_rule caller r.transactional_id w.topics) (rules_of w) v name ps) j) ≡ Some (not_attempted_code (log_at w.topics name index))
  parts_untried v name [] j index none h = absurd (let clash : None ≡ Some index = h in cc)
  parts_untried v name (p ∷ ps) zero index none h =
      ap (λ (n : ℤ). Some n) (part_untried (part_refusal (rules_of w) (add_questions caller r.transactional_id name)) (first_refused w caller (rows name)) v name p (agree w caller (rows name)) none)
      ∙ ap (λ (q : ℤ). Some (not_attempted_code (log_at w.topics name q))) (same_element p index h)
  parts_untried v name (p ∷ ps) (suc j) index none h = parts_untried (part_world (cut_rule caller r.transactional_id w.topics) (rules_of w) v name p) name ps j index none h

  topics_untried : (v : Unit {0}) (ts : List (Topic ℤ)) (i j : ℕ) (t : Topic ℤ) (index : ℤ) → first_refused w caller (rows t.name) ≡ None → element_at ts i ≡ Some t → element_at t.partitions j ≡ Some index
      → error_number_in (λ (p : AddedPartition). p.error) (element_at (topics_answers (cut_rule caller r.transactional_id w.topics) (rules_of w) v ts) i) j ≡ Some (not_attempted_code (log_at w.topics t.name index))
  topics_untried v [] i j t index none here there = absurd (let clash : None ≡ Some t = here in cc)
  topics_untried v (x ∷ xs) zero j t index none here there =
      ap (λ (y : Topic ℤ). error_number (λ (p : AddedPartition). p.error) (element_at (parts_answers (cut_rule caller r.transactional_id w.topics) (rules_of w) v y.name y.partitions) j)) (same_element x t here)
      ∙ parts_untried v t.name t.partitions j index none there
  topics_untried v (x ∷ xs) (suc i) j t index none here there = topics_untried (parts_world (cut_rule caller r.transactional_id w.topics) (rules_of w) v x.name x.partitions) xs i j t index none here there

  -- the rows at the place are those of the topic's name
  named : (i j : ℕ) (t : Topic ℤ) (index : ℤ) → element_at r.topics i ≡ Some t → element_at t.partitions j ≡ Some index → first_refused w caller (rows_at (requests.AddPartitionsToTxn r) (PartitionAt i j)) ≡ None → first_refused w caller (rows t.name) ≡ None
  named i j t index here there none =
      sym (ap (λ (o : Option ℤ). first_refused w caller (rows_for rows t.name o)) there)
      ∙ sym (ap (λ (o : Option (Topic ℤ)). first_refused w caller (rows_in rows o j)) here)
      ∙ none

  others_told : (place : Place) → is_some (first_refused w caller (rows_at (requests.AddPartitionsToTxn r) place)) ≡ true → (i j : ℕ) (t : Topic ℤ) (index : ℤ) → element_at r.topics i ≡ Some t → element_at t.partitions j ≡ Some index
      → first_refused w caller (rows_at (requests.AddPartitionsToTxn r) (PartitionAt i j)) ≡ None
      → error_at (cond (is_cut caller r.transactional_id w.topics (rules_of w) r.topics) (cut_outcome w caller r) (added_outcome w r)).reply (PartitionAt i j) ≡ Some (not_attempted_code (log_at w.topics t.name index))
  others_told place refused i j t index here there none =
      ap (λ (b : Bool). error_at (cond b (cut_outcome w caller r) (added_outcome w r)).reply (PartitionAt i j)) (is_cut_by place refused)
      ∙ ap (λ (l : List (Topic AddedPartition)). error_number_in (λ (p : AddedPartition). p.error) (element_at l i) j) (sym (woven (cut_rule caller r.transactional_id w.topics) (rules_of w) tt r.topics).answers)
      ∙ topics_untried tt r.topics i j t index (named i j t index here there none) here there

  nothing_changed : (place : Place) → is_some (first_refused w caller (rows_at (requests.AddPartitionsToTxn r) place)) ≡ true → (cond (is_cut caller r.transactional_id w.topics (rules_of w) r.topics) (cut_outcome w caller r) (added_outcome w r)).world ≡ w
  nothing_changed place refused = ap (λ (b : Bool). (cond b (cut_outcome w caller r) (added_outcome w r)).world) (is_cut_by place refused)

pub refused_keeps_out : RefusedKeepsOut outcome
refused_keeps_out = record {
  unchanged = λ w caller client r place refused. nothing_changed w caller r place refused;
  others = λ w caller client r place refused i j t index here there none. others_told w caller r place refused i j t index here there none;
}
