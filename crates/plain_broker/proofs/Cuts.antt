-- AddPartitionsToTxn, which is done whole or cut.
use Rattle.std.proofs.Common.{◌≡◌, ℕ, ℤ, Bool, true, false, cond, List, [], ◌∷◌, ◌++◌, map, Option, Some, None, refl, sym, ap, ◌∙◌}
use Rattle.std.specs.Prelude.{◌||◌, filter, is_none}
use Rattle.std.specs.List.{cons_option}
use Rattle.std.specs.Option.{option_map}
use Rattle.acl_binding.specs.declared.question.Caller.{Caller}
use Rattle.acl_binding.specs.declared.question.Question.{Question}
use Rattle.authorizer.specs.declared.answer.Refusal.{Refusal}
use Rattle.authorizer.specs.Asking.{Rules, part_refusal}
use Rattle.wire_types.specs.declared.error_code.ErrorCode.{ErrorCode}
use Rattle.wire_types.specs.declared.topic.Topic.{Topic}
use Rattle.msg_txn.specs.declared.add_partitions.AddPartitionsToTxnRequest.{AddPartitionsToTxnRequest}
use Rattle.msg_txn.specs.declared.add_partitions.AddedPartition.{AddedPartition}
use Rattle.msg_admin.specs.declared.request.Request.TheVariants.{AddPartitionsToTxn}
use Rattle.walk.specs.Codes.{refusal_code}
use Rattle.walk.specs.Weave.{weave}
use Rattle.walk.specs.Walk.{plain_parts, plain_topics, answers, parts_refused, refusals}
use Rattle.walk.specs.Woven.{has_any}
use Rattle.broker_world.specs.World.{World, TopicValue, rules_of}
use Rattle.broker_world.specs.Logs.{log_at}
use Rattle.broker_world.specs.HandlerResult.{HandlerResult}
use Rattle.broker_world.specs.Whole.{Served}
use Rattle.txn_handlers.specs.AddPartitions.{add_questions, added_partition, cut_code, cut_rule, is_missing, add_reply, cut_outcome, added_outcome, add_partitions_outcome}
use Rattle.api_dispatch.specs.Step.{with_event_counted}
use Rattle.api_dispatch.specs.Questions.{partition_parts}
use Rattle.api_dispatch.specs.Refusals.{refusals_in}
use Rattle.api_dispatch.proofs.Told.{walk_told}
use Rattle.plain_broker.specs.Allowed.{unrefused_topics, whole_or_cut}
use Rattle.plain_broker.specs.PutBack.{topics_with_refused, reply_with_refused}
use Rattle.plain_broker.specs.Exactly.{is_granted}
use Rattle.plain_broker.specs.Plain.{unrestricted_world, plain_outcome, plain_cut, with_refusals, IsPlainOfAllowed}
use Rattle.plain_broker.proofs.Freed.{freed}
use Rattle.plain_broker.proofs.Terms.{refused_by, refused_answer}
use Rattle.plain_broker.proofs.Walking.{free_answers, free_refusals, walk_answers}

-- ---- a request without a refusal

first_nothing : (xs ys : List Refusal) → xs ++ ys ≡ [] → xs ≡ []
first_nothing [] ys h = refl
first_nothing (x ∷ xs) ys h = absurd (let clash : x ∷ (xs ++ ys) ≡ [] = h in cc)

rest_nothing : (xs ys : List Refusal) → xs ++ ys ≡ [] → ys ≡ []
rest_nothing [] ys h = h
rest_nothing (x ∷ xs) ys h = absurd (let clash : x ∷ (xs ++ ys) ≡ [] = h in cc)

head_nothing : (o : Option Refusal) (xs : List Refusal) → cons_option o xs ≡ [] → o ≡ None
head_nothing None xs h = refl
head_nothing (Some x) xs h = absurd (let clash : x ∷ xs ≡ [] = h in cc)

tail_nothing : (o : Option Refusal) (xs : List Refusal) → cons_option o xs ≡ [] → xs ≡ []
tail_nothing None xs h = h
tail_nothing (Some x) xs h = absurd (let clash : x ∷ xs ≡ [] = h in cc)

module _ (rules : Rules) (caller : Caller) (id : List ℕ) (topics : List TopicValue) where
  module _ (name : List ℕ) where
    all_stay : (ps : List ℤ) → parts_refused (cut_rule caller id topics) rules name ps ≡ [] → filter (λ (p : ℤ). is_granted rules (add_questions caller id name)) ps ≡ ps
    all_stay [] none = refl
    all_stay (p ∷ ps) none =
        ap (λ (o : Option Refusal). cond (is_none o) (p ∷ filter (λ (x : ℤ). is_granted rules (add_questions caller id name)) ps) (filter (λ (x : ℤ). is_granted rules (add_questions caller id name)) ps)) (head_nothing (part_refusal rules (add_questions caller id name)) (parts_refused (cut_rule caller id topics) rules name ps) none)
        ∙ ap (λ (l : List ℤ). p ∷ l) (all_stay ps (tail_nothing (part_refusal rules (add_questions caller id name)) (parts_refused (cut_rule caller id topics) rules name ps) none))

    none_put : (ps : List ℤ) (xs : List AddedPartition) → parts_refused (cut_rule caller id topics) rules name ps ≡ [] → weave (map (λ (p : ℤ). refused_answer rules (add_questions caller id name) (λ (code : ErrorCode). added_partition code p)) ps) xs ≡ xs
    none_put [] xs none = refl
    none_put (p ∷ ps) [] none =
        ap (λ (o : Option Refusal). weave (option_map (λ (r : Refusal). added_partition (refusal_code r) p) o ∷ map (λ (x : ℤ). refused_answer rules (add_questions caller id name) (λ (code : ErrorCode). added_partition code x)) ps) []) (head_nothing (part_refusal rules (add_questions caller id name)) (parts_refused (cut_rule caller id topics) rules name ps) none)
    none_put (p ∷ ps) (x ∷ xs) none =
        ap (λ (o : Option Refusal). weave (option_map (λ (r : Refusal). added_partition (refusal_code r) p) o ∷ map (λ (y : ℤ). refused_answer rules (add_questions caller id name) (λ (code : ErrorCode). added_partition code y)) ps) (x ∷ xs)) (head_nothing (part_refusal rules (add_questions caller id name)) (parts_refused (cut_rule caller id topics) rules name ps) none)
        ∙ ap (λ (l : List AddedPartition). x ∷ l) (none_put ps xs (tail_nothing (part_refusal rules (add_questions caller id name)) (parts_refused (cut_rule caller id topics) rules name ps) none))

  all_topics_stay : (ts : List (Topic ℤ)) → refusals (cut_rule caller id topics) rules ts ≡ [] → unrefused_topics (refused_by rules (add_questions caller id)) ts ≡ ts
  all_topics_stay [] none = refl
  all_topics_stay (t ∷ ts) none =
      ap (λ (l : List ℤ). record { name = t.name; partitions = l } ∷ unrefused_topics (refused_by rules (add_questions caller id)) ts) (all_stay t.name t.partitions (first_nothing (parts_refused (cut_rule caller id topics) rules t.name t.partitions) (refusals (cut_rule caller id topics) rules ts) none))
      ∙ ap (λ (l : List (Topic ℤ)). t ∷ l) (all_topics_stay ts (rest_nothing (parts_refused (cut_rule caller id topics) rules t.name t.partitions) (refusals (cut_rule caller id topics) rules ts) none))

  no_topic_put : (ts : List (Topic ℤ)) (xs : List (Topic AddedPartition)) → refusals (cut_rule caller id topics) rules ts ≡ [] → topics_with_refused (refused_by rules (add_questions caller id)) added_partition ts xs ≡ xs
  no_topic_put [] xs none = refl
  no_topic_put (t ∷ ts) [] none = refl
  no_topic_put (t ∷ ts) (x ∷ xs) none =
      ap (λ (l : List AddedPartition). record { name = x.name; partitions = l } ∷ topics_with_refused (refused_by rules (add_questions caller id)) added_partition ts xs) (none_put t.name t.partitions x.partitions (first_nothing (parts_refused (cut_rule caller id topics) rules t.name t.partitions) (refusals (cut_rule caller id topics) rules ts) none))
      ∙ ap (λ (l : List (Topic AddedPartition)). x ∷ l) (no_topic_put ts xs (rest_nothing (parts_refused (cut_rule caller id topics) rules t.name t.partitions) (refusals (cut_rule caller id topics) rules ts) none))

  -- ---- the plain cut

  cut_parts : (name : List ℕ) (ps : List ℤ) → plain_parts (cut_rule caller id topics) tt name ps ≡ map (λ (index : ℤ). added_partition (cut_code (log_at topics name index)) index) ps
  cut_parts name [] = refl
  cut_parts name (p ∷ ps) = ap (λ (l : List AddedPartition). added_partition (cut_code (log_at topics name p)) p ∷ l) (cut_parts name ps)

  cut_topics : (ts : List (Topic ℤ)) → plain_topics (cut_rule caller id topics) tt ts ≡ map (plain_cut topics) ts
  cut_topics [] = refl
  cut_topics (t ∷ ts) =
      ap (λ (l : List AddedPartition). record { name = t.name; partitions = l } ∷ plain_topics (cut_rule caller id topics) tt ts) (cut_parts t.name t.partitions)
      ∙ ap (λ (l : List (Topic AddedPartition)). plain_cut topics t ∷ l) (cut_topics ts)

-- ---- the request

module _ (w : World) (caller : Caller) (client : Option (List ℕ)) (r : AddPartitionsToTxnRequest) where
  abbrev asks : List ℕ → List Question
  asks = add_questions caller r.transactional_id

  abbrev cut : AddPartitionsToTxnRequest
  cut = record r { topics = unrefused_topics (refused_by (rules_of w) asks) r.topics }

  all_freed : (name : List ℕ) (index : ℤ) → part_refusal (rules_of (unrestricted_world w caller)) (asks name) ≡ None
  all_freed name index = freed w caller (asks name) (refl, (refl, tt))

  walked : answers (cut_rule caller r.transactional_id w.topics) (rules_of w) tt r.topics
      ≡ topics_with_refused (refused_by (rules_of w) asks) added_partition r.topics (answers (cut_rule caller r.transactional_id w.topics) (rules_of (unrestricted_world w caller)) tt (unrefused_topics (refused_by (rules_of w) asks) r.topics))
  walked = walk_answers (cut_rule caller r.transactional_id w.topics) (rules_of w) asks added_partition (record { questions = λ name p. refl; refused = λ code name p. refl }) (rules_of (unrestricted_world w caller)) all_freed tt r.topics

  -- some part is refused
  cut_is : answers (cut_rule caller r.transactional_id w.topics) (rules_of w) tt r.topics ≡ topics_with_refused (refused_by (rules_of w) asks) added_partition r.topics (map (plain_cut w.topics) (unrefused_topics (refused_by (rules_of w) asks) r.topics))
  cut_is =
      walked
      ∙ ap (topics_with_refused (refused_by (rules_of w) asks) added_partition r.topics)
      (free_answers (cut_rule caller r.transactional_id w.topics) (rules_of (unrestricted_world w caller)) all_freed tt (unrefused_topics (refused_by (rules_of w) asks) r.topics) ∙ cut_topics (rules_of w) caller r.transactional_id w.topics (unrefused_topics (refused_by (rules_of w) asks) r.topics))

  -- none is
  plain_is : plain_outcome w caller (AddPartitionsToTxn r) ≡ cond (is_missing w.topics r.topics) (cut_outcome (unrestricted_world w caller) caller r) (added_outcome (unrestricted_world w caller) r)
  plain_is = ap (λ (rs : List Refusal). cond (has_any rs || is_missing w.topics r.topics) (cut_outcome (unrestricted_world w caller) caller r) (added_outcome (unrestricted_world w caller) r)) (free_refusals (cut_rule caller r.transactional_id w.topics) (rules_of (unrestricted_world w caller)) all_freed r.topics)

  module _ (none : refusals (cut_rule caller r.transactional_id w.topics) (rules_of w) r.topics ≡ []) where
    by_missing : (b : Bool) → ◌≡◌ {A = Served} (record { world = (cond b (cut_outcome w caller r) (added_outcome w r)).world; reply = (cond b (cut_outcome w caller r) (added_outcome w r)).reply })
        (record { world = record (cond b (cut_outcome (unrestricted_world w caller) caller r) (added_outcome (unrestricted_world w caller) r)).world { supers = w.supers }; reply = reply_with_refused (rules_of w) caller (AddPartitionsToTxn r) (cond b (cut_outcome (unrestricted_world w caller) caller r) (added_outcome (unrestricted_world w caller) r)).reply })
    by_missing true =
        ap (λ (l : List (Topic AddedPartition)). record { world = w; reply = add_reply l })
        (walked ∙ ap (λ (ts : List (Topic ℤ)). topics_with_refused (refused_by (rules_of w) asks) added_partition r.topics (answers (cut_rule caller r.transactional_id w.topics) (rules_of (unrestricted_world w caller)) tt ts)) (all_topics_stay (rules_of w) caller r.transactional_id w.topics r.topics none))
    by_missing false =
        ap (λ (l : List (Topic AddedPartition)). record { world = (added_outcome w r).world; reply = add_reply l })
        (sym (no_topic_put (rules_of w) caller r.transactional_id w.topics r.topics _ none))

  by_refusals : (rs : List Refusal) → refusals (cut_rule caller r.transactional_id w.topics) (rules_of w) r.topics ≡ rs
      → record { world = (add_partitions_outcome w caller r).world; reply = (add_partitions_outcome w caller r).reply } ≡ with_refusals w caller (AddPartitionsToTxn r) (whole_or_cut (AddPartitionsToTxn r) cut rs)
  by_refusals (x ∷ xs) is =
      ap (λ (rs : List Refusal). record { world = (cond (has_any rs || is_missing w.topics r.topics) (cut_outcome w caller r) (added_outcome w r)).world; reply = (cond (has_any rs || is_missing w.topics r.topics) (cut_outcome w caller r) (added_outcome w r)).reply }) is
      ∙ ap (λ (l : List (Topic AddedPartition)). record { world = w; reply = add_reply l }) cut_is
  by_refusals [] is =
      ap (λ (rs : List Refusal). record { world = (cond (has_any rs || is_missing w.topics r.topics) (cut_outcome w caller r) (added_outcome w r)).world; reply = (cond (has_any rs || is_missing w.topics r.topics) (cut_outcome w caller r) (added_outcome w r)).reply }) is
      ∙ by_missing is (is_missing w.topics r.topics)
      ∙ sym (ap (λ (o : HandlerResult). record { world = record o.world { supers = w.supers }; reply = reply_with_refused (rules_of w) caller (AddPartitionsToTxn r) o.reply }) plain_is)

  told_is : record { world = (add_partitions_outcome w caller r).world; reply = (add_partitions_outcome w caller r).reply } ≡ with_refusals w caller (AddPartitionsToTxn r) (whole_or_cut (AddPartitionsToTxn r) cut (refusals_in (rules_of w) (partition_parts asks r.topics)))
  told_is = by_refusals (refusals_in (rules_of w) (partition_parts asks r.topics)) (walk_told (rules_of w) asks (cut_rule caller r.transactional_id w.topics) (λ name index. refl) r.topics)

  pub adds : IsPlainOfAllowed w caller client (AddPartitionsToTxn r)
  adds = record { reply = ap (λ (s : Served). s.reply) told_is; world = ap (λ (s : Served). with_event_counted s.world) told_is }
