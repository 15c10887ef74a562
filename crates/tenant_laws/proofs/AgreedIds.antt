-- Worlds that agree on what a request for a transactional id is granted go on agreeing on each id, and in the producer
-- ids given out.
use Rattle.std.proofs.Common.{◌≡◌, ◌⊎◌, inl, inr, ℕ, ℤ, Bool, true, false, cond, List, [], ◌∷◌, ◌++◌, Option, Some, None, refl, sym, ap, subst, ◌∙◌}
use Rattle.std.specs.Prelude.{is_none, is_some, map, ◌||◌}
use Rattle.std.specs.List.{cons_option}
use Rattle.acl_binding.specs.declared.question.Caller.{Caller}
use Rattle.acl_binding.specs.declared.question.Question.{Question}
use Rattle.acl_binding.specs.declared.words.Kind.TheVariants as kinds
use Rattle.acl_binding.specs.declared.words.Operation.TheVariants as operations
use Rattle.acl_binding.specs.Verdict.{question_of}
use Rattle.authorizer.specs.declared.answer.Refusal.{Refusal}
use Rattle.authorizer.specs.Policy.{verdict}
use Rattle.authorizer.specs.Asking.{Rules, part_refusal}
use Rattle.wire_types.specs.declared.topic.Topic.{Topic}
use Rattle.msg_txn.specs.declared.init_producer_id.InitProducerIdRequest.{InitProducerIdRequest}
use Rattle.msg_txn.specs.declared.add_partitions.AddPartitionsToTxnRequest.{AddPartitionsToTxnRequest}
use Rattle.msg_txn.specs.declared.add_offsets.AddOffsetsToTxnRequest.{AddOffsetsToTxnRequest}
use Rattle.msg_txn.specs.declared.end_txn.EndTxnRequest.{EndTxnRequest}
use Rattle.walk.specs.Walk.{parts_refused, refusals}
use Rattle.walk.specs.Woven.{has_any}
use Rattle.walk.specs.Alike.{AllParts, AllTopics}
use Rattle.txn_coordinator.specs.declared.target.TopicPartition.{TopicPartition}
use Rattle.txn_coordinator.specs.declared.transaction.Transaction.{Transaction}
use Rattle.txn_coordinator.specs.Transition.{Transition, Stays, Puts}
use Rattle.txn_coordinator.specs.Coordinator.{CoordinatorValue, has_id, id_record, apply_transition}
use Rattle.txn_coordinator.specs.InitProducerId.{init}
use Rattle.txn_coordinator.specs.Adding.{add_partitions}
use Rattle.broker_world.specs.declared.node.Node.{Node}
use Rattle.broker_world.specs.World.{World, LogValue, rules_of}
use Rattle.broker_world.specs.Logs.{log_at}
use Rattle.broker_world.specs.Whole.{whole_outcome_by}
use Rattle.msg_admin.specs.declared.reply.Reply.TheVariants as replies
use Rattle.txn_handlers.specs.InitProducerId.{init_question, init_questions, init_error, coordinator_for, served_init, init_producer_id_outcome}
use Rattle.broker_world.specs.Questions.{id_question}
use Rattle.txn_handlers.specs.EndTxn.{end_transition, served_end, end_txn_outcome, end_questions, ending_id, ending_id_and_epoch, ending_outcome, form_of}
use Rattle.txn_handlers.specs.AddOffsets.{add_offsets_questions, add_offsets_transition, served_add_offsets, add_offsets_outcome}
use Rattle.txn_handlers.specs.AddPartitions.{add_questions, cut_rule, is_missing_in, is_missing, is_cut, add_transition, cut_outcome, added_outcome, add_partitions_outcome, partitions_in, partitions_of}
use Rattle.broker_world.specs.Questions.{read_question}
use Rattle.api_laws.specs.Tenants.{SameBase, SameGranted}
use Rattle.api_laws.proofs.DataGrants.{yes_of, rest_of, same_topic, same_log}
use Rattle.api_laws.proofs.Recorded.{AreSame, recorded_put, given_more, same_init, same_end, same_add, same_add_group}
use Rattle.tenant_laws.proofs.Agreeing.{AgreeAfter, unchanged, by_coordinator, by_whole}
use Rattle.api_dispatch.proofs.Told.{walk_told}

-- ---- one transition on two coordinators

turned_given : (c d : CoordinatorValue) (t : Transition) → map is_some c.given ≡ map is_some d.given → map is_some (apply_transition c t).given ≡ map is_some (apply_transition d t).given
turned_given c d (Stays code) same = same
turned_given c d (Puts code t given owed) same = given_more c.given d.given given same

turned_record : (c d : CoordinatorValue) (t : Transition) (name : List ℕ) → id_record c.transactions name ≡ id_record d.transactions name → id_record (apply_transition c t).transactions name ≡ id_record (apply_transition d t).transactions name
turned_record c d (Stays code) name same = same
turned_record c d (Puts code t given owed) name same =
    recorded_put c.transactions t name ∙ ap (λ (o : Option Transaction). cond (has_id name t) (Some t) o) same ∙ sym (recorded_put d.transactions t name)

module _ (v w : World) (caller : Caller) (base : SameBase v w) where
  transition_agrees : (one two : Transition) → one ≡ two → AgreeAfter v w (record v { coordinator = apply_transition v.coordinator one }) (record w { coordinator = apply_transition w.coordinator two })
  transition_agrees one two same =
      subst (λ (t : Transition). AgreeAfter v w (record v { coordinator = apply_transition v.coordinator t }) (record w { coordinator = apply_transition w.coordinator two })) (sym same)
      (by_coordinator v w base (apply_transition v.coordinator two) (apply_transition w.coordinator two) (turned_given v.coordinator w.coordinator two base.given) (turned_record v.coordinator w.coordinator two))

  -- ---- InitProducerId

  init_by : (id : Option (List ℕ)) (timeout : ℤ) → SameGranted v w (init_questions (rules_of w) caller id) → part_refusal (rules_of w) (init_questions (rules_of w) caller id) ≡ None
      → AgreeAfter v w (record v { coordinator = coordinator_for id v.coordinator v.node.max_txn_timeout timeout }) (record w { coordinator = coordinator_for id w.coordinator w.node.max_txn_timeout timeout })
  init_by None timeout same none = by_coordinator v w base _ _ (given_more v.coordinator.given w.coordinator.given (None ∷ []) base.given) (λ name agree. agree)
  init_by (Some id) timeout same none =
      let q = init_question caller (Some id) in
      let agree : AreSame v.coordinator w.coordinator id = record { given = base.given; recorded = same.0 (yes_of (verdict w.book w.supers q) q None none) } in
      transition_agrees (init v.coordinator id timeout v.node.max_txn_timeout) (init w.coordinator id timeout w.node.max_txn_timeout)
      (ap (λ (n : Node). init v.coordinator id timeout n.max_txn_timeout) base.node ∙ same_init v.coordinator w.coordinator id timeout w.node.max_txn_timeout agree)

  pub init_agrees : (r : InitProducerIdRequest) → SameGranted v w (init_questions (rules_of w) caller r.transactional_id) → AgreeAfter v w (init_producer_id_outcome v caller r).world (init_producer_id_outcome w caller r).world
  init_agrees r same =
      subst (λ (qs : List Question). AgreeAfter v w (whole_outcome_by (part_refusal (rules_of v) qs) v (λ code. replies.InitProducerId (init_error code)) (served_init v r)).world (init_producer_id_outcome w caller r).world)
      (ap (λ (rules : Rules). init_questions rules caller r.transactional_id) (sym base.rules))
      (by_whole v w base (init_questions (rules_of w) caller r.transactional_id) _ (served_init v r) (served_init w r) (init_by r.transactional_id r.timeout same))

  -- ---- EndTxn and AddOffsetsToTxn

  pub end_agrees : (r : EndTxnRequest) → SameGranted v w (end_questions caller r) → AgreeAfter v w (end_txn_outcome v caller r).world (end_txn_outcome w caller r).world
  end_agrees r same =
      let q = id_question caller (ending_id r) in
      by_whole v w base (q ∷ []) _ (served_end v r) (served_end w r) (λ none.
      let agree : AreSame v.coordinator w.coordinator (ending_id r) = record { given = base.given; recorded = same.0 (yes_of (verdict w.book w.supers q) q None none) } in
      transition_agrees (end_transition v.coordinator r) (end_transition w.coordinator r) (same_end v.coordinator w.coordinator (form_of r) (ending_id r) (ending_id_and_epoch r) (ending_outcome r) agree))

  pub add_group_agrees : (r : AddOffsetsToTxnRequest) → SameGranted v w (add_offsets_questions caller r.transactional_id r.group) → AgreeAfter v w (add_offsets_outcome v caller r).world (add_offsets_outcome w caller r).world
  add_group_agrees r same =
      let q = id_question caller r.transactional_id in
      by_whole v w base (add_offsets_questions caller r.transactional_id r.group) _ (served_add_offsets v r) (served_add_offsets w r) (λ none.
      let agree : AreSame v.coordinator w.coordinator r.transactional_id = record { given = base.given; recorded = same.0 (yes_of (verdict w.book w.supers q) q (part_refusal (rules_of w) (read_question caller r.group ∷ [])) none) } in
      transition_agrees (add_offsets_transition v.coordinator v.moment r) (add_offsets_transition w.coordinator w.moment r)
      (ap (λ (n : ℕ). add_offsets_transition v.coordinator n r) base.moment ∙ same_add_group v.coordinator w.coordinator r.transactional_id (record { producer = r.producer; epoch = r.epoch }) w.moment r.group agree))

-- ---- AddPartitionsToTxn: whether nothing is added is the same

module _ (v w : World) (caller : Caller) (id : List ℕ) where
  abbrev SamePart : List ℕ → ℤ → Type 0
  SamePart name index = SameGranted v w (add_questions caller id name)

  abbrev IsGranted : List ℕ → ℤ → Type 0
  IsGranted name index = part_refusal (rules_of w) (add_questions caller id name) ≡ None

  abbrev refused_in : List (Topic ℤ) → List Refusal
  refused_in ts = refusals (cut_rule caller id w.topics) (rules_of w) ts

  -- where no part is refused each is granted
  none_first : (o : Option Refusal) (rest : List Refusal) → has_any (cons_option o rest) ≡ false → o ≡ None
  none_first None rest none = refl
  none_first (Some r) rest none = absurd (let clash : true ≡ false = none in cc)

  none_later : (o : Option Refusal) (rest : List Refusal) → has_any (cons_option o rest) ≡ false → has_any rest ≡ false
  none_later None rest none = none
  none_later (Some r) rest none = absurd (let clash : true ≡ false = none in cc)

  none_before : (xs ys : List Refusal) → has_any (xs ++ ys) ≡ false → has_any xs ≡ false
  none_before [] ys none = refl
  none_before (x ∷ xs) ys none = none

  none_after : (xs ys : List Refusal) → has_any (xs ++ ys) ≡ false → has_any ys ≡ false
  none_after [] ys none = none
  none_after (x ∷ xs) ys none = absurd (let clash : true ≡ false = none in cc)

  parts_granted : (name : List ℕ) (indices : List ℤ) → has_any (parts_refused (cut_rule caller id w.topics) (rules_of w) name indices) ≡ false → AllParts IsGranted name indices
  parts_granted name [] none = tt
  parts_granted name (index ∷ indices) none =
      let o = part_refusal (rules_of w) (add_questions caller id name) in
      let rest = parts_refused (cut_rule caller id w.topics) (rules_of w) name indices in
      (none_first o rest none, parts_granted name indices (none_later o rest none))

  all_granted : (ts : List (Topic ℤ)) → has_any (refused_in ts) ≡ false → AllTopics IsGranted ts
  all_granted [] none = tt
  all_granted (t ∷ ts) none =
      let first = parts_refused (cut_rule caller id w.topics) (rules_of w) t.name t.partitions in
      (parts_granted t.name t.partitions (none_before first (refused_in ts) none), all_granted ts (none_after first (refused_in ts) none))

  -- a granted part is of a topic that is the same, and of an id that has the same record
  granted_log : (name : List ℕ) (index : ℤ) → SamePart name index → IsGranted name index → log_at v.topics name index ≡ log_at w.topics name index
  granted_log name index same none =
      let first = id_question caller id in
      let last = question_of caller operations.Write kinds.Topic name in
      same_log v.topics w.topics name index (same_topic v w last same.1 (rest_of (verdict w.book w.supers first) first (part_refusal (rules_of w) (last ∷ [])) none))

  granted_id : (name : List ℕ) (index : ℤ) → SamePart name index → IsGranted name index → id_record v.coordinator.transactions id ≡ id_record w.coordinator.transactions id
  granted_id name index same none =
      let first = id_question caller id in
      same.0 (yes_of (verdict w.book w.supers first) first (part_refusal (rules_of w) (question_of caller operations.Write kinds.Topic name ∷ [])) none)

  missing_in : (name : List ℕ) (indices : List ℤ) → AllParts SamePart name indices → AllParts IsGranted name indices → is_missing_in v.topics name indices ≡ is_missing_in w.topics name indices
  missing_in name [] same granted = refl
  missing_in name (index ∷ indices) same granted =
      ap (λ (o : Option LogValue). is_none o || is_missing_in v.topics name indices) (granted_log name index same.0 granted.0)
      ∙ ap (λ (b : Bool). is_none (log_at w.topics name index) || b) (missing_in name indices same.1 granted.1)

  missing : (ts : List (Topic ℤ)) → AllTopics SamePart ts → AllTopics IsGranted ts → is_missing v.topics ts ≡ is_missing w.topics ts
  missing [] same granted = refl
  missing (t ∷ ts) same granted =
      ap (λ (b : Bool). b || is_missing v.topics ts) (missing_in t.name t.partitions same.0 granted.0)
      ∙ ap (λ (b : Bool). is_missing_in w.topics t.name t.partitions || b) (missing ts same.1 granted.1)

  -- there is no partition, or the id has the same record
  none_or_same : (ts : List (Topic ℤ)) → AllTopics SamePart ts → AllTopics IsGranted ts → (partitions_of ts ≡ []) ⊎ (id_record v.coordinator.transactions id ≡ id_record w.coordinator.transactions id)
  none_or_same [] same granted = inl refl
  none_or_same (t ∷ ts) same granted = by_parts t.name t.partitions same.0 granted.0 (none_or_same ts same.1 granted.1) where
    by_parts : (name : List ℕ) (indices : List ℤ) → AllParts SamePart name indices → AllParts IsGranted name indices → (partitions_of ts ≡ []) ⊎ (id_record v.coordinator.transactions id ≡ id_record w.coordinator.transactions id)
        → (partitions_in name indices ++ partitions_of ts ≡ []) ⊎ (id_record v.coordinator.transactions id ≡ id_record w.coordinator.transactions id)
    by_parts name [] here given rest = rest
    by_parts name (index ∷ indices) here given rest = inr (granted_id name index here.0 given.0)

module _ (v w : World) (caller : Caller) (base : SameBase v w) (r : AddPartitionsToTxnRequest) (same : AllTopics (SamePart v w caller r.transactional_id) r.topics) where
  -- the refusals look at no topic
  refused_same : refusals (cut_rule caller r.transactional_id v.topics) (rules_of v) r.topics ≡ refused_in v w caller r.transactional_id r.topics
  refused_same =
      ap (λ (rules : Rules). refusals (cut_rule caller r.transactional_id v.topics) rules r.topics) base.rules
      ∙ walk_told (rules_of w) (add_questions caller r.transactional_id) (cut_rule caller r.transactional_id v.topics) (λ name index. refl) r.topics
      ∙ sym (walk_told (rules_of w) (add_questions caller r.transactional_id) (cut_rule caller r.transactional_id w.topics) (λ name index. refl) r.topics)

  abbrev After : Bool → Bool → Type 0
  After a b = AgreeAfter v w (cond a (cut_outcome v caller r) (added_outcome v r)).world (cond b (cut_outcome w caller r) (added_outcome w r)).world

  transition_same : (partitions_of r.topics ≡ []) ⊎ (id_record v.coordinator.transactions r.transactional_id ≡ id_record w.coordinator.transactions r.transactional_id) → add_transition v.coordinator v.moment r ≡ add_transition w.coordinator w.moment r
  transition_same (inl none) =
      ap (λ (ps : List TopicPartition). add_partitions v.coordinator r.transactional_id (record { producer = r.producer; epoch = r.epoch }) v.moment ps) none
      ∙ sym (ap (λ (ps : List TopicPartition). add_partitions w.coordinator r.transactional_id (record { producer = r.producer; epoch = r.epoch }) w.moment ps) none)
  transition_same (inr agree) =
      let is : AreSame v.coordinator w.coordinator r.transactional_id = record { given = base.given; recorded = agree } in
      ap (λ (n : ℕ). add_transition v.coordinator n r) base.moment
      ∙ same_add v.coordinator w.coordinator r.transactional_id (record { producer = r.producer; epoch = r.epoch }) w.moment (partitions_of r.topics) is

  by_missing : (b : Bool) → add_transition v.coordinator v.moment r ≡ add_transition w.coordinator w.moment r → After b b
  by_missing true transition = unchanged v w base
  by_missing false transition = transition_agrees v w caller base (add_transition v.coordinator v.moment r) (add_transition w.coordinator w.moment r) transition

  by_refused : (b : Bool) → has_any (refused_in v w caller r.transactional_id r.topics) ≡ b → After (b || is_missing v.topics r.topics) (b || is_missing w.topics r.topics)
  by_refused true is = unchanged v w base
  by_refused false is =
      let granted = all_granted v w caller r.transactional_id r.topics is in
      subst (λ (b : Bool). After b (is_missing w.topics r.topics)) (sym (missing v w caller r.transactional_id r.topics same granted))
      (by_missing (is_missing w.topics r.topics) (transition_same (none_or_same v w caller r.transactional_id r.topics same granted)))

  pub add_agrees : AgreeAfter v w (add_partitions_outcome v caller r).world (add_partitions_outcome w caller r).world
  add_agrees =
      subst (λ (rs : List Refusal). After (has_any rs || is_missing v.topics r.topics) (is_cut caller r.transactional_id w.topics (rules_of w) r.topics)) (sym refused_same)
      (by_refused (has_any (refused_in v w caller r.transactional_id r.topics)) refl)
