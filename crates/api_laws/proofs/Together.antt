-- AddPartitionsToTxn and EndTxn: all or none, by what was granted, and for one transactional id alone.
use Rattle.std.proofs.Common.{◌≡◌, ◌⊎◌, inl, inr, ℕ, ℤ, Bool, true, false, cond, List, [], ◌∷◌, ◌++◌, Option, Some, None, Err, refl, sym, ap, subst, ◌∙◌}
use Rattle.std.specs.Prelude.{is_none, ◌||◌}
use Rattle.std.specs.List.{cons_option}
use Rattle.std.specs.Str.{bytes_eq}
use Rattle.std.proofs.lemmas.Slice.Eq.{bytes_eq-Decides}
use Rattle.acl_binding.specs.declared.question.Caller.{Caller}
use Rattle.acl_binding.specs.declared.words.Kind.TheVariants as kinds
use Rattle.acl_binding.specs.declared.words.Operation.TheVariants as operations
use Rattle.acl_binding.specs.Verdict.{question_of}
use Rattle.authorizer.specs.declared.answer.Refusal.{Refusal}
use Rattle.authorizer.specs.Policy.{verdict}
use Rattle.authorizer.specs.Asking.{Rules, first_of, part_refusal, question_refusal}
use Rattle.wire_types.specs.declared.error_code.ErrorCode.{ErrorCode}
use Rattle.wire_types.specs.declared.error_code.ErrorCode.TheVariants as codes
use Rattle.wire_types.specs.declared.topic.Topic.{Topic}
use Rattle.msg_txn.specs.declared.init_producer_id.InitProducerIdRequest.{InitProducerIdRequest}
use Rattle.msg_txn.specs.declared.add_partitions.AddPartitionsToTxnRequest.{AddPartitionsToTxnRequest}
use Rattle.msg_txn.specs.declared.end_txn.EndTxnRequest.{EndTxnRequest}
use Rattle.msg_admin.specs.declared.reply.Reply.{Reply}
use Rattle.msg_admin.specs.declared.reply.Reply.TheVariants as replies
use Rattle.walk.specs.Walk.{plain_topics, answers, parts_refused, refusals}
use Rattle.walk.specs.Woven.{has_any}
use Rattle.walk.specs.Alike.{AllParts, AllTopics, AreAlike, AnswerAlike}
use Rattle.walk.proofs.Alikeness.{answer_alike}
use Rattle.txn_coordinator.specs.declared.producer_id.ProducerIdAndEpoch.{ProducerIdAndEpoch}
use Rattle.txn_coordinator.specs.declared.target.TopicPartition.{TopicPartition}
use Rattle.txn_coordinator.specs.declared.transaction.TransactionState.{TransactionState}
use Rattle.txn_coordinator.specs.declared.transaction.TransactionState.TheVariants.{Empty, Ongoing, PrepareCommit, PrepareAbort, CompleteCommit, CompleteAbort}
use Rattle.txn_coordinator.specs.declared.transaction.Transaction.{Transaction}
use Rattle.record_batch.specs.declared.transaction_result.TransactionResult.{TransactionResult}
use Rattle.record_batch.specs.declared.transaction_result.TransactionResult.TheVariants.{Commit, Abort}
use Rattle.txn_coordinator.specs.declared.ending.EndForm.{EndForm}
use Rattle.txn_coordinator.specs.declared.ending.EndForm.TheVariants.{Plain, Fencing, Raising}
use Rattle.txn_coordinator.specs.Transition.{Transition, Stays, Puts}
use Rattle.txn_coordinator.specs.Words.{is_empty}
use Rattle.txn_coordinator.specs.Preparing.{producer_refusal}
use Rattle.txn_coordinator.specs.Coordinator.{CoordinatorValue, id_record, fresh_producer_id, apply_transition, transition_code, transition_answer}
use Rattle.txn_coordinator.specs.InitProducerId.{timeout_within, init_in, init_for, init}
use Rattle.txn_coordinator.specs.Adding.{open_in, open_by, open_found, open_transaction, growth_transition, with_partitions, with_group, add_partitions, add_group}
use Rattle.txn_coordinator.specs.EndTxn.{other_epoch, end_ongoing, end_closed, end_in, is_again, end_again, end_by, end_found, end}
use Rattle.txn_coordinator.proofs.Table.{recorded_id}
use Rattle.broker_world.specs.World.{World, LogValue, rules_of, find_topic}
use Rattle.broker_world.specs.HandlerResult.{HandlerResult}
use Rattle.broker_world.specs.Logs.{log_at}
use Rattle.broker_world.specs.Whole.{Served, whole_outcome_by}
use Rattle.txn_handlers.specs.InitProducerId.{init_questions, served_init, coordinator_for, init_producer_id_outcome}
use Rattle.broker_world.specs.Questions.{id_question}
use Rattle.txn_handlers.specs.EndTxn.{end_reply, end_transition, served_end, end_txn_outcome, end_questions, end_error, ending_id, ending_id_and_epoch, ending_outcome, form_of}
use Rattle.txn_handlers.specs.AddPartitions.{add_questions, added_partition, cut_code, cut_rule, code_rule, is_missing_in, is_missing, is_cut, add_transition, add_reply, cut_outcome, added_outcome, add_partitions_outcome, partitions_in, partitions_of}
use Rattle.api_laws.specs.Tenants.{SameBase, SameGranted}
use Rattle.api_laws.specs.DataTenants.{SameForParts, SameAnswer}
use Rattle.api_laws.specs.AclLaws.{IsRefusedWhole}
use Rattle.api_laws.specs.TxnLaws.{IsAddable, IsCut, IsWhole, AddsAllOrNone, TransactionsDependOnGrants, TransactionsKeepTheRest}
use Rattle.api_laws.proofs.Recorded.{AreSame, recorded_put, same_end, same_add, same_answer}
use Rattle.api_laws.proofs.Initials.{yes_alone, same_refusal}
use Rattle.api_laws.proofs.DataGrants.{same_topic, same_log, rest_of, yes_of}
use Rattle.txn_handlers.proofs.Adds.{add_keeps}
use Rattle.txn_handlers.proofs.Added.{nothing_added}
use Rattle.api_laws.proofs.Grouped.{refused_alone}
use Rattle.acl_handlers.proofs.BookBounds.{whole_topics}

-- ---- nothing refused, and nothing missing

or_left : (a b : Bool) → (a || b) ≡ false → a ≡ false
or_left true b h = h
or_left false b h = refl

or_right : (a b : Bool) → (a || b) ≡ false → b ≡ false
or_right true b h = absurd (let clash : true ≡ false = h in cc)
or_right false b h = h

-- no refusal in front, and none after
none_first : (xs ys : List Refusal) → has_any (xs ++ ys) ≡ false → has_any xs ≡ false
none_first [] ys h = refl
none_first (x ∷ xs) ys h = h

none_rest : (xs ys : List Refusal) → has_any (xs ++ ys) ≡ false → has_any ys ≡ false
none_rest [] ys h = h
none_rest (x ∷ xs) ys h = absurd (let clash : true ≡ false = h in cc)

module _ (w : World) (caller : Caller) (id : List ℕ) where
  part_addable : (name : List ℕ) (index : ℤ) (o : Option Refusal) (rest : List Refusal) → part_refusal (rules_of w) (add_questions caller id name) ≡ o → has_any (cons_option o rest) ≡ false → is_none (log_at w.topics name index) ≡ false → IsAddable w caller id name index
  part_addable name index None rest is none there = record { granted = is; there = there }
  part_addable name index (Some r) rest is none there = absurd (let clash : true ≡ false = none in cc)

  none_later : (o : Option Refusal) (rest : List Refusal) → has_any (cons_option o rest) ≡ false → has_any rest ≡ false
  none_later None rest none = none
  none_later (Some r) rest none = absurd (let clash : true ≡ false = none in cc)

  parts_addable : (name : List ℕ) (indices : List ℤ) → has_any (parts_refused (cut_rule caller id w.topics) (rules_of w) name indices) ≡ false → is_missing_in w.topics name indices ≡ false → AllParts (IsAddable w caller id) name indices
  parts_addable name [] none there = tt
  parts_addable name (index ∷ indices) none there =
      let o = part_refusal (rules_of w) (add_questions caller id name) in
      let rest = parts_refused (cut_rule caller id w.topics) (rules_of w) name indices in (
        part_addable name index o rest refl none (or_left (is_none (log_at w.topics name index)) (is_missing_in w.topics name indices) there),
        parts_addable name indices (none_later o rest none) (or_right (is_none (log_at w.topics name index)) (is_missing_in w.topics name indices) there),
      )

  topics_addable : (ts : List (Topic ℤ)) → has_any (refusals (cut_rule caller id w.topics) (rules_of w) ts) ≡ false → is_missing w.topics ts ≡ false → AllTopics (IsAddable w caller id) ts
  topics_addable [] none there = tt
  topics_addable (t ∷ ts) none there =
      let first = parts_refused (cut_rule caller id w.topics) (rules_of w) t.name t.partitions in
      let rest = refusals (cut_rule caller id w.topics) (rules_of w) ts in (
        parts_addable t.name t.partitions (none_first first rest none) (or_left (is_missing_in w.topics t.name t.partitions) (is_missing w.topics ts) there),
        topics_addable ts (none_rest first rest none) (or_right (is_missing_in w.topics t.name t.partitions) (is_missing w.topics ts) there),
      )

  -- ---- and the other way round

  parts_granted : (name : List ℕ) (indices : List ℤ) → AllParts (IsAddable w caller id) name indices → parts_refused (cut_rule caller id w.topics) (rules_of w) name indices ≡ []
  parts_granted name [] all = refl
  parts_granted name (index ∷ indices) all =
      ap (λ (o : Option Refusal). cons_option o (parts_refused (cut_rule caller id w.topics) (rules_of w) name indices)) all.0.granted ∙ parts_granted name indices all.1

  topics_granted : (ts : List (Topic ℤ)) → AllTopics (IsAddable w caller id) ts → refusals (cut_rule caller id w.topics) (rules_of w) ts ≡ []
  topics_granted [] all = refl
  topics_granted (t ∷ ts) all =
      ap (λ (rs : List Refusal). rs ++ refusals (cut_rule caller id w.topics) (rules_of w) ts) (parts_granted t.name t.partitions all.0) ∙ topics_granted ts all.1

  parts_there : (name : List ℕ) (indices : List ℤ) → AllParts (IsAddable w caller id) name indices → is_missing_in w.topics name indices ≡ false
  parts_there name [] all = refl
  parts_there name (index ∷ indices) all = ap (λ (b : Bool). b || is_missing_in w.topics name indices) all.0.there ∙ parts_there name indices all.1

  topics_there : (ts : List (Topic ℤ)) → AllTopics (IsAddable w caller id) ts → is_missing w.topics ts ≡ false
  topics_there [] all = refl
  topics_there (t ∷ ts) all = ap (λ (b : Bool). b || is_missing w.topics ts) (parts_there t.name t.partitions all.0) ∙ topics_there ts all.1

  never_cut : (ts : List (Topic ℤ)) → AllTopics (IsAddable w caller id) ts → is_cut caller id w.topics (rules_of w) ts ≡ false
  never_cut ts all = ap (λ (rs : List Refusal). has_any rs || is_missing w.topics ts) (topics_granted ts all) ∙ topics_there ts all

whole_where_all : (b : Bool) (w : World) (caller : Caller) (r : AddPartitionsToTxnRequest) → b ≡ false → IsWhole w r (cond b (cut_outcome w caller r) (added_outcome w r))
whole_where_all true w caller r is = absurd (let clash : true ≡ false = is in cc)
whole_where_all false w caller r is = record { coordinator = refl; topics = refl; reply = refl; refusals = refl }

cut_where_one : (b : Bool) (w : World) (caller : Caller) (r : AddPartitionsToTxnRequest) → (b ≡ false → ⊥) → IsCut w caller r (cond b (cut_outcome w caller r) (added_outcome w r))
cut_where_one true w caller r is = record { world = refl; reply = refl; refusals = refl }
cut_where_one false w caller r is = absurd (is refl)

pub adds_all_or_none : AddsAllOrNone add_partitions_outcome
adds_all_or_none = record {
  all = λ w caller r all. whole_where_all (is_cut caller r.transactional_id w.topics (rules_of w) r.topics) w caller r (never_cut w caller r.transactional_id r.topics all);
  none = λ w caller r one. cut_where_one (is_cut caller r.transactional_id w.topics (rules_of w) r.topics) w caller r (λ is. one (topics_addable w caller r.transactional_id r.topics
      (or_left (has_any (refusals (cut_rule caller r.transactional_id w.topics) (rules_of w) r.topics)) (is_missing w.topics r.topics) is)
      (or_right (has_any (refusals (cut_rule caller r.transactional_id w.topics) (rules_of w) r.topics)) (is_missing w.topics r.topics) is)));
}

-- ---- a call puts the record of its id, or none

pub OfId : List ℕ → Transition → Type 0
OfId id (Stays code) = Unit {0}
OfId id (Puts code t given owed) = t.id ≡ id

inited_id : (p : TransactionState) (t : Transaction) (next : ℤ) (timeout : ℕ) (id : List ℕ) → t.id ≡ id → OfId id (init_in p t next timeout)
unfolding OfId
inited_id Empty t next timeout id own = own
inited_id CompleteCommit t next timeout id own = own
inited_id CompleteAbort t next timeout id own = own
inited_id Ongoing t next timeout id own = own
inited_id PrepareCommit t next timeout id own = tt
inited_id PrepareAbort t next timeout id own = tt

init_id : (c : CoordinatorValue) (id : List ℕ) (timeout greatest : ℤ) → OfId id (init c id timeout greatest)
unfolding OfId
init_id c id timeout greatest = by_empty (is_empty id) where
  by_found : (o : Option ℕ) (found : Option Transaction) → id_record c.transactions id ≡ found → OfId id (init_for o found id (fresh_producer_id c))
  by_found None found is = tt
  by_found (Some n) None is = refl
  by_found (Some n) (Some t) is = inited_id t.state t (fresh_producer_id c) n id (recorded_id c.transactions id t is)

  by_empty : (b : Bool) → OfId id (cond b (Stays codes.InvalidRequest) (init_for (timeout_within timeout greatest) (id_record c.transactions id) id (fresh_producer_id c)))
  by_empty true = tt
  by_empty false = by_found (timeout_within timeout greatest) (id_record c.transactions id) refl

closed_id : (form : EndForm) (t : Transaction) (next : ℤ) (o : TransactionResult) (code : ErrorCode) (id : List ℕ) → t.id ≡ id → OfId id (end_closed form t next o code)
unfolding OfId
closed_id Plain t next o code id own = tt
closed_id Fencing t next o code id own = tt
closed_id Raising t next Commit code id own = tt
closed_id Raising t next Abort code id own = own

ongoing_id : (form : EndForm) (t : Transaction) (next : ℤ) (o : TransactionResult) (id : List ℕ) → t.id ≡ id → OfId id (end_ongoing form t next o)
unfolding OfId
ongoing_id Plain t next o id own = own
ongoing_id Fencing t next o id own = own
ongoing_id Raising t next o id own = own

ended_id : (p : TransactionState) (form : EndForm) (t : Transaction) (next : ℤ) (o : TransactionResult) (id : List ℕ) → t.id ≡ id → OfId id (end_in p form t next o)
unfolding OfId
ended_id Ongoing form t next o id own = ongoing_id form t next o id own
ended_id PrepareCommit form t next Commit id own = tt
ended_id PrepareCommit form t next Abort id own = tt
ended_id PrepareAbort form t next Commit id own = tt
ended_id PrepareAbort form t next Abort id own = tt
ended_id Empty form t next o id own = closed_id form t next o codes.InvalidTxnState id own
ended_id CompleteCommit form t next Commit id own = closed_id form t next Commit codes.None id own
ended_id CompleteCommit form t next Abort id own = closed_id form t next Abort codes.InvalidTxnState id own
ended_id CompleteAbort form t next Commit id own = closed_id form t next Commit codes.InvalidTxnState id own
ended_id CompleteAbort form t next Abort id own = closed_id form t next Abort codes.None id own

end_id : (c : CoordinatorValue) (form : EndForm) (id : List ℕ) (pair : ProducerIdAndEpoch) (o : TransactionResult) → OfId id (end c form id pair o)
unfolding OfId
end_id c form id pair o = by_empty (is_empty id) where
  by_refusal : (x : Option ErrorCode) (t : Transaction) → t.id ≡ id → OfId id (end_by x form t (fresh_producer_id c) o)
  by_refusal (Some code) t own = tt
  by_refusal None t own = ended_id t.state form t (fresh_producer_id c) o id own

  by_again : (b : Bool) (t : Transaction) → t.id ≡ id → OfId id (cond b (Stays (end_again t.state o)) (end_by (producer_refusal (other_epoch form) t pair) form t (fresh_producer_id c) o))
  by_again true t own = tt
  by_again false t own = by_refusal (producer_refusal (other_epoch form) t pair) t own

  by_found : (found : Option Transaction) → id_record c.transactions id ≡ found → OfId id (end_found found form (fresh_producer_id c) pair o)
  by_found None is = tt
  by_found (Some t) is = by_again (is_again form t pair) t (recorded_id c.transactions id t is)

  by_empty : (b : Bool) → OfId id (cond b (Stays codes.InvalidRequest) (end_found (id_record c.transactions id) form (fresh_producer_id c) pair o))
  by_empty true = tt
  by_empty false = by_found (id_record c.transactions id) refl

opened_id : (grow : Transaction → Transaction) → ((t : Transaction) → (grow t).id ≡ t.id) → (p : TransactionState) (t : Transaction) (moment : ℕ) (id : List ℕ) → t.id ≡ id → OfId id (growth_transition grow (open_in p t moment))
unfolding OfId
opened_id grow keeps Ongoing t moment id own = keeps _ ∙ own
opened_id grow keeps Empty t moment id own = keeps _ ∙ own
opened_id grow keeps CompleteCommit t moment id own = keeps _ ∙ own
opened_id grow keeps CompleteAbort t moment id own = keeps _ ∙ own
opened_id grow keeps PrepareCommit t moment id own = tt
opened_id grow keeps PrepareAbort t moment id own = tt

grown_id : (grow : Transaction → Transaction) → ((t : Transaction) → (grow t).id ≡ t.id) → (c : CoordinatorValue) (id : List ℕ) (pair : ProducerIdAndEpoch) (moment : ℕ) → OfId id (growth_transition grow (open_transaction c id pair moment))
unfolding OfId
grown_id grow keeps c id pair moment = by_empty (is_empty id) where
  by_refusal : (x : Option ErrorCode) (t : Transaction) → t.id ≡ id → OfId id (growth_transition grow (open_by x t moment))
  by_refusal (Some code) t own = tt
  by_refusal None t own = opened_id grow keeps t.state t moment id own

  by_found : (found : Option Transaction) → id_record c.transactions id ≡ found → OfId id (growth_transition grow (open_found found pair moment))
  by_found None is = tt
  by_found (Some t) is = by_refusal (producer_refusal codes.InvalidProducerEpoch t pair) t (recorded_id c.transactions id t is)

  by_empty : (b : Bool) → OfId id (growth_transition grow (cond b (Err codes.InvalidRequest) (open_found (id_record c.transactions id) pair moment)))
  by_empty true = tt
  by_empty false = by_found (id_record c.transactions id) refl

add_id : (c : CoordinatorValue) (id : List ℕ) (pair : ProducerIdAndEpoch) (moment : ℕ) (ps : List TopicPartition) → OfId id (add_partitions c id pair moment ps)
unfolding OfId
add_id c id pair moment [] = tt
add_id c id pair moment (p ∷ ps) = grown_id (with_partitions (p ∷ ps)) (λ t. refl) c id pair moment

pub add_group_id : (c : CoordinatorValue) (id : List ℕ) (pair : ProducerIdAndEpoch) (moment : ℕ) (group : List ℕ) → OfId id (add_group c id pair moment group)
add_group_id c id pair moment group = grown_id (with_group group) (λ t. refl) c id pair moment

-- another id keeps its record
pub other_kept : (c : CoordinatorValue) (id other : List ℕ) (transition : Transition) → OfId id transition → (other ≡ id → ⊥) → id_record (apply_transition c transition).transactions other ≡ id_record c.transactions other
unfolding OfId
other_kept c id other (Stays code) own differ = refl
other_kept c id other (Puts code t given owed) own differ = recorded_put c.transactions t other ∙ by_same (bytes_eq t.id other) refl where
  by_same : (b : Bool) → bytes_eq t.id other ≡ b → cond b (Some t) (id_record c.transactions other) ≡ id_record c.transactions other
  by_same true e = absurd (differ (sym ((bytes_eq-Decides t.id other).0 e) ∙ own))
  by_same false e = refl

-- a request that is one part: where it is refused nothing changes
pub whole_kept : (o : Option Refusal) (w : World) (refused : ErrorCode → Reply) (served : Served) (other : List ℕ)
    → id_record served.world.coordinator.transactions other ≡ id_record w.coordinator.transactions other → id_record (whole_outcome_by o w refused served).world.coordinator.transactions other ≡ id_record w.coordinator.transactions other
whole_kept None w refused served other same = same
whole_kept (Some r) w refused served other same = refl

-- ---- where writing with the id is refused

module _ (w : World) (caller : Caller) (id : List ℕ) (r : Refusal) (refused : question_refusal (rules_of w) (id_question caller id) ≡ Some r) where
  part_is_refused : (name : List ℕ) → part_refusal (rules_of w) (add_questions caller id name) ≡ Some r
  part_is_refused name = ap (λ (o : Option Refusal). first_of o (part_refusal (rules_of w) (question_of caller operations.Write kinds.Topic name ∷ []))) refused

  refused_or_empty : (ts : List (Topic ℤ)) → (has_any (refusals (cut_rule caller id w.topics) (rules_of w) ts) ≡ true) ⊎ (partitions_of ts ≡ [])
  refused_or_empty [] = inr refl
  refused_or_empty (t ∷ ts) = by_parts t.name t.partitions (refused_or_empty ts) where
    by_parts : (name : List ℕ) (indices : List ℤ) → (has_any (refusals (cut_rule caller id w.topics) (rules_of w) ts) ≡ true) ⊎ (partitions_of ts ≡ []) → (has_any (parts_refused (cut_rule caller id w.topics) (rules_of w) name indices ++ refusals (cut_rule caller id w.topics) (rules_of w) ts) ≡ true) ⊎ (partitions_in name indices ++ partitions_of ts ≡ [])
    by_parts name [] later = later
    by_parts name (index ∷ indices) later =
        inl (ap (λ (o : Option Refusal). has_any (cons_option o (parts_refused (cut_rule caller id w.topics) (rules_of w) name indices) ++ refusals (cut_rule caller id w.topics) (rules_of w) ts)) (part_is_refused name))

refused_add : (w : World) (caller : Caller) (q : AddPartitionsToTxnRequest) (r : Refusal) → part_refusal (rules_of w) (id_question caller q.transactional_id ∷ []) ≡ Some r → (add_partitions_outcome w caller q).world ≡ w
refused_add w caller q r is = by_case (refused_or_empty w caller q.transactional_id r (refused_alone (question_refusal (rules_of w) (id_question caller q.transactional_id)) r is) q.topics) where
  by_cut : (b : Bool) → (partitions_of q.topics ≡ []) → (cond b (cut_outcome w caller q) (added_outcome w q)).world ≡ w
  by_cut true none = refl
  by_cut false none = ap (λ (c : CoordinatorValue). record w { coordinator = c }) (nothing_added w.coordinator w.moment q none)

  by_case : (has_any (refusals (cut_rule caller q.transactional_id w.topics) (rules_of w) q.topics) ≡ true) ⊎ (partitions_of q.topics ≡ []) → (add_partitions_outcome w caller q).world ≡ w
  by_case (inl some) = ap (λ (b : Bool). (cond (b || is_missing w.topics q.topics) (cut_outcome w caller q) (added_outcome w q)).world) some
  by_case (inr none) = by_cut (is_cut caller q.transactional_id w.topics (rules_of w) q.topics) none

-- ---- what stays as it was

abbrev ended_by : World → EndTxnRequest → Option Refusal → HandlerResult
ended_by w r o = whole_outcome_by o w (λ code. replies.EndTxn (end_error r code)) (served_end w r)

add_others : (w : World) (caller : Caller) (r : AddPartitionsToTxnRequest) (other : List ℕ) → (other ≡ r.transactional_id → ⊥) → id_record (add_partitions_outcome w caller r).world.coordinator.transactions other ≡ id_record w.coordinator.transactions other
add_others w caller r other differ = by_cut (is_cut caller r.transactional_id w.topics (rules_of w) r.topics) where
  by_cut : (b : Bool) → id_record (cond b (cut_outcome w caller r) (added_outcome w r)).world.coordinator.transactions other ≡ id_record w.coordinator.transactions other
  by_cut true = refl
  by_cut false = other_kept w.coordinator r.transactional_id other (add_transition w.coordinator w.moment r) (add_id w.coordinator r.transactional_id _ w.moment (partitions_of r.topics)) differ

init_others : (w : World) (caller : Caller) (r : InitProducerIdRequest) (id other : List ℕ) → r.transactional_id ≡ Some id → (other ≡ id → ⊥) → id_record (init_producer_id_outcome w caller r).world.coordinator.transactions other ≡ id_record w.coordinator.transactions other
init_others w caller r id other is differ =
    whole_kept (part_refusal (rules_of w) (init_questions (rules_of w) caller r.transactional_id)) w _ (served_init w r) other
    (ap (λ (o : Option (List ℕ)). id_record (coordinator_for o w.coordinator w.node.max_txn_timeout r.timeout).transactions other) is
    ∙ other_kept w.coordinator id other (init w.coordinator id r.timeout w.node.max_txn_timeout) (init_id w.coordinator id r.timeout w.node.max_txn_timeout) differ)

end_others : (w : World) (caller : Caller) (r : EndTxnRequest) (other : List ℕ) → (other ≡ ending_id r → ⊥) → id_record (end_txn_outcome w caller r).world.coordinator.transactions other ≡ id_record w.coordinator.transactions other
end_others w caller r other differ =
    whole_kept (part_refusal (rules_of w) (end_questions caller r)) w _ (served_end w r) other
    (other_kept w.coordinator (ending_id r) other (end_transition w.coordinator r) (end_id w.coordinator (form_of r) (ending_id r) _ (ending_outcome r)) differ)

pub keep_the_rest : TransactionsKeepTheRest init_producer_id_outcome add_partitions_outcome end_txn_outcome
keep_the_rest = record {
  inits = λ w caller r id is. record {
    others = λ other differ. init_others w caller r id other is differ;
    topics = whole_topics (part_refusal (rules_of w) (init_questions (rules_of w) caller r.transactional_id)) w _ _ refl;
  };
  adds = λ w caller r. record {
    others = λ other differ. add_others w caller r other differ;
    topics = add_keeps (λ v. v.topics) (λ v c. refl) w caller r;
  };
  ends = λ w caller r. record {
    others = λ other differ. end_others w caller r other differ;
    topics = whole_topics (part_refusal (rules_of w) (end_questions caller r)) w _ _ refl;
  };
  refused_end = λ w caller q r is. subst (IsRefusedWhole w r) (ap (ended_by w q) (sym is)) (record { world = refl; refusals = refl });
  refused_add = refused_add;
}

-- ---- what the answers depend on

same_ended : (o : Option Refusal) (v w : World) (caller : Caller) (r : EndTxnRequest) → SameBase v w → SameGranted v w (end_questions caller r)
    → part_refusal (rules_of w) (end_questions caller r) ≡ o → SameAnswer (ended_by v r o) (ended_by w r o)
same_ended (Some x) v w caller r base same is = record { reply = refl; refusals = refl }
same_ended None v w caller r base same is =
    let q = id_question caller (ending_id r) in
    let agree : AreSame v.coordinator w.coordinator (ending_id r) = record { given = base.given; recorded = same.0 (yes_alone (verdict w.book w.supers q) q is) } in
    record {
      reply =
          ap (λ (t : Transition). replies.EndTxn (end_reply r (transition_answer v.coordinator (ending_id r) t))) (same_end v.coordinator w.coordinator (form_of r) (ending_id r) (ending_id_and_epoch r) (ending_outcome r) agree)
          ∙ ap (λ a. replies.EndTxn (end_reply r a)) (same_answer v.coordinator w.coordinator (ending_id r) (end_transition w.coordinator r) agree);
      refusals = refl;
    }

end_depends : (v w : World) (caller : Caller) (r : EndTxnRequest) → SameBase v w → SameGranted v w (end_questions caller r) → SameAnswer (end_txn_outcome v caller r) (end_txn_outcome w caller r)
end_depends v w caller r base same =
    let q = id_question caller (ending_id r) in
    subst (λ (o : Option Refusal). SameAnswer (ended_by v r o) (end_txn_outcome w caller r)) (same_refusal v w q base.rules)
    (same_ended (part_refusal (rules_of w) (q ∷ [])) v w caller r base same refl)

module _ (v w : World) (caller : Caller) (id : List ℕ) where
  abbrev SamePart : List ℕ → ℤ → Type 0
  SamePart name index = SameGranted v w (add_questions caller id name)

  -- a part that is granted is of the same topic, and its id has the same record
  part_topic : (name : List ℕ) (index : ℤ) → SamePart name index → part_refusal (rules_of w) (add_questions caller id name) ≡ None → find_topic v.topics name ≡ find_topic w.topics name
  part_topic name index same none =
      let first = id_question caller id in
      let last = question_of caller operations.Write kinds.Topic name in
      same_topic v w last same.1 (rest_of (verdict w.book w.supers first) first (part_refusal (rules_of w) (last ∷ [])) none)

  part_id : (name : List ℕ) (index : ℤ) → SamePart name index → part_refusal (rules_of w) (add_questions caller id name) ≡ None → id_record v.coordinator.transactions id ≡ id_record w.coordinator.transactions id
  part_id name index same none =
      let first = id_question caller id in
      let last = question_of caller operations.Write kinds.Topic name in
      same.0 (yes_of (verdict w.book w.supers first) first (part_refusal (rules_of w) (last ∷ [])) none)

  cut_alike : AreAlike (cut_rule caller id v.topics) (cut_rule caller id w.topics) (rules_of w) SamePart (λ a b. a ≡ b)
  cut_alike = record {
    questions = λ name index. refl;
    refused = λ code name index. refl;
    plain = λ a b name index is agree none. ap (λ (o : Option LogValue). added_partition (cut_code o) index) (same_log v.topics w.topics name index (part_topic name index is none));
    after = λ a b name index is agree none. agree;
  }

  no_refusal : (name : List ℕ) (index : ℤ) (o : Option Refusal) (rest : List Refusal) → part_refusal (rules_of w) (add_questions caller id name) ≡ o → has_any (cons_option o rest) ≡ false → part_refusal (rules_of w) (add_questions caller id name) ≡ None
  no_refusal name index None rest is none = is
  no_refusal name index (Some r) rest is none = absurd (let clash : true ≡ false = none in cc)

  missing_parts : (name : List ℕ) (indices : List ℤ) → AllParts SamePart name indices → has_any (parts_refused (cut_rule caller id w.topics) (rules_of w) name indices) ≡ false → is_missing_in v.topics name indices ≡ is_missing_in w.topics name indices
  missing_parts name [] same none = refl
  missing_parts name (index ∷ indices) same none =
      let o = part_refusal (rules_of w) (add_questions caller id name) in
      let rest = parts_refused (cut_rule caller id w.topics) (rules_of w) name indices in
      let here : log_at v.topics name index ≡ log_at w.topics name index = same_log v.topics w.topics name index (part_topic name index same.0 (no_refusal name index o rest refl none)) in
      ap (λ (l : Option LogValue). is_none l || is_missing_in v.topics name indices) here
      ∙ ap (λ (b : Bool). is_none (log_at w.topics name index) || b) (missing_parts name indices same.1 (none_later w caller id o rest none))

  missing_topics : (ts : List (Topic ℤ)) → AllTopics SamePart ts → has_any (refusals (cut_rule caller id w.topics) (rules_of w) ts) ≡ false → is_missing v.topics ts ≡ is_missing w.topics ts
  missing_topics [] same none = refl
  missing_topics (t ∷ ts) same none =
      let first = parts_refused (cut_rule caller id w.topics) (rules_of w) t.name t.partitions in
      let rest = refusals (cut_rule caller id w.topics) (rules_of w) ts in
      ap (λ (b : Bool). b || is_missing v.topics ts) (missing_parts t.name t.partitions same.0 (none_first first rest none))
      ∙ ap (λ (b : Bool). is_missing_in w.topics t.name t.partitions || b) (missing_topics ts same.1 (none_rest first rest none))

  same_or_empty : (ts : List (Topic ℤ)) → AllTopics SamePart ts → has_any (refusals (cut_rule caller id w.topics) (rules_of w) ts) ≡ false → (partitions_of ts ≡ []) ⊎ (id_record v.coordinator.transactions id ≡ id_record w.coordinator.transactions id)
  same_or_empty [] same none = inl refl
  same_or_empty (t ∷ ts) same none = by_parts t.name t.partitions (same_or_empty ts same.1) same.0 none where
    by_parts : (name : List ℕ) (indices : List ℤ) → (has_any (refusals (cut_rule caller id w.topics) (rules_of w) ts) ≡ false → (partitions_of ts ≡ []) ⊎ (id_record v.coordinator.transactions id ≡ id_record w.coordinator.transactions id)) → AllParts SamePart name indices → has_any (parts_refused (cut_rule caller id w.topics) (rules_of w) name indices ++ refusals (cut_rule caller id w.topics) (rules_of w) ts) ≡ false
        → (partitions_in name indices ++ partitions_of ts ≡ []) ⊎ (id_record v.coordinator.transactions id ≡ id_record w.coordinator.transactions id)
    by_parts name [] later here none = later none
    by_parts name (index ∷ indices) later here none =
        let o = part_refusal (rules_of w) (add_questions caller id name) in
        let rest = parts_refused (cut_rule caller id w.topics) (rules_of w) name indices in
        inr (part_id name index here.0 (no_refusal name index o rest refl (none_first (cons_option o rest) (refusals (cut_rule caller id w.topics) (rules_of w) ts) none)))

abbrev add_outcome_by : Rules → World → Caller → AddPartitionsToTxnRequest → HandlerResult
add_outcome_by rules w caller r = cond (is_cut caller r.transactional_id w.topics rules r.topics)
    (record { world = w; reply = add_reply (answers (cut_rule caller r.transactional_id w.topics) rules tt r.topics); refusals = refusals (cut_rule caller r.transactional_id w.topics) rules r.topics })
    (added_outcome w r)

same_transition : (v w : World) (r : AddPartitionsToTxnRequest) → SameBase v w → (partitions_of r.topics ≡ []) ⊎ (id_record v.coordinator.transactions r.transactional_id ≡ id_record w.coordinator.transactions r.transactional_id)
    → transition_code (add_transition v.coordinator v.moment r) ≡ transition_code (add_transition w.coordinator w.moment r)
same_transition v w r base (inl none) =
    ap (λ (ps : List TopicPartition). transition_code (add_partitions v.coordinator r.transactional_id (record { producer = r.producer; epoch = r.epoch }) v.moment ps)) none
    ∙ sym (ap (λ (ps : List TopicPartition). transition_code (add_partitions w.coordinator r.transactional_id (record { producer = r.producer; epoch = r.epoch }) w.moment ps)) none)
same_transition v w r base (inr same) =
    ap (λ (m : ℕ). transition_code (add_transition v.coordinator m r)) base.moment
    ∙ ap transition_code (same_add v.coordinator w.coordinator r.transactional_id (record { producer = r.producer; epoch = r.epoch }) w.moment (partitions_of r.topics) (record { given = base.given; recorded = same }))

add_depends : (v w : World) (caller : Caller) (r : AddPartitionsToTxnRequest) → SameBase v w → SameForParts v w (cut_rule caller r.transactional_id w.topics) r.topics → SameAnswer (add_partitions_outcome v caller r) (add_partitions_outcome w caller r)
add_depends v w caller r base same = subst (λ (rules : Rules). SameAnswer (add_outcome_by rules v caller r) (add_partitions_outcome w caller r)) (sym base.rules) (by_any (has_any (refusals (cut_rule caller r.transactional_id w.topics) (rules_of w) r.topics)) refl) where
  alike : AnswerAlike (cut_rule caller r.transactional_id v.topics) (cut_rule caller r.transactional_id w.topics) (rules_of w) (λ a b. a ≡ b) tt tt r.topics
  alike = answer_alike (cut_rule caller r.transactional_id v.topics) (cut_rule caller r.transactional_id w.topics) (rules_of w) (SamePart v w caller r.transactional_id) (λ a b. a ≡ b) (cut_alike v w caller r.transactional_id) tt tt r.topics same refl

  cut_same : SameAnswer (record { world = v; reply = add_reply (answers (cut_rule caller r.transactional_id v.topics) (rules_of w) tt r.topics); refusals = refusals (cut_rule caller r.transactional_id v.topics) (rules_of w) r.topics }) (cut_outcome w caller r)
  cut_same = record { reply = ap add_reply alike.answers; refusals = alike.refusals }

  added_same : (partitions_of r.topics ≡ []) ⊎ (id_record v.coordinator.transactions r.transactional_id ≡ id_record w.coordinator.transactions r.transactional_id) → SameAnswer (added_outcome v r) (added_outcome w r)
  added_same case = record { reply = ap (λ (code : ErrorCode). add_reply (plain_topics (code_rule code) tt r.topics)) (same_transition v w r base case); refusals = refl }

  by_missing : (b : Bool) → SameAnswer (added_outcome v r) (added_outcome w r)
      → SameAnswer (cond b (record { world = v; reply = add_reply (answers (cut_rule caller r.transactional_id v.topics) (rules_of w) tt r.topics); refusals = refusals (cut_rule caller r.transactional_id v.topics) (rules_of w) r.topics }) (added_outcome v r)) (cond b (cut_outcome w caller r) (added_outcome w r))
  by_missing true added = cut_same
  by_missing false added = added

  by_any : (b : Bool) → has_any (refusals (cut_rule caller r.transactional_id w.topics) (rules_of w) r.topics) ≡ b → SameAnswer (add_outcome_by (rules_of w) v caller r) (add_partitions_outcome w caller r)
  by_any true is =
      let told : is_cut caller r.transactional_id w.topics (rules_of w) r.topics ≡ true = ap (λ (b : Bool). b || is_missing w.topics r.topics) is in
      let there : is_cut caller r.transactional_id v.topics (rules_of w) r.topics ≡ true = ap (λ (rs : List Refusal). has_any rs || is_missing v.topics r.topics) alike.refusals ∙ ap (λ (b : Bool). b || is_missing v.topics r.topics) is in
      subst (λ (b : Bool). SameAnswer (cond b (record { world = v; reply = add_reply (answers (cut_rule caller r.transactional_id v.topics) (rules_of w) tt r.topics); refusals = refusals (cut_rule caller r.transactional_id v.topics) (rules_of w) r.topics }) (added_outcome v r)) (add_partitions_outcome w caller r)) (sym there)
      (subst (λ (b : Bool). SameAnswer (record { world = v; reply = add_reply (answers (cut_rule caller r.transactional_id v.topics) (rules_of w) tt r.topics); refusals = refusals (cut_rule caller r.transactional_id v.topics) (rules_of w) r.topics }) (cond b (cut_outcome w caller r) (added_outcome w r))) (sym told) cut_same)
  by_any false is =
      let told : is_cut caller r.transactional_id w.topics (rules_of w) r.topics ≡ is_missing w.topics r.topics = ap (λ (b : Bool). b || is_missing w.topics r.topics) is in
      let there : is_cut caller r.transactional_id v.topics (rules_of w) r.topics ≡ is_missing w.topics r.topics =
      ap (λ (rs : List Refusal). has_any rs || is_missing v.topics r.topics) alike.refusals ∙ ap (λ (b : Bool). b || is_missing v.topics r.topics) is ∙ missing_topics v w caller r.transactional_id r.topics same is in
      let added = added_same (same_or_empty v w caller r.transactional_id r.topics same is) in
      subst (λ (b : Bool). SameAnswer (cond b (record { world = v; reply = add_reply (answers (cut_rule caller r.transactional_id v.topics) (rules_of w) tt r.topics); refusals = refusals (cut_rule caller r.transactional_id v.topics) (rules_of w) r.topics }) (added_outcome v r)) (add_partitions_outcome w caller r)) (sym there)
      (subst (λ (b : Bool). SameAnswer (cond (is_missing w.topics r.topics) (record { world = v; reply = add_reply (answers (cut_rule caller r.transactional_id v.topics) (rules_of w) tt r.topics); refusals = refusals (cut_rule caller r.transactional_id v.topics) (rules_of w) r.topics }) (added_outcome v r)) (cond b (cut_outcome w caller r) (added_outcome w r))) (sym told)
      (by_missing (is_missing w.topics r.topics) added))

pub transactions_depend : TransactionsDependOnGrants end_txn_outcome add_partitions_outcome
transactions_depend = record { ends = end_depends; adds = add_depends }
