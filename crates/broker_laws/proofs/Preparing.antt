-- Which events prepare a transaction, and which make an id leave its pair.
use Rattle.std.proofs.Common.{◌≡◌, ℕ, ℤ, pos, List, [], Option, Some, None, Bool, true, false, cond, refl, sym, ap, subst, ◌∙◌, arith}
use Rattle.std.specs.Prelude.{◌&&◌, ◌+ℤ◌, int_lt}
use Rattle.std.specs.Ordering.{int_eq}
use Rattle.std.specs.Str.{bytes_eq}
use Rattle.std.proofs.lemmas.Int.{ints}
use Rattle.acl_binding.specs.declared.words.Kind.{Kind}
use Rattle.acl_binding.specs.declared.words.Kind.TheVariants as kinds
use Rattle.authorizer.specs.declared.answer.Refusal.{Refusal}
use Rattle.authorizer.specs.Asking.{part_refusal}
use Rattle.wire_types.specs.declared.error_code.ErrorCode.{ErrorCode}
use Rattle.wire_types.specs.declared.error_code.ErrorCode.TheVariants as codes
use Rattle.msg_txn.specs.declared.init_producer_id.InitProducerIdRequest.{InitProducerIdRequest}
use Rattle.msg_txn.specs.declared.init_producer_id.InitProducerIdReply.{InitProducerIdReply}
use Rattle.msg_txn.specs.declared.end_txn.EndTxnRequest.{EndTxnRequest}
use Rattle.msg_txn.specs.declared.end_txn.EndTxnReply.{EndTxnReply}
use Rattle.msg_txn.specs.declared.end_txn.EndTxnRequest.TheVariants as versions
use Rattle.msg_txn.specs.EndTxn.{error_of}
use Rattle.msg_admin.specs.declared.reply.Reply.TheVariants as replies
use Rattle.msg_admin.specs.declared.request.Request.TheVariants.{InitProducerId}
use Rattle.audit_trail.specs.declared.event.Event.TheVariants.{Ask, Tick}
use Rattle.walk.specs.Codes.{permission_code, refusal_code}
use Rattle.txn_coordinator.specs.declared.producer_id.ProducerIdAndEpoch.{ProducerIdAndEpoch}
use Rattle.txn_coordinator.specs.declared.producer_id.ProducerIdAnswer.{ProducerIdAnswer}
use Rattle.txn_coordinator.specs.declared.marker.PendingMarker.{PendingMarker}
use Rattle.txn_coordinator.specs.declared.transaction.TransactionState.{TransactionState}
use Rattle.txn_coordinator.specs.declared.transaction.TransactionState.TheVariants.{Empty, Ongoing, PrepareCommit, PrepareAbort, CompleteCommit, CompleteAbort}
use Rattle.txn_coordinator.specs.declared.transaction.Transaction.{Transaction}
use Rattle.record_batch.specs.declared.transaction_result.TransactionResult.{TransactionResult}
use Rattle.record_batch.specs.declared.transaction_result.TransactionResult.TheVariants.{Commit, Abort}
use Rattle.txn_coordinator.specs.declared.ending.EndForm.{EndForm}
use Rattle.txn_coordinator.specs.declared.ending.EndForm.TheVariants.{Plain, Fencing, Raising}
use Rattle.txn_coordinator.specs.Transition.{Transition, Stays, Puts}
use Rattle.txn_coordinator.specs.Words.{last_epoch, is_empty, with_next_epoch, is_exhausted, next_id_and_epoch, given_after, prepared_phase}
use Rattle.txn_coordinator.specs.Coordinator.{CoordinatorValue, id_record, records_with, owner, fresh_producer_id, apply_transition, transition_code}
use Rattle.txn_coordinator.specs.Preparing.{markers, producer_refusal, fenced_transaction, fence_transition}
use Rattle.txn_coordinator.specs.InitProducerId.{timeout_within, begin_transition, init_in, init_for, init}
use Rattle.txn_coordinator.specs.EndTxn.{other_epoch, renewal_transition, end_ongoing, end_closed, end_in, is_kept, is_again, end_again, end_by, end_found, end}
use Rattle.txn_coordinator.specs.Expiry.{is_due}
use Rattle.txn_coordinator.proofs.Table.{recorded_id}
use Rattle.txn_laws.proofs.Base.{is_same, put_at_test, owner_is, given_within}
use Rattle.txn_laws.proofs.Calls.{ongoing_is}
use Rattle.txn_laws.proofs.Targets.{same_number}
use Rattle.broker_world.specs.World.{World, rules_of}
use Rattle.broker_world.specs.Whole.{whole_outcome_by}
use Rattle.txn_handlers.specs.InitProducerId.{init_questions, init_answered, init_error, coordinator_for, reply_for, served_init}
use Rattle.txn_handlers.specs.EndTxn.{end_reply, end_transition, served_end, end_questions, end_error, form_of, ending_id, ending_id_and_epoch, ending_outcome}
use Rattle.broker_world.specs.Clock.{moment_after}
use Rattle.api_dispatch.specs.Step.{step, reply_to}
use Rattle.broker_laws.specs.Laws.{Prepares, HasIdAndEpoch, Fences, FencesProducers}
use Rattle.broker_laws.proofs.Passing.{never_none}
use Rattle.broker_laws.proofs.Owing.{recorded_expired}
use Rattle.broker_laws.proofs.Reached.{IsGood, good}

-- ---- codes of refusals

never_again : (k : Kind) → permission_code k ≡ codes.ConcurrentTransactions → ⊥
never_again kinds.Topic h = cc
never_again kinds.Group h = cc
never_again kinds.Cluster h = cc
never_again kinds.TransactionalId h = cc

told_code : (r : EndTxnRequest) (a : ProducerIdAnswer) → a.code ≡ error_of (end_reply r a)
told_code (versions.Version0 r) a = refl
told_code (versions.Version1 r) a = refl
told_code (versions.Version2 r) a = refl
told_code (versions.Version3 r) a = refl
told_code (versions.Version4 r) a = refl
told_code (versions.Version5 r) a = refl

-- the code of an EndTxn's answer
pub end_code : (r : EndTxnRequest) (a : ProducerIdAnswer) (reply : EndTxnReply) → replies.EndTxn (end_reply r a) ≡ replies.EndTxn reply → a.code ≡ error_of reply
end_code r a reply h = let same : end_reply r a ≡ reply = cc in told_code r a ∙ ap error_of same

init_code : (a b : InitProducerIdReply) → replies.InitProducerId a ≡ replies.InitProducerId b → a.error ≡ b.error
init_code a b h = let same : a ≡ b = cc in ap (λ (r : InitProducerIdReply). r.error) same

-- ---- the record that a transition puts

own_test : (ts : List Transaction) (id : List ℕ) (t : Transaction) → id_record ts id ≡ Some t → bytes_eq t.id id ≡ true
own_test ts id t found = is_same t.id id (recorded_id ts id t found)

found_again : (ts : List Transaction) (r : Transaction) (id : List ℕ) → bytes_eq r.id id ≡ true → id_record (records_with ts r) id ≡ Some r
found_again ts r id own = put_at_test ts r id true own

same_found : (ts : List Transaction) (id : List ℕ) (t u : Transaction) → id_record ts id ≡ Some t → id_record ts id ≡ Some u → t ≡ u
same_found ts id t u h k = let both : Some t ≡ Some u = sym h ∙ k in cc

-- the record of the id waits with that outcome
abbrev Waits : CoordinatorValue → List ℕ → TransactionResult → Type 0
Waits c id o = (u : Transaction) × (id_record c.transactions id ≡ Some u) × (u.state ≡ prepared_phase o)

-- ---- EndTxn

other_told : (form : EndForm) → other_epoch form ≡ codes.None → ⊥
other_told Plain h = let clash : codes.InvalidProducerEpoch ≡ codes.None = h in cc
other_told Fencing h = let clash : codes.ProducerFenced ≡ codes.None = h in cc
other_told Raising h = let clash : codes.ProducerFenced ≡ codes.None = h in cc

-- an open transaction is prepared where there is no error
end_puts : (c : CoordinatorValue) (form : EndForm) (id : List ℕ) (pair : ProducerIdAndEpoch) (o : TransactionResult) (t : Transaction) → id_record c.transactions id ≡ Some t → t.state ≡ Ongoing → transition_code (end c form id pair o) ≡ codes.None → end c form id pair o ≡ end_ongoing form t (fresh_producer_id c) o
end_puts c form id pair o t found ongoing none = by_empty (is_empty id) none where
  by_tests : (y : Transaction) (a b l : Bool) → y ≡ t → transition_code (end_by (cond a (cond (b && l) None (Some (other_epoch form))) (Some codes.InvalidProducerIdMapping)) form y (fresh_producer_id c) o) ≡ codes.None
      → end_by (cond a (cond (b && l) None (Some (other_epoch form))) (Some codes.InvalidProducerIdMapping)) form y (fresh_producer_id c) o ≡ end_ongoing form t (fresh_producer_id c) o
  by_tests y true true true same none = ap (λ (z : Transaction). end_in z.state form z (fresh_producer_id c) o) same ∙ ap (λ state. end_in state form t (fresh_producer_id c) o) ongoing
  by_tests y true true false same none = absurd (other_told form none)
  by_tests y true false l same none = absurd (other_told form none)
  by_tests y false b l same none = absurd (let clash : codes.InvalidProducerIdMapping ≡ codes.None = none in cc)

  by_again : (b : Bool) (y : Transaction) → y ≡ t → transition_code (cond b (Stays (end_again y.state o)) (end_by (producer_refusal (other_epoch form) y pair) form y (fresh_producer_id c) o)) ≡ codes.None
      → cond b (Stays (end_again y.state o)) (end_by (producer_refusal (other_epoch form) y pair) form y (fresh_producer_id c) o) ≡ end_ongoing form t (fresh_producer_id c) o
  by_again true y same none =
      let clash : codes.InvalidTxnState ≡ codes.None = sym (ap (λ (z : Transaction). end_again z.state o) same ∙ ap (λ state. end_again state o) ongoing) ∙ none in
      absurd cc
  by_again false y same none = by_tests y (int_eq y.pair.producer pair.producer) (int_eq y.pair.epoch pair.epoch) (int_lt pair.epoch last_epoch) same none

  by_found : (f : Option Transaction) → f ≡ Some t → transition_code (end_found f form (fresh_producer_id c) pair o) ≡ codes.None → end_found f form (fresh_producer_id c) pair o ≡ end_ongoing form t (fresh_producer_id c) o
  by_found None e none = absurd (let clash : None ≡ Some t = e in cc)
  by_found (Some y) e none = let same : y ≡ t = cc in by_again (is_again form y pair) y same none

  by_empty : (b : Bool) → transition_code (cond b (Stays codes.InvalidRequest) (end_found (id_record c.transactions id) form (fresh_producer_id c) pair o)) ≡ codes.None
      → cond b (Stays codes.InvalidRequest) (end_found (id_record c.transactions id) form (fresh_producer_id c) pair o) ≡ end_ongoing form t (fresh_producer_id c) o
  by_empty true none = absurd (let clash : codes.InvalidRequest ≡ codes.None = none in cc)
  by_empty false none = by_found (id_record c.transactions id) found none

-- and then it waits
put_waits : (c : CoordinatorValue) (id : List ℕ) (t r : Transaction) (code : ErrorCode) (given : List (Option (List ℕ))) (owed : List PendingMarker) (o : TransactionResult) → id_record c.transactions id ≡ Some t → r.id ≡ t.id → r.state ≡ prepared_phase o → Waits (apply_transition c (Puts code r given owed)) id o
put_waits c id t r code given owed o found own state = (r, found_again c.transactions r id (ap (λ x. bytes_eq x id) own ∙ own_test c.transactions id t found), state)

ongoing_waits_so : (form : EndForm) (c : CoordinatorValue) (id : List ℕ) (t : Transaction) (o : TransactionResult) → id_record c.transactions id ≡ Some t → Waits (apply_transition c (end_ongoing form t (fresh_producer_id c) o)) id o
ongoing_waits_so Plain c id t o found = put_waits c id t (record t { state = prepared_phase o }) codes.None [] (markers t t.pair o) o found refl refl
ongoing_waits_so Fencing c id t o found = put_waits c id t (record t { state = prepared_phase o }) codes.None [] (markers t t.pair o) o found refl refl
ongoing_waits_so Raising c id t o found = put_waits c id t (record t { pair = next_id_and_epoch t.pair (fresh_producer_id c); state = prepared_phase o; kept = Some t.pair }) codes.None (given_after t.pair t.id) (markers t (with_next_epoch t.pair) o) o found refl refl

end_waits : (w : World) (r : EndTxnRequest) (reply : EndTxnReply) (t : Transaction) → id_record w.coordinator.transactions (ending_id r) ≡ Some t → t.state ≡ Ongoing → (x : Option Refusal)
    → (whole_outcome_by x w (λ code. replies.EndTxn (end_error r code)) (served_end w r)).reply ≡ replies.EndTxn reply → error_of reply ≡ codes.None → Waits (whole_outcome_by x w (λ code. replies.EndTxn (end_error r code)) (served_end w r)).world.coordinator (ending_id r) (ending_outcome r)
end_waits w r reply t found ongoing (Some x) told none = absurd (never_none x.question.kind (end_code r _ reply told ∙ none))
end_waits w r reply t found ongoing None told none =
    let c = w.coordinator in
    let puts = end_puts c (form_of r) (ending_id r) (ending_id_and_epoch r) (ending_outcome r) t found ongoing (end_code r _ reply told ∙ none) in
    subst (λ transition. Waits (apply_transition c transition) (ending_id r) (ending_outcome r)) (sym puts) (ongoing_waits_so (form_of r) c (ending_id r) t (ending_outcome r) found)

-- ---- InitProducerId

init_code_of : (w : World) (r : InitProducerIdRequest) (id : List ℕ) (b : InitProducerIdReply) → r.transactional_id ≡ Some id → replies.InitProducerId (reply_for r.transactional_id w.coordinator w.node.max_txn_timeout r.timeout) ≡ replies.InitProducerId b
    → transition_code (init w.coordinator id r.timeout w.node.max_txn_timeout) ≡ b.error
init_code_of w r id b own reply =
    let c = w.coordinator in
    init_code (reply_for (Some id) c w.node.max_txn_timeout r.timeout) b
    (ap (λ o. replies.InitProducerId (reply_for o c w.node.max_txn_timeout r.timeout)) (sym own) ∙ reply)

init_puts : (c : CoordinatorValue) (id : List ℕ) (timeout greatest : ℤ) (t : Transaction) → id_record c.transactions id ≡ Some t → t.state ≡ Ongoing → transition_code (init c id timeout greatest) ≡ codes.ConcurrentTransactions → init c id timeout greatest ≡ fence_transition codes.ConcurrentTransactions t
init_puts c id timeout greatest t found ongoing code = by_empty (is_empty id) (timeout_within timeout greatest) code where
  by_empty : (b : Bool) (n : Option ℕ) → transition_code (cond b (Stays codes.InvalidRequest) (init_for n (id_record c.transactions id) id (fresh_producer_id c))) ≡ codes.ConcurrentTransactions
      → cond b (Stays codes.InvalidRequest) (init_for n (id_record c.transactions id) id (fresh_producer_id c)) ≡ fence_transition codes.ConcurrentTransactions t
  by_empty true n code = absurd (let clash : codes.InvalidRequest ≡ codes.ConcurrentTransactions = code in cc)
  by_empty false None code = absurd (let clash : codes.InvalidTransactionTimeout ≡ codes.ConcurrentTransactions = code in cc)
  by_empty false (Some n) code = ap (λ f. init_for (Some n) f id (fresh_producer_id c)) found ∙ ap (λ state. init_in state t (fresh_producer_id c) n) ongoing

-- the record is fenced by an InitProducerId that is told to come again
taken_record : (w : World) (r : InitProducerIdRequest) (id : List ℕ) (t : Transaction) → r.transactional_id ≡ Some id → id_record w.coordinator.transactions id ≡ Some t → t.state ≡ Ongoing → (x : Option Refusal)
    → (whole_outcome_by x w (λ code. replies.InitProducerId (init_error code)) (served_init w r)).reply ≡ replies.InitProducerId (init_error codes.ConcurrentTransactions)
    → id_record (whole_outcome_by x w (λ code. replies.InitProducerId (init_error code)) (served_init w r)).world.coordinator.transactions id ≡ Some (fenced_transaction t)
taken_record w r id t own found ongoing (Some x) reply = absurd (never_again x.question.kind (init_code (init_error (refusal_code x)) (init_error codes.ConcurrentTransactions) reply))
taken_record w r id t own found ongoing None reply =
    let c = w.coordinator in
    let puts = init_puts c id r.timeout w.node.max_txn_timeout t found ongoing (init_code_of w r id (init_error codes.ConcurrentTransactions) own reply) in
    ap (λ o. id_record (coordinator_for o c w.node.max_txn_timeout r.timeout).transactions id) own
    ∙ ap (λ transition. id_record (apply_transition c transition).transactions id) puts
    ∙ found_again c.transactions (fenced_transaction t) id (own_test c.transactions id t found)

-- ---- a tick

timed_record : (w : World) (told : ℕ) (id : List ℕ) (t : Transaction) → id_record w.coordinator.transactions id ≡ Some t → is_due (moment_after w.moment told) t ≡ true → id_record (step w (Tick told)).coordinator.transactions id ≡ Some (fenced_transaction t)
timed_record w told id t found due =
    recorded_expired (moment_after w.moment told) w.coordinator.transactions id t found ∙ ap (λ b. Some (cond b (fenced_transaction t) t)) due

due_open : (moment : ℕ) (t : Transaction) → is_due moment t ≡ true → t.state ≡ Ongoing
due_open moment t due = ongoing_is t.state _ due

-- ---- what prepares

pub prepares : Prepares step reply_to
prepares w = record {
  ended = λ caller client r reply t found ongoing told none.
      let h = end_waits w r reply t found ongoing (part_refusal (rules_of w) (end_questions caller r)) told none in
      record { before = found; ongoing = ongoing; transaction = h.0; after = h.1; waits = h.2 };
  taken_over = λ caller client r id t own found ongoing reply. record {
    before = found;
    ongoing = ongoing;
    transaction = fenced_transaction t;
    after = taken_record w r id t own found ongoing (part_refusal (rules_of w) (init_questions (rules_of w) caller r.transactional_id)) reply;
    waits = refl;
  };
  timed_out = λ told id t found due. record { before = found; ongoing = due_open (moment_after w.moment told) t due; transaction = fenced_transaction t; after = timed_record w told id t found due; waits = refl };
}

-- ---- what fences

-- the record that is found doesn't have the pair
left : (ts : List Transaction) (id : List ℕ) (pair : ProducerIdAndEpoch) (u : Transaction) → id_record ts id ≡ Some u → (u.pair ≡ pair → ⊥) → ((t : Transaction) × (id_record ts id ≡ Some t) × (t.pair ≡ pair)) → ⊥
left ts id pair u found other (t, here, is) = other (ap (λ (y : Transaction). y.pair) (same_found ts id u t found here) ∙ is)

not_raised : (p : ProducerIdAndEpoch) → with_next_epoch p ≡ p → ⊥
not_raised p h = let same : p.epoch +ℤ pos 1 ≡ p.epoch = ap (λ (q : ProducerIdAndEpoch). q.epoch) h in omega (arith, ints)

-- the next pair is another one
not_after : (c : CoordinatorValue) (id : List ℕ) (p : ProducerIdAndEpoch) → owner c p.producer ≡ Some (Some id) → next_id_and_epoch p (fresh_producer_id c) ≡ p → ⊥
not_after c id p owned h = by_use (is_exhausted p) h where
  by_use : (b : Bool) → cond b (record { producer = fresh_producer_id c; epoch = pos 0 }) (with_next_epoch p) ≡ p → ⊥
  by_use true h =
      let same : fresh_producer_id c ≡ p.producer = ap (λ (q : ProducerIdAndEpoch). q.producer) h in
      let low = given_within c.given p.producer (Some id) (sym (owner_is c c.given p.producer refl) ∙ owned) in
      omega (arith, ints)
  by_use false h = not_raised p h

-- what an InitProducerId that is answered a pair puts
abbrev Begins : CoordinatorValue → Transaction → Transition → Type 0
Begins c t transition = (n : ℕ) × (transition ≡ begin_transition t (fresh_producer_id c) n)

init_begins : (c : CoordinatorValue) (id : List ℕ) (timeout greatest : ℤ) (t : Transaction) → id_record c.transactions id ≡ Some t → transition_code (init c id timeout greatest) ≡ codes.None → Begins c t (init c id timeout greatest)
init_begins c id timeout greatest t found none = by_empty (is_empty id) (timeout_within timeout greatest) none where
  by_state : (state : TransactionState) (n : ℕ) → transition_code (init_in state t (fresh_producer_id c) n) ≡ codes.None → Begins c t (init_in state t (fresh_producer_id c) n)
  by_state Empty n none = (n, refl)
  by_state CompleteCommit n none = (n, refl)
  by_state CompleteAbort n none = (n, refl)
  by_state Ongoing n none = absurd (let clash : codes.ConcurrentTransactions ≡ codes.None = none in cc)
  by_state PrepareCommit n none = absurd (let clash : codes.ConcurrentTransactions ≡ codes.None = none in cc)
  by_state PrepareAbort n none = absurd (let clash : codes.ConcurrentTransactions ≡ codes.None = none in cc)

  by_found : (f : Option Transaction) (n : ℕ) → f ≡ Some t → transition_code (init_for (Some n) f id (fresh_producer_id c)) ≡ codes.None → Begins c t (init_for (Some n) f id (fresh_producer_id c))
  by_found None n e none = absurd (let clash : None ≡ Some t = e in cc)
  by_found (Some y) n e none = let same : t ≡ y = cc in subst (λ z. transition_code (init_in z.state z (fresh_producer_id c) n) ≡ codes.None → Begins c t (init_in z.state z (fresh_producer_id c) n)) same (by_state t.state n) none

  by_empty : (b : Bool) (n : Option ℕ) → transition_code (cond b (Stays codes.InvalidRequest) (init_for n (id_record c.transactions id) id (fresh_producer_id c))) ≡ codes.None → Begins c t (cond b (Stays codes.InvalidRequest) (init_for n (id_record c.transactions id) id (fresh_producer_id c)))
  by_empty true n none = absurd (let clash : codes.InvalidRequest ≡ codes.None = none in cc)
  by_empty false None none = absurd (let clash : codes.InvalidTransactionTimeout ≡ codes.None = none in cc)
  by_empty false (Some n) none = by_found (id_record c.transactions id) n found none

begun_leaves : (w : World) → IsGood w → (r : InitProducerIdRequest) (id : List ℕ) (t : Transaction) (new : ProducerIdAndEpoch) → r.transactional_id ≡ Some id → id_record w.coordinator.transactions id ≡ Some t → (x : Option Refusal)
    → (whole_outcome_by x w (λ code. replies.InitProducerId (init_error code)) (served_init w r)).reply ≡ replies.InitProducerId (init_answered (record { code = codes.None; pair = new }))
    → HasIdAndEpoch (whole_outcome_by x w (λ code. replies.InitProducerId (init_error code)) (served_init w r)).world id t.pair → ⊥
begun_leaves w good r id t new own found (Some x) reply has = never_none x.question.kind (init_code (init_error (refusal_code x)) (init_answered (record { code = codes.None; pair = new })) reply)
begun_leaves w good r id t new own found None reply has =
    let c = w.coordinator in
    let puts = init_begins c id r.timeout w.node.max_txn_timeout t found (init_code_of w r id (init_answered (record { code = codes.None; pair = new })) own reply) in
    let next : Transaction = record t { pair = next_id_and_epoch t.pair (fresh_producer_id c); timeout = puts.0; state = Empty; kept = None } in
    let here : id_record (coordinator_for r.transactional_id c w.node.max_txn_timeout r.timeout).transactions id ≡ Some next =
    ap (λ o. id_record (coordinator_for o c w.node.max_txn_timeout r.timeout).transactions id) own
    ∙ ap (λ transition. id_record (apply_transition c transition).transactions id) puts.1
    ∙ found_again c.transactions next id (own_test c.transactions id t found) in
    left (coordinator_for r.transactional_id c w.node.max_txn_timeout r.timeout).transactions id t.pair next here (not_after c id t.pair (good.sound.owned id t found)) has

-- what an EndTxn of version 5 that is answered no error puts, unless it is one once more
pub record Renews (c : CoordinatorValue) (t : Transaction) (pair : ProducerIdAndEpoch) (transition : Transition) : Type 0 where
  pub state : TransactionState
  pub owed : List PendingMarker
  pub puts : transition ≡ renewal_transition t (fresh_producer_id c) state owed
  pub own : t.pair ≡ pair

end_renews : (c : CoordinatorValue) (id : List ℕ) (pair : ProducerIdAndEpoch) (o : TransactionResult) (t : Transaction) → id_record c.transactions id ≡ Some t → is_kept t.kept pair ≡ false → transition_code (end c Raising id pair o) ≡ codes.None → Renews c t pair (end c Raising id pair o)
end_renews c id pair o t found again none = by_empty (is_empty id) none where
  by_closed : (code : ErrorCode) (o : TransactionResult) → t.pair ≡ pair → transition_code (end_closed Raising t (fresh_producer_id c) o code) ≡ codes.None → Renews c t pair (end_closed Raising t (fresh_producer_id c) o code)
  by_closed code Commit same none = absurd (let clash : codes.InvalidTxnState ≡ codes.None = none in cc)
  by_closed code Abort same none = record { state = CompleteAbort; owed = []; puts = refl; own = same }

  by_state : (state : TransactionState) (o : TransactionResult) → t.pair ≡ pair → transition_code (end_in state Raising t (fresh_producer_id c) o) ≡ codes.None → Renews c t pair (end_in state Raising t (fresh_producer_id c) o)
  by_state Ongoing o same none = record { state = prepared_phase o; owed = markers t (with_next_epoch t.pair) o; puts = refl; own = same }
  by_state PrepareCommit Commit same none = absurd (let clash : codes.ConcurrentTransactions ≡ codes.None = none in cc)
  by_state PrepareCommit Abort same none = absurd (let clash : codes.InvalidTxnState ≡ codes.None = none in cc)
  by_state PrepareAbort Commit same none = absurd (let clash : codes.InvalidTxnState ≡ codes.None = none in cc)
  by_state PrepareAbort Abort same none = absurd (let clash : codes.ConcurrentTransactions ≡ codes.None = none in cc)
  by_state Empty o same none = by_closed codes.InvalidTxnState o same none
  by_state CompleteCommit Commit same none = by_closed codes.None Commit same none
  by_state CompleteCommit Abort same none = by_closed codes.InvalidTxnState Abort same none
  by_state CompleteAbort Commit same none = by_closed codes.InvalidTxnState Commit same none
  by_state CompleteAbort Abort same none = by_closed codes.None Abort same none

  by_tests : (a b l : Bool) → int_eq t.pair.producer pair.producer ≡ a → int_eq t.pair.epoch pair.epoch ≡ b → transition_code (end_by (cond a (cond (b && l) None (Some codes.ProducerFenced)) (Some codes.InvalidProducerIdMapping)) Raising t (fresh_producer_id c) o) ≡ codes.None
      → Renews c t pair (end_by (cond a (cond (b && l) None (Some codes.ProducerFenced)) (Some codes.InvalidProducerIdMapping)) Raising t (fresh_producer_id c) o)
  by_tests true true true producer epoch none = by_state t.state o (λ i. record { producer = same_number t.pair.producer pair.producer producer i; epoch = same_number t.pair.epoch pair.epoch epoch i }) none
  by_tests true true false producer epoch none = absurd (let clash : codes.ProducerFenced ≡ codes.None = none in cc)
  by_tests true false l producer epoch none = absurd (let clash : codes.ProducerFenced ≡ codes.None = none in cc)
  by_tests false b l producer epoch none = absurd (let clash : codes.InvalidProducerIdMapping ≡ codes.None = none in cc)

  by_again : (b : Bool) → b ≡ false → transition_code (cond b (Stays (end_again t.state o)) (end_by (producer_refusal codes.ProducerFenced t pair) Raising t (fresh_producer_id c) o)) ≡ codes.None
      → Renews c t pair (cond b (Stays (end_again t.state o)) (end_by (producer_refusal codes.ProducerFenced t pair) Raising t (fresh_producer_id c) o))
  by_again true e none = absurd (let clash : true ≡ false = e in cc)
  by_again false e none = by_tests (int_eq t.pair.producer pair.producer) (int_eq t.pair.epoch pair.epoch) (int_lt pair.epoch last_epoch) refl refl none

  by_found : (f : Option Transaction) → f ≡ Some t → transition_code (end_found f Raising (fresh_producer_id c) pair o) ≡ codes.None → Renews c t pair (end_found f Raising (fresh_producer_id c) pair o)
  by_found None e none = absurd (let clash : None ≡ Some t = e in cc)
  by_found (Some y) e none =
      let same : t ≡ y = cc in
      subst (λ z. transition_code (end_found (Some z) Raising (fresh_producer_id c) pair o) ≡ codes.None → Renews c t pair (end_found (Some z) Raising (fresh_producer_id c) pair o)) same (by_again (is_kept t.kept pair) again) none

  by_empty : (b : Bool) → transition_code (cond b (Stays codes.InvalidRequest) (end_found (id_record c.transactions id) Raising (fresh_producer_id c) pair o)) ≡ codes.None → Renews c t pair (cond b (Stays codes.InvalidRequest) (end_found (id_record c.transactions id) Raising (fresh_producer_id c) pair o))
  by_empty true none = absurd (let clash : codes.InvalidRequest ≡ codes.None = none in cc)
  by_empty false none = by_found (id_record c.transactions id) found none

ended_leaves : (w : World) → IsGood w → (r : EndTxnRequest) (reply : EndTxnReply) (t : Transaction) → form_of r ≡ Raising → id_record w.coordinator.transactions (ending_id r) ≡ Some t → is_kept t.kept (ending_id_and_epoch r) ≡ false → (x : Option Refusal)
    → (whole_outcome_by x w (λ code. replies.EndTxn (end_error r code)) (served_end w r)).reply ≡ replies.EndTxn reply → error_of reply ≡ codes.None → HasIdAndEpoch (whole_outcome_by x w (λ code. replies.EndTxn (end_error r code)) (served_end w r)).world (ending_id r) (ending_id_and_epoch r) → ⊥
ended_leaves w good r reply t form found again (Some x) told none has = never_none x.question.kind (end_code r _ reply told ∙ none)
ended_leaves w good r reply t form found again None told none has =
    let c = w.coordinator in
    let raising : end_transition c r ≡ end c Raising (ending_id r) (ending_id_and_epoch r) (ending_outcome r) = ap (λ f. end c f (ending_id r) (ending_id_and_epoch r) (ending_outcome r)) form in
    let renews = end_renews c (ending_id r) (ending_id_and_epoch r) (ending_outcome r) t found again (sym (ap transition_code raising) ∙ end_code r _ reply told ∙ none) in
    let next : Transaction = record t { pair = next_id_and_epoch t.pair (fresh_producer_id c); state = renews.state; kept = Some t.pair } in
    let here : id_record (apply_transition c (end_transition c r)).transactions (ending_id r) ≡ Some next =
    ap (λ transition. id_record (apply_transition c transition).transactions (ending_id r)) (raising ∙ renews.puts) ∙ found_again c.transactions next (ending_id r) (own_test c.transactions (ending_id r) t found) in
    left (apply_transition c (end_transition c r)).transactions (ending_id r) (ending_id_and_epoch r) next here (λ h. not_after c (ending_id r) t.pair (good.sound.owned (ending_id r) t found) (h ∙ sym renews.own)) has

fences_of : (w : World) → IsGood w → Fences step reply_to w
fences_of w good = record {
  begun = λ caller client r id pair new own had reply has.
      begun_leaves w good r id had.0 new own had.1 (part_refusal (rules_of w) (init_questions (rules_of w) caller r.transactional_id)) reply (subst (HasIdAndEpoch (step w (Ask caller client (InitProducerId r))) id) (sym had.2) has);
  taken_over = λ caller client r id t own found ongoing reply has.
      left _ id t.pair (fenced_transaction t) (taken_record w r id t own found ongoing (part_refusal (rules_of w) (init_questions (rules_of w) caller r.transactional_id)) reply) (not_raised t.pair) has;
  timed_out = λ told id t found due has. left _ id t.pair (fenced_transaction t) (timed_record w told id t found due) (not_raised t.pair) has;
  ended = λ caller client body reply t found again told none has.
      ended_leaves w good (versions.Version5 body) reply t refl found again (part_refusal (rules_of w) (end_questions caller (versions.Version5 body))) told none has;
}

pub fences : FencesProducers step reply_to
fences s es = fences_of _ (good s es)
