-- What an event owes that prepares a transaction: a marker of this pair to each partition and group that was added.
use Rattle.std.proofs.Common.{◌≡◌, ℕ, ◌≤◌, ℤ, List, [], ◌∷◌, ◌++◌, length, map, Option, Some, None, Result, Ok, Err, Bool, true, false, cond, refl, sym, ap, ◌∙◌, append-nil, append_assoc, arith}
use Rattle.std.specs.Str.{bytes_eq}
use Rattle.std.specs.List.{flat_map}
use Rattle.std.proofs.lemmas.List.{length-append}
use Rattle.acl_binding.specs.declared.question.Caller.{Caller}
use Rattle.authorizer.specs.declared.answer.Refusal.{Refusal}
use Rattle.authorizer.specs.Asking.{part_refusal}
use Rattle.wire_types.specs.declared.error_code.ErrorCode.{ErrorCode}
use Rattle.wire_types.specs.declared.error_code.ErrorCode.TheVariants as codes
use Rattle.msg_txn.specs.declared.init_producer_id.InitProducerIdRequest.{InitProducerIdRequest}
use Rattle.msg_txn.specs.declared.add_partitions.AddPartitionsToTxnRequest.{AddPartitionsToTxnRequest}
use Rattle.msg_txn.specs.declared.add_offsets.AddOffsetsToTxnRequest.{AddOffsetsToTxnRequest}
use Rattle.msg_txn.specs.declared.end_txn.EndTxnRequest.{EndTxnRequest}
use Rattle.msg_txn.specs.declared.end_txn.EndTxnRequest.TheVariants as versions
use Rattle.msg_admin.specs.declared.reply.Reply.{Reply}
use Rattle.msg_admin.specs.declared.reply.Reply.TheVariants as replies
use Rattle.msg_admin.specs.declared.request.Request.TheVariants.{Produce, Fetch, ListOffsets, Metadata, OffsetCommit, OffsetFetch, FindCoordinator, JoinGroup, Heartbeat, LeaveGroup, SyncGroup, SaslHandshake, ApiVersions, InitProducerId, AddPartitionsToTxn, AddOffsetsToTxn, EndTxn, TxnOffsetCommit, DescribeAcls, CreateAcls, DeleteAcls, SaslAuthenticate}
use Rattle.audit_trail.specs.declared.event.Event.{Event}
use Rattle.audit_trail.specs.declared.event.Event.TheVariants.{Ask, Mark, Tick}
use Rattle.txn_coordinator.specs.declared.producer_id.ProducerIdAndEpoch.{ProducerIdAndEpoch}
use Rattle.txn_coordinator.specs.declared.target.TopicPartition.{TopicPartition}
use Rattle.txn_coordinator.specs.declared.target.Target.{Target}
use Rattle.txn_coordinator.specs.declared.transaction.TransactionState.{TransactionState}
use Rattle.txn_coordinator.specs.declared.transaction.TransactionState.TheVariants.{Empty, Ongoing, PrepareCommit, PrepareAbort, CompleteCommit, CompleteAbort}
use Rattle.txn_coordinator.specs.declared.transaction.Transaction.{Transaction}
use Rattle.record_batch.specs.declared.transaction_result.TransactionResult.{TransactionResult}
use Rattle.record_batch.specs.declared.transaction_result.TransactionResult.TheVariants.{Commit, Abort}
use Rattle.txn_coordinator.specs.declared.marker.PendingMarker.{PendingMarker}
use Rattle.txn_coordinator.specs.declared.ending.EndForm.{EndForm}
use Rattle.txn_coordinator.specs.declared.ending.EndForm.TheVariants.{Plain, Fencing, Raising}
use Rattle.txn_coordinator.specs.Transition.{Transition, Stays, Puts}
use Rattle.txn_coordinator.specs.Words.{is_empty, with_next_epoch, next_id_and_epoch, given_after, prepared_phase, targets}
use Rattle.txn_coordinator.specs.Coordinator.{CoordinatorValue, has_id, id_record, records_with, fresh_producer_id, apply_transition}
use Rattle.txn_coordinator.specs.Preparing.{marker_for, markers, fenced_transaction, fence_markers, producer_refusal}
use Rattle.txn_coordinator.specs.InitProducerId.{timeout_within, new_transaction, begin_transition, init_in, init_for, init}
use Rattle.txn_coordinator.specs.Adding.{growth_transition, with_partitions, with_group, open_transaction, add_partitions}
use Rattle.txn_coordinator.specs.EndTxn.{other_epoch, end_ongoing, end_closed, end_in, is_again, end_again, end_by, end_found, end}
use Rattle.txn_coordinator.specs.Expiry.{is_due, fenced_if_due, expiry_markers}
use Rattle.txn_coordinator.proofs.Table.{recorded_id}
use Rattle.txn_laws.specs.Small.{World as SmallWorld, Move, Move as moves, world_after_mark, world_after_move}
use Rattle.txn_laws.specs.Sound.{IsSound}
use Rattle.txn_laws.proofs.Base.{same_is, put_at_test}
use Rattle.txn_laws.proofs.Calls.{same_outcome}
use Rattle.txn_laws.proofs.Complete.{ongoing_waits}
use Rattle.txn_laws.proofs.Prepared.{preparing_law}
use Rattle.broker_world.specs.World.{World, rules_of}
use Rattle.broker_world.specs.Whole.{Served, whole_outcome_by}
use Rattle.broker_world.specs.Questions.{read_question}
use Rattle.broker_world.specs.Clock.{moment_after}
use Rattle.group_handlers.specs.Members.{served_join, served_sync, served_heartbeat, served_leave}
use Rattle.group_handlers.specs.FindCoordinator.{kind_of, find_questions}
use Rattle.txn_handlers.specs.InitProducerId.{init_questions, init_error, coordinator_for, served_init}
use Rattle.txn_handlers.specs.AddPartitions.{is_cut, cut_outcome, added_outcome, partitions_of}
use Rattle.txn_handlers.specs.AddOffsets.{add_offsets_questions, add_offsets_reply, served_add_offsets}
use Rattle.txn_handlers.specs.EndTxn.{served_end, end_questions, end_error, form_of, ending_id, ending_id_and_epoch, ending_outcome}
use Rattle.acl_handlers.specs.DescribeAcls.{describe_acls_questions}
use Rattle.acl_handlers.specs.CreateAcls.{alter_questions}
use Rattle.api_dispatch.specs.Step.{step}
use Rattle.api_dispatch.proofs.Wholes.{offsets_keep}
use Rattle.broker_laws.specs.Entries.{entries_in}
use Rattle.broker_laws.specs.Laws.{marker_id_and_epoch, id_and_epoch_left, OwesEach, OwesPrepared, OwesMarkers}
use Rattle.broker_laws.proofs.Offsets.{same_entries, expiry_keeps}
use Rattle.broker_laws.proofs.Reached.{full, IsGood, good_moved, good}

-- ---- the pairs by the form of an EndTxn

abbrev ending_marker : EndForm → ProducerIdAndEpoch → ProducerIdAndEpoch
ending_marker Plain own = own
ending_marker Fencing own = own
ending_marker Raising own = with_next_epoch own

abbrev ending_left : EndForm → ProducerIdAndEpoch → ℤ → ProducerIdAndEpoch
ending_left Plain own next = own
ending_left Fencing own next = own
ending_left Raising own next = next_id_and_epoch own next

marker_of : (caller : Caller) (client : Option (List ℕ)) (r : EndTxnRequest) (own : ProducerIdAndEpoch) → marker_id_and_epoch (Ask caller client (EndTxn r)) own ≡ ending_marker (form_of r) own
marker_of caller client (versions.Version0 body) own = refl
marker_of caller client (versions.Version1 body) own = refl
marker_of caller client (versions.Version2 body) own = refl
marker_of caller client (versions.Version3 body) own = refl
marker_of caller client (versions.Version4 body) own = refl
marker_of caller client (versions.Version5 body) own = refl

left_of : (w : World) (caller : Caller) (client : Option (List ℕ)) (r : EndTxnRequest) (own : ProducerIdAndEpoch) → id_and_epoch_left w (Ask caller client (EndTxn r)) own ≡ ending_left (form_of r) own (fresh_producer_id w.coordinator)
left_of w caller client (versions.Version0 body) own = refl
left_of w caller client (versions.Version1 body) own = refl
left_of w caller client (versions.Version2 body) own = refl
left_of w caller client (versions.Version3 body) own = refl
left_of w caller client (versions.Version4 body) own = refl
left_of w caller client (versions.Version5 body) own = refl

-- ---- records

-- an open record doesn't wait
still : (ts : List Transaction) (id : List ℕ) (t u : Transaction) (o : TransactionResult) → id_record ts id ≡ Some t → t.state ≡ Ongoing → id_record ts id ≡ Some u → u.state ≡ prepared_phase o → ⊥
still ts id t u o before ongoing after waits =
    let same : Some t ≡ Some u = sym before ∙ after in
    let e : t ≡ u = cc in
    ongoing_waits o (sym ongoing ∙ ap (λ (y : Transaction). y.state) e ∙ waits)

empty_waits : (end : TransactionResult) → Empty ≡ prepared_phase end → ⊥
empty_waits Commit h = cc
empty_waits Abort h = cc

aborted_waits : (end : TransactionResult) → CompleteAbort ≡ prepared_phase end → ⊥
aborted_waits Commit h = cc
aborted_waits Abort h = cc

-- ---- calls of the coordinator

-- the id's transaction, which is open
module _ (c : CoordinatorValue) (id : List ℕ) (t : Transaction) (o : TransactionResult) (before : id_record c.transactions id ≡ Some t) (ongoing : t.state ≡ Ongoing) where
  -- if the transition prepares it, it owes the markers of one pair, and the record then has the other
  abbrev Owes : (Transaction → ProducerIdAndEpoch) → (Transaction → ProducerIdAndEpoch) → Transition → Type 0
  Owes pair left transition = (u : Transaction) → id_record (apply_transition c transition).transactions id ≡ Some u → u.state ≡ prepared_phase o → ((apply_transition c transition).warrants ≡ c.warrants ++ markers t (pair t) o) × (u.pair ≡ left t)

  stays : (pair left : Transaction → ProducerIdAndEpoch) (code : ErrorCode) → Owes pair left (Stays code)
  stays pair left code u after waits = absurd (still c.transactions id t u o before ongoing after waits)

  -- a record that is put in place of another waits only if that one was the id's
  put_is : (own : List ℕ) (y r u : Transaction) → id_record c.transactions own ≡ Some y → r.id ≡ y.id → id_record (records_with c.transactions r) id ≡ Some u → u.state ≡ prepared_phase o → (y ≡ t) × (r ≡ u)
  put_is own y r u found same after waits = by_id (has_id id r) refl where
    by_id : (b : Bool) → has_id id r ≡ b → (y ≡ t) × (r ≡ u)
    by_id true e =
        let here : Some r ≡ Some u = sym (put_at_test c.transactions r id true e) ∙ after in
        let one : id ≡ own = sym (same_is r.id id e) ∙ same ∙ recorded_id c.transactions own y found in
        let twice : Some y ≡ Some t = sym found ∙ ap (id_record c.transactions) (sym one) ∙ before in
        (cc, cc)
    by_id false e = absurd (still c.transactions id t u o before ongoing (sym (put_at_test c.transactions r id false e) ∙ after) waits)

  -- it owes the markers of a record that is put in its place
  puts : (pair left : Transaction → ProducerIdAndEpoch) (own : List ℕ) (y r : Transaction) (code : ErrorCode) (given : List (Option (List ℕ))) (x : TransactionResult) → id_record c.transactions own ≡ Some y → r.id ≡ y.id → r.state ≡ prepared_phase x → r.pair ≡ left y → Owes pair left (Puts code r given (markers y (pair y) x))
  puts pair left own y r code given x found same state is u after waits =
      let one = put_is own y r u found same after waits in
      let outcome : x ≡ o = same_outcome x o (sym state ∙ ap (λ (z : Transaction). z.state) one.1 ∙ waits) in (
        ap (λ (z : Transaction). c.warrants ++ markers z (pair z) x) one.0 ∙ ap (λ end. c.warrants ++ markers t (pair t) end) outcome,
        ap (λ (z : Transaction). z.pair) (sym one.1) ∙ is ∙ ap left one.0,
      )

  -- a record that is put and doesn't wait is another id's
  closed : (pair left : Transaction → ProducerIdAndEpoch) (r : Transaction) (code : ErrorCode) (given : List (Option (List ℕ))) → ((end : TransactionResult) → r.state ≡ prepared_phase end → ⊥) → Owes pair left (Puts code r given [])
  closed pair left r code given state u after waits = by_id (has_id id r) refl where
    by_id : (b : Bool) → has_id id r ≡ b → (c.warrants ++ [] ≡ c.warrants ++ markers t (pair t) o) × (u.pair ≡ left t)
    by_id true e =
        let here : Some r ≡ Some u = sym (put_at_test c.transactions r id true e) ∙ after in
        let same : r ≡ u = cc in
        absurd (state o (ap (λ (z : Transaction). z.state) same ∙ waits))
    by_id false e = absurd (still c.transactions id t u o before ongoing (sym (put_at_test c.transactions r id false e) ∙ after) waits)

  -- EndTxn
  ongoing_owes : (form : EndForm) (own : List ℕ) (y : Transaction) (x : TransactionResult) → id_record c.transactions own ≡ Some y → Owes (λ z. ending_marker form z.pair) (λ z. ending_left form z.pair (fresh_producer_id c)) (end_ongoing form y (fresh_producer_id c) x)
  ongoing_owes Plain own y x found = puts (λ z. z.pair) (λ z. z.pair) own y (record y { state = prepared_phase x }) codes.None [] x found refl refl refl
  ongoing_owes Fencing own y x found = puts (λ z. z.pair) (λ z. z.pair) own y (record y { state = prepared_phase x }) codes.None [] x found refl refl refl
  ongoing_owes Raising own y x found =
      puts (λ z. with_next_epoch z.pair) (λ z. next_id_and_epoch z.pair (fresh_producer_id c)) own y (record y { pair = next_id_and_epoch y.pair (fresh_producer_id c); state = prepared_phase x; kept = Some y.pair }) codes.None (given_after y.pair y.id) x found refl refl refl

  closed_owes : (form : EndForm) (y : Transaction) (x : TransactionResult) (code : ErrorCode) → Owes (λ z. ending_marker form z.pair) (λ z. ending_left form z.pair (fresh_producer_id c)) (end_closed form y (fresh_producer_id c) x code)
  closed_owes Plain y x code = stays (λ z. z.pair) (λ z. z.pair) code
  closed_owes Fencing y x code = stays (λ z. z.pair) (λ z. z.pair) code
  closed_owes Raising y Commit code = stays (λ z. with_next_epoch z.pair) (λ z. next_id_and_epoch z.pair (fresh_producer_id c)) codes.InvalidTxnState
  closed_owes Raising y Abort code =
      closed (λ z. with_next_epoch z.pair) (λ z. next_id_and_epoch z.pair (fresh_producer_id c)) (record y { pair = next_id_and_epoch y.pair (fresh_producer_id c); state = CompleteAbort; kept = Some y.pair }) codes.None (given_after y.pair y.id) aborted_waits

  end_owes : (form : EndForm) (own : List ℕ) (pair : ProducerIdAndEpoch) (x : TransactionResult) → Owes (λ z. ending_marker form z.pair) (λ z. ending_left form z.pair (fresh_producer_id c)) (end c form own pair x)
  end_owes form own pair x = by_empty (is_empty own) where
    waits_not : (code : ErrorCode) → Owes (λ z. ending_marker form z.pair) (λ z. ending_left form z.pair (fresh_producer_id c)) (Stays code)
    waits_not code = stays (λ z. ending_marker form z.pair) (λ z. ending_left form z.pair (fresh_producer_id c)) code

    by_state : (y : Transaction) (state : TransactionState) → id_record c.transactions own ≡ Some y → (outcome : TransactionResult) → Owes (λ z. ending_marker form z.pair) (λ z. ending_left form z.pair (fresh_producer_id c)) (end_in state form y (fresh_producer_id c) outcome)
    by_state y Ongoing found outcome = ongoing_owes form own y outcome found
    by_state y Empty found outcome = closed_owes form y outcome codes.InvalidTxnState
    by_state y PrepareCommit found Commit = waits_not codes.ConcurrentTransactions
    by_state y PrepareCommit found Abort = waits_not codes.InvalidTxnState
    by_state y PrepareAbort found Commit = waits_not codes.InvalidTxnState
    by_state y PrepareAbort found Abort = waits_not codes.ConcurrentTransactions
    by_state y CompleteCommit found Commit = closed_owes form y Commit codes.None
    by_state y CompleteCommit found Abort = closed_owes form y Abort codes.InvalidTxnState
    by_state y CompleteAbort found Commit = closed_owes form y Commit codes.InvalidTxnState
    by_state y CompleteAbort found Abort = closed_owes form y Abort codes.None

    by_refusal : (y : Transaction) → id_record c.transactions own ≡ Some y → (refusal : Option ErrorCode) → Owes (λ z. ending_marker form z.pair) (λ z. ending_left form z.pair (fresh_producer_id c)) (end_by refusal form y (fresh_producer_id c) x)
    by_refusal y found (Some code) = waits_not code
    by_refusal y found None = by_state y y.state found x

    by_again : (b : Bool) (y : Transaction) → id_record c.transactions own ≡ Some y → Owes (λ z. ending_marker form z.pair) (λ z. ending_left form z.pair (fresh_producer_id c)) (cond b (Stays (end_again y.state x)) (end_by (producer_refusal (other_epoch form) y pair) form y (fresh_producer_id c) x))
    by_again true y found = waits_not (end_again y.state x)
    by_again false y found = by_refusal y found (producer_refusal (other_epoch form) y pair)

    by_found : (f : Option Transaction) → id_record c.transactions own ≡ f → Owes (λ z. ending_marker form z.pair) (λ z. ending_left form z.pair (fresh_producer_id c)) (end_found f form (fresh_producer_id c) pair x)
    by_found None e = waits_not codes.InvalidProducerIdMapping
    by_found (Some y) e = by_again (is_again form y pair) y e

    by_empty : (b : Bool) → Owes (λ z. ending_marker form z.pair) (λ z. ending_left form z.pair (fresh_producer_id c)) (cond b (Stays codes.InvalidRequest) (end_found (id_record c.transactions own) form (fresh_producer_id c) pair x))
    by_empty true = waits_not codes.InvalidRequest
    by_empty false = by_found (id_record c.transactions own) refl

  -- InitProducerId
  init_owes : (own : List ℕ) (timeout greatest : ℤ) → Owes (λ y. with_next_epoch y.pair) (λ y. with_next_epoch y.pair) (init c own timeout greatest)
  init_owes own timeout greatest = by_empty (is_empty own) where
    begins : (y : Transaction) (n : ℕ) → Owes (λ z. with_next_epoch z.pair) (λ z. with_next_epoch z.pair) (begin_transition y (fresh_producer_id c) n)
    begins y n = closed (λ z. with_next_epoch z.pair) (λ z. with_next_epoch z.pair) (record y { pair = next_id_and_epoch y.pair (fresh_producer_id c); timeout = n; state = Empty; kept = None }) codes.None (given_after y.pair y.id) empty_waits

    by_state : (y : Transaction) (state : TransactionState) (n : ℕ) → id_record c.transactions own ≡ Some y → Owes (λ z. with_next_epoch z.pair) (λ z. with_next_epoch z.pair) (init_in state y (fresh_producer_id c) n)
    by_state y Ongoing n found = puts (λ z. with_next_epoch z.pair) (λ z. with_next_epoch z.pair) own y (fenced_transaction y) codes.ConcurrentTransactions [] Abort found refl refl refl
    by_state y Empty n found = begins y n
    by_state y CompleteCommit n found = begins y n
    by_state y CompleteAbort n found = begins y n
    by_state y PrepareCommit n found = stays (λ z. with_next_epoch z.pair) (λ z. with_next_epoch z.pair) codes.ConcurrentTransactions
    by_state y PrepareAbort n found = stays (λ z. with_next_epoch z.pair) (λ z. with_next_epoch z.pair) codes.ConcurrentTransactions

    by_found : (n : Option ℕ) (f : Option Transaction) → id_record c.transactions own ≡ f → Owes (λ z. with_next_epoch z.pair) (λ z. with_next_epoch z.pair) (init_for n f own (fresh_producer_id c))
    by_found None f e = stays (λ z. with_next_epoch z.pair) (λ z. with_next_epoch z.pair) codes.InvalidTransactionTimeout
    by_found (Some n) None e = closed (λ z. with_next_epoch z.pair) (λ z. with_next_epoch z.pair) (new_transaction own (fresh_producer_id c) n) codes.None (Some own ∷ []) empty_waits
    by_found (Some n) (Some y) e = by_state y y.state n e

    by_empty : (b : Bool) → Owes (λ z. with_next_epoch z.pair) (λ z. with_next_epoch z.pair) (cond b (Stays codes.InvalidRequest) (init_for (timeout_within timeout greatest) (id_record c.transactions own) own (fresh_producer_id c)))
    by_empty true = stays (λ z. with_next_epoch z.pair) (λ z. with_next_epoch z.pair) codes.InvalidRequest
    by_empty false = by_found (timeout_within timeout greatest) (id_record c.transactions own) refl

-- ---- moves that owe nothing

-- a move after which no more is owed prepares nothing
none_owed : (s : SmallWorld) → IsSound s → (m : Move) → length (world_after_move s m).coordinator.warrants ≤ length s.coordinator.warrants → (id : List ℕ) (t u : Transaction) (o : TransactionResult)
    → id_record s.coordinator.transactions id ≡ Some t → t.state ≡ Ongoing → id_record (world_after_move s m).coordinator.transactions id ≡ Some u → u.state ≡ prepared_phase o → ⊥
none_owed s sound m few id t u o before ongoing after waits = by_targets (targets t) refl where
  by_targets : (xs : List Target) → targets t ≡ xs → ⊥
  by_targets [] e = sound.filled id t before ongoing e
  by_targets (x ∷ xs) e =
      let owes = preparing_law s sound m id t o (record { before = before; ongoing = ongoing; transaction = u; after = after; waits = waits }) in
      let all : length (world_after_move s m).coordinator.warrants ≡ length (s.coordinator.warrants ++ map (marker_for t.id owes.pair o) (x ∷ xs)) =
      ap length (owes.owed ∙ ap (λ l. s.coordinator.warrants ++ map (marker_for t.id owes.pair o) l) e) in
      let more = length-append s.coordinator.warrants (map (marker_for t.id owes.pair o) (x ∷ xs)) in
      omega (arith, few, all, more)

grown_few : (c : CoordinatorValue) (grow : Transaction → Transaction) (r : Result Transaction ErrorCode) → length (apply_transition c (growth_transition grow r)).warrants ≤ length c.warrants
grown_few c grow (Ok t) = let same = ap length (append-nil c.warrants) in omega (arith, same)
grown_few c grow (Err code) = omega arith

marked_few : (s : SmallWorld) (ws : List PendingMarker) → s.coordinator.warrants ≡ ws → length (world_after_mark ws s).coordinator.warrants ≤ length s.coordinator.warrants
marked_few s [] e = omega arith
marked_few s (m ∷ rest) e = let same = ap length e in omega (arith, same)

-- ---- a tick

pub recorded_expired : (moment : ℕ) (ts : List Transaction) (id : List ℕ) (t : Transaction) → id_record ts id ≡ Some t → id_record (map (fenced_if_due moment) ts) id ≡ Some (fenced_if_due moment t)
recorded_expired moment [] id t found = absurd (let clash : None ≡ Some t = found in cc)
recorded_expired moment (x ∷ xs) id t found =
    ap (λ own. cond (bytes_eq own id) (Some (fenced_if_due moment x)) (id_record (map (fenced_if_due moment) xs) id)) (same_id x)
    ∙ by_id (has_id id x) (recorded_expired moment xs id t) found where
      same_id : (y : Transaction) → (fenced_if_due moment y).id ≡ y.id
      same_id y = by_due (is_due moment y) where
        by_due : (b : Bool) → (cond b (fenced_transaction y) y).id ≡ y.id
        by_due true = refl
        by_due false = refl

      by_id : (b : Bool) → (id_record xs id ≡ Some t → id_record (map (fenced_if_due moment) xs) id ≡ Some (fenced_if_due moment t)) → cond b (Some x) (id_record xs id) ≡ Some t → cond b (Some (fenced_if_due moment x)) (id_record (map (fenced_if_due moment) xs) id) ≡ Some (fenced_if_due moment t)
      by_id true rest here = let same : x ≡ t = cc in ap (λ y. Some (fenced_if_due moment y)) same
      by_id false rest here = rest here

abort_is : (o : TransactionResult) → PrepareAbort ≡ prepared_phase o → Abort ≡ o
abort_is Abort h = refl
abort_is Commit h = absurd cc

-- the markers stand among these
record IsAmong (all part : List PendingMarker) : Type 0 where
  front : List PendingMarker
  back : List PendingMarker
  parts : all ≡ front ++ (part ++ back)

due_markers : (ts : List Transaction) (moment : ℕ) (id : List ℕ) (t : Transaction) → id_record ts id ≡ Some t → is_due moment t ≡ true → IsAmong (flat_map (expiry_markers moment) ts) (fence_markers t)
due_markers [] moment id t found due = absurd (let clash : None ≡ Some t = found in cc)
due_markers (x ∷ xs) moment id t found due = by_same (due_markers xs moment id t) (has_id id x) found where
  by_same : (id_record xs id ≡ Some t → is_due moment t ≡ true → IsAmong (flat_map (expiry_markers moment) xs) (fence_markers t)) → (b : Bool) → cond b (Some x) (id_record xs id) ≡ Some t → IsAmong (expiry_markers moment x ++ flat_map (expiry_markers moment) xs) (fence_markers t)
  by_same rest true h =
      let e : x ≡ t = cc in
      record {
        front = [];
        back = flat_map (expiry_markers moment) xs;
        parts = ap (λ y. expiry_markers moment y ++ flat_map (expiry_markers moment) xs) e ∙ ap (λ b. cond b (fence_markers t) [] ++ flat_map (expiry_markers moment) xs) due;
      }
  by_same rest false h =
      let inner = rest h due in
      record {
        front = expiry_markers moment x ++ inner.front;
        back = inner.back;
        parts = ap (λ l. expiry_markers moment x ++ l) inner.parts ∙ sym (append_assoc (expiry_markers moment x) inner.front (fence_markers t ++ inner.back));
      }

-- ---- an event

tick_owes : (w : World) (told : ℕ) (id : List ℕ) (t u : Transaction) (o : TransactionResult) → id_record w.coordinator.transactions id ≡ Some t → t.state ≡ Ongoing → id_record (step w (Tick told)).coordinator.transactions id ≡ Some u → u.state ≡ prepared_phase o → OwesEach step w (Tick told) id t o
tick_owes w told id t u o before ongoing after waits = by_due (is_due moment t) refl refl where
  moment : ℕ
  moment = moment_after w.moment told

  state : (fenced_if_due moment t).state ≡ prepared_phase o
  state =
      let twice : Some (fenced_if_due moment t) ≡ Some u = sym (recorded_expired moment w.coordinator.transactions id t before) ∙ after in
      let same : fenced_if_due moment t ≡ u = cc in
      ap (λ (y : Transaction). y.state) same ∙ waits

  by_due : (b : Bool) → is_due moment t ≡ b → fenced_if_due moment t ≡ cond b (fenced_transaction t) t → OwesEach step w (Tick told) id t o
  by_due false due is = absurd (ongoing_waits o (sym ongoing ∙ ap (λ (y : Transaction). y.state) (sym is) ∙ state))
  by_due true due is =
      let among = due_markers w.coordinator.transactions moment id t before due in
      let end = abort_is o (ap (λ (y : Transaction). y.state) (sym is) ∙ state) in
      record {
        front = among.front;
        back = among.back;
        owed = ap (λ l. w.coordinator.warrants ++ l) among.parts ∙ ap (λ x. w.coordinator.warrants ++ (among.front ++ (markers t (with_next_epoch t.pair) x ++ among.back))) end;
        entries = λ target. same_entries w.topics w.groups _ (expiry_keeps w.groups moment) target;
        pair = λ v found.
            let twice : Some (fenced_if_due moment t) ≡ Some v = sym (recorded_expired moment w.coordinator.transactions id t before) ∙ found in
            let same : fenced_if_due moment t ≡ v = cc in
            ap (λ (y : Transaction). y.pair) (sym same ∙ is);
      }

module _ (w : World) (good : IsGood w) (id : List ℕ) (t u : Transaction) (o : TransactionResult) (before : id_record w.coordinator.transactions id ≡ Some t) (ongoing : t.state ≡ Ongoing) (waits : u.state ≡ prepared_phase o) where
  abbrev s : SmallWorld
  s = full w good.entries

  same_record : (ts : List Transaction) (v : Transaction) → id_record ts id ≡ Some u → id_record ts id ≡ Some v → v ≡ u
  same_record ts v here found = let twice : Some v ≡ Some u = sym found ∙ here in cc

  -- an event that leaves the coordinator as it is
  unchanged : (e : Event) → (step w e).coordinator ≡ w.coordinator → id_record (step w e).coordinator.transactions id ≡ Some u → OwesEach step w e id t o
  unchanged e same after = absurd (still w.coordinator.transactions id t u o before ongoing (ap (λ (c : CoordinatorValue). id_record c.transactions id) (sym same) ∙ after) waits)

  -- so does a request that changes nothing of it, refused or not
  unless_refused : (e : Event) (refusal : Option Refusal) (refused : ErrorCode → Reply) (served : Served) → served.world.coordinator ≡ w.coordinator → id_record (whole_outcome_by refusal w refused served).world.coordinator.transactions id ≡ Some u → OwesEach step w e id t o
  unless_refused e None refused served same after = absurd (still w.coordinator.transactions id t u o before ongoing (ap (λ (c : CoordinatorValue). id_record c.transactions id) (sym same) ∙ after) waits)
  unless_refused e (Some x) refused served same after = absurd (still w.coordinator.transactions id t u o before ongoing after waits)

  -- a transition that owes the markers at once
  owes_all : (e : Event) (pair left : ProducerIdAndEpoch) (warrants : List PendingMarker) → (step w e).coordinator.warrants ≡ warrants → warrants ≡ w.coordinator.warrants ++ markers t pair o → marker_id_and_epoch e t.pair ≡ pair → id_and_epoch_left w e t.pair ≡ left
      → id_record (step w e).coordinator.transactions id ≡ Some u → u.pair ≡ left → ((target : Target) → entries_in (step w e) target ≡ entries_in w target) → OwesEach step w e id t o
  owes_all e pair left warrants now owed carries leaves after own entries = record {
    front = [];
    back = [];
    owed = now ∙ owed ∙ ap (λ l. w.coordinator.warrants ++ l) (sym (append-nil (markers t pair o))) ∙ ap (λ p. w.coordinator.warrants ++ (markers t p o ++ [])) (sym carries);
    entries = entries;
    pair = λ v found. ap (λ (y : Transaction). y.pair) (same_record (step w e).coordinator.transactions v after found) ∙ own ∙ sym leaves;
  }

  end_event : (caller : Caller) (client : Option (List ℕ)) (r : EndTxnRequest) → id_record (step w (Ask caller client (EndTxn r))).coordinator.transactions id ≡ Some u → OwesEach step w (Ask caller client (EndTxn r)) id t o
  end_event caller client r after = by_refusal (part_refusal (rules_of w) (end_questions caller r)) refl where
    e : Event
    e = Ask caller client (EndTxn r)

    left_by : Option Refusal → World
    left_by x = (whole_outcome_by x w (λ code. replies.EndTxn (end_error r code)) (served_end w r)).world

    entries : (x : Option Refusal) (target : Target) → entries_in (left_by x) target ≡ entries_in w target
    entries None target = refl
    entries (Some x) target = refl

    by_refusal : (x : Option Refusal) → part_refusal (rules_of w) (end_questions caller r) ≡ x → OwesEach step w e id t o
    by_refusal x is = by_served x (ap (λ y. (left_by y).coordinator) is) where
      by_served : (y : Option Refusal) → (step w e).coordinator ≡ (left_by y).coordinator → OwesEach step w e id t o
      by_served (Some y) same = unchanged e same after
      by_served None same =
          let owes = end_owes w.coordinator id t o before ongoing (form_of r) (ending_id r) (ending_id_and_epoch r) (ending_outcome r) u (ap (λ (c : CoordinatorValue). id_record c.transactions id) (sym same) ∙ after) waits in
          owes_all e (ending_marker (form_of r) t.pair) (ending_left (form_of r) t.pair (fresh_producer_id w.coordinator)) _ (ap (λ (c : CoordinatorValue). c.warrants) same) owes.0 (marker_of caller client r t.pair) (left_of w caller client r t.pair) after owes.1 (entries (part_refusal (rules_of w) (end_questions caller r)))

  init_event : (caller : Caller) (client : Option (List ℕ)) (r : InitProducerIdRequest) → id_record (step w (Ask caller client (InitProducerId r))).coordinator.transactions id ≡ Some u → OwesEach step w (Ask caller client (InitProducerId r)) id t o
  init_event caller client r after = by_refusal (part_refusal (rules_of w) (init_questions (rules_of w) caller r.transactional_id)) refl where
    e : Event
    e = Ask caller client (InitProducerId r)

    left_by : Option Refusal → World
    left_by x = (whole_outcome_by x w (λ code. replies.InitProducerId (init_error code)) (served_init w r)).world

    entries : (x : Option Refusal) (target : Target) → entries_in (left_by x) target ≡ entries_in w target
    entries None target = refl
    entries (Some x) target = refl

    by_id : (own : Option (List ℕ)) → (step w e).coordinator ≡ coordinator_for own w.coordinator w.node.max_txn_timeout r.timeout → OwesEach step w e id t o
    by_id None same = absurd (still w.coordinator.transactions id t u o before ongoing (ap (λ (c : CoordinatorValue). id_record c.transactions id) (sym same) ∙ after) waits)
    by_id (Some own) same =
        let owes = init_owes w.coordinator id t o before ongoing own r.timeout w.node.max_txn_timeout u (ap (λ (c : CoordinatorValue). id_record c.transactions id) (sym same) ∙ after) waits in
        owes_all e (with_next_epoch t.pair) (with_next_epoch t.pair) _ (ap (λ (c : CoordinatorValue). c.warrants) same) owes.0 refl refl after owes.1 (entries (part_refusal (rules_of w) (init_questions (rules_of w) caller r.transactional_id)))

    by_refusal : (x : Option Refusal) → part_refusal (rules_of w) (init_questions (rules_of w) caller r.transactional_id) ≡ x → OwesEach step w e id t o
    by_refusal x is = by_served x (ap (λ y. (left_by y).coordinator) is) where
      by_served : (y : Option Refusal) → (step w e).coordinator ≡ (left_by y).coordinator → OwesEach step w e id t o
      by_served (Some y) same = unchanged e same after
      by_served None same = by_id r.transactional_id same

  -- an event of one move at most after which no more is owed
  adds_none : (e : Event) (m : Move) → (step w e).coordinator ≡ (world_after_move s m).coordinator → length (world_after_move s m).coordinator.warrants ≤ length w.coordinator.warrants → id_record (step w e).coordinator.transactions id ≡ Some u → OwesEach step w e id t o
  adds_none e m same few after = absurd (none_owed s good.sound m few id t u o before ongoing (ap (λ (c : CoordinatorValue). id_record c.transactions id) (sym same) ∙ after) waits)

  add_event : (caller : Caller) (client : Option (List ℕ)) (r : AddPartitionsToTxnRequest) → id_record (step w (Ask caller client (AddPartitionsToTxn r))).coordinator.transactions id ≡ Some u → OwesEach step w (Ask caller client (AddPartitionsToTxn r)) id t o
  add_event caller client r after = by_cut (is_cut caller r.transactional_id w.topics (rules_of w) r.topics) refl where
    pair : ProducerIdAndEpoch
    pair = record { producer = r.producer; epoch = r.epoch }

    few : (ps : List TopicPartition) → length (apply_transition w.coordinator (add_partitions w.coordinator r.transactional_id pair w.moment ps)).warrants ≤ length w.coordinator.warrants
    few [] = omega arith
    few (p ∷ ps) = grown_few w.coordinator (with_partitions (p ∷ ps)) (open_transaction w.coordinator r.transactional_id pair w.moment)

    by_cut : (b : Bool) → is_cut caller r.transactional_id w.topics (rules_of w) r.topics ≡ b → OwesEach step w (Ask caller client (AddPartitionsToTxn r)) id t o
    by_cut b is = by_world b (ap (λ c. (cond c (cut_outcome w caller r) (added_outcome w r)).world.coordinator) is) where
      by_world : (c : Bool) → (step w (Ask caller client (AddPartitionsToTxn r))).coordinator ≡ (cond c (cut_outcome w caller r) (added_outcome w r)).world.coordinator → OwesEach step w (Ask caller client (AddPartitionsToTxn r)) id t o
      by_world true same = unchanged _ same after
      by_world false same = adds_none _ (moves.AddPartitions r.transactional_id pair (partitions_of r.topics)) same (few (partitions_of r.topics)) after

  group_event : (caller : Caller) (client : Option (List ℕ)) (r : AddOffsetsToTxnRequest) → id_record (step w (Ask caller client (AddOffsetsToTxn r))).coordinator.transactions id ≡ Some u → OwesEach step w (Ask caller client (AddOffsetsToTxn r)) id t o
  group_event caller client r after = by_refusal (part_refusal (rules_of w) (add_offsets_questions caller r.transactional_id r.group)) refl where
    e : Event
    e = Ask caller client (AddOffsetsToTxn r)

    pair : ProducerIdAndEpoch
    pair = record { producer = r.producer; epoch = r.epoch }

    left_by : Option Refusal → World
    left_by x = (whole_outcome_by x w (λ code. replies.AddOffsetsToTxn (add_offsets_reply code)) (served_add_offsets w r)).world

    by_refusal : (x : Option Refusal) → part_refusal (rules_of w) (add_offsets_questions caller r.transactional_id r.group) ≡ x → OwesEach step w e id t o
    by_refusal x is = by_served x (ap (λ y. (left_by y).coordinator) is) where
      by_served : (y : Option Refusal) → (step w e).coordinator ≡ (left_by y).coordinator → OwesEach step w e id t o
      by_served (Some y) same = unchanged e same after
      by_served None same =
          adds_none e (moves.AddGroup r.transactional_id pair r.group) same
          (grown_few w.coordinator (with_group r.group) (open_transaction w.coordinator r.transactional_id pair w.moment)) after

  event_owes : (e : Event) → id_record (step w e).coordinator.transactions id ≡ Some u → OwesEach step w e id t o
  event_owes (Ask caller client (Produce r)) after = unchanged _ refl after
  event_owes (Ask caller client (Fetch r)) after = unchanged _ refl after
  event_owes (Ask caller client (ListOffsets r)) after = unchanged _ refl after
  event_owes (Ask caller client (Metadata r)) after = unchanged _ refl after
  event_owes (Ask caller client (OffsetCommit r)) after = unchanged _ refl after
  event_owes (Ask caller client (OffsetFetch r)) after = unchanged _ (ap (λ (v : World). v.coordinator) (offsets_keep w caller r)) after
  event_owes (Ask caller client (FindCoordinator r)) after = unless_refused _ (part_refusal (rules_of w) (find_questions caller (kind_of r.key_type) r.key)) _ _ refl after
  event_owes (Ask caller client (JoinGroup r)) after = unless_refused _ (part_refusal (rules_of w) (read_question caller r.group ∷ [])) _ (served_join w r) refl after
  event_owes (Ask caller client (Heartbeat r)) after = unless_refused _ (part_refusal (rules_of w) (read_question caller r.group ∷ [])) _ (served_heartbeat w r) refl after
  event_owes (Ask caller client (LeaveGroup r)) after = unless_refused _ (part_refusal (rules_of w) (read_question caller r.group ∷ [])) _ (served_leave w r) refl after
  event_owes (Ask caller client (SyncGroup r)) after = unless_refused _ (part_refusal (rules_of w) (read_question caller r.group ∷ [])) _ (served_sync w r) refl after
  event_owes (Ask caller client (InitProducerId r)) after = init_event caller client r after
  event_owes (Ask caller client (AddPartitionsToTxn r)) after = add_event caller client r after
  event_owes (Ask caller client (AddOffsetsToTxn r)) after = group_event caller client r after
  event_owes (Ask caller client (EndTxn r)) after = end_event caller client r after
  event_owes (Ask caller client (TxnOffsetCommit r)) after = unchanged _ refl after
  event_owes (Ask caller client (SaslHandshake r)) after = unchanged _ refl after
  event_owes (Ask caller client ApiVersions) after = unchanged _ refl after
  event_owes (Ask caller client (SaslAuthenticate r)) after = unchanged _ refl after
  event_owes (Ask caller client (DescribeAcls r)) after = unless_refused _ (part_refusal (rules_of w) (describe_acls_questions caller)) _ _ refl after
  event_owes (Ask caller client (CreateAcls r)) after = unless_refused _ (part_refusal (rules_of w) (alter_questions caller)) _ _ refl after
  event_owes (Ask caller client (DeleteAcls r)) after = unless_refused _ (part_refusal (rules_of w) (alter_questions caller)) _ _ refl after
  event_owes Mark after = adds_none Mark moves.Mark (ap (λ (v : SmallWorld). v.coordinator) (good_moved w Mark good)) (marked_few s w.coordinator.warrants refl) after
  event_owes (Tick told) after = tick_owes w told id t u o before ongoing after waits

-- ---- the law

pub prepared_owes : (w : World) → IsGood w → OwesPrepared step w
prepared_owes w good e id t o by = event_owes w good id t by.transaction o by.before by.ongoing by.waits e by.after

pub owes_prepared : OwesMarkers step
owes_prepared s es = prepared_owes _ (good s es)
