-- Each call puts a record that goes on from the one that was there.
use Rattle.std.proofs.Common.{◌≡◌, ℕ, ℤ, pos, List, [], ◌∷◌, ◌++◌, length, Option, Some, None, Result, Ok, Err, Bool, true, false, cond, refl, sym, subst, ap, ◌∙◌, inl, inr, arith}
use Rattle.std.specs.Prelude.{◌&&◌, ◌≤ℤ◌, ◌<ℤ◌}
use Rattle.std.proofs.lemmas.Int.{ints}
use Rattle.wire_types.specs.declared.error_code.ErrorCode.{ErrorCode}
use Rattle.wire_types.specs.declared.error_code.ErrorCode.TheVariants as codes
use Rattle.txn_coordinator.specs.declared.producer_id.ProducerIdAndEpoch.{ProducerIdAndEpoch}
use Rattle.txn_coordinator.specs.declared.target.TopicPartition.{TopicPartition}
use Rattle.txn_coordinator.specs.declared.target.Target.{Target}
use Rattle.txn_coordinator.specs.declared.transaction.Transaction.{Transaction}
use Rattle.txn_coordinator.specs.declared.transaction.TransactionState.{TransactionState}
use Rattle.txn_coordinator.specs.declared.transaction.TransactionState.TheVariants.{Empty, Ongoing, PrepareCommit, PrepareAbort, CompleteCommit, CompleteAbort}
use Rattle.record_batch.specs.declared.transaction_result.TransactionResult.{TransactionResult}
use Rattle.record_batch.specs.declared.transaction_result.TransactionResult.TheVariants.{Commit, Abort}
use Rattle.txn_coordinator.specs.declared.marker.PendingMarker.{PendingMarker}
use Rattle.txn_coordinator.specs.declared.ending.EndForm.{EndForm}
use Rattle.txn_coordinator.specs.declared.ending.EndForm.TheVariants as forms
use Rattle.txn_coordinator.specs.Transition.{Transition, Stays}
use Rattle.txn_coordinator.specs.Words.{is_empty, with_next_epoch, is_exhausted, is_ongoing, prepared_phase, targets}
use Rattle.txn_coordinator.specs.Coordinator.{CoordinatorValue, id_record, fresh_producer_id}
use Rattle.txn_coordinator.specs.Preparing.{markers, fenced_transaction, fence_transition, producer_refusal}
use Rattle.txn_coordinator.specs.InitProducerId.{timeout_within, begin_transition, init_in, init_for, init}
use Rattle.txn_coordinator.specs.Adding.{with_partitions, with_group, open_in, open_by, open_found, open_transaction, growth_transition, add_partitions, add_group}
use Rattle.txn_coordinator.specs.EndTxn.{other_epoch, end_ongoing, end_closed, end_in, is_again, end_again, end_by, end_found, end}
use Rattle.txn_coordinator.specs.Expiry.{is_due}
use Rattle.txn_coordinator.specs.Warrants.{has_pending_marker}
use Rattle.txn_coordinator.proofs.Table.{recorded_id}
use Rattle.txn_laws.specs.Small.{World, expire_transition}
use Rattle.txn_laws.specs.Sound.{Each, AreDistinct, AreApart, IsSound}
use Rattle.txn_laws.proofs.Base.{given_to, owner_is, given_more, given_next, given_within}
use Rattle.txn_laws.proofs.Turns.{IsTransition, IsTurned, IsOwedBy}
use Rattle.txn_laws.proofs.Targets.{markers_owing, filled_partitions, filled_group, markers_owed, markers_apart, distinct_partitions, distinct_group}

-- ---- the two ways in which a record is put

found_same : (ts : List Transaction) (r t x : Transaction) → r.id ≡ t.id → id_record ts t.id ≡ Some t → id_record ts r.id ≡ Some x → t ≡ x
found_same ts r t x e at h = let same : Some t ≡ Some x = sym at ∙ (ap (id_record ts) (sym e) ∙ h) in cc

abbrev IsClosed : TransactionState → Type 0
IsClosed state = (o : TransactionResult) → state ≡ prepared_phase o → ⊥

abbrev IsFilled : Transaction → Type 0
IsFilled r = r.state ≡ Ongoing → targets r ≡ [] → ⊥

abbrev Owes : Transaction → List PendingMarker → Type 0
Owes r ws = (o : TransactionResult) → r.state ≡ prepared_phase o → has_pending_marker ws r.id ≡ true

-- where the new record waits, the targets are owed that
abbrev Prepares : Transaction → Transaction → List PendingMarker → Type 0
Prepares t r ws = (o : TransactionResult) → r.state ≡ prepared_phase o → (p : ProducerIdAndEpoch) × (p.producer ≡ t.pair.producer) × (ws ≡ markers t p o)

-- a record that doesn't wait
never : (state : TransactionState) (t : Transaction) (ws : List PendingMarker) → IsClosed state → (o : TransactionResult) → state ≡ prepared_phase o → (p : ProducerIdAndEpoch) × (p.producer ≡ t.pair.producer) × (ws ≡ markers t p o)
never state t ws closed o h = absurd (closed o h)

pub same_outcome : (a b : TransactionResult) → prepared_phase a ≡ prepared_phase b → a ≡ b
same_outcome Commit Commit h = refl
same_outcome Abort Abort h = refl
same_outcome Commit Abort h = cc
same_outcome Abort Commit h = cc

-- one that waits for its markers
waiting : (t : Transaction) (p : ProducerIdAndEpoch) (own o : TransactionResult) → p.producer ≡ t.pair.producer → prepared_phase own ≡ prepared_phase o → (q : ProducerIdAndEpoch) × (q.producer ≡ t.pair.producer) × (markers t p own ≡ markers t q o)
waiting t p own o same h = (p, same, ap (markers t p) (same_outcome own o h))

-- its producer id in the list of those that were given out
own_given : (w : World) (t : Transaction) → IsSound w → id_record w.coordinator.transactions t.id ≡ Some t → given_to w.coordinator.given t.pair.producer ≡ Some (Some t.id)
own_given w t s at = sym (owner_is w.coordinator w.coordinator.given t.pair.producer refl) ∙ s.owned t.id t at

-- under its own producer id, with an epoch that doesn't fall
same_transition : (w : World) (t r : Transaction) (ws : List PendingMarker) → IsSound w → id_record w.coordinator.transactions t.id ≡ Some t → IsClosed t.state → r.id ≡ t.id → r.pair.producer ≡ t.pair.producer → t.pair.epoch ≤ℤ r.pair.epoch → AreDistinct (targets r) → IsFilled r → Owes r ws → Each (IsOwedBy (w.coordinator.given ++ []) r) ws → AreApart ws → Prepares t r ws → IsTransition w.coordinator r [] ws
same_transition w t r ws s at closed id producer le distinct filled owing owed apart prepares = record {
  change = record {
    on = λ x h. let e = found_same w.coordinator.transactions r t x id at h in inl (producer ∙ ap (λ (y : Transaction). y.pair.producer) e, subst (λ (y : Transaction). y.pair.epoch ≤ℤ r.pair.epoch) e le);
    owned = ap (given_to (w.coordinator.given ++ [])) producer ∙ given_more w.coordinator.given [] t.pair.producer (Some t.id) (own_given w t s at) ∙ ap (λ i. Some (Some i)) (sym id);
  };
  free = λ x h. let e = found_same w.coordinator.transactions r t x id at h in subst (λ (y : Transaction). IsClosed y.state) e closed;
  distinct = distinct;
  filled = filled;
  owing = owing;
  owed = owed;
  apart = apart;
  prepares = λ x h. let e = found_same w.coordinator.transactions r t x id at h in subst (λ (y : Transaction). Prepares y r ws) e prepares;
}

-- under a fresh producer id
fresh_transition : (w : World) (t r : Transaction) (ws : List PendingMarker) → IsSound w → id_record w.coordinator.transactions t.id ≡ Some t → IsClosed t.state → r.id ≡ t.id → r.pair.producer ≡ fresh_producer_id w.coordinator → AreDistinct (targets r) → IsFilled r → Owes r ws → Each (IsOwedBy (w.coordinator.given ++ Some t.id ∷ []) r) ws → AreApart ws → Prepares t r ws → IsTransition w.coordinator r (Some t.id ∷ []) ws
fresh_transition w t r ws s at closed id producer distinct filled owing owed apart prepares = record {
  change = record {
    on = λ x h. inr (omega (arith, ints));
    owned = ap (given_to (w.coordinator.given ++ Some t.id ∷ [])) producer ∙ given_next w.coordinator.given (Some t.id) ∙ ap (λ i. Some (Some i)) (sym id);
  };
  free = λ x h. let e = found_same w.coordinator.transactions r t x id at h in subst (λ (y : Transaction). IsClosed y.state) e closed;
  distinct = distinct;
  filled = filled;
  owing = owing;
  owed = owed;
  apart = apart;
  prepares = λ x h. let e = found_same w.coordinator.transactions r t x id at h in subst (λ (y : Transaction). Prepares y r ws) e prepares;
}

closed_ongoing : IsClosed Ongoing
closed_ongoing Commit h = cc
closed_ongoing Abort h = cc

closed_empty : IsClosed Empty
closed_empty Commit h = cc
closed_empty Abort h = cc

closed_committed : IsClosed CompleteCommit
closed_committed Commit h = cc
closed_committed Abort h = cc

closed_aborted : IsClosed CompleteAbort
closed_aborted Commit h = cc
closed_aborted Abort h = cc

closed_as : (state own : TransactionState) → IsClosed state → own ≡ state → IsClosed own
closed_as state own closed e = subst IsClosed (sym e) closed

or_stays : (c : CoordinatorValue) (b : Bool) (code : ErrorCode) (transition : Transition) → IsTurned c transition → IsTurned c (cond b (Stays code) transition)
or_stays c true code transition h = tt
or_stays c false code transition h = h

empty_waits : (id : List ℕ) (o : TransactionResult) → Empty ≡ prepared_phase o → has_pending_marker [] id ≡ true
empty_waits id o h = absurd (closed_empty o h)

aborted_waits : (id : List ℕ) (o : TransactionResult) → CompleteAbort ≡ prepared_phase o → has_pending_marker [] id ≡ true
aborted_waits id o h = absurd (closed_aborted o h)

empty_open : (xs : List Target) → Empty ≡ Ongoing → xs ≡ [] → ⊥
empty_open xs h _ = cc

aborted_open : (xs : List Target) → CompleteAbort ≡ Ongoing → xs ≡ [] → ⊥
aborted_open xs h _ = cc

prepared_open : (r : Transaction) (o : TransactionResult) → r.state ≡ prepared_phase o → IsFilled r
prepared_open r o waits h _ = closed_ongoing o (sym h ∙ waits)

-- an open transaction is prepared under its own producer id, its markers with the record's epoch
prepared_transition : (w : World) (t r : Transaction) (o : TransactionResult) → IsSound w → id_record w.coordinator.transactions t.id ≡ Some t → t.state ≡ Ongoing → r.id ≡ t.id → r.pair.producer ≡ t.pair.producer → t.pair.epoch ≤ℤ r.pair.epoch → targets r ≡ targets t → r.state ≡ prepared_phase o → IsTransition w.coordinator r [] (markers t r.pair o)
prepared_transition w t r o s at ongoing id producer le same waits =
    let distinct = s.distinct t.id t at in
    same_transition w t r (markers t r.pair o) s at (closed_as Ongoing t.state closed_ongoing ongoing) id producer le (subst AreDistinct (sym same) distinct)
    (prepared_open r o waits) (λ own h. ap (has_pending_marker (markers t r.pair o)) id ∙ markers_owing t r.pair o (s.filled t.id t at ongoing))
    (markers_owed (w.coordinator.given ++ []) r t r.pair o (sym id) (ap (given_to (w.coordinator.given ++ [])) producer ∙ given_more w.coordinator.given [] t.pair.producer (Some t.id) (own_given w t s at)) (λ _. omega (arith, ints)) waits)
    (markers_apart t r.pair o distinct)
    (λ own h. waiting t r.pair o own producer (sym waits ∙ h))

-- to abort, with the epoch raised
fenced_transition : (w : World) (code : ErrorCode) (t : Transaction) → IsSound w → id_record w.coordinator.transactions t.id ≡ Some t → t.state ≡ Ongoing → IsTurned w.coordinator (fence_transition code t)
fenced_transition w code t s at ongoing = prepared_transition w t (fenced_transaction t) Abort s at ongoing refl refl (omega (arith, ints)) refl refl

-- ---- InitProducerId

begun_transition : (w : World) (t : Transaction) (timeout : ℕ) → IsSound w → id_record w.coordinator.transactions t.id ≡ Some t → IsClosed t.state → IsTurned w.coordinator (begin_transition t (fresh_producer_id w.coordinator) timeout)
begun_transition w t timeout s at closed = by_test (is_exhausted t.pair) where
  by_test : (b : Bool) → IsTransition w.coordinator (record t { pair = cond b (record { producer = fresh_producer_id w.coordinator; epoch = pos 0 }) (with_next_epoch t.pair); timeout = timeout; state = Empty; kept = None }) (cond b (Some t.id ∷ []) []) []
  by_test true = fresh_transition w t _ [] s at closed refl refl (s.distinct t.id t at) (empty_open (targets t)) (empty_waits t.id) tt tt (never Empty t [] closed_empty)
  by_test false = same_transition w t _ [] s at closed refl refl (omega (arith, ints)) (s.distinct t.id t at) (empty_open (targets t)) (empty_waits t.id) tt tt (never Empty t [] closed_empty)

init_in_transition : (w : World) (state : TransactionState) (t : Transaction) (timeout : ℕ) → IsSound w → id_record w.coordinator.transactions t.id ≡ Some t → t.state ≡ state → IsTurned w.coordinator (init_in state t (fresh_producer_id w.coordinator) timeout)
init_in_transition w Empty t timeout s at e = begun_transition w t timeout s at (closed_as Empty t.state closed_empty e)
init_in_transition w CompleteCommit t timeout s at e = begun_transition w t timeout s at (closed_as CompleteCommit t.state closed_committed e)
init_in_transition w CompleteAbort t timeout s at e = begun_transition w t timeout s at (closed_as CompleteAbort t.state closed_aborted e)
init_in_transition w Ongoing t timeout s at e = fenced_transition w codes.ConcurrentTransactions t s at e
init_in_transition w PrepareCommit t timeout s at e = tt
init_in_transition w PrepareAbort t timeout s at e = tt

-- found under an id, found under its own
own_id : (ts : List Transaction) (id : List ℕ) (t : Transaction) → id_record ts id ≡ Some t → id_record ts t.id ≡ Some t
own_id ts id t h = ap (id_record ts) (recorded_id ts id t h) ∙ h

init_for_transition : (w : World) (id : List ℕ) (allowed : Option ℕ) → IsSound w → (found : Option Transaction) → id_record w.coordinator.transactions id ≡ found → IsTurned w.coordinator (init_for allowed found id (fresh_producer_id w.coordinator))
init_for_transition w id None s found e = tt
init_for_transition w id (Some timeout) s (Some t) e = init_in_transition w t.state t timeout s (own_id w.coordinator.transactions id t e) refl
init_for_transition w id (Some timeout) s None e = record {
  change = record { on = λ x h. absurd (let clash : None ≡ Some x = sym e ∙ h in cc); owned = given_next w.coordinator.given (Some id) };
  free = λ x h. absurd (let clash : None ≡ Some x = sym e ∙ h in cc);
  distinct = tt;
  filled = empty_open [];
  owing = empty_waits id;
  owed = tt;
  apart = tt;
  prepares = λ x h. absurd (let clash : None ≡ Some x = sym e ∙ h in cc);
}

pub init_transition : (w : World) (id : List ℕ) (timeout greatest : ℤ) → IsSound w → IsTurned w.coordinator (init w.coordinator id timeout greatest)
init_transition w id timeout greatest s =
    or_stays w.coordinator (is_empty id) codes.InvalidRequest _ (init_for_transition w id (timeout_within timeout greatest) s (id_record w.coordinator.transactions id) refl)

-- ---- AddPartitionsToTxn, AddOffsetsToTxn

-- the transaction that is added to, which comes of the record that was found
record IsOpened (w : World) (t u : Transaction) : Type 0 where
  at : id_record w.coordinator.transactions t.id ≡ Some t
  closed : IsClosed t.state
  id : u.id ≡ t.id
  pair : u.pair ≡ t.pair
  ongoing : u.state ≡ Ongoing
  distinct : AreDistinct (targets u)

abbrev IsOpen : World → Result Transaction ErrorCode → Type 0
IsOpen w (Ok u) = (t : Transaction) × IsOpened w t u
IsOpen w (Err code) = Unit {0}

open_in_transition : (w : World) (state : TransactionState) (t : Transaction) → IsSound w → id_record w.coordinator.transactions t.id ≡ Some t → t.state ≡ state → IsOpen w (open_in state t w.moment)
open_in_transition w PrepareCommit t s at e = tt
open_in_transition w PrepareAbort t s at e = tt
open_in_transition w Ongoing t s at e = (t, record { at = at; closed = closed_as Ongoing t.state closed_ongoing e; id = refl; pair = refl; ongoing = e; distinct = s.distinct t.id t at })
open_in_transition w Empty t s at e = (t, record { at = at; closed = closed_as Empty t.state closed_empty e; id = refl; pair = refl; ongoing = refl; distinct = s.distinct t.id t at })
open_in_transition w CompleteCommit t s at e = (t, record { at = at; closed = closed_as CompleteCommit t.state closed_committed e; id = refl; pair = refl; ongoing = refl; distinct = s.distinct t.id t at })
open_in_transition w CompleteAbort t s at e = (t, record { at = at; closed = closed_as CompleteAbort t.state closed_aborted e; id = refl; pair = refl; ongoing = refl; distinct = s.distinct t.id t at })

open_found_transition : (w : World) (id : List ℕ) (p : ProducerIdAndEpoch) → IsSound w → (found : Option Transaction) → id_record w.coordinator.transactions id ≡ found → IsOpen w (open_found found p w.moment)
open_found_transition w id p s None e = tt
open_found_transition w id p s (Some t) e = by_code (producer_refusal codes.InvalidProducerEpoch t p) where
  by_code : (refusal : Option ErrorCode) → IsOpen w (open_by refusal t w.moment)
  by_code None = open_in_transition w t.state t s (own_id w.coordinator.transactions id t e) refl
  by_code (Some code) = tt

open_transition : (w : World) (id : List ℕ) (p : ProducerIdAndEpoch) → IsSound w → IsOpen w (open_transaction w.coordinator id p w.moment)
open_transition w id p s = by_empty (is_empty id) where
  by_empty : (b : Bool) → IsOpen w (cond b (Err codes.InvalidRequest) (open_found (id_record w.coordinator.transactions id) p w.moment))
  by_empty true = tt
  by_empty false = open_found_transition w id p s (id_record w.coordinator.transactions id) refl

opened_transition : (w : World) (t u r : Transaction) → IsSound w → IsOpened w t u → r.id ≡ u.id → r.pair ≡ u.pair → r.state ≡ u.state → AreDistinct (targets r) → (targets r ≡ [] → ⊥) → IsTransition w.coordinator r [] []
opened_transition w t u r s h id pair state distinct filled =
    let producer : r.pair.producer ≡ t.pair.producer = ap (λ (p : ProducerIdAndEpoch). p.producer) (pair ∙ h.pair) in
    let epoch : r.pair.epoch ≡ t.pair.epoch = ap (λ (p : ProducerIdAndEpoch). p.epoch) (pair ∙ h.pair) in
    let closed = closed_as Ongoing r.state closed_ongoing (state ∙ h.ongoing) in
    same_transition w t r [] s h.at h.closed (id ∙ h.id) producer (omega (arith, ints)) distinct (λ _. filled) (λ o waits. absurd (closed o waits)) tt tt (never r.state t [] closed)

partitions_grown : (w : World) (p : TopicPartition) (ps : List TopicPartition) → IsSound w → (o : Result Transaction ErrorCode) → IsOpen w o → IsTurned w.coordinator (growth_transition (with_partitions (p ∷ ps)) o)
partitions_grown w p ps s (Err code) h = tt
partitions_grown w p ps s (Ok u) h = opened_transition w h.0 u (with_partitions (p ∷ ps) u) s h.1 refl refl refl (distinct_partitions (p ∷ ps) u.partitions u.groups (distinct_of h.1)) (filled_partitions p ps u.partitions u.groups) where
  distinct_of : IsOpened w h.0 u → AreDistinct (targets u)
  distinct_of opened = opened.distinct

group_grown : (w : World) (g : List ℕ) → IsSound w → (o : Result Transaction ErrorCode) → IsOpen w o → IsTurned w.coordinator (growth_transition (with_group g) o)
group_grown w g s (Err code) h = tt
group_grown w g s (Ok u) h = opened_transition w h.0 u (with_group g u) s h.1 refl refl refl (distinct_group u.partitions u.groups g (distinct_of h.1)) (filled_group u.partitions u.groups g) where
  distinct_of : IsOpened w h.0 u → AreDistinct (targets u)
  distinct_of opened = opened.distinct

pub partitions_transition : (w : World) (id : List ℕ) (p : ProducerIdAndEpoch) (ps : List TopicPartition) → IsSound w → IsTurned w.coordinator (add_partitions w.coordinator id p w.moment ps)
partitions_transition w id p [] s = tt
partitions_transition w id p (q ∷ ps) s = partitions_grown w q ps s (open_transaction w.coordinator id p w.moment) (open_transition w id p s)

pub group_transition : (w : World) (id : List ℕ) (p : ProducerIdAndEpoch) (g : List ℕ) → IsSound w → IsTurned w.coordinator (add_group w.coordinator id p w.moment g)
group_transition w id p g s = group_grown w g s (open_transaction w.coordinator id p w.moment) (open_transition w id p s)

-- ---- EndTxn

-- an open transaction is prepared, in any version
ended_transition : (w : World) (form : EndForm) (t : Transaction) (o : TransactionResult) → IsSound w → id_record w.coordinator.transactions t.id ≡ Some t → t.state ≡ Ongoing → IsTurned w.coordinator (end_ongoing form t (fresh_producer_id w.coordinator) o)
ended_transition w forms.Plain t o s at ongoing = prepared_transition w t (record t { state = prepared_phase o }) o s at ongoing refl refl (omega (arith, ints)) refl refl
ended_transition w forms.Fencing t o s at ongoing = prepared_transition w t (record t { state = prepared_phase o }) o s at ongoing refl refl (omega (arith, ints)) refl refl
ended_transition w forms.Raising t o s at ongoing = by_test (is_exhausted t.pair) where
  by_test : (b : Bool) → IsTransition w.coordinator (record t { pair = cond b (record { producer = fresh_producer_id w.coordinator; epoch = pos 0 }) (with_next_epoch t.pair); state = prepared_phase o; kept = Some t.pair }) (cond b (Some t.id ∷ []) []) (markers t (with_next_epoch t.pair) o)
  by_test true =
      let within : t.pair.producer <ℤ pos (length w.coordinator.given) = given_within w.coordinator.given t.pair.producer (Some t.id) (own_given w t s at) in
      fresh_transition w t _ _ s at (closed_as Ongoing t.state closed_ongoing ongoing) refl refl (s.distinct t.id t at)
      (λ h _. closed_ongoing o (sym h)) (λ own h. markers_owing t (with_next_epoch t.pair) o (s.filled t.id t at ongoing))
      (markers_owed (w.coordinator.given ++ Some t.id ∷ []) (record t { pair = record { producer = fresh_producer_id w.coordinator; epoch = pos 0 }; state = prepared_phase o; kept = Some t.pair }) t (with_next_epoch t.pair) o refl (given_more w.coordinator.given (Some t.id ∷ []) t.pair.producer (Some t.id) (own_given w t s at)) (λ same. absurd (omega (arith, ints))) refl)
      (markers_apart t (with_next_epoch t.pair) o (s.distinct t.id t at))
      (λ own h. waiting t (with_next_epoch t.pair) o own refl h)
  by_test false = prepared_transition w t (record t { pair = with_next_epoch t.pair; state = prepared_phase o; kept = Some t.pair }) o s at ongoing refl refl (omega (arith, ints)) refl refl

closed_transition : (w : World) (form : EndForm) (t : Transaction) (o : TransactionResult) (code : ErrorCode) → IsSound w → id_record w.coordinator.transactions t.id ≡ Some t → IsClosed t.state → IsTurned w.coordinator (end_closed form t (fresh_producer_id w.coordinator) o code)
closed_transition w forms.Plain t o code s at closed = tt
closed_transition w forms.Fencing t o code s at closed = tt
closed_transition w forms.Raising t Commit code s at closed = tt
closed_transition w forms.Raising t Abort code s at closed = by_test (is_exhausted t.pair) where
  by_test : (b : Bool) → IsTransition w.coordinator (record t { pair = cond b (record { producer = fresh_producer_id w.coordinator; epoch = pos 0 }) (with_next_epoch t.pair); state = CompleteAbort; kept = Some t.pair }) (cond b (Some t.id ∷ []) []) []
  by_test true = fresh_transition w t _ [] s at closed refl refl (s.distinct t.id t at) (aborted_open (targets t)) (aborted_waits t.id) tt tt (never CompleteAbort t [] closed_aborted)
  by_test false = same_transition w t _ [] s at closed refl refl (omega (arith, ints)) (s.distinct t.id t at) (aborted_open (targets t)) (aborted_waits t.id) tt tt (never CompleteAbort t [] closed_aborted)

end_in_transition : (w : World) (state : TransactionState) (form : EndForm) (t : Transaction) (o : TransactionResult) → IsSound w → id_record w.coordinator.transactions t.id ≡ Some t → t.state ≡ state → IsTurned w.coordinator (end_in state form t (fresh_producer_id w.coordinator) o)
end_in_transition w Ongoing form t o s at e = ended_transition w form t o s at e
end_in_transition w PrepareCommit form t Commit s at e = tt
end_in_transition w PrepareCommit form t Abort s at e = tt
end_in_transition w PrepareAbort form t Commit s at e = tt
end_in_transition w PrepareAbort form t Abort s at e = tt
end_in_transition w Empty form t o s at e = closed_transition w form t o codes.InvalidTxnState s at (closed_as Empty t.state closed_empty e)
end_in_transition w CompleteCommit form t Commit s at e = closed_transition w form t Commit codes.None s at (closed_as CompleteCommit t.state closed_committed e)
end_in_transition w CompleteCommit form t Abort s at e = closed_transition w form t Abort codes.InvalidTxnState s at (closed_as CompleteCommit t.state closed_committed e)
end_in_transition w CompleteAbort form t Commit s at e = closed_transition w form t Commit codes.InvalidTxnState s at (closed_as CompleteAbort t.state closed_aborted e)
end_in_transition w CompleteAbort form t Abort s at e = closed_transition w form t Abort codes.None s at (closed_as CompleteAbort t.state closed_aborted e)

end_found_transition : (w : World) (form : EndForm) (id : List ℕ) (p : ProducerIdAndEpoch) (o : TransactionResult) → IsSound w → (found : Option Transaction) → id_record w.coordinator.transactions id ≡ found → IsTurned w.coordinator (end_found found form (fresh_producer_id w.coordinator) p o)
end_found_transition w form id p o s None e = tt
end_found_transition w form id p o s (Some t) e = or_stays w.coordinator (is_again form t p) (end_again t.state o) _ (by_code (producer_refusal (other_epoch form) t p)) where
  by_code : (refusal : Option ErrorCode) → IsTurned w.coordinator (end_by refusal form t (fresh_producer_id w.coordinator) o)
  by_code None = end_in_transition w t.state form t o s (own_id w.coordinator.transactions id t e) refl
  by_code (Some code) = tt

pub end_transition : (w : World) (form : EndForm) (id : List ℕ) (p : ProducerIdAndEpoch) (o : TransactionResult) → IsSound w → IsTurned w.coordinator (end w.coordinator form id p o)
end_transition w form id p o s = or_stays w.coordinator (is_empty id) codes.InvalidRequest _ (end_found_transition w form id p o s (id_record w.coordinator.transactions id) refl)

-- ---- expiry

pub ongoing_is : (state : TransactionState) (also : Bool) → (is_ongoing state && also) ≡ true → state ≡ Ongoing
ongoing_is Ongoing also h = refl
ongoing_is Empty also h = cc
ongoing_is PrepareCommit also h = cc
ongoing_is PrepareAbort also h = cc
ongoing_is CompleteCommit also h = cc
ongoing_is CompleteAbort also h = cc

pub expire_one_transition : (w : World) (id : List ℕ) → IsSound w → (found : Option Transaction) → id_record w.coordinator.transactions id ≡ found → IsTurned w.coordinator (expire_transition found w.moment)
expire_one_transition w id s None e = tt
expire_one_transition w id s (Some t) e = by_due (is_due w.moment t) refl where
  by_due : (b : Bool) → is_due w.moment t ≡ b → IsTurned w.coordinator (cond b (fence_transition codes.None t) (Stays codes.None))
  by_due true h = fenced_transition w codes.None t s (own_id w.coordinator.transactions id t e) (ongoing_is t.state _ h)
  by_due false h = tt
