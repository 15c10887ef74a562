-- Each call keeps producer ids and epochs in their ranges.
use Rattle.std.proofs.Common.{◌≡◌, ℕ, ℤ, pos, ◌+◌, List, [], ◌∷◌, ◌++◌, length, map, Option, Some, None, Result, Ok, Err, Bool, true, false, cond, refl, sym, subst, arith}
use Rattle.std.specs.Prelude.{◌&&◌, ◌<ℤ◌, int_le, int_lt, IfOk, OnOk, OnErr}
use Rattle.std.specs.Ordering.{int_eq}
use Rattle.std.proofs.lemmas.Int.{ints}
use Rattle.std.proofs.lemmas.List.{length-append}
use Rattle.std.proofs.lemmas.Bool.Decides.{Decides-int_eq}
use Rattle.wire_types.specs.declared.error_code.ErrorCode.{ErrorCode}
use Rattle.wire_types.specs.declared.error_code.ErrorCode.TheVariants as codes
use Rattle.txn_coordinator.specs.declared.producer_id.ProducerIdAndEpoch.{ProducerIdAndEpoch}
use Rattle.txn_coordinator.specs.declared.target.TopicPartition.{TopicPartition}
use Rattle.txn_coordinator.specs.declared.transaction.Transaction.{Transaction}
use Rattle.txn_coordinator.specs.declared.transaction.TransactionState.{TransactionState}
use Rattle.txn_coordinator.specs.declared.transaction.TransactionState.TheVariants.{Empty, Ongoing, PrepareCommit, PrepareAbort, CompleteCommit, CompleteAbort}
use Rattle.record_batch.specs.declared.transaction_result.TransactionResult.{TransactionResult}
use Rattle.record_batch.specs.declared.transaction_result.TransactionResult.TheVariants.{Commit, Abort}
use Rattle.txn_coordinator.specs.declared.marker.PendingMarker.{PendingMarker}
use Rattle.txn_coordinator.specs.declared.ending.EndForm.{EndForm}
use Rattle.txn_coordinator.specs.declared.ending.EndForm.TheVariants as forms
use Rattle.txn_coordinator.specs.Transition.{Transition, Stays, Puts}
use Rattle.txn_coordinator.specs.Words.{last_epoch, is_empty, with_next_epoch, is_exhausted, next_id_and_epoch, given_after, is_ongoing, prepared_phase, completed_phase}
use Rattle.txn_coordinator.specs.Coordinator.{CoordinatorValue, has_id, id_record, records_with, records_after, given_for, apply_transition}
use Rattle.txn_coordinator.specs.Preparing.{markers, fenced_transaction, producer_refusal}
use Rattle.txn_coordinator.specs.InitProducerId.{timeout_within, begin_transition, init_in, init_for, init}
use Rattle.txn_coordinator.specs.Adding.{with_partitions, with_group, open_in, open_by, open_found, open_transaction, growth_transition, add_partitions, add_group}
use Rattle.txn_coordinator.specs.EndTxn.{other_epoch, renewal_transition, end_ongoing, end_closed, end_in, is_again, end_again, end_by, end_found, end}
use Rattle.txn_coordinator.specs.Expiry.{is_due, fenced_if_due}
use Rattle.txn_coordinator.specs.Warrants.{has_pending_marker, with_completed, with_first_written, with_front_written}
use Rattle.txn_coordinator.proofs.Table.{either_way}
use Rattle.txn_coordinator.specs.Bounds.{IsIdAndEpochInRange, AllCanRaise, IsInRange, AreInRange, IsCoordinator, IsTransitionInRange}

-- ---- lists of records

pub range_found : (n : ℕ) (ts : List Transaction) (id : List ℕ) (t : Transaction) → AreInRange n ts → id_record ts id ≡ Some t → IsInRange n t
range_found n [] id t s h = absurd (let clash : None ≡ Some t = h in cc)
range_found n (x ∷ xs) id t s h = by_same (range_found n xs id t s.1) (has_id id x) h where
  by_same : (id_record xs id ≡ Some t → IsInRange n t) → (b : Bool) → cond b (Some x) (id_record xs id) ≡ Some t → IsInRange n t
  by_same rest true h = let e : x ≡ t = cc in subst (IsInRange n) e s.0
  by_same rest false h = rest h

pair_more : (n k : ℕ) (p : ProducerIdAndEpoch) → IsIdAndEpochInRange n p → IsIdAndEpochInRange (n + k) p
pair_more n k p r = record { from_zero = r.from_zero; given_out = let low = r.given_out in omega (arith, ints); epoch_from_zero = r.epoch_from_zero; epoch_to_last = r.epoch_to_last }

pub range_more : (n k : ℕ) (t : Transaction) → IsInRange n t → IsInRange (n + k) t
range_more n k t r = record { pair = pair_more n k t.pair r.pair; can_raise = r.can_raise }

pub ranges_more : (n k : ℕ) (ts : List Transaction) → AreInRange n ts → AreInRange (n + k) ts
ranges_more n k [] s = tt
ranges_more n k (t ∷ ts) s = (range_more n k t s.0, ranges_more n k ts s.1)

pub range_put : (n : ℕ) (ts : List Transaction) (r : Transaction) → AreInRange n ts → IsInRange n r → AreInRange n (records_with ts r)
range_put n [] r s h = (h, tt)
range_put n (t ∷ ts) r s h = by_same (range_put n ts r s.1 h) (has_id r.id t) where
  by_same : AreInRange n (records_with ts r) → (b : Bool) → AreInRange n (cond b (r ∷ ts) (t ∷ records_with ts r))
  by_same rest true = (h, s.1)
  by_same rest false = (s.0, rest)

pub all_can_raise : (n : ℕ) (ts : List Transaction) → AreInRange n ts → AllCanRaise ts
all_can_raise n [] s = tt
all_can_raise n (t ∷ ts) s = (s.0.can_raise, all_can_raise n ts s.1)

-- a producer id more is given out
pub given_range : (given more : List (Option (List ℕ))) (ts : List Transaction) → AreInRange (length given) ts → AreInRange (length (given ++ more)) ts
given_range given more ts s = subst (λ (n : ℕ). AreInRange n ts) (sym (length-append given more)) (ranges_more (length given) (length more) ts s)

pub taken : (c : CoordinatorValue) (transition : Transition) → IsCoordinator c → IsTransitionInRange (length c.given) transition → IsCoordinator (apply_transition c transition)
taken c (Stays code) s h = s
taken c (Puts code t more owed) s h =
    subst (λ (n : ℕ). AreInRange n (records_with c.transactions t)) (sym (length-append c.given more))
    (range_put (length c.given + length more) c.transactions t (ranges_more (length c.given) (length more) c.transactions s) h)

-- the same of the records and the producer ids given out alone, also where the call failed
transition_taken : (given : List (Option (List ℕ))) (ts : List Transaction) (transition : Transition) → AreInRange (length given) ts → IsTransitionInRange (length given) transition → AreInRange (length (given ++ given_for transition)) (records_after ts transition)
transition_taken given ts (Stays code) s h = given_range given [] ts s
transition_taken given ts (Puts code t more owed) s h =
    subst (λ (n : ℕ). AreInRange n (records_with ts t)) (sym (length-append given more))
    (range_put (length given + length more) ts t (ranges_more (length given) (length more) ts s) h)

pub called_range : {T E : Type 0} (r : Result T E) (given after : List (Option (List ℕ))) (ts us : List Transaction) (transition : Transition) → AreInRange (length given) ts → IsTransitionInRange (length given) transition
    → OnOk r (us ≡ records_after ts transition) → OnOk r (after ≡ given ++ given_for transition) → OnErr r (us ≡ ts) → OnErr r (after ≡ given) → AreInRange (length after) us
called_range (Ok x) given after ts us transition s h us_is after_is _ _ =
    subst (λ (l : List (Option (List ℕ))). AreInRange (length l) us) (sym after_is) (subst (AreInRange (length (given ++ given_for transition))) (sym us_is) (transition_taken given ts transition s h))
called_range (Err e) given after ts us transition s h _ _ us_is after_is =
    subst (λ (l : List (Option (List ℕ))). AreInRange (length l) us) (sym after_is) (subst (AreInRange (length given)) (sym us_is) s)

-- ---- pairs

pair_raised : (n : ℕ) (p : ProducerIdAndEpoch) → IsIdAndEpochInRange n p → p.epoch <ℤ last_epoch → IsIdAndEpochInRange n (with_next_epoch p)
pair_raised n p r low = let above = r.epoch_from_zero in record { from_zero = r.from_zero; given_out = r.given_out; epoch_from_zero = omega (arith, ints); epoch_to_last = omega (arith, ints) }

still_low : (e : ℤ) → int_le (pos 32766) e ≡ false → e <ℤ last_epoch
still_low e h = grind (arith, ints)

pub pair_followed : (n : ℕ) (p : ProducerIdAndEpoch) (id : List ℕ) → IsIdAndEpochInRange n p → IsIdAndEpochInRange (n + length (given_after p id)) (next_id_and_epoch p (pos n))
pair_followed n p id r = by_test (is_exhausted p) refl where
  by_test : (b : Bool) → is_exhausted p ≡ b → IsIdAndEpochInRange (n + length (cond b (Some id ∷ []) [])) (cond b (record { producer = pos n; epoch = pos 0 }) (with_next_epoch p))
  by_test true h = record { from_zero = omega (arith, ints); given_out = omega (arith, ints); epoch_from_zero = omega (arith, ints); epoch_to_last = omega (arith, ints) }
  by_test false h = pair_more n 0 (with_next_epoch p) (pair_raised n p r (still_low p.epoch h))

low_is : (e : ℤ) → int_lt e last_epoch ≡ true → e <ℤ last_epoch
low_is e h = grind (arith, ints)

-- a call that comes with the id's pair comes with an epoch that can be raised
pub pair_below : (code : ErrorCode) (t : Transaction) (p : ProducerIdAndEpoch) → producer_refusal code t p ≡ None → t.pair.epoch <ℤ last_epoch
pair_below code t p h = by_producer (int_eq t.pair.producer p.producer) h where
  by_both : (a b : Bool) → int_eq t.pair.epoch p.epoch ≡ a → int_lt p.epoch last_epoch ≡ b → cond (a && b) None (Some code) ≡ None → t.pair.epoch <ℤ last_epoch
  by_both true true ha hb k = subst (λ (e : ℤ). e <ℤ last_epoch) (sym ((Decides-int_eq t.pair.epoch p.epoch).0 ha)) (low_is p.epoch hb)
  by_both true false ha hb k = absurd (let clash : Some code ≡ None = k in cc)
  by_both false b ha hb k = absurd (let clash : Some code ≡ None = k in cc)

  by_producer : (b : Bool) → cond b (cond (int_eq t.pair.epoch p.epoch && int_lt p.epoch last_epoch) None (Some code)) (Some codes.InvalidProducerIdMapping) ≡ None → t.pair.epoch <ℤ last_epoch
  by_producer true k = by_both (int_eq t.pair.epoch p.epoch) (int_lt p.epoch last_epoch) refl refl k
  by_producer false k = absurd (let clash : Some codes.InvalidProducerIdMapping ≡ None = k in cc)

or_stays : (n : ℕ) (b : Bool) (code : ErrorCode) (transition : Transition) → IsTransitionInRange n transition → IsTransitionInRange n (cond b (Stays code) transition)
or_stays n true code transition h = tt
or_stays n false code transition h = h

-- ---- InitProducerId

begun_range : (n : ℕ) (t : Transaction) (timeout : ℕ) → IsInRange n t → IsTransitionInRange n (begin_transition t (pos n) timeout)
begun_range n t timeout s = record { pair = pair_followed n t.pair t.id s.pair; can_raise = λ e. absurd (let clash : Empty ≡ Ongoing = e in cc) }

pub fenced_range : (n : ℕ) (t : Transaction) → IsInRange n t → t.state ≡ Ongoing → IsInRange n (fenced_transaction t)
fenced_range n t s e = record { pair = pair_raised n t.pair s.pair (s.can_raise e); can_raise = λ h. absurd (let clash : PrepareAbort ≡ Ongoing = h in cc) }

pub init_in_range : (state : TransactionState) (n : ℕ) (t : Transaction) (timeout : ℕ) → IsInRange n t → t.state ≡ state → IsTransitionInRange n (init_in state t (pos n) timeout)
init_in_range Empty n t timeout s e = begun_range n t timeout s
init_in_range CompleteCommit n t timeout s e = begun_range n t timeout s
init_in_range CompleteAbort n t timeout s e = begun_range n t timeout s
init_in_range Ongoing n t timeout s e = range_more n 0 (fenced_transaction t) (fenced_range n t s e)
init_in_range PrepareCommit n t timeout s e = tt
init_in_range PrepareAbort n t timeout s e = tt

pub init_for_range : (o : Option ℕ) (f : Option Transaction) (n : ℕ) (ts : List Transaction) (id : List ℕ) → AreInRange n ts → id_record ts id ≡ f → IsTransitionInRange n (init_for o f id (pos n))
init_for_range None f n ts id s e = tt
init_for_range (Some timeout) None n ts id s e = record {
  pair = record { from_zero = omega (arith, ints); given_out = omega (arith, ints); epoch_from_zero = omega (arith, ints); epoch_to_last = omega (arith, ints) };
  can_raise = λ h. absurd (let clash : Empty ≡ Ongoing = h in cc);
}
init_for_range (Some timeout) (Some t) n ts id s e = init_in_range t.state n t timeout (range_found n ts id t s e) refl

pub init_range : (c : CoordinatorValue) (id : List ℕ) (timeout greatest : ℤ) → IsCoordinator c → IsTransitionInRange (length c.given) (init c id timeout greatest)
init_range c id timeout greatest s = or_stays (length c.given) (is_empty id) codes.InvalidRequest _ (init_for_range (timeout_within timeout greatest) (id_record c.transactions id) (length c.given) c.transactions id s refl)

-- ---- adding

open_in_range : (state : TransactionState) (n : ℕ) (t : Transaction) (moment : ℕ) → IsInRange n t → t.pair.epoch <ℤ last_epoch → IfOk (open_in state t moment) (IsInRange n)
open_in_range Ongoing n t moment s low = record { pair = s.pair; can_raise = λ _. low }
open_in_range Empty n t moment s low = record { pair = s.pair; can_raise = λ _. low }
open_in_range CompleteCommit n t moment s low = record { pair = s.pair; can_raise = λ _. low }
open_in_range CompleteAbort n t moment s low = record { pair = s.pair; can_raise = λ _. low }
open_in_range PrepareCommit n t moment s low = tt
open_in_range PrepareAbort n t moment s low = tt

open_found_range : (f : Option Transaction) (n : ℕ) (ts : List Transaction) (id : List ℕ) (p : ProducerIdAndEpoch) (moment : ℕ) → AreInRange n ts → id_record ts id ≡ f → IfOk (open_found f p moment) (IsInRange n)
open_found_range None n ts id p moment s e = tt
open_found_range (Some t) n ts id p moment s e = by_code (producer_refusal codes.InvalidProducerEpoch t p) refl where
  by_code : (o : Option ErrorCode) → producer_refusal codes.InvalidProducerEpoch t p ≡ o → IfOk (open_by o t moment) (IsInRange n)
  by_code None h = open_in_range t.state n t moment (range_found n ts id t s e) (pair_below codes.InvalidProducerEpoch t p h)
  by_code (Some code) h = tt

pub open_range : (c : CoordinatorValue) (id : List ℕ) (p : ProducerIdAndEpoch) (moment : ℕ) → IsCoordinator c → IfOk (open_transaction c id p moment) (IsInRange (length c.given))
open_range c id p moment s = by_empty (is_empty id) where
  by_empty : (b : Bool) → IfOk (cond b (Err codes.InvalidRequest) (open_found (id_record c.transactions id) p moment)) (IsInRange (length c.given))
  by_empty true = tt
  by_empty false = open_found_range (id_record c.transactions id) (length c.given) c.transactions id p moment s refl

grown_range : (n : ℕ) (grow : Transaction → Transaction) → ((t : Transaction) → IsInRange n t → IsInRange n (grow t)) → (o : Result Transaction ErrorCode) → IfOk o (IsInRange n) → IsTransitionInRange n (growth_transition grow o)
grown_range n grow keeps (Ok t) h = range_more n 0 (grow t) (keeps t h)
grown_range n grow keeps (Err code) h = tt

pub partitions_range : (c : CoordinatorValue) (id : List ℕ) (p : ProducerIdAndEpoch) (moment : ℕ) (ps : List TopicPartition) → IsCoordinator c → IsTransitionInRange (length c.given) (add_partitions c id p moment ps)
partitions_range c id p moment [] s = tt
partitions_range c id p moment (q ∷ ps) s = grown_range (length c.given) (with_partitions (q ∷ ps)) (λ t h. record { pair = h.pair; can_raise = h.can_raise }) _ (open_range c id p moment s)

pub group_range : (c : CoordinatorValue) (id : List ℕ) (p : ProducerIdAndEpoch) (moment : ℕ) (g : List ℕ) → IsCoordinator c → IsTransitionInRange (length c.given) (add_group c id p moment g)
group_range c id p moment g s = grown_range (length c.given) (with_group g) (λ t h. record { pair = h.pair; can_raise = h.can_raise }) _ (open_range c id p moment s)

-- the records after a call that only grows one, or that failed
grown_records : (n : ℕ) (ts : List Transaction) (id : List ℕ) (p : ProducerIdAndEpoch) (moment : ℕ) (grow : Transaction → Transaction) → ((t : Transaction) → IsInRange n t → IsInRange n (grow t)) → AreInRange n ts
    → AreInRange n (records_after ts (growth_transition grow (open_found (id_record ts id) p moment)))
grown_records n ts id p moment grow keeps s = by_result (open_found (id_record ts id) p moment) (open_found_range (id_record ts id) n ts id p moment s refl) where
  by_result : (o : Result Transaction ErrorCode) → IfOk o (IsInRange n) → AreInRange n (records_after ts (growth_transition grow o))
  by_result (Ok t) h = range_put n ts (grow t) s (keeps t h)
  by_result (Err code) h = s

pub partitions_records : {T E : Type 0} (r : Result T E) (n : ℕ) (ts us : List Transaction) (id : List ℕ) (p : ProducerIdAndEpoch) (moment : ℕ) (ps : List TopicPartition) → AreInRange n ts
    → OnOk r (us ≡ records_after ts (growth_transition (with_partitions ps) (open_found (id_record ts id) p moment))) → OnErr r (us ≡ ts) → AreInRange n us
partitions_records r n ts us id p moment ps s ok err =
    either_way r _ _ _
    (λ e. subst (AreInRange n) (sym e) (grown_records n ts id p moment (with_partitions ps) (λ t h. record { pair = h.pair; can_raise = h.can_raise }) s))
    (λ e. subst (AreInRange n) (sym e) s) ok err

pub group_records : {T E : Type 0} (r : Result T E) (n : ℕ) (ts us : List Transaction) (id : List ℕ) (p : ProducerIdAndEpoch) (moment : ℕ) (g : List ℕ) → AreInRange n ts
    → OnOk r (us ≡ records_after ts (growth_transition (with_group g) (open_found (id_record ts id) p moment))) → OnErr r (us ≡ ts) → AreInRange n us
group_records r n ts us id p moment g s ok err =
    either_way r _ _ _
    (λ e. subst (AreInRange n) (sym e) (grown_records n ts id p moment (with_group g) (λ t h. record { pair = h.pair; can_raise = h.can_raise }) s))
    (λ e. subst (AreInRange n) (sym e) s) ok err

-- ---- ending

not_open : (o : TransactionResult) → prepared_phase o ≡ Ongoing → ⊥
not_open Commit h = cc
not_open Abort h = cc

renewed_range : (n : ℕ) (t : Transaction) (state : TransactionState) (owed : List PendingMarker) → IsInRange n t → (state ≡ Ongoing → ⊥) → IsTransitionInRange n (renewal_transition t (pos n) state owed)
renewed_range n t state owed s closed = record { pair = pair_followed n t.pair t.id s.pair; can_raise = λ e. absurd (closed e) }

plain_range : (n : ℕ) (t : Transaction) (o : TransactionResult) → IsInRange n t → IsInRange n (record t { state = prepared_phase o })
plain_range n t o s = record { pair = s.pair; can_raise = λ e. absurd (not_open o e) }

ongoing_range : (form : EndForm) (n : ℕ) (t : Transaction) (o : TransactionResult) → IsInRange n t → IsTransitionInRange n (end_ongoing form t (pos n) o)
ongoing_range forms.Plain n t o s = range_more n 0 (record t { state = prepared_phase o }) (plain_range n t o s)
ongoing_range forms.Fencing n t o s = range_more n 0 (record t { state = prepared_phase o }) (plain_range n t o s)
ongoing_range forms.Raising n t o s = renewed_range n t (prepared_phase o) (markers t (with_next_epoch t.pair) o) s (not_open o)

closed_range : (form : EndForm) (n : ℕ) (t : Transaction) (o : TransactionResult) (code : ErrorCode) → IsInRange n t → IsTransitionInRange n (end_closed form t (pos n) o code)
closed_range forms.Plain n t o code s = tt
closed_range forms.Fencing n t o code s = tt
closed_range forms.Raising n t Commit code s = tt
closed_range forms.Raising n t Abort code s = renewed_range n t CompleteAbort [] s (λ h. let clash : CompleteAbort ≡ Ongoing = h in cc)

pub end_in_range : (state : TransactionState) (form : EndForm) (n : ℕ) (t : Transaction) (o : TransactionResult) → IsInRange n t → IsTransitionInRange n (end_in state form t (pos n) o)
end_in_range Ongoing form n t o s = ongoing_range form n t o s
end_in_range PrepareCommit form n t Commit s = tt
end_in_range PrepareCommit form n t Abort s = tt
end_in_range PrepareAbort form n t Commit s = tt
end_in_range PrepareAbort form n t Abort s = tt
end_in_range Empty form n t o s = closed_range form n t o codes.InvalidTxnState s
end_in_range CompleteCommit form n t Commit s = closed_range form n t Commit codes.None s
end_in_range CompleteCommit form n t Abort s = closed_range form n t Abort codes.InvalidTxnState s
end_in_range CompleteAbort form n t Commit s = closed_range form n t Commit codes.InvalidTxnState s
end_in_range CompleteAbort form n t Abort s = closed_range form n t Abort codes.None s

ended_range : (form : EndForm) (n : ℕ) (t : Transaction) (p : ProducerIdAndEpoch) (o : TransactionResult) → IsInRange n t → IsTransitionInRange n (end_found (Some t) form (pos n) p o)
ended_range form n t p o s = or_stays n (is_again form t p) (end_again t.state o) _ (by_code (producer_refusal (other_epoch form) t p)) where
  by_code : (refusal : Option ErrorCode) → IsTransitionInRange n (end_by refusal form t (pos n) o)
  by_code None = end_in_range t.state form n t o s
  by_code (Some code) = tt

pub end_found_range : (f : Option Transaction) (form : EndForm) (n : ℕ) (ts : List Transaction) (id : List ℕ) (p : ProducerIdAndEpoch) (o : TransactionResult) → AreInRange n ts → id_record ts id ≡ f → IsTransitionInRange n (end_found f form (pos n) p o)
end_found_range None form n ts id p o s e = tt
end_found_range (Some t) form n ts id p o s e = ended_range form n t p o (range_found n ts id t s e)

pub end_range : (c : CoordinatorValue) (form : EndForm) (id : List ℕ) (p : ProducerIdAndEpoch) (o : TransactionResult) → IsCoordinator c → IsTransitionInRange (length c.given) (end c form id p o)
end_range c form id p o s = or_stays (length c.given) (is_empty id) codes.InvalidRequest _ (end_found_range (id_record c.transactions id) form (length c.given) c.transactions id p o s refl)

-- ---- markers

not_open_then : (o : TransactionResult) → completed_phase o ≡ Ongoing → ⊥
not_open_then Commit h = cc
not_open_then Abort h = cc

completed_by : (f : Option Transaction) (n : ℕ) (ts : List Transaction) (id : List ℕ) (o : TransactionResult) → AreInRange n ts → id_record ts id ≡ f → AreInRange n (with_completed o f ts)
completed_by None n ts id o s e = s
completed_by (Some t) n ts id o s e = range_put n ts _ s (record { pair = (range_found n ts id t s e).pair; can_raise = λ h. absurd (not_open_then o h) })

pub completed_range : (n : ℕ) (ts : List Transaction) (id : List ℕ) (o : TransactionResult) → AreInRange n ts → AreInRange n (with_completed o (id_record ts id) ts)
completed_range n ts id o s = completed_by (id_record ts id) n ts id o s refl

pub written_range : (c : CoordinatorValue) → IsCoordinator c → IsCoordinator (with_front_written c)
written_range c s = by_front c.warrants where
  by_front : (owed : List PendingMarker) → IsCoordinator (with_first_written c owed)
  by_front [] = s
  by_front (m ∷ rest) = by_owes (has_pending_marker rest m.id) where
    by_owes : (b : Bool) → AreInRange (length c.given) (cond b c.transactions (with_completed m.outcome (id_record c.transactions m.id) c.transactions))
    by_owes true = s
    by_owes false = completed_range (length c.given) c.transactions m.id m.outcome s

-- ---- expiry

ongoing_is : (state : TransactionState) (late : Bool) → (is_ongoing state && late) ≡ true → state ≡ Ongoing
ongoing_is Ongoing late h = refl
ongoing_is Empty late h = cc
ongoing_is PrepareCommit late h = cc
ongoing_is PrepareAbort late h = cc
ongoing_is CompleteCommit late h = cc
ongoing_is CompleteAbort late h = cc

expired_one_range : (n moment : ℕ) (t : Transaction) → IsInRange n t → IsInRange n (fenced_if_due moment t)
expired_one_range n moment t s = by_due (is_due moment t) refl where
  by_due : (b : Bool) → is_due moment t ≡ b → IsInRange n (cond b (fenced_transaction t) t)
  by_due true h = fenced_range n t s (ongoing_is t.state _ h)
  by_due false h = s

pub expired_range : (n moment : ℕ) (ts : List Transaction) → AreInRange n ts → AreInRange n (map (fenced_if_due moment) ts)
expired_range n moment [] s = tt
expired_range n moment (t ∷ ts) s = (expired_one_range n moment t s.0, expired_range n moment ts s.1)
