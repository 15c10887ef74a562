-- What a call of the records comes to, in the words of the coordinator.
use Rattle.std.proofs.Common.{◌≡◌, ℕ, ℤ, List, [], ◌∷◌, ◌++◌, Option, Some, Result, Ok, Err, refl, sym, ap, ◌∙◌}
use Rattle.std.specs.Prelude.{IfOk, OnOk}
use Rattle.std.proofs.lemmas.List.{append-nil}
use Rattle.wire_types.specs.declared.error_code.ErrorCode.{ErrorCode}
use Rattle.txn_coordinator.specs.declared.producer_id.ProducerIdAndEpoch.{ProducerIdAndEpoch}
use Rattle.txn_coordinator.specs.declared.transaction.Transaction.{Transaction}
use Rattle.txn_coordinator.specs.declared.marker.PendingMarker.{PendingMarker}
use Rattle.txn_coordinator.specs.declared.producer_id.ProducerIdAnswer.{ProducerIdAnswer}
use Rattle.txn_coordinator.specs.declared.ending.EndForm.{EndForm}
use Rattle.record_batch.specs.declared.transaction_result.TransactionResult.{TransactionResult}
use Rattle.txn_coordinator.specs.Transition.{Transition, Stays, Puts}
use Rattle.txn_coordinator.specs.Coordinator.{CoordinatorValue, id_record, fresh_producer_id, apply_transition, transition_code, transition_answer, id_and_epoch_answer, records_after, given_for, pending_markers_for}
use Rattle.txn_coordinator.specs.InitProducerId.{timeout_within, init_for, init}
use Rattle.txn_coordinator.specs.EndTxn.{end_found, end}
use Rattle.txn_coordinator.specs.Adding.{with_group, open_found, growth_transition, add_group}

-- ---- a call that adds a group: it changes the records alone

ok_then : {T E : Type 0} (r : Result T E) (P Q : Type 0) → (P → Q) → OnOk r P → OnOk r Q
ok_then (Ok x) P Q f h = f h
ok_then (Err e) P Q f h = tt

-- nothing is given out and nothing is owed for it
only_records : (c : CoordinatorValue) (grow : Transaction → Transaction) (o : Result Transaction ErrorCode) → record c { transactions = records_after c.transactions (growth_transition grow o) } ≡ apply_transition c (growth_transition grow o)
only_records c grow (Ok t) =
    ap (λ (given : List (Option (List ℕ))). record c { transactions = records_after c.transactions (growth_transition grow (Ok t)); given = given }) (sym (append-nil c.given))
    ∙ ap (λ (owed : List PendingMarker). record (apply_transition c (growth_transition grow (Ok t))) { warrants = owed }) (sym (append-nil c.warrants))
only_records c grow (Err code) = refl

-- an id that isn't empty is looked up
looked_up : (c : CoordinatorValue) (id : List ℕ) (p : ProducerIdAndEpoch) (moment : ℕ) (g : List ℕ) → (id ≡ [] → ⊥) → growth_transition (with_group g) (open_found (id_record c.transactions id) p moment) ≡ add_group c id p moment g
looked_up c [] p moment g some = absurd (some refl)
looked_up c (byte ∷ bytes) p moment g some = refl

pub group_added : {E : Type 0} (r : Result ErrorCode E) (c : CoordinatorValue) (after : List Transaction) (id : List ℕ) (p : ProducerIdAndEpoch) (moment : ℕ) (g : List ℕ) → (id ≡ [] → ⊥)
    → OnOk r (after ≡ records_after c.transactions (growth_transition (with_group g) (open_found (id_record c.transactions id) p moment))) → OnOk r (record c { transactions = after } ≡ apply_transition c (add_group c id p moment g))
group_added r c after id p moment g some h =
    ok_then r _ _ (λ e. ap (λ (ts : List Transaction). record c { transactions = ts }) e ∙ only_records c (with_group g) (open_found (id_record c.transactions id) p moment) ∙ ap (apply_transition c) (looked_up c id p moment g some)) h

-- ---- a call that puts a record, gives producer ids out and owes markers

transition_is : (c : CoordinatorValue) (transition : Transition) → record { transactions = records_after c.transactions transition; given = c.given ++ given_for transition; warrants = c.warrants ++ pending_markers_for transition } ≡ apply_transition c transition
transition_is c (Stays code) =
    ap (λ (given : List (Option (List ℕ))). record c { given = given; warrants = c.warrants ++ [] }) (append-nil c.given)
    ∙ ap (λ (owed : List PendingMarker). record c { warrants = owed }) (append-nil c.warrants)
transition_is c (Puts code t given owed) = refl

records_is : (c : CoordinatorValue) (transition : Transition) → (apply_transition c transition).transactions ≡ records_after c.transactions transition
records_is c (Stays code) = refl
records_is c (Puts code t given owed) = refl

-- how it went, the coordinator before it, what is kept after it, and its transition
module _ {E : Type 0} (r : Result ProducerIdAnswer E) (c : CoordinatorValue) (ts : List Transaction) (given : List (Option (List ℕ))) (owed : List PendingMarker) (transition : Transition) where
  abbrev after : CoordinatorValue
  after = record { transactions = ts; given = given; warrants = owed }

  pub call_ok : OnOk r (ts ≡ records_after c.transactions transition) → OnOk r (given ≡ c.given ++ given_for transition) → OnOk r (owed ≡ c.warrants ++ pending_markers_for transition) → OnOk r (after ≡ apply_transition c transition)
  call_ok = by_result r where
    by_result : (r : Result ProducerIdAnswer E) → OnOk r (ts ≡ records_after c.transactions transition) → OnOk r (given ≡ c.given ++ given_for transition) → OnOk r (owed ≡ c.warrants ++ pending_markers_for transition) → OnOk r (after ≡ apply_transition c transition)
    by_result (Ok x) ts_is given_is owed_is = (λ i. record { transactions = ts_is i; given = given_is i; warrants = owed_is i }) ∙ transition_is c transition
    by_result (Err e) _ _ _ = tt

  pub call_answer : (id : List ℕ) → OnOk r (ts ≡ records_after c.transactions transition) → IfOk r (λ a. a ≡ id_and_epoch_answer (transition_code transition) (id_record ts id)) → IfOk r (λ a. a ≡ transition_answer c id transition)
  call_answer id = by_result r where
    by_result : (r : Result ProducerIdAnswer E) → OnOk r (ts ≡ records_after c.transactions transition) → IfOk r (λ a. a ≡ id_and_epoch_answer (transition_code transition) (id_record ts id)) → IfOk r (λ a. a ≡ transition_answer c id transition)
    by_result (Ok a) ts_is is = is ∙ ap (λ (l : List Transaction). id_and_epoch_answer (transition_code transition) (id_record l id)) (ts_is ∙ sym (records_is c transition))
    by_result (Err e) _ _ = tt

-- an id that isn't empty is looked up
pub end_looked_up : (c : CoordinatorValue) (form : EndForm) (id : List ℕ) (p : ProducerIdAndEpoch) (o : TransactionResult) → (id ≡ [] → ⊥) → end_found (id_record c.transactions id) form (fresh_producer_id c) p o ≡ end c form id p o
end_looked_up c form [] p o some = absurd (some refl)
end_looked_up c form (byte ∷ bytes) p o some = refl

pub init_looked_up : (c : CoordinatorValue) (id : List ℕ) (timeout greatest : ℤ) (n : ℕ) → (id ≡ [] → ⊥) → Some n ≡ timeout_within timeout greatest
    → init_for (Some n) (id_record c.transactions id) id (fresh_producer_id c) ≡ init c id timeout greatest
init_looked_up c [] timeout greatest n some within = absurd (some refl)
init_looked_up c (byte ∷ bytes) timeout greatest n some within = ap (λ (o : Option ℕ). init_for o (id_record c.transactions (byte ∷ bytes)) (byte ∷ bytes) (fresh_producer_id c)) within
