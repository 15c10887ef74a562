-- The coordinator turns away whom the table says.
use Rattle.std.proofs.Common.{◌≡◌, ◌≢◌, ◌⊎◌, inl, inr, Err, ℕ, zero, suc, ℤ, pos, negsuc, List, [], ◌∷◌, Option, Some, None, Bool, true, false, ◌&&◌, cond, refl, sym, ap, ◌∙◌, arith}
use Rattle.std.specs.Prelude.{◌<ℤ◌, ◌≤ℤ◌, int_le, int_lt, nat_le}
use Rattle.std.specs.Ordering.{int_eq}
use Rattle.std.proofs.lemmas.Bool.Decides.{Decides-int_eq}
use Rattle.std.proofs.lemmas.Int.{ints}
use Rattle.wire_types.specs.declared.error_code.ErrorCode.{ErrorCode}
use Rattle.wire_types.specs.declared.error_code.ErrorCode.TheVariants as errors
use Rattle.wire_types.specs.ErrorCode.{number_of}
use Rattle.record_batch.specs.declared.transaction_result.TransactionResult.{TransactionResult}
use Rattle.record_batch.specs.declared.transaction_result.TransactionResult.TheVariants.{Commit, Abort}
use Rattle.txn_coordinator.specs.declared.producer_id.ProducerIdAndEpoch.{ProducerIdAndEpoch}
use Rattle.txn_coordinator.specs.Transition.{Transition, Stays}
use Rattle.txn_coordinator.specs.declared.transaction.Transaction.{Transaction}
use Rattle.txn_coordinator.specs.declared.transaction.TransactionState.{TransactionState}
use Rattle.txn_coordinator.specs.declared.transaction.TransactionState.TheVariants.{Empty, Ongoing, PrepareCommit, PrepareAbort, CompleteCommit, CompleteAbort}
use Rattle.txn_coordinator.specs.declared.ending.EndForm.{EndForm}
use Rattle.txn_coordinator.specs.declared.ending.EndForm.TheVariants.{Plain, Fencing, Raising}
use Rattle.txn_coordinator.specs.Words.{last_epoch}
use Rattle.txn_coordinator.specs.Coordinator.{CoordinatorValue, id_record, fresh_producer_id, transition_code, apply_transition}
use Rattle.txn_coordinator.specs.Preparing.{producer_refusal}
use Rattle.txn_coordinator.specs.EndTxn.{other_epoch, is_kept, end_again, end_by, end_found, end}
use Rattle.txn_coordinator.specs.Adding.{with_partitions, with_group, open_by, open_found, open_transaction, growth_transition, add_partitions, add_group}
use Rattle.txn_coordinator.specs.InitProducerId.{timeout_within, init_for, init}
use Rattle.txn_laws.specs.TurnedAway.{IsTold, IsOfOtherEpoch, epoch_number, again_number, EmptyId, UnknownId, OtherProducer, OtherEpoch, TurnsAwayByTable}
use Rattle.txn_laws.proofs.Tables.{not_empty, same_int, not_again}

told : (number : ℤ) (c : CoordinatorValue) (transition : Transition) (code : ErrorCode) → transition ≡ Stays code → number_of code ≡ number → IsTold number c transition
told number c transition code is numbered = record { code = ap (λ (u : Transition). number_of (transition_code u)) is ∙ numbered; same = ap (apply_transition c) is }

-- ---- numbers

numbered_42 : number_of errors.InvalidRequest ≡ pos 42
unfolding number_of
numbered_42 = refl

numbered_47 : number_of errors.InvalidProducerEpoch ≡ pos 47
unfolding number_of
numbered_47 = refl

numbered_49 : number_of errors.InvalidProducerIdMapping ≡ pos 49
unfolding number_of
numbered_49 = refl

numbered_50 : number_of errors.InvalidTransactionTimeout ≡ pos 50
unfolding number_of
numbered_50 = refl

numbered_none : number_of errors.None ≡ pos 0
unfolding number_of
numbered_none = refl

epoch_numbered : (form : EndForm) → number_of (other_epoch form) ≡ epoch_number form
unfolding number_of
epoch_numbered Plain = refl
epoch_numbered Fencing = refl
epoch_numbered Raising = refl

again_numbered : (state : TransactionState) (outcome : TransactionResult) → number_of (end_again state outcome) ≡ again_number state outcome
unfolding number_of
again_numbered Empty Commit = refl
again_numbered Empty Abort = refl
again_numbered Ongoing Commit = refl
again_numbered Ongoing Abort = refl
again_numbered PrepareCommit Commit = refl
again_numbered PrepareCommit Abort = refl
again_numbered PrepareAbort Commit = refl
again_numbered PrepareAbort Abort = refl
again_numbered CompleteCommit Commit = refl
again_numbered CompleteCommit Abort = refl
again_numbered CompleteAbort Commit = refl
again_numbered CompleteAbort Abort = refl

-- ---- who doesn't speak for the id

other_producer : (code : ErrorCode) (t : Transaction) (p : ProducerIdAndEpoch) → p.producer ≢ t.pair.producer → producer_refusal code t p ≡ Some errors.InvalidProducerIdMapping
other_producer code t p other = by_test (int_eq t.pair.producer p.producer) refl where
  by_test : (b : Bool) → int_eq t.pair.producer p.producer ≡ b → cond b (cond (int_eq t.pair.epoch p.epoch && int_lt p.epoch last_epoch) None (Some code)) (Some errors.InvalidProducerIdMapping) ≡ Some errors.InvalidProducerIdMapping
  by_test true e = absurd (other (sym ((Decides-int_eq t.pair.producer p.producer).0 e)))
  by_test false e = refl

is_high : (e : ℤ) → pos 32767 ≤ℤ e → int_lt e last_epoch ≡ false
is_high e h = grind (arith, ints)

differs : (a b : ℤ) → b ≢ a → int_eq a b ≡ false
differs a b other = by_test (int_eq a b) refl where
  by_test : (t : Bool) → int_eq a b ≡ t → t ≡ false
  by_test true e = absurd (other (sym ((Decides-int_eq a b).0 e)))
  by_test false e = refl

other_epoch_refused : (code : ErrorCode) (t : Transaction) (p : ProducerIdAndEpoch) → IsOfOtherEpoch t p → producer_refusal code t p ≡ Some code
other_epoch_refused code t p h =
    ap (λ (b : Bool). cond b (cond (int_eq t.pair.epoch p.epoch && int_lt p.epoch last_epoch) None (Some code)) (Some errors.InvalidProducerIdMapping)) (ap (int_eq t.pair.producer) h.producer ∙ same_int t.pair.producer)
    ∙ by_epoch h.epoch where
      by_both : (a b : Bool) → (a ≡ false) ⊎ (b ≡ false) → cond (a && b) None (Some code) ≡ Some code
      by_both true true (inl e) = absurd (let clash : true ≡ false = e in cc)
      by_both true true (inr e) = absurd (let clash : true ≡ false = e in cc)
      by_both true false e = refl
      by_both false b e = refl

      by_epoch : (p.epoch ≢ t.pair.epoch) ⊎ (pos 32767 ≤ℤ p.epoch) → cond (int_eq t.pair.epoch p.epoch && int_lt p.epoch last_epoch) None (Some code) ≡ Some code
      by_epoch (inl other) = by_both _ _ (inl (differs t.pair.epoch p.epoch other))
      by_epoch (inr high) = by_both _ _ (inr (is_high p.epoch high))

-- ---- what is added to

opens_none : (c : CoordinatorValue) (id : List ℕ) (pair : ProducerIdAndEpoch) (moment : ℕ) → id ≢ [] → id_record c.transactions id ≡ None → open_transaction c id pair moment ≡ Err errors.InvalidProducerIdMapping
opens_none c id pair moment named none =
    ap (λ (b : Bool). cond b (Err errors.InvalidRequest) (open_found (id_record c.transactions id) pair moment)) (not_empty id named)
    ∙ ap (λ (o : Option Transaction). open_found o pair moment) none

opens_refused : (c : CoordinatorValue) (id : List ℕ) (pair : ProducerIdAndEpoch) (moment : ℕ) (t : Transaction) (code : ErrorCode) → id ≢ [] → id_record c.transactions id ≡ Some t → producer_refusal errors.InvalidProducerEpoch t pair ≡ Some code
    → open_transaction c id pair moment ≡ Err code
opens_refused c id pair moment t code named found refused =
    ap (λ (b : Bool). cond b (Err errors.InvalidRequest) (open_found (id_record c.transactions id) pair moment)) (not_empty id named)
    ∙ ap (λ (o : Option Transaction). open_found o pair moment) found
    ∙ ap (λ (o : Option ErrorCode). open_by o t moment) refused

-- ---- what is ended

ends_none : (c : CoordinatorValue) (form : EndForm) (id : List ℕ) (pair : ProducerIdAndEpoch) (outcome : TransactionResult) → id ≢ [] → id_record c.transactions id ≡ None → end c form id pair outcome ≡ Stays errors.InvalidProducerIdMapping
ends_none c form id pair outcome named none =
    ap (λ (b : Bool). cond b (Stays errors.InvalidRequest) (end_found (id_record c.transactions id) form (fresh_producer_id c) pair outcome)) (not_empty id named)
    ∙ ap (λ (o : Option Transaction). end_found o form (fresh_producer_id c) pair outcome) none

ends_refused : (c : CoordinatorValue) (form : EndForm) (id : List ℕ) (pair : ProducerIdAndEpoch) (outcome : TransactionResult) (t : Transaction) (code : ErrorCode) → id ≢ [] → id_record c.transactions id ≡ Some t → t.kept ≢ Some pair → producer_refusal (other_epoch form) t pair ≡ Some code
    → end c form id pair outcome ≡ Stays code
ends_refused c form id pair outcome t code named found new refused =
    ap (λ (b : Bool). cond b (Stays errors.InvalidRequest) (end_found (id_record c.transactions id) form (fresh_producer_id c) pair outcome)) (not_empty id named)
    ∙ ap (λ (o : Option Transaction). end_found o form (fresh_producer_id c) pair outcome) found
    ∙ ap (λ (b : Bool). cond b (Stays (end_again t.state outcome)) (end_by (producer_refusal (other_epoch form) t pair) form t (fresh_producer_id c) outcome)) (not_again form t pair new)
    ∙ ap (λ (o : Option ErrorCode). end_by o form t (fresh_producer_id c) outcome) refused

is_again_kept : (kept : Option ProducerIdAndEpoch) (pair : ProducerIdAndEpoch) → kept ≡ Some pair → is_kept kept pair ≡ true
is_again_kept kept pair is = ap (λ (o : Option ProducerIdAndEpoch). is_kept o pair) is ∙ ap (λ (b : Bool). b && int_eq pair.epoch pair.epoch) (same_int pair.producer) ∙ same_int pair.epoch

ends_again : (c : CoordinatorValue) (id : List ℕ) (pair : ProducerIdAndEpoch) (outcome : TransactionResult) (t : Transaction) → id ≢ [] → id_record c.transactions id ≡ Some t → t.kept ≡ Some pair → end c Raising id pair outcome ≡ Stays (end_again t.state outcome)
ends_again c id pair outcome t named found kept =
    ap (λ (b : Bool). cond b (Stays errors.InvalidRequest) (end_found (id_record c.transactions id) Raising (fresh_producer_id c) pair outcome)) (not_empty id named)
    ∙ ap (λ (o : Option Transaction). end_found o Raising (fresh_producer_id c) pair outcome) found
    ∙ ap (λ (b : Bool). cond b (Stays (end_again t.state outcome)) (end_by (producer_refusal (other_epoch Raising) t pair) Raising t (fresh_producer_id c) outcome)) (is_again_kept t.kept pair kept)

-- ---- timeouts

above : (a b : ℤ) → b <ℤ a → int_le a b ≡ false
above a b h = grind (arith, ints)

no_timeout : (z greatest : ℤ) → (z ≤ℤ pos 0) ⊎ (greatest <ℤ z) → timeout_within z greatest ≡ None
no_timeout (negsuc n) greatest h = refl
no_timeout (pos zero) greatest h = refl
no_timeout (pos (suc n)) greatest (inl low) = absurd (omega (arith, ints, low))
no_timeout (pos (suc n)) greatest (inr high) = ap (λ (b : Bool). cond (nat_le 1 (suc n) && b) (Some (suc n)) None) (above (pos (suc n)) greatest high) ∙ by_least (nat_le 1 (suc n)) where
  by_least : (a : Bool) → cond (a && false) (Some (suc n)) None ≡ None
  by_least true = refl
  by_least false = refl

timed_out : (c : CoordinatorValue) (id : List ℕ) (timeout greatest : ℤ) → id ≢ [] → (timeout ≤ℤ pos 0) ⊎ (greatest <ℤ timeout) → init c id timeout greatest ≡ Stays errors.InvalidTransactionTimeout
timed_out c id timeout greatest named h =
    ap (λ (b : Bool). cond b (Stays errors.InvalidRequest) (init_for (timeout_within timeout greatest) (id_record c.transactions id) id (fresh_producer_id c))) (not_empty id named)
    ∙ ap (λ (o : Option ℕ). init_for o (id_record c.transactions id) id (fresh_producer_id c)) (no_timeout timeout greatest h)

-- ---- the table

empty_id : EmptyId init add_partitions add_group end
empty_id = record {
  inits = λ c timeout greatest. told (pos 42) c _ errors.InvalidRequest refl numbered_42;
  adds = λ c pair moment p ps. told (pos 42) c _ errors.InvalidRequest refl numbered_42;
  groups = λ c pair moment g. told (pos 42) c _ errors.InvalidRequest refl numbered_42;
  ends = λ c form pair outcome. told (pos 42) c _ errors.InvalidRequest refl numbered_42;
}

unknown_id : UnknownId add_partitions add_group end
unknown_id = record {
  adds = λ c id pair moment p ps named none. told (pos 49) c _ errors.InvalidProducerIdMapping (ap (growth_transition (with_partitions (p ∷ ps))) (opens_none c id pair moment named none)) numbered_49;
  groups = λ c id pair moment g named none. told (pos 49) c _ errors.InvalidProducerIdMapping (ap (growth_transition (with_group g)) (opens_none c id pair moment named none)) numbered_49;
  ends = λ c form id pair outcome named none. told (pos 49) c _ errors.InvalidProducerIdMapping (ends_none c form id pair outcome named none) numbered_49;
}

of_other_producer : OtherProducer add_partitions add_group end
of_other_producer = record {
  adds = λ c id pair moment p ps t named found other.
      told (pos 49) c _ errors.InvalidProducerIdMapping (ap (growth_transition (with_partitions (p ∷ ps))) (opens_refused c id pair moment t _ named found (other_producer errors.InvalidProducerEpoch t pair other))) numbered_49;
  groups = λ c id pair moment g t named found other.
      told (pos 49) c _ errors.InvalidProducerIdMapping (ap (growth_transition (with_group g)) (opens_refused c id pair moment t _ named found (other_producer errors.InvalidProducerEpoch t pair other))) numbered_49;
  ends = λ c form id pair outcome t named found new other.
      told (pos 49) c _ errors.InvalidProducerIdMapping (ends_refused c form id pair outcome t _ named found new (other_producer (other_epoch form) t pair other)) numbered_49;
}

of_other_epoch : OtherEpoch add_partitions add_group end
of_other_epoch = record {
  adds = λ c id pair moment p ps t named found other.
      told (pos 47) c _ errors.InvalidProducerEpoch (ap (growth_transition (with_partitions (p ∷ ps))) (opens_refused c id pair moment t _ named found (other_epoch_refused errors.InvalidProducerEpoch t pair other))) numbered_47;
  groups = λ c id pair moment g t named found other.
      told (pos 47) c _ errors.InvalidProducerEpoch (ap (growth_transition (with_group g)) (opens_refused c id pair moment t _ named found (other_epoch_refused errors.InvalidProducerEpoch t pair other))) numbered_47;
  ends = λ c form id pair outcome t named found new other.
      told (epoch_number form) c _ (other_epoch form) (ends_refused c form id pair outcome t _ named found new (other_epoch_refused (other_epoch form) t pair other)) (epoch_numbered form);
}

pub turns_away : TurnsAwayByTable init add_partitions add_group end
turns_away = record {
  empty = empty_id;
  unknown = unknown_id;
  producer = of_other_producer;
  epoch = of_other_epoch;
  timeout = λ c id timeout greatest named h. told (pos 50) c _ errors.InvalidTransactionTimeout (timed_out c id timeout greatest named h) numbered_50;
  nothing = λ c id pair moment. told (pos 0) c _ errors.None refl numbered_none;
  again = λ c id pair outcome t named found kept. told (again_number t.state outcome) c _ (end_again t.state outcome) (ends_again c id pair outcome t named found kept) (again_numbered t.state outcome);
}
