-- What the adding of partitions and groups comes to.
use Rattle.std.proofs.Common.{◌≡◌, ℕ, List, Option, Some, None, Result, Ok, Err, Bool, true, false, cond, refl, sym, ap}
use Rattle.wire_types.specs.declared.error_code.ErrorCode.{ErrorCode}
use Rattle.wire_types.specs.declared.error_code.ErrorCode.TheVariants as codes
use Rattle.txn_coordinator.specs.declared.producer_id.ProducerIdAndEpoch.{ProducerIdAndEpoch}
use Rattle.txn_coordinator.specs.declared.target.TopicPartition.{TopicPartition}
use Rattle.txn_coordinator.specs.declared.transaction.TransactionState.{TransactionState}
use Rattle.txn_coordinator.specs.declared.transaction.TransactionState.TheVariants.{Empty, Ongoing, PrepareCommit, PrepareAbort, CompleteCommit, CompleteAbort}
use Rattle.txn_coordinator.specs.declared.transaction.Transaction.{Transaction}
use Rattle.txn_coordinator.specs.Words.{is_ongoing}
use Rattle.txn_coordinator.specs.Coordinator.{transition_code}
use Rattle.txn_coordinator.specs.Preparing.{producer_refusal}
use Rattle.txn_coordinator.specs.Adding.{with_partitions, with_group, begun_transaction, open_in, open_by, open_found, refusal_of, opened_transaction, growth_transition, record_after}

-- a call that is refused changes nothing
pub refused : (grow : Transaction → Transaction) (x : Result Transaction ErrorCode) (t : Transaction) (code : ErrorCode) → Some code ≡ refusal_of x
    → (t ≡ record_after (growth_transition grow x) t) × (code ≡ transition_code (growth_transition grow x))
refused grow (Ok u) t code h = absurd (let clash : Some code ≡ None = h in cc)
refused grow (Err c) t code h = (refl, cc)

-- one that isn't refused finds the transaction open
pub is_opened : (t : Transaction) (pair : ProducerIdAndEpoch) (moment : ℕ) → None ≡ refusal_of (open_found (Some t) pair moment) → open_found (Some t) pair moment ≡ Ok (opened_transaction t moment)
is_opened t pair moment h = by_refusal (producer_refusal codes.InvalidProducerEpoch t pair) h where
  at_state : TransactionState → Transaction
  at_state p = cond (is_ongoing p) (record t { kept = None }) (begun_transaction t moment)

  by_state : (p : TransactionState) → p ≡ t.state → None ≡ refusal_of (open_in p t moment) → open_in p t moment ≡ Ok (opened_transaction t moment)
  by_state Ongoing is k = ap (λ (p : TransactionState). Ok (at_state p)) is
  by_state Empty is k = ap (λ (p : TransactionState). Ok (at_state p)) is
  by_state CompleteCommit is k = ap (λ (p : TransactionState). Ok (at_state p)) is
  by_state CompleteAbort is k = ap (λ (p : TransactionState). Ok (at_state p)) is
  by_state PrepareCommit is k = absurd (let clash : None ≡ Some codes.ConcurrentTransactions = k in cc)
  by_state PrepareAbort is k = absurd (let clash : None ≡ Some codes.ConcurrentTransactions = k in cc)

  by_refusal : (r : Option ErrorCode) → None ≡ refusal_of (open_by r t moment) → open_by r t moment ≡ Ok (opened_transaction t moment)
  by_refusal (Some code) k = absurd (let clash : None ≡ Some code = k in cc)
  by_refusal None k = by_state t.state refl k

-- it doesn't matter whether it is opened before or after the adding
pub opened_with_partitions : (ps : List TopicPartition) (t : Transaction) (moment : ℕ) → opened_transaction (with_partitions ps t) moment ≡ with_partitions ps (opened_transaction t moment)
opened_with_partitions ps t moment = by_test (is_ongoing t.state) where
  by_test : (b : Bool) → cond b (record (with_partitions ps t) { kept = None }) (begun_transaction (with_partitions ps t) moment) ≡ with_partitions ps (cond b (record t { kept = None }) (begun_transaction t moment))
  by_test true = refl
  by_test false = refl

pub opened_with_group : (group : List ℕ) (t : Transaction) (moment : ℕ) → opened_transaction (with_group group t) moment ≡ with_group group (opened_transaction t moment)
opened_with_group group t moment = by_test (is_ongoing t.state) where
  by_test : (b : Bool) → cond b (record (with_group group t) { kept = None }) (begun_transaction (with_group group t) moment) ≡ with_group group (cond b (record t { kept = None }) (begun_transaction t moment))
  by_test true = refl
  by_test false = refl

-- what is added, in the words of a call
pub added : (grow : Transaction → Transaction) (t : Transaction) (pair : ProducerIdAndEpoch) (moment : ℕ) → None ≡ refusal_of (open_found (Some t) pair moment)
    → (grow (opened_transaction t moment) ≡ record_after (growth_transition grow (open_found (Some t) pair moment)) t) × (codes.None ≡ transition_code (growth_transition grow (open_found (Some t) pair moment)))
added grow t pair moment h =
    let is = sym (is_opened t pair moment h) in
    (ap (λ (x : Result Transaction ErrorCode). record_after (growth_transition grow x) t) is, ap (λ (x : Result Transaction ErrorCode). transition_code (growth_transition grow x)) is)

-- the record keeps its id
pub added_id : (grow : Transaction → Transaction) (t : Transaction) (pair : ProducerIdAndEpoch) (moment : ℕ) → ((u : Transaction) → (grow u).id ≡ u.id) → (record_after (growth_transition grow (open_found (Some t) pair moment)) t).id ≡ t.id
added_id grow t pair moment keeps = by_refusal (producer_refusal codes.InvalidProducerEpoch t pair) where
  by_state : (p : TransactionState) → (record_after (growth_transition grow (open_in p t moment)) t).id ≡ t.id
  by_state Ongoing = keeps (record t { kept = None })
  by_state Empty = keeps (begun_transaction t moment)
  by_state CompleteCommit = keeps (begun_transaction t moment)
  by_state CompleteAbort = keeps (begun_transaction t moment)
  by_state PrepareCommit = refl
  by_state PrepareAbort = refl

  by_refusal : (r : Option ErrorCode) → (record_after (growth_transition grow (open_by r t moment)) t).id ≡ t.id
  by_refusal (Some code) = refl
  by_refusal None = by_state t.state
