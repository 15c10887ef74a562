-- What a transactional id owes stays as it was where no part that asks about it is granted.
use Rattle.std.proofs.Common.{◌≡◌, ℕ, ℤ, Bool, true, false, cond, List, [], ◌∷◌, ◌++◌, map, Option, Some, None, Result, Ok, Err, refl, sym, ap, ◌∙◌}
use Rattle.std.specs.List.{AllByRecursion}
use Rattle.std.specs.Str.{bytes_eq}
use Rattle.std.proofs.lemmas.Slice.Eq.{bytes_eq-Decides}
use Rattle.std.proofs.lemmas.List.{append-nil}
use Rattle.std.proofs.lemmas.List.Elements.{filter-append}
use Rattle.wire_types.specs.declared.error_code.ErrorCode.{ErrorCode}
use Rattle.wire_types.specs.declared.error_code.ErrorCode.TheVariants as codes
use Rattle.txn_coordinator.specs.declared.producer_id.ProducerIdAndEpoch.{ProducerIdAndEpoch}
use Rattle.txn_coordinator.specs.declared.target.Target.{Target}
use Rattle.txn_coordinator.specs.declared.target.TopicPartition.{TopicPartition}
use Rattle.txn_coordinator.specs.declared.transaction.TransactionState.{TransactionState}
use Rattle.txn_coordinator.specs.declared.transaction.TransactionState.TheVariants.{Empty, Ongoing, PrepareCommit, PrepareAbort, CompleteCommit, CompleteAbort}
use Rattle.txn_coordinator.specs.declared.transaction.Transaction.{Transaction}
use Rattle.record_batch.specs.declared.transaction_result.TransactionResult.{TransactionResult}
use Rattle.record_batch.specs.declared.transaction_result.TransactionResult.TheVariants.{Commit, Abort}
use Rattle.txn_coordinator.specs.declared.marker.PendingMarker.{PendingMarker}
use Rattle.txn_coordinator.specs.declared.ending.EndForm.{EndForm}
use Rattle.txn_coordinator.specs.declared.ending.EndForm.TheVariants.{Plain, Fencing, Raising}
use Rattle.txn_coordinator.specs.Transition.{Transition, Stays, Puts}
use Rattle.txn_coordinator.specs.Words.{is_empty, targets}
use Rattle.txn_coordinator.specs.Preparing.{marker_for, producer_refusal}
use Rattle.txn_coordinator.specs.Coordinator.{CoordinatorValue, id_record, fresh_producer_id, apply_transition}
use Rattle.txn_coordinator.specs.InitProducerId.{timeout_within, init_in, init_for, init}
use Rattle.txn_coordinator.specs.Adding.{open_transaction, growth_transition, with_partitions, with_group, add_partitions, add_group}
use Rattle.txn_coordinator.specs.EndTxn.{other_epoch, end_ongoing, end_closed, end_in, is_again, end_again, end_by, end_found, end}
use Rattle.txn_coordinator.proofs.Table.{recorded_id}
use Rattle.tenant_laws.specs.Laws.{pending_markers_of}

-- ---- markers of one id

abbrev pub AreOf : List ℕ → List PendingMarker → Type 0
AreOf id owed = AllByRecursion (λ (m : PendingMarker). m.id ≡ id) owed

markers_of : (id : List ℕ) (pair : ProducerIdAndEpoch) (o : TransactionResult) (own : List ℕ) → own ≡ id → (ts : List Target) → AreOf id (map (marker_for own pair o) ts)
markers_of id pair o own is [] = tt
markers_of id pair o own is (t ∷ ts) = (is, markers_of id pair o own is ts)

none_other : (id other : List ℕ) (owed : List PendingMarker) → AreOf id owed → (other ≡ id → ⊥) → pending_markers_of other owed ≡ []
none_other id other [] all differ = refl
none_other id other (m ∷ ms) all differ = by_name (bytes_eq m.id other) refl (none_other id other ms all.1 differ) where
  by_name : (b : Bool) → bytes_eq m.id other ≡ b → pending_markers_of other ms ≡ [] → cond b (m ∷ pending_markers_of other ms) (pending_markers_of other ms) ≡ []
  by_name true e rest = absurd (differ (sym ((bytes_eq-Decides m.id other).0 e) ∙ all.0))
  by_name false e rest = rest

-- ---- a call owes markers of its id alone

pub Owes : List ℕ → Transition → Type 0
Owes id (Stays code) = Unit {0}
Owes id (Puts code t given owed) = AreOf id owed

pub other_owed : (c : CoordinatorValue) (id other : List ℕ) (transition : Transition) → Owes id transition → (other ≡ id → ⊥) → pending_markers_of other (apply_transition c transition).warrants ≡ pending_markers_of other c.warrants
unfolding Owes
other_owed c id other (Stays code) owes differ = refl
other_owed c id other (Puts code t given owed) owes differ =
    filter-append (λ (m : PendingMarker). bytes_eq m.id other) c.warrants owed
    ∙ ap (λ (ms : List PendingMarker). pending_markers_of other c.warrants ++ ms) (none_other id other owed owes differ) ∙ append-nil (pending_markers_of other c.warrants)

inited : (p : TransactionState) (t : Transaction) (next : ℤ) (timeout : ℕ) (id : List ℕ) → t.id ≡ id → Owes id (init_in p t next timeout)
unfolding Owes
inited Empty t next timeout id own = tt
inited CompleteCommit t next timeout id own = tt
inited CompleteAbort t next timeout id own = tt
inited Ongoing t next timeout id own = markers_of id _ Abort t.id own (targets t)
inited PrepareCommit t next timeout id own = tt
inited PrepareAbort t next timeout id own = tt

pub init_owes : (c : CoordinatorValue) (id : List ℕ) (timeout greatest : ℤ) → Owes id (init c id timeout greatest)
unfolding Owes
init_owes c id timeout greatest = by_empty (is_empty id) where
  by_found : (o : Option ℕ) (found : Option Transaction) → id_record c.transactions id ≡ found → Owes id (init_for o found id (fresh_producer_id c))
  by_found None found is = tt
  by_found (Some n) None is = tt
  by_found (Some n) (Some t) is = inited t.state t (fresh_producer_id c) n id (recorded_id c.transactions id t is)

  by_empty : (b : Bool) → Owes id (cond b (Stays codes.InvalidRequest) (init_for (timeout_within timeout greatest) (id_record c.transactions id) id (fresh_producer_id c)))
  by_empty true = tt
  by_empty false = by_found (timeout_within timeout greatest) (id_record c.transactions id) refl

ongoing_owes : (form : EndForm) (t : Transaction) (next : ℤ) (o : TransactionResult) (id : List ℕ) → t.id ≡ id → Owes id (end_ongoing form t next o)
unfolding Owes
ongoing_owes Plain t next o id own = markers_of id _ o t.id own (targets t)
ongoing_owes Fencing t next o id own = markers_of id _ o t.id own (targets t)
ongoing_owes Raising t next o id own = markers_of id _ o t.id own (targets t)

closed_owes : (form : EndForm) (t : Transaction) (next : ℤ) (o : TransactionResult) (code : ErrorCode) (id : List ℕ) → Owes id (end_closed form t next o code)
unfolding Owes
closed_owes Plain t next o code id = tt
closed_owes Fencing t next o code id = tt
closed_owes Raising t next Commit code id = tt
closed_owes Raising t next Abort code id = tt

ended_owes : (p : TransactionState) (form : EndForm) (t : Transaction) (next : ℤ) (o : TransactionResult) (id : List ℕ) → t.id ≡ id → Owes id (end_in p form t next o)
unfolding Owes
ended_owes Ongoing form t next o id own = ongoing_owes form t next o id own
ended_owes PrepareCommit form t next Commit id own = tt
ended_owes PrepareCommit form t next Abort id own = tt
ended_owes PrepareAbort form t next Commit id own = tt
ended_owes PrepareAbort form t next Abort id own = tt
ended_owes Empty form t next o id own = closed_owes form t next o codes.InvalidTxnState id
ended_owes CompleteCommit form t next Commit id own = closed_owes form t next Commit codes.None id
ended_owes CompleteCommit form t next Abort id own = closed_owes form t next Abort codes.InvalidTxnState id
ended_owes CompleteAbort form t next Commit id own = closed_owes form t next Commit codes.InvalidTxnState id
ended_owes CompleteAbort form t next Abort id own = closed_owes form t next Abort codes.None id

pub end_owes : (c : CoordinatorValue) (form : EndForm) (id : List ℕ) (pair : ProducerIdAndEpoch) (o : TransactionResult) → Owes id (end c form id pair o)
unfolding Owes
end_owes c form id pair o = by_empty (is_empty id) where
  by_refusal : (x : Option ErrorCode) (t : Transaction) → t.id ≡ id → Owes id (end_by x form t (fresh_producer_id c) o)
  by_refusal (Some code) t own = tt
  by_refusal None t own = ended_owes t.state form t (fresh_producer_id c) o id own

  by_again : (b : Bool) (t : Transaction) → t.id ≡ id → Owes id (cond b (Stays (end_again t.state o)) (end_by (producer_refusal (other_epoch form) t pair) form t (fresh_producer_id c) o))
  by_again true t own = tt
  by_again false t own = by_refusal (producer_refusal (other_epoch form) t pair) t own

  by_found : (found : Option Transaction) → id_record c.transactions id ≡ found → Owes id (end_found found form (fresh_producer_id c) pair o)
  by_found None is = tt
  by_found (Some t) is = by_again (is_again form t pair) t (recorded_id c.transactions id t is)

  by_empty : (b : Bool) → Owes id (cond b (Stays codes.InvalidRequest) (end_found (id_record c.transactions id) form (fresh_producer_id c) pair o))
  by_empty true = tt
  by_empty false = by_found (id_record c.transactions id) refl

-- what adds to a transaction owes nothing
grown_owes : (id : List ℕ) (grow : Transaction → Transaction) (r : Result Transaction ErrorCode) → Owes id (growth_transition grow r)
unfolding Owes
grown_owes id grow (Ok t) = tt
grown_owes id grow (Err code) = tt

pub add_owes : (c : CoordinatorValue) (id : List ℕ) (pair : ProducerIdAndEpoch) (moment : ℕ) (ps : List TopicPartition) → Owes id (add_partitions c id pair moment ps)
unfolding Owes
add_owes c id pair moment [] = tt
add_owes c id pair moment (p ∷ ps) = grown_owes id (with_partitions (p ∷ ps)) (open_transaction c id pair moment)

pub add_group_owes : (c : CoordinatorValue) (id : List ℕ) (pair : ProducerIdAndEpoch) (moment : ℕ) (group : List ℕ) → Owes id (add_group c id pair moment group)
add_group_owes c id pair moment group = grown_owes id (with_group group) (open_transaction c id pair moment)
