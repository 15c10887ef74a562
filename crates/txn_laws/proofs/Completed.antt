-- A transaction that waits is complete once its last marker is written.
use Rattle.std.proofs.Common.{◌≡◌, ℕ, ◌+◌, ◌<◌, ◌≤◌, List, [], ◌∷◌, ◌++◌, Option, Some, None, Bool, true, false, cond, refl, sym, subst, ap, ◌∙◌, inl, inr, ◌⊎◌, arith}
use Rattle.std.specs.Prelude.{◌||◌}
use Rattle.std.specs.Str.{bytes_eq}
use Rattle.txn_coordinator.specs.declared.transaction.Transaction.{Transaction}
use Rattle.record_batch.specs.declared.transaction_result.TransactionResult.{TransactionResult}
use Rattle.txn_coordinator.specs.declared.marker.PendingMarker.{PendingMarker}
use Rattle.txn_coordinator.specs.Transition.{Transition, Stays, Puts}
use Rattle.txn_coordinator.specs.Words.{prepared_phase, completed_phase}
use Rattle.txn_coordinator.specs.Coordinator.{CoordinatorValue, has_id, id_record, records_with, owner}
use Rattle.txn_coordinator.specs.InitProducerId.{init}
use Rattle.txn_coordinator.specs.Adding.{add_partitions, add_group}
use Rattle.txn_coordinator.specs.EndTxn.{end}
use Rattle.txn_coordinator.specs.Holding.{holding_code}
use Rattle.txn_coordinator.specs.Warrants.{has_pending_marker, completed_transaction, with_completed}
use Rattle.txn_coordinator.proofs.Table.{recorded_id}
use Rattle.txn_laws.specs.Small.{World, Move, expire_transition, is_no_error, is_free, with_transition, world_after_mark, world_after_move, mark_count, count_of_marks}
use Rattle.txn_laws.specs.Small.Entry.{Data}
use Rattle.txn_laws.specs.Small.Move.{Init, Give, AddPartitions, AddGroup, End, Expire, Moment, Store, Send, Plain, Mark}
use Rattle.txn_laws.specs.Sound.{Each, IsSound, IsPending}
use Rattle.txn_laws.specs.Laws.{InSound, up_to_last, IsCompletedBy, CompletedLaw}
use Rattle.txn_laws.proofs.Base.{same_is, is_same, put_at_test}
use Rattle.txn_laws.proofs.Turns.{IsTurned, IsOwedBy}
use Rattle.txn_laws.proofs.Calls.{same_outcome, init_transition, partitions_transition, group_transition, end_transition, expire_one_transition}
use Rattle.txn_laws.proofs.Moves.{move_sound, written_same}
use Rattle.txn_laws.proofs.Complete.{kind_of}

-- ---- how many are owed up to the last one

-- markers of another id at the end
owed_by_other : (own id : List ℕ) (ws : List PendingMarker) → (own ≡ id → ⊥) → Each (λ (x : PendingMarker). x.id ≡ own) ws → has_pending_marker ws id ≡ false
owed_by_other own id [] other h = refl
owed_by_other own id (x ∷ xs) other h = by_same (bytes_eq x.id id) refl (owed_by_other own id xs other h.1) where
  by_same : (b : Bool) → bytes_eq x.id id ≡ b → has_pending_marker xs id ≡ false → (b || has_pending_marker xs id) ≡ false
  by_same true e none = absurd (other (sym h.0 ∙ same_is x.id id e))
  by_same false e none = none

owes_as_before : (xs ys : List PendingMarker) (id : List ℕ) → has_pending_marker ys id ≡ false → has_pending_marker (xs ++ ys) id ≡ has_pending_marker xs id
owes_as_before [] ys id none = none
owes_as_before (x ∷ xs) ys id none = ap (λ b. bytes_eq x.id id || b) (owes_as_before xs ys id none)

last_of_none : (ws : List PendingMarker) (id : List ℕ) → has_pending_marker ws id ≡ false → up_to_last ws id ≡ 0
last_of_none [] id none = refl
last_of_none (x ∷ xs) id none = ap (λ b. cond b (1 + up_to_last xs id) 0) none

last_as_before : (xs ys : List PendingMarker) (id : List ℕ) → has_pending_marker ys id ≡ false → up_to_last (xs ++ ys) id ≡ up_to_last xs id
last_as_before [] ys id none = last_of_none ys id none
last_as_before (x ∷ xs) ys id none =
    ap (λ b. cond b (1 + up_to_last (xs ++ ys) id) 0) (owes_as_before (x ∷ xs) ys id none) ∙ ap (λ n. cond (has_pending_marker (x ∷ xs) id) (1 + n) 0) (last_as_before xs ys id none)

pub one_more : (x : PendingMarker) (xs : List PendingMarker) (id : List ℕ) → has_pending_marker (x ∷ xs) id ≡ true → up_to_last (x ∷ xs) id ≡ 1 + up_to_last xs id
one_more x xs id some = ap (λ b. cond b (1 + up_to_last xs id) 0) some

pub some_owed : (ws : List PendingMarker) (id : List ℕ) → has_pending_marker ws id ≡ true → 0 < up_to_last ws id
some_owed [] id h = absurd (let clash : false ≡ true = h in cc)
some_owed (x ∷ xs) id h = let more = one_more x xs id h in omega arith

-- ---- a move that is no mark leaves it waiting

pub record StillWaits (w v : World) (id : List ℕ) (t : Transaction) : Type 0 where
  pub found : id_record v.coordinator.transactions id ≡ Some t
  pub last : up_to_last v.coordinator.warrants id ≡ up_to_last w.coordinator.warrants id

turned_waits : (w : World) (transition : Transition) → IsTurned w.coordinator transition → (id : List ℕ) (t : Transaction) (o : TransactionResult) → id_record w.coordinator.transactions id ≡ Some t → t.state ≡ prepared_phase o → StillWaits w (with_transition w transition) id t
turned_waits w (Stays code) h id t o found waits = record { found = found; last = refl }
turned_waits w (Puts code r gs ws) h id t o found waits = by_same (has_id id r) refl where
  by_same : (b : Bool) → has_id id r ≡ b → StillWaits w (with_transition w (Puts code r gs ws)) id t
  by_same true e = absurd (h.free t (ap (id_record w.coordinator.transactions) (same_is r.id id e) ∙ found) o waits)
  by_same false e = record {
    found = put_at_test w.coordinator.transactions r id false e ∙ found;
    last = last_as_before w.coordinator.warrants ws id (owed_by_other r.id id ws (λ same. let yes : has_id id r ≡ true = is_same r.id id same in let clash : true ≡ false = sym yes ∙ e in cc) (each_own ws h.owed));
  } where
    each_own : (xs : List PendingMarker) → Each (IsOwedBy (w.coordinator.given ++ gs) r) xs → Each (λ (x : PendingMarker). x.id ≡ r.id) xs
    each_own [] owed = tt
    each_own (x ∷ xs) owed = (own_of owed.0, each_own xs owed.1) where
      own_of : IsOwedBy (w.coordinator.given ++ gs) r x → x.id ≡ r.id
      own_of by = by.own

written_waits : (w v : World) (id : List ℕ) (t : Transaction) → v.coordinator ≡ w.coordinator → id_record w.coordinator.transactions id ≡ Some t → StillWaits w v id t
written_waits w v id t same found = record {
  found = ap (λ (c : CoordinatorValue). id_record c.transactions id) same ∙ found;
  last = ap (λ (c : CoordinatorValue). up_to_last c.warrants id) same;
}

pub move_waits : (w : World) (m : Move) → IsSound w → mark_count m ≡ 0 → (id : List ℕ) (t : Transaction) (o : TransactionResult) → id_record w.coordinator.transactions id ≡ Some t → t.state ≡ prepared_phase o → StillWaits w (world_after_move w m) id t
move_waits w (Init own timeout greatest) s e id t o found waits = turned_waits w (init w.coordinator own timeout greatest) (init_transition w own timeout greatest s) id t o found waits
move_waits w Give s e id t o found waits = record { found = found; last = refl }
move_waits w (AddPartitions own pair partitions) s e id t o found waits = turned_waits w (add_partitions w.coordinator own pair w.moment partitions) (partitions_transition w own pair partitions s) id t o found waits
move_waits w (AddGroup own pair group) s e id t o found waits = turned_waits w (add_group w.coordinator own pair w.moment group) (group_transition w own pair group s) id t o found waits
move_waits w (End form own pair outcome) s e id t o found waits = turned_waits w (end w.coordinator form own pair outcome) (end_transition w form own pair outcome s) id t o found waits
move_waits w (Expire own) s e id t o found waits = turned_waits w (expire_transition (id_record w.coordinator.transactions own) w.moment) (expire_one_transition w own s (id_record w.coordinator.transactions own) refl) id t o found waits
move_waits w (Moment moment) s e id t o found waits = record { found = found; last = refl }
move_waits w (Store own pair target) s e id t o found waits = written_waits w _ id t (written_same (is_no_error (holding_code w.coordinator own pair target)) w target (Data pair)) found
move_waits w (Send pair target) s e id t o found waits = written_waits w _ id t (written_same (is_free (owner w.coordinator pair.producer)) w target (Data pair)) found
move_waits w (Plain target) s e id t o found waits = record { found = found; last = refl }
move_waits w Mark s e id t o found waits = absurd (omega arith)

-- ---- a mark

-- it completes the transaction, or the transaction waits for one marker less
abbrev pub WaitsOrEnds : World → List PendingMarker → World → List ℕ → Transaction → TransactionResult → Type 0
WaitsOrEnds w xs v id t o = ((id_record v.coordinator.transactions id ≡ Some t) × (v.coordinator.warrants ≡ xs)) ⊎ ((u : Transaction) × (id_record v.coordinator.transactions id ≡ Some u) × (u.state ≡ completed_phase o))

pub mark_waits : (w : World) (x : PendingMarker) (xs : List PendingMarker) → IsPending w.coordinator x → (id : List ℕ) (t : Transaction) (o : TransactionResult) → id_record w.coordinator.transactions id ≡ Some t → t.state ≡ prepared_phase o → WaitsOrEnds w xs (world_after_mark (x ∷ xs) w) id t o
mark_waits w x xs owed id t o found waits = by_owes (has_pending_marker xs x.id) where
  ts : List Transaction
  ts = w.coordinator.transactions

  at : List Transaction → World
  at us = record { coordinator = record { transactions = us; given = w.coordinator.given; warrants = xs }; entries = (world_after_mark (x ∷ xs) w).entries; moment = w.moment }

  by_same : (y : Transaction) → id_record ts x.id ≡ Some y → (b : Bool) → has_id id y ≡ b → WaitsOrEnds w xs (at (records_with ts (completed_transaction x.outcome y))) id t o
  by_same y found_y false e = inl (put_at_test ts (completed_transaction x.outcome y) id false e ∙ found, refl)
  by_same y found_y true e =
      let own : x.id ≡ id = sym (recorded_id ts x.id y found_y) ∙ same_is y.id id e in
      let outcome : x.outcome ≡ o = same_outcome x.outcome o (sym (owed.waits t (ap (id_record ts) own ∙ found)) ∙ waits) in
      inr (completed_transaction x.outcome y, put_at_test ts (completed_transaction x.outcome y) id true e, ap completed_phase outcome)

  by_found : (o' : Option Transaction) → id_record ts x.id ≡ o' → WaitsOrEnds w xs (at (with_completed x.outcome o' ts)) id t o
  by_found None e = inl (found, refl)
  by_found (Some y) e = by_same y e (has_id id y) refl

  by_owes : (b : Bool) → WaitsOrEnds w xs (at (cond b ts (with_completed x.outcome (id_record ts x.id) ts))) id t o
  by_owes true = inl (found, refl)
  by_owes false = by_found (id_record ts x.id) refl

-- ---- the induction over moves

abbrev Completes : List Move → World → Type 0
Completes ms w = (id : List ℕ) (t : Transaction) (o : TransactionResult) → id_record w.coordinator.transactions id ≡ Some t → t.state ≡ prepared_phase o → up_to_last w.coordinator.warrants id ≤ count_of_marks ms → IsCompletedBy w ms id o

-- after one move more
later : (w : World) (m : Move) (ms : List Move) (id : List ℕ) (o : TransactionResult) → IsCompletedBy (world_after_move w m) ms id o → IsCompletedBy w (m ∷ ms) id o
later w m ms id o by = record { first = m ∷ by.first; rest = by.rest; parts = ap (λ l. m ∷ l) by.parts; transaction = by.transaction; found = by.found; is_complete = by.is_complete }

at_mark : (w : World) (ms : List Move) → IsSound w → Completes ms (world_after_move w Mark) → (ws : List PendingMarker) → w.coordinator.warrants ≡ ws → Completes (Mark ∷ ms) w
at_mark w ms s ih [] at id t o found waits enough =
    absurd (let some : has_pending_marker [] id ≡ true = ap (λ ws. has_pending_marker ws id) (sym at) ∙ s.owing id t o found waits in let clash : false ≡ true = some in cc)
at_mark w ms s ih (x ∷ xs) at id t o found waits enough = by_mark (mark_waits w x xs (front_of (subst (Each (IsPending w.coordinator)) at s.owed)) id t o found waits) where
  front_of : Each (IsPending w.coordinator) (x ∷ xs) → IsPending w.coordinator x
  front_of owed = owed.0

  same : world_after_move w Mark ≡ world_after_mark (x ∷ xs) w
  same = ap (λ ws. world_after_mark ws w) at

  by_mark : WaitsOrEnds w xs (world_after_mark (x ∷ xs) w) id t o → IsCompletedBy w (Mark ∷ ms) id o
  by_mark (inl h) =
      let here : id_record (world_after_move w Mark).coordinator.transactions id ≡ Some t = ap (λ (v : World). id_record v.coordinator.transactions id) same ∙ h.0 in
      let left : (world_after_move w Mark).coordinator.warrants ≡ xs = ap (λ (v : World). v.coordinator.warrants) same ∙ h.1 in
      let some : has_pending_marker (x ∷ xs) id ≡ true = ap (λ ws. has_pending_marker ws id) (sym at) ∙ s.owing id t o found waits in
      let all : up_to_last w.coordinator.warrants id ≡ 1 + up_to_last xs id = ap (λ ws. up_to_last ws id) at ∙ one_more x xs id some in
      let less : up_to_last (world_after_move w Mark).coordinator.warrants id ≡ up_to_last xs id = ap (λ ws. up_to_last ws id) left in
      later w Mark ms id o (ih id t o here waits (omega arith))
  by_mark (inr (u, found_u, is_complete)) = record {
    first = Mark ∷ [];
    rest = ms;
    parts = refl;
    transaction = u;
    found = ap (λ (v : World). id_record v.coordinator.transactions id) same ∙ found_u;
    is_complete = is_complete;
  }

completes : (ms : List Move) (w : World) → IsSound w → Completes ms w
completes [] w s = λ id t o found waits enough. let some = some_owed w.coordinator.warrants id (s.owing id t o found waits) in absurd (omega arith)
completes (m ∷ ms) w s = by_kind (kind_of m) (completes ms (world_after_move w m) (move_sound w m s)) where
  quiet : mark_count m ≡ 0 → Completes ms (world_after_move w m) → Completes (m ∷ ms) w
  quiet no_mark ih id t o found waits enough =
      let still = move_waits w m s no_mark id t o found waits in
      let last = still.last in
      later w m ms id o (ih id t o still.found waits (omega arith))

  by_kind : (m ≡ Mark) ⊎ (mark_count m ≡ 0) → Completes ms (world_after_move w m) → Completes (m ∷ ms) w
  by_kind (inr no_mark) ih = quiet no_mark ih
  by_kind (inl is) ih = subst (λ m. Completes (m ∷ ms) w) (sym is) (at_mark w ms s (subst (λ m. Completes ms (world_after_move w m)) is ih) w.coordinator.warrants refl)

pub completed_law : InSound CompletedLaw
completed_law w s id t o after found waits enough = completes after w s id t o found waits enough
