-- A transaction that is prepared is owed its outcome at each of its targets, and gets it.
use Rattle.std.proofs.Common.{◌≡◌, ℕ, ℤ, ◌<◌, ◌≤◌, List, [], ◌∷◌, ◌++◌, length, map, Option, Some, None, Bool, true, false, cond, refl, sym, subst, ap, ◌∙◌, append-nil, append_assoc, arith}
use Rattle.wire_types.specs.declared.error_code.ErrorCode.{ErrorCode}
use Rattle.txn_coordinator.specs.declared.producer_id.ProducerIdAndEpoch.{ProducerIdAndEpoch}
use Rattle.txn_coordinator.specs.declared.target.Target.{Target}
use Rattle.txn_coordinator.specs.declared.transaction.Transaction.{Transaction}
use Rattle.txn_coordinator.specs.declared.transaction.TransactionState.TheVariants.{Ongoing}
use Rattle.record_batch.specs.declared.transaction_result.TransactionResult.{TransactionResult}
use Rattle.txn_coordinator.specs.declared.marker.PendingMarker.{PendingMarker}
use Rattle.txn_coordinator.specs.Transition.{Transition, Stays, Puts}
use Rattle.txn_coordinator.specs.Words.{prepared_phase, targets}
use Rattle.txn_coordinator.specs.Coordinator.{CoordinatorValue, has_id, id_record, records_with, owner, apply_transition}
use Rattle.txn_coordinator.specs.Preparing.{marker_for, markers}
use Rattle.txn_coordinator.specs.InitProducerId.{init}
use Rattle.txn_coordinator.specs.Adding.{add_partitions, add_group}
use Rattle.txn_coordinator.specs.EndTxn.{end}
use Rattle.txn_coordinator.specs.Holding.{holding_code}
use Rattle.txn_coordinator.specs.Warrants.{has_pending_marker, completed_transaction, with_completed}
use Rattle.txn_coordinator.proofs.Table.{recorded_id}
use Rattle.txn_laws.specs.Small.{World, Entry, Move, expire_transition, is_no_error, is_free, with_transition, world_after_mark, world_after_move, world_after_moves, count_of_marks}
use Rattle.txn_laws.specs.Small.Entry.{Data}
use Rattle.txn_laws.specs.Small.Move.{Init, Give, AddPartitions, AddGroup, End, Expire, Moment, Store, Send, Plain, Mark}
use Rattle.txn_laws.specs.Sound.{Each, IsSound}
use Rattle.txn_laws.specs.Laws.{InSound, IsDone, up_to_last, OwesEach, PreparingLaw, PreparedLaw}
use Rattle.txn_laws.proofs.Base.{same_is, put_at_test}
use Rattle.txn_laws.proofs.Turns.{IsTurned}
use Rattle.txn_laws.proofs.Calls.{init_transition, partitions_transition, group_transition, end_transition, expire_one_transition}
use Rattle.txn_laws.proofs.Moves.{complete_waits, move_sound, written_same}
use Rattle.txn_laws.proofs.Complete.{ended_after, before_last, ongoing_waits}

-- an Ongoing record that is found again doesn't wait
still : (ts : List Transaction) (id : List ℕ) (t u : Transaction) (o : TransactionResult) → id_record ts id ≡ Some t → t.state ≡ Ongoing → id_record ts id ≡ Some u → u.state ≡ prepared_phase o → ⊥
still ts id t u o before ongoing after waits =
    let same : Some t ≡ Some u = sym before ∙ after in
    let e : t ≡ u = cc in
    ongoing_waits o (sym ongoing ∙ ap (λ (y : Transaction). y.state) e ∙ waits)

same_state : (r u : Transaction) → r ≡ u → r.state ≡ u.state
same_state r u is = ap (λ (y : Transaction). y.state) is

owed_after : (w : World) (code : ErrorCode) (r : Transaction) (gs : List (Option (List ℕ))) (ws : List PendingMarker) (t : Transaction) (o : TransactionResult) → (p : ProducerIdAndEpoch) × (p.producer ≡ t.pair.producer) × (ws ≡ markers t p o) → OwesEach w (with_transition w (Puts code r gs ws)) t o
owed_after w code r gs ws t o (p, same, is) = record { pair = p; producer = same; owed = ap (λ l. w.coordinator.warrants ++ l) is; entries = refl }

-- the transition that prepares puts the markers at the back
turned_prepared : (w : World) (transition : Transition) → IsTurned w.coordinator transition → (id : List ℕ) (t u : Transaction) (o : TransactionResult) → id_record w.coordinator.transactions id ≡ Some t → t.state ≡ Ongoing → id_record (apply_transition w.coordinator transition).transactions id ≡ Some u → u.state ≡ prepared_phase o → OwesEach w (with_transition w transition) t o
turned_prepared w (Stays code) h id t u o before ongoing after waits = absurd (still w.coordinator.transactions id t u o before ongoing after waits)
turned_prepared w (Puts code r gs ws) h id t u o before ongoing after waits = by_same (has_id id r) refl where
  c : CoordinatorValue
  c = w.coordinator

  by_same : (b : Bool) → has_id id r ≡ b → OwesEach w (with_transition w (Puts code r gs ws)) t o
  by_same true e =
      let same : Some r ≡ Some u = sym (put_at_test c.transactions r id true e) ∙ after in
      let is : r ≡ u = cc in
      owed_after w code r gs ws t o (h.prepares t (ap (id_record c.transactions) (same_is r.id id e) ∙ before) o (same_state r u is ∙ waits))
  by_same false e = absurd (still c.transactions id t u o before ongoing (sym (put_at_test c.transactions r id false e) ∙ after) waits)

-- a mark completes, it prepares nothing
marked_still : (w : World) (ws : List PendingMarker) (id : List ℕ) (t u : Transaction) (o : TransactionResult) → id_record w.coordinator.transactions id ≡ Some t → t.state ≡ Ongoing → id_record (world_after_mark ws w).coordinator.transactions id ≡ Some u → u.state ≡ prepared_phase o → ⊥
marked_still w [] id t u o before ongoing after waits = still w.coordinator.transactions id t u o before ongoing after waits
marked_still w (x ∷ xs) id t u o before ongoing after waits = by_owes (has_pending_marker xs x.id) after where
  ts : List Transaction
  ts = w.coordinator.transactions

  by_same : (y : Transaction) (b : Bool) → has_id id y ≡ b → id_record (records_with ts (completed_transaction x.outcome y)) id ≡ Some u → ⊥
  by_same y true e h =
      let same : Some (completed_transaction x.outcome y) ≡ Some u = sym (put_at_test ts (completed_transaction x.outcome y) id true e) ∙ h in
      let is : completed_transaction x.outcome y ≡ u = cc in
      complete_waits x.outcome o (ap (λ (z : Transaction). z.state) is ∙ waits)
  by_same y false e h = still ts id t u o before ongoing (sym (put_at_test ts (completed_transaction x.outcome y) id false e) ∙ h) waits

  by_found : (found : Option Transaction) → id_record (with_completed x.outcome found ts) id ≡ Some u → ⊥
  by_found None h = still ts id t u o before ongoing h waits
  by_found (Some y) h = by_same y (has_id id y) refl h

  by_owes : (b : Bool) → id_record (cond b ts (with_completed x.outcome (id_record ts x.id) ts)) id ≡ Some u → ⊥
  by_owes true h = still ts id t u o before ongoing h waits
  by_owes false h = by_found (id_record ts x.id) h

move_prepared : (w : World) (m : Move) → IsSound w → (id : List ℕ) (t u : Transaction) (o : TransactionResult) → id_record w.coordinator.transactions id ≡ Some t → t.state ≡ Ongoing → id_record (world_after_move w m).coordinator.transactions id ≡ Some u → u.state ≡ prepared_phase o → OwesEach w (world_after_move w m) t o
move_prepared w (Init own timeout greatest) s id t u o before ongoing after waits = turned_prepared w (init w.coordinator own timeout greatest) (init_transition w own timeout greatest s) id t u o before ongoing after waits
move_prepared w Give s id t u o before ongoing after waits = absurd (still w.coordinator.transactions id t u o before ongoing after waits)
move_prepared w (AddPartitions own pair partitions) s id t u o before ongoing after waits = turned_prepared w (add_partitions w.coordinator own pair w.moment partitions) (partitions_transition w own pair partitions s) id t u o before ongoing after waits
move_prepared w (AddGroup own pair group) s id t u o before ongoing after waits = turned_prepared w (add_group w.coordinator own pair w.moment group) (group_transition w own pair group s) id t u o before ongoing after waits
move_prepared w (End form own pair outcome) s id t u o before ongoing after waits = turned_prepared w (end w.coordinator form own pair outcome) (end_transition w form own pair outcome s) id t u o before ongoing after waits
move_prepared w (Expire own) s id t u o before ongoing after waits = turned_prepared w (expire_transition (id_record w.coordinator.transactions own) w.moment) (expire_one_transition w own s (id_record w.coordinator.transactions own) refl) id t u o before ongoing after waits
move_prepared w (Moment moment) s id t u o before ongoing after waits = absurd (still w.coordinator.transactions id t u o before ongoing after waits)
move_prepared w (Store own pair target) s id t u o before ongoing after waits = absurd (still w.coordinator.transactions id t u o before ongoing (ap (λ (c : CoordinatorValue). id_record c.transactions id) (sym (written_same (is_no_error (holding_code w.coordinator own pair target)) w target (Data pair))) ∙ after) waits)
move_prepared w (Send pair target) s id t u o before ongoing after waits = absurd (still w.coordinator.transactions id t u o before ongoing (ap (λ (c : CoordinatorValue). id_record c.transactions id) (sym (written_same (is_free (owner w.coordinator pair.producer)) w target (Data pair))) ∙ after) waits)
move_prepared w (Plain target) s id t u o before ongoing after waits = absurd (still w.coordinator.transactions id t u o before ongoing after waits)
move_prepared w Mark s id t u o before ongoing after waits = absurd (marked_still w w.coordinator.warrants id t u o before ongoing after waits)

pub preparing_law : InSound PreparingLaw
preparing_law w s m id t o by = move_prepared w m s id t by.transaction o by.before by.ongoing by.after by.waits

-- each of these markers is written
pub each_done : (ms : List Move) (w : World) → IsSound w → (id : List ℕ) (producer : ℤ) (p : ProducerIdAndEpoch) (o : TransactionResult) → p.producer ≡ producer → (front : List PendingMarker) (xs : List Target) (back : List PendingMarker) → w.coordinator.warrants ≡ front ++ (map (marker_for id p o) xs ++ back) → up_to_last w.coordinator.warrants id ≤ count_of_marks ms
    → Each (λ target. IsDone producer o (w.entries target) ((world_after_moves w ms).entries target)) xs
each_done ms w s id producer p o same front [] back at enough = tt
each_done ms w s id producer p o same front (x ∷ xs) back at enough =
    let rest = map (marker_for id p o) xs ++ back in
    let one = marker_for id p o x in
    let low : length front < up_to_last w.coordinator.warrants id = subst (λ ws. length front < up_to_last ws id) (sym at) (before_last front one rest id refl) in (
      (p, same, ended_after ms w s front one rest at (omega arith)),
      each_done ms w s id producer p o same (front ++ one ∷ []) xs back (at ∙ sym (append_assoc front (one ∷ []) rest)) enough,
    )

pub prepared_law : InSound PreparedLaw
prepared_law w s m id t o after by enough =
    let owes = preparing_law w s m id t o by in
    let own : t.id ≡ id = recorded_id w.coordinator.transactions id t by.before in
    subst (λ (entries : Target → List Entry). Each (λ target. IsDone t.pair.producer o (entries target) ((world_after_moves (world_after_move w m) after).entries target)) (targets t)) owes.entries
    (each_done after (world_after_move w m) (move_sound w m s) t.id t.pair.producer owes.pair o owes.producer w.coordinator.warrants (targets t) []
    (owes.owed ∙ ap (λ l. w.coordinator.warrants ++ l) (sym (append-nil (markers t owes.pair o))))
    (subst (λ i. up_to_last (world_after_move w m).coordinator.warrants i ≤ count_of_marks after) (sym own) enough))
