-- A transaction that waits is complete once its last marker is written.
use Rattle.std.proofs.Common.{◌≡◌, ℕ, ◌+◌, ◌≤◌, List, [], ◌∷◌, Some, Bool, true, false, cond, refl, sym, ap, subst, ◌∙◌, inl, inr, ◌⊎◌, arith}
use Rattle.std.specs.Prelude.{◌||◌}
use Rattle.std.specs.Str.{bytes_eq}
use Rattle.audit_trail.specs.declared.event.Event.{Event}
use Rattle.audit_trail.specs.declared.event.Event.TheVariants.{Ask, Mark, Tick}
use Rattle.txn_coordinator.specs.declared.transaction.Transaction.{Transaction}
use Rattle.record_batch.specs.declared.transaction_result.TransactionResult.{TransactionResult}
use Rattle.txn_coordinator.specs.declared.marker.PendingMarker.{PendingMarker}
use Rattle.txn_coordinator.specs.Words.{prepared_phase, completed_phase}
use Rattle.txn_coordinator.specs.Coordinator.{CoordinatorValue, id_record}
use Rattle.txn_coordinator.specs.Warrants.{has_pending_marker}
use Rattle.txn_laws.specs.Small.{World as SmallWorld, Move, world_after_mark, world_after_move, world_after_moves, count_of_marks as small_marks}
use Rattle.txn_laws.specs.Sound.{Each, IsSound, IsPending}
use Rattle.txn_laws.specs.Laws.{up_to_last}
use Rattle.txn_laws.proofs.Base.{same_is}
use Rattle.txn_laws.proofs.Moves.{complete_waits, move_sound}
use Rattle.txn_laws.proofs.Completed.{StillWaits, move_waits, mark_waits, some_owed, one_more}
use Rattle.broker_world.specs.World.{World}
use Rattle.api_dispatch.specs.Step.{step, world_after_events}
use Rattle.broker_laws.specs.Moves.{moves_of, mark_count, count_of_mark_events}
use Rattle.broker_laws.specs.Laws.{InReached, IsCompletedBy, EndsComplete}
use Rattle.broker_laws.proofs.Reached.{full, IsGood, good_step, good_moved, good, event_marks}

-- ---- moves without a mark

quiet_waits : (s : SmallWorld) (ms : List Move) → IsSound s → small_marks ms ≡ 0 → (id : List ℕ) (t : Transaction) (o : TransactionResult) → id_record s.coordinator.transactions id ≡ Some t → t.state ≡ prepared_phase o → StillWaits s (world_after_moves s ms) id t
quiet_waits s [] sound none id t o found waits = record { found = found; last = refl }
quiet_waits s (m ∷ ms) sound none id t o found waits =
    let one = move_waits s m sound (omega (arith, none)) id t o found waits in
    let rest = quiet_waits (world_after_move s m) ms (move_sound s m sound) (omega (arith, none)) id t o one.found waits in
    record { found = rest.found; last = rest.last ∙ one.last }

-- ---- an event

-- the transaction waits after it, for one marker less if it is a marker step, or is complete
abbrev WaitsOrEnds : SmallWorld → ℕ → SmallWorld → List ℕ → Transaction → TransactionResult → Type 0
WaitsOrEnds s written v id t o = ((id_record v.coordinator.transactions id ≡ Some t) × (written + up_to_last v.coordinator.warrants id ≡ up_to_last s.coordinator.warrants id))
    ⊎ ((u : Transaction) × (id_record v.coordinator.transactions id ≡ Some u) × (u.state ≡ completed_phase o))

quiet_still : (w : World) (e : Event) (good : IsGood w) → mark_count e ≡ 0 → (id : List ℕ) (t : Transaction) (o : TransactionResult) → id_record w.coordinator.transactions id ≡ Some t → t.state ≡ prepared_phase o → StillWaits (full w good.entries) (full (step w e) (good_step w e good).entries) id t
quiet_still w e good none id t o found waits =
    subst (λ v. StillWaits (full w good.entries) v id t) (sym (good_moved w e good)) (quiet_waits (full w good.entries) (moves_of w e) good.sound (event_marks w e ∙ none) id t o found waits)

quiet_event : (w : World) (e : Event) (good : IsGood w) → mark_count e ≡ 0 → (id : List ℕ) (t : Transaction) (o : TransactionResult) → id_record w.coordinator.transactions id ≡ Some t → t.state ≡ prepared_phase o
    → WaitsOrEnds (full w good.entries) 0 (full (step w e) (good_step w e good).entries) id t o
quiet_event w e good none id t o found waits =
    let still = quiet_still w e good none id t o found waits in
    let last = still.last in
    inl (still.found, omega (arith, last))

front_written : (s : SmallWorld) (ws : List PendingMarker) → IsSound s → s.coordinator.warrants ≡ ws → (id : List ℕ) (t : Transaction) (o : TransactionResult) → id_record s.coordinator.transactions id ≡ Some t → t.state ≡ prepared_phase o → WaitsOrEnds s 1 (world_after_mark ws s) id t o
front_written s [] sound at id t o found waits =
    absurd (let some : has_pending_marker [] id ≡ true = ap (λ ws. has_pending_marker ws id) (sym at) ∙ sound.owing id t o found waits in let clash : false ≡ true = some in cc)
front_written s (x ∷ xs) sound at id t o found waits = by_mark (mark_waits s x xs (front_of (subst (Each (IsPending s.coordinator)) at sound.owed)) id t o found waits) where
  front_of : Each (IsPending s.coordinator) (x ∷ xs) → IsPending s.coordinator x
  front_of owed = owed.0

  by_mark : ((id_record (world_after_mark (x ∷ xs) s).coordinator.transactions id ≡ Some t) × ((world_after_mark (x ∷ xs) s).coordinator.warrants ≡ xs)) ⊎ ((u : Transaction) × (id_record (world_after_mark (x ∷ xs) s).coordinator.transactions id ≡ Some u) × (u.state ≡ completed_phase o)) → WaitsOrEnds s 1 (world_after_mark (x ∷ xs) s) id t o
  by_mark (inl h) =
      let some : has_pending_marker (x ∷ xs) id ≡ true = ap (λ ws. has_pending_marker ws id) (sym at) ∙ sound.owing id t o found waits in
      inl (h.0, ap (λ ws. 1 + up_to_last ws id) h.1 ∙ sym (ap (λ ws. up_to_last ws id) at ∙ one_more x xs id some))
  by_mark (inr h) = inr h

one_event : (w : World) (e : Event) (good : IsGood w) (id : List ℕ) (t : Transaction) (o : TransactionResult) → id_record w.coordinator.transactions id ≡ Some t → t.state ≡ prepared_phase o
    → WaitsOrEnds (full w good.entries) (mark_count e) (full (step w e) (good_step w e good).entries) id t o
one_event w (Ask caller client request) good id t o found waits = quiet_event w (Ask caller client request) good refl id t o found waits
one_event w (Tick told) good id t o found waits = quiet_event w (Tick told) good refl id t o found waits
one_event w Mark good id t o found waits =
    let s = full w good.entries in
    subst (λ v. WaitsOrEnds s 1 v id t o) (sym (good_moved w Mark good)) (front_written s w.coordinator.warrants good.sound refl id t o found waits)

-- ---- events

later : (w : World) (e : Event) (es : List Event) (id : List ℕ) (o : TransactionResult) → IsCompletedBy (step w e) es id o → IsCompletedBy w (e ∷ es) id o
later w e es id o by = record { first = e ∷ by.first; rest = by.rest; parts = ap (λ l. e ∷ l) by.parts; transaction = by.transaction; found = by.found; is_complete = by.is_complete }

pub ends : (es : List Event) (w : World) → IsGood w → (id : List ℕ) (t : Transaction) (o : TransactionResult) → id_record w.coordinator.transactions id ≡ Some t → t.state ≡ prepared_phase o → up_to_last w.coordinator.warrants id ≤ count_of_mark_events es → IsCompletedBy w es id o
ends [] w good id t o found waits enough = let some = some_owed w.coordinator.warrants id (good.sound.owing id t o found waits) in absurd (omega (arith, some, enough))
ends (e ∷ es) w good id t o found waits enough = by_event (ends es (step w e) (good_step w e good) id t o) (one_event w e good id t o found waits) where
  by_event : (id_record (step w e).coordinator.transactions id ≡ Some t → t.state ≡ prepared_phase o → up_to_last (step w e).coordinator.warrants id ≤ count_of_mark_events es → IsCompletedBy (step w e) es id o)
      → WaitsOrEnds (full w good.entries) (mark_count e) (full (step w e) (good_step w e good).entries) id t o → IsCompletedBy w (e ∷ es) id o
  by_event rest (inl h) = let left = h.1 in later w e es id o (rest h.0 waits (omega (arith, left, enough)))
  by_event rest (inr h) = record { first = e ∷ []; rest = es; parts = refl; transaction = h.0; found = h.1; is_complete = h.2 }

pub ends_complete : InReached EndsComplete
ends_complete s es id t o after found waits enough = ends after _ (good s es) id t o found waits enough

-- ---- where nothing is owed any more

-- a record for which a marker is pending isn't complete
owed_waits : (c : CoordinatorValue) (ws : List PendingMarker) → Each (IsPending c) ws → (id : List ℕ) → has_pending_marker ws id ≡ true → (u : Transaction) (o : TransactionResult) → id_record c.transactions id ≡ Some u → u.state ≡ completed_phase o → ⊥
owed_waits c [] owed id h u o found is = let clash : false ≡ true = h in cc
owed_waits c (x ∷ xs) owed id h u o found is = by_same (bytes_eq x.id id) refl h (λ rest. owed_waits c xs owed.1 id rest u o found is) where
  by_same : (b : Bool) → bytes_eq x.id id ≡ b → (b || has_pending_marker xs id) ≡ true → (has_pending_marker xs id ≡ true → ⊥) → ⊥
  by_same true e h rest = complete_waits o x.outcome (sym is ∙ owed.0.waits u (ap (id_record c.transactions) (same_is x.id id e) ∙ found))
  by_same false e h rest = rest h

none_left : (ws : List PendingMarker) (id : List ℕ) (b : Bool) → has_pending_marker ws id ≡ b → (b ≡ true → ⊥) → up_to_last ws id ≡ 0
none_left [] id b is none = refl
none_left (x ∷ xs) id true is none = absurd (none refl)
none_left (x ∷ xs) id false is none = ap (λ b. cond b (1 + up_to_last xs id) 0) is

one_less : (s : SmallWorld) (ws : List PendingMarker) → s.coordinator.warrants ≡ ws → (id : List ℕ) → up_to_last ws id ≤ 1 + up_to_last (world_after_mark ws s).coordinator.warrants id
one_less s [] at id = omega arith
one_less s (x ∷ xs) at id = by_owes (has_pending_marker (x ∷ xs) id) where
  by_owes : (b : Bool) → cond b (1 + up_to_last xs id) 0 ≤ 1 + up_to_last xs id
  by_owes true = omega arith
  by_owes false = omega arith

-- where nothing is pending after the events, enough of them are marker steps
pub enough : (es : List Event) (w : World) → IsGood w → (id : List ℕ) (t : Transaction) (o : TransactionResult) → id_record w.coordinator.transactions id ≡ Some t → t.state ≡ prepared_phase o → (world_after_events w es).coordinator.warrants ≡ [] → up_to_last w.coordinator.warrants id ≤ count_of_mark_events es
enough [] w good id t o found waits none =
    absurd (let some : has_pending_marker [] id ≡ true = ap (λ ws. has_pending_marker ws id) (sym none) ∙ good.sound.owing id t o found waits in let clash : false ≡ true = some in cc)
enough (Ask caller client request ∷ es) w good id t o found waits none =
    let e = Ask caller client request in
    let still = quiet_still w e good refl id t o found waits in
    let rest = enough es (step w e) (good_step w e good) id t o still.found waits none in
    let last = still.last in
    omega (arith, rest, last)
enough (Tick told ∷ es) w good id t o found waits none =
    let still = quiet_still w (Tick told) good refl id t o found waits in
    let rest = enough es (step w (Tick told)) (good_step w (Tick told) good) id t o still.found waits none in
    let last = still.last in
    omega (arith, rest, last)
enough (Mark ∷ es) w good id t o found waits none = by_event (enough es v next id t o) (one_event w Mark good id t o found waits) where
  v : World
  v = step w Mark

  next : IsGood v
  next = good_step w Mark good

  few : up_to_last w.coordinator.warrants id ≤ 1 + up_to_last v.coordinator.warrants id
  few = subst (λ (s : SmallWorld). up_to_last w.coordinator.warrants id ≤ 1 + up_to_last s.coordinator.warrants id) (sym (good_moved w Mark good)) (one_less (full w good.entries) w.coordinator.warrants refl id)

  by_event : (id_record v.coordinator.transactions id ≡ Some t → t.state ≡ prepared_phase o → (world_after_events v es).coordinator.warrants ≡ [] → up_to_last v.coordinator.warrants id ≤ count_of_mark_events es) → WaitsOrEnds (full w good.entries) 1 (full v next.entries) id t o → up_to_last w.coordinator.warrants id ≤ 1 + count_of_mark_events es
  by_event rest (inl h) = let left = h.1 in let later = rest h.0 waits none in omega (arith, left, later)
  by_event rest (inr h) =
      let zero = none_left v.coordinator.warrants id (has_pending_marker v.coordinator.warrants id) refl (λ some. owed_waits v.coordinator v.coordinator.warrants next.sound.owed id some h.0 o h.1 h.2) in
      omega (arith, few, zero)
