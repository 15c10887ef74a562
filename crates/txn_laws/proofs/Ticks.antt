-- To expire all at once is to expire one after the other.
use Rattle.std.proofs.Common.{◌≡◌, ℕ, List, [], ◌∷◌, ◌++◌, map, Some, Bool, true, false, cond, refl, sym, ap, ◌∙◌, append-nil, append_assoc, None, subst, ◌≤◌}
use Rattle.std.specs.Str.{bytes_eq}
use Rattle.std.specs.List.{flat_map}
use Rattle.wire_types.specs.declared.error_code.ErrorCode.TheVariants as codes
use Rattle.txn_coordinator.specs.declared.transaction.Transaction.{Transaction}
use Rattle.txn_coordinator.specs.declared.marker.PendingMarker.{PendingMarker}
use Rattle.txn_coordinator.specs.Transition.{Stays}
use Rattle.txn_coordinator.specs.Coordinator.{has_id, id_record, records_with, apply_transition}
use Rattle.record_batch.specs.declared.transaction_result.TransactionResult.TheVariants.{Abort}
use Rattle.txn_coordinator.specs.Words.{with_next_epoch, targets}
use Rattle.txn_coordinator.specs.Preparing.{fenced_transaction, fence_markers, fence_transition}
use Rattle.txn_coordinator.specs.Expiry.{is_due, fenced_if_due, expiry_markers}
use Rattle.txn_laws.specs.Small.{World, expire_transition, world_after_move, world_after_moves, count_of_marks}
use Rattle.txn_laws.specs.Small.Move.{Expire, Moment}
use Rattle.txn_laws.specs.Sound.{Each, HaveOwnIds, IsSound}
use Rattle.txn_laws.specs.Laws.{InSound, up_to_last, IdsLaw, expiries, world_after_tick, ExpiryLaw, TickLaw}
use Rattle.txn_coordinator.proofs.Table.{recorded_id}
use Rattle.txn_laws.proofs.Moves.{moves_sound}
use Rattle.txn_laws.proofs.Prepared.{each_done}
use Rattle.txn_laws.proofs.Base.{same_is, is_same}

-- none of them has the id
abbrev Lacks : List Transaction → List ℕ → Type 0
Lacks ts id = Each (λ (u : Transaction). u.id ≡ id → ⊥) ts

not_same : (a b : List ℕ) → (a ≡ b → ⊥) → bytes_eq a b ≡ false
not_same a b h = by_test (bytes_eq a b) refl where
  by_test : (t : Bool) → bytes_eq a b ≡ t → t ≡ false
  by_test true e = absurd (h (same_is a b e))
  by_test false e = refl

recorded_past : (done : List Transaction) (t : Transaction) (ts : List Transaction) → Lacks done t.id → id_record (done ++ t ∷ ts) t.id ≡ Some t
recorded_past [] t ts h = ap (λ b. cond b (Some t) (id_record ts t.id)) (is_same t.id t.id refl)
recorded_past (d ∷ ds) t ts h = ap (λ b. cond b (Some d) (id_record (ds ++ t ∷ ts) t.id)) (not_same d.id t.id h.0) ∙ recorded_past ds t ts h.1

put_past : (done : List Transaction) (t r : Transaction) (ts : List Transaction) → r.id ≡ t.id → Lacks done t.id → records_with (done ++ t ∷ ts) r ≡ done ++ r ∷ ts
put_past [] t r ts e h = ap (λ b. cond b (r ∷ ts) (t ∷ records_with ts r)) (is_same t.id r.id (sym e))
put_past (d ∷ ds) t r ts e h = ap (λ b. cond b (r ∷ (ds ++ t ∷ ts)) (d ∷ records_with (ds ++ t ∷ ts) r)) (not_same d.id r.id (λ k. h.0 (k ∙ e))) ∙ ap (λ l. d ∷ l) (put_past ds t r ts e h.1)

lacks_push : (done : List Transaction) (r : Transaction) (id : List ℕ) → Lacks done id → (r.id ≡ id → ⊥) → Lacks (done ++ r ∷ []) id
lacks_push [] r id h k = (k, tt)
lacks_push (d ∷ ds) r id h k = (h.0, lacks_push ds r id h.1 k)

-- the records done lack the ids of those that are left
abbrev AreParted : List Transaction → List Transaction → Type 0
AreParted done ts = Each (λ (u : Transaction). Lacks done u.id) ts

parted_push : (done : List Transaction) (r t : Transaction) (ts : List Transaction) → r.id ≡ t.id → AreParted done ts → Each (λ (u : Transaction). u.id ≡ t.id → ⊥) ts → AreParted (done ++ r ∷ []) ts
parted_push done r t [] e h k = tt
parted_push done r t (u ∷ us) e h k = (lacks_push done r u.id h.0 (λ same. k.0 (sym same ∙ e)), parted_push done r t us e h.1 k.1)

abbrev at : World → List Transaction → List PendingMarker → World
at w ts ws = record w { coordinator = record { transactions = ts; given = w.coordinator.given; warrants = ws } }

one : (w : World) (done : List Transaction) (t : Transaction) (ts : List Transaction) (ws : List PendingMarker) → Lacks done t.id → world_after_move (at w (done ++ t ∷ ts) ws) (Expire t.id) ≡ at w (done ++ fenced_if_due w.moment t ∷ ts) (ws ++ expiry_markers w.moment t)
one w done t ts ws h =
    ap (λ found. record w { coordinator = apply_transition (record { transactions = done ++ t ∷ ts; given = w.coordinator.given; warrants = ws }) (expire_transition found w.moment) }) (recorded_past done t ts h) ∙ by_due (is_due w.moment t) where
      by_due : (b : Bool) → record w { coordinator = apply_transition (record { transactions = done ++ t ∷ ts; given = w.coordinator.given; warrants = ws }) (cond b (fence_transition codes.None t) (Stays codes.None)) } ≡ at w (done ++ cond b (fenced_transaction t) t ∷ ts) (ws ++ cond b (fence_markers t) [])
      by_due true = let puts = put_past done t (fenced_transaction t) ts refl h in let same = append-nil w.coordinator.given in
          λ i. record w { coordinator = record { transactions = puts i; given = same i; warrants = ws ++ fence_markers t } }
      by_due false = let same = append-nil ws in λ i. at w (done ++ t ∷ ts) (sym same i)

same_id : (moment : ℕ) (t : Transaction) → (fenced_if_due moment t).id ≡ t.id
same_id moment t = by_due (is_due moment t) where
  by_due : (b : Bool) → (cond b (fenced_transaction t) t).id ≡ t.id
  by_due true = refl
  by_due false = refl

rest : (w : World) (done ts : List Transaction) (ws : List PendingMarker) → AreParted done ts → HaveOwnIds ts → world_after_moves (at w (done ++ ts) ws) (expiries ts) ≡ at w (done ++ map (fenced_if_due w.moment) ts) (ws ++ flat_map (expiry_markers w.moment) ts)
rest w done [] ws h k = let same = append-nil ws in λ i. at w (done ++ []) (sym same i)
rest w done (t ∷ ts) ws h k =
    let r = fenced_if_due w.moment t in
    let owed = expiry_markers w.moment t in
    let left : done ++ r ∷ ts ≡ (done ++ r ∷ []) ++ ts = sym (append_assoc done (r ∷ []) ts) in
    let right : (done ++ r ∷ []) ++ map (fenced_if_due w.moment) ts ≡ done ++ r ∷ map (fenced_if_due w.moment) ts = append_assoc done (r ∷ []) (map (fenced_if_due w.moment) ts) in
    let all : (ws ++ owed) ++ flat_map (expiry_markers w.moment) ts ≡ ws ++ (owed ++ flat_map (expiry_markers w.moment) ts) = append_assoc ws owed (flat_map (expiry_markers w.moment) ts) in
    ap (λ v. world_after_moves v (expiries ts)) (one w done t ts ws h.0 ∙ ap (λ l. at w l (ws ++ owed)) left)
    ∙ rest w (done ++ r ∷ []) ts (ws ++ owed) (parted_push done r t ts (same_id w.moment t) h.1 k.0) k.1
    ∙ (λ i. at w (right i) (all i))

none_parted : (ts : List Transaction) → AreParted [] ts
none_parted [] = tt
none_parted (t ∷ ts) = (tt, none_parted ts)

pub one_by_one : (w : World) → HaveOwnIds w.coordinator.transactions → ExpiryLaw w
one_by_one w own moment = rest (record w { moment = moment }) [] w.coordinator.transactions w.coordinator.warrants (none_parted w.coordinator.transactions) own

pub expiry_law : InSound ExpiryLaw
expiry_law w s = one_by_one w s.own_ids

pub ids_law : InSound IdsLaw
ids_law w s = s.own_ids

-- ---- what is owed to one that was due

abbrev Holds : List PendingMarker → List PendingMarker → Type 0
Holds all part = (front : List PendingMarker) × (back : List PendingMarker) × (all ≡ front ++ (part ++ back))

due_markers : (ts : List Transaction) (moment : ℕ) (id : List ℕ) (t : Transaction) → id_record ts id ≡ Some t → is_due moment t ≡ true → Holds (flat_map (expiry_markers moment) ts) (fence_markers t)
due_markers [] moment id t found due = absurd (let clash : None ≡ Some t = found in cc)
due_markers (x ∷ xs) moment id t found due = by_same (due_markers xs moment id t) (has_id id x) found where
  by_same : (id_record xs id ≡ Some t → is_due moment t ≡ true → Holds (flat_map (expiry_markers moment) xs) (fence_markers t)) → (b : Bool) → cond b (Some x) (id_record xs id) ≡ Some t → Holds (expiry_markers moment x ++ flat_map (expiry_markers moment) xs) (fence_markers t)
  by_same ih true h = let e : x ≡ t = cc in (
    [],
    flat_map (expiry_markers moment) xs,
    ap (λ y. expiry_markers moment y ++ flat_map (expiry_markers moment) xs) e ∙ ap (λ b. cond b (fence_markers t) [] ++ flat_map (expiry_markers moment) xs) due,
  )
  by_same ih false h = let inner = ih h due in (
    expiry_markers moment x ++ inner.0,
    inner.1,
    ap (λ l. expiry_markers moment x ++ l) inner.2 ∙ sym (append_assoc (expiry_markers moment x) inner.0 (fence_markers t ++ inner.1)),
  )

pub tick_law : InSound TickLaw
tick_law w s moment id t after found due enough =
    let parts = due_markers w.coordinator.transactions moment id t found due in
    let own : t.id ≡ id = recorded_id w.coordinator.transactions id t found in
    let sound : IsSound (world_after_tick w moment) = subst IsSound (expiry_law w s moment) (moves_sound w (Moment moment ∷ expiries w.coordinator.transactions) s) in
    each_done after (world_after_tick w moment) sound t.id t.pair.producer (with_next_epoch t.pair) Abort refl (w.coordinator.warrants ++ parts.0) (targets t) parts.1
    (ap (λ l. w.coordinator.warrants ++ l) parts.2 ∙ sym (append_assoc w.coordinator.warrants parts.0 (fence_markers t ++ parts.1)))
    (subst (λ i. up_to_last (world_after_tick w moment).coordinator.warrants i ≤ count_of_marks after) (sym own) enough)
