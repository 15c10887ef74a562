-- A record is put: what was fenced, owed and apart stays so.
use Rattle.std.proofs.Common.{◌≡◌, ℕ, ℤ, pos, List, [], ◌∷◌, ◌++◌, length, Option, Some, Bool, true, false, refl, sym, subst, ap, ◌∙◌, inl, inr, ◌⊎◌, arith}
use Rattle.std.specs.Prelude.{◌≤ℤ◌, ◌<ℤ◌}
use Rattle.std.proofs.lemmas.Int.{ints}
use Rattle.wire_types.specs.declared.error_code.ErrorCode.{ErrorCode}
use Rattle.txn_coordinator.specs.declared.producer_id.ProducerIdAndEpoch.{ProducerIdAndEpoch}
use Rattle.txn_coordinator.specs.declared.transaction.Transaction.{Transaction}
use Rattle.record_batch.specs.declared.transaction_result.TransactionResult.{TransactionResult}
use Rattle.txn_coordinator.specs.declared.marker.PendingMarker.{PendingMarker}
use Rattle.txn_coordinator.specs.Transition.{Transition, Stays, Puts}
use Rattle.txn_coordinator.specs.Words.{prepared_phase, targets}
use Rattle.txn_coordinator.specs.Coordinator.{CoordinatorValue, has_id, id_record, records_with, owner}
use Rattle.txn_coordinator.specs.Preparing.{markers}
use Rattle.txn_coordinator.specs.declared.transaction.TransactionState.TheVariants.{Ongoing}
use Rattle.txn_coordinator.specs.Warrants.{has_pending_marker}
use Rattle.txn_laws.specs.Small.{World, Entry, with_transition}
use Rattle.txn_laws.specs.Small.Entry.{Data, Marker, Other}
use Rattle.txn_laws.specs.Sound.{Each, AreDistinct, AreApart, IsApart, IsFenced, IsPending, IsBacked, IsSound}
use Rattle.txn_laws.proofs.Base.{owes_more, owes_after, each_weaker, each_append, same_is, is_same, put_at_test, own_put, given_to, owner_is, given_more, given_within}

-- the record goes on: its epoch doesn't fall, or its producer id is a new one
abbrev pub GoesOn : CoordinatorValue → Transaction → Transaction → Type 0
GoesOn c t r = ((r.pair.producer ≡ t.pair.producer) × (t.pair.epoch ≤ℤ r.pair.epoch)) ⊎ (pos (length c.given) ≤ℤ r.pair.producer)

pub record IsChange (c : CoordinatorValue) (r : Transaction) (gs : List (Option (List ℕ))) : Type 0 where
  pub on : (t : Transaction) → id_record c.transactions r.id ≡ Some t → GoesOn c t r
  pub owned : given_to (c.given ++ gs) r.pair.producer ≡ Some (Some r.id)

-- what is newly owed
pub record IsOwedBy (given : List (Option (List ℕ))) (r : Transaction) (x : PendingMarker) : Type 0 where
  pub own : x.id ≡ r.id
  pub owned : given_to given x.pair.producer ≡ Some (Some x.id)
  pub reached : r.pair.producer ≡ x.pair.producer → x.pair.epoch ≤ℤ r.pair.epoch
  pub waits : r.state ≡ prepared_phase x.outcome

pub record IsTransition (c : CoordinatorValue) (r : Transaction) (gs : List (Option (List ℕ))) (ws : List PendingMarker) : Type 0 where
  pub change : IsChange c r gs
  pub free : (t : Transaction) → id_record c.transactions r.id ≡ Some t → (o : TransactionResult) → t.state ≡ prepared_phase o → ⊥
  pub distinct : AreDistinct (targets r)
  pub filled : r.state ≡ Ongoing → targets r ≡ [] → ⊥
  pub owing : (o : TransactionResult) → r.state ≡ prepared_phase o → has_pending_marker ws r.id ≡ true
  pub owed : Each (IsOwedBy (c.given ++ gs) r) ws
  pub apart : AreApart ws
  -- where the record comes to wait, each of its targets is owed that outcome
  pub prepares : (t : Transaction) → id_record c.transactions r.id ≡ Some t → (o : TransactionResult) → r.state ≡ prepared_phase o → (p : ProducerIdAndEpoch) × (p.producer ≡ t.pair.producer) × (ws ≡ markers t p o)

abbrev pub changed : CoordinatorValue → Transaction → List (Option (List ℕ)) → List PendingMarker → CoordinatorValue
changed c r gs ws = record { transactions = records_with c.transactions r; given = c.given ++ gs; warrants = ws }

owned_kept : (c : CoordinatorValue) (r : Transaction) (gs : List (Option (List ℕ))) (ws : List PendingMarker) (p : ℤ) (id : List ℕ) → owner c p ≡ Some (Some id) → owner (changed c r gs ws) p ≡ Some (Some id)
owned_kept c r gs ws p id h = owner_is (changed c r gs ws) (c.given ++ gs) p refl ∙ given_more c.given gs p (Some id) (sym (owner_is c c.given p refl) ∙ h)

pub fence_kept : (c : CoordinatorValue) (r : Transaction) (gs : List (Option (List ℕ))) (ws : List PendingMarker) → IsChange c r gs → (id : List ℕ) (p : ProducerIdAndEpoch) → IsFenced c id p → IsFenced (changed c r gs ws) id p
fence_kept c r gs ws change id p f = by_same (has_id id r) refl where
  by_on : (t : Transaction) → GoesOn c t r → (t.pair.producer ≡ p.producer → p.epoch ≤ℤ t.pair.epoch) → p.producer <ℤ pos (length c.given) → r.pair.producer ≡ p.producer → p.epoch ≤ℤ r.pair.epoch
  by_on t (inl on) low within same = let le = on.1 in let before : p.epoch ≤ℤ t.pair.epoch = low (sym on.0 ∙ same) in omega (arith, ints)
  by_on t (inr new) low within same = absurd (omega (arith, ints))

  by_same : (b : Bool) → has_id id r ≡ b → IsFenced (changed c r gs ws) id p
  by_same true h =
      let found : id_record c.transactions r.id ≡ Some f.transaction = ap (id_record c.transactions) (same_is r.id id h) ∙ f.found in
      record {
        owned = owned_kept c r gs ws p.producer id f.owned;
        transaction = r;
        found = put_at_test c.transactions r id true h;
        reached = by_on f.transaction (change.on f.transaction found) f.reached (given_within c.given p.producer (Some id) (sym (owner_is c c.given p.producer refl) ∙ f.owned));
      }
  by_same false h = record {
    owned = owned_kept c r gs ws p.producer id f.owned;
    transaction = f.transaction;
    found = put_at_test c.transactions r id false h ∙ f.found;
    reached = f.reached;
  }

-- what is owed for another id
pub owed_kept : (c : CoordinatorValue) (r : Transaction) (gs : List (Option (List ℕ))) (ws : List PendingMarker) → IsChange c r gs → (x : PendingMarker) → IsPending c x → (x.id ≡ r.id → ⊥) → IsPending (changed c r gs ws) x
owed_kept c r gs ws change x owed other = record {
  fence = fence_kept c r gs ws change x.id x.pair owed.fence;
  waits = λ t found. by_same t (has_id x.id r) refl found;
} where
  by_same : (t : Transaction) → (b : Bool) → has_id x.id r ≡ b → id_record (records_with c.transactions r) x.id ≡ Some t → t.state ≡ prepared_phase x.outcome
  by_same t true h found = absurd (other (sym (same_is r.id x.id h)))
  by_same t false h found = owed.waits t (sym (put_at_test c.transactions r x.id false h) ∙ found)

-- an id whose record doesn't wait owes nothing
pub not_owed : (c : CoordinatorValue) (id : List ℕ) → ((t : Transaction) → id_record c.transactions id ≡ Some t → (o : TransactionResult) → t.state ≡ prepared_phase o → ⊥) → (x : PendingMarker) → IsPending c x → x.id ≡ id → ⊥
not_owed c id free x owed same =
    free owed.fence.transaction (ap (id_record c.transactions) (sym same) ∙ owed.fence.found) x.outcome (owed.waits owed.fence.transaction owed.fence.found)

apart_append : (id : List ℕ) (xs ys : List PendingMarker) → AreApart xs → AreApart ys → Each (λ (x : PendingMarker). x.id ≡ id → ⊥) xs → Each (λ (y : PendingMarker). y.id ≡ id) ys → AreApart (xs ++ ys)
apart_append id [] ys hx hy not_x is_y = hy
apart_append id (x ∷ xs) ys hx hy not_x is_y =
    (each_append (IsApart x) xs ys hx.0 (each_weaker (λ (y : PendingMarker). y.id ≡ id) (IsApart x) (λ y same same_id same_target. not_x.0 (same_id ∙ same)) ys is_y), apart_append id xs ys hx.1 hy not_x.1 is_y)

pub backed_kept : (c : CoordinatorValue) (r : Transaction) (gs : List (Option (List ℕ))) (ws : List PendingMarker) → IsChange c r gs → (x : Entry) → IsBacked c x → IsBacked (changed c r gs ws) x
backed_kept c r gs ws change (Data p) h = tt
backed_kept c r gs ws change (Marker p o) h = (h.0, fence_kept c r gs ws change h.0 p h.1)
backed_kept c r gs ws change Other h = tt

abbrev pub IsTurned : CoordinatorValue → Transition → Type 0
IsTurned c (Stays code) = Unit {0}
IsTurned c (Puts code r gs ws) = IsTransition c r gs ws

-- a record is put, with these warrants
pub change_sound : (w : World) (r : Transaction) (gs : List (Option (List ℕ))) (ws : List PendingMarker) → IsSound w → IsChange w.coordinator r gs → AreDistinct (targets r)
    → (r.state ≡ Ongoing → targets r ≡ [] → ⊥) → ((o : TransactionResult) → r.state ≡ prepared_phase o → has_pending_marker ws r.id ≡ true)
    → ((id : List ℕ) (t : Transaction) (o : TransactionResult) → id_record w.coordinator.transactions id ≡ Some t → t.state ≡ prepared_phase o → (r.id ≡ id → ⊥) → has_pending_marker ws id ≡ true)
    → Each (IsPending (changed w.coordinator r gs ws)) ws → AreApart ws → IsSound (record w { coordinator = changed w.coordinator r gs ws })
change_sound w r gs ws s change distinct filled owing others owed apart =
    let c = w.coordinator in
    record {
      own_ids = own_put c.transactions r s.own_ids;
      owned = λ id t found. by_owner id t (has_id id r) refl found;
      distinct = λ id t found. by_targets id t (has_id id r) refl found;
      filled = λ id t found. by_filled id t (has_id id r) refl found;
      owing = λ id t o found waits. by_owing id t o (has_id id r) refl found waits;
      owed = owed;
      apart = apart;
      backed = λ target. each_weaker (IsBacked c) (IsBacked (changed c r gs ws)) (backed_kept c r gs ws change) (w.entries target) (s.backed target);
      ordered = s.ordered;
    } where
      by_owner : (id : List ℕ) (t : Transaction) (b : Bool) → has_id id r ≡ b → id_record (records_with w.coordinator.transactions r) id ≡ Some t → owner (changed w.coordinator r gs ws) t.pair.producer ≡ Some (Some id)
      by_owner id t true h found =
          let same : Some r ≡ Some t = sym (put_at_test w.coordinator.transactions r id true h) ∙ found in
          let e : r ≡ t = cc in
          owner_is (changed w.coordinator r gs ws) (w.coordinator.given ++ gs) t.pair.producer refl
          ∙ ap (λ (y : Transaction). given_to (w.coordinator.given ++ gs) y.pair.producer) (sym e) ∙ change.owned ∙ ap (λ i. Some (Some i)) (same_is r.id id h)
      by_owner id t false h found = owned_kept w.coordinator r gs ws t.pair.producer id (s.owned id t (sym (put_at_test w.coordinator.transactions r id false h) ∙ found))

      by_targets : (id : List ℕ) (t : Transaction) (b : Bool) → has_id id r ≡ b → id_record (records_with w.coordinator.transactions r) id ≡ Some t → AreDistinct (targets t)
      by_targets id t true h found =
          let same : Some r ≡ Some t = sym (put_at_test w.coordinator.transactions r id true h) ∙ found in
          let e : r ≡ t = cc in
          subst (λ (y : Transaction). AreDistinct (targets y)) e distinct
      by_targets id t false h found = s.distinct id t (sym (put_at_test w.coordinator.transactions r id false h) ∙ found)

      by_filled : (id : List ℕ) (t : Transaction) (b : Bool) → has_id id r ≡ b → id_record (records_with w.coordinator.transactions r) id ≡ Some t → t.state ≡ Ongoing → targets t ≡ [] → ⊥
      by_filled id t true h found =
          let same : Some r ≡ Some t = sym (put_at_test w.coordinator.transactions r id true h) ∙ found in
          let e : r ≡ t = cc in
          subst (λ (y : Transaction). y.state ≡ Ongoing → targets y ≡ [] → ⊥) e filled
      by_filled id t false h found = s.filled id t (sym (put_at_test w.coordinator.transactions r id false h) ∙ found)

      by_owing : (id : List ℕ) (t : Transaction) (o : TransactionResult) (b : Bool) → has_id id r ≡ b → id_record (records_with w.coordinator.transactions r) id ≡ Some t → t.state ≡ prepared_phase o → has_pending_marker ws id ≡ true
      by_owing id t o true h found waits =
          let same : Some r ≡ Some t = sym (put_at_test w.coordinator.transactions r id true h) ∙ found in
          let e : r ≡ t = cc in
          ap (has_pending_marker ws) (sym (same_is r.id id h)) ∙ owing o (ap (λ (y : Transaction). y.state) e ∙ waits)
      by_owing id t o false h found waits = others id t o (sym (put_at_test w.coordinator.transactions r id false h) ∙ found) waits (λ same. let yes : has_id id r ≡ true = is_same r.id id same in let clash : true ≡ false = sym yes ∙ h in cc)

new_owed : (c : CoordinatorValue) (r : Transaction) (gs : List (Option (List ℕ))) (ws : List PendingMarker) (x : PendingMarker) → IsOwedBy (c.given ++ gs) r x → IsPending (changed c r gs ws) x
new_owed c r gs ws x owed =
    let found : id_record (records_with c.transactions r) x.id ≡ Some r = put_at_test c.transactions r x.id true (is_same r.id x.id (sym owed.own)) in
    record {
      fence = record { owned = owner_is (changed c r gs ws) (c.given ++ gs) x.pair.producer refl ∙ owed.owned; transaction = r; found = found; reached = owed.reached };
      waits = λ t at. let same : Some r ≡ Some t = sym found ∙ at in let e : r ≡ t = cc in ap (λ (y : Transaction). y.state) (sym e) ∙ owed.waits;
    }

puts_sound : (w : World) (code : ErrorCode) (r : Transaction) (gs : List (Option (List ℕ))) (ws : List PendingMarker) → IsSound w → IsTransition w.coordinator r gs ws → IsSound (with_transition w (Puts code r gs ws))
puts_sound w code r gs ws s transition =
    let c = w.coordinator in
    let all = c.warrants ++ ws in
    let free_of : (x : PendingMarker) → IsPending c x → x.id ≡ r.id → ⊥ = not_owed c r.id transition.free in
    change_sound w r gs all s transition.change transition.distinct transition.filled
    (λ o waits. owes_after c.warrants ws r.id (transition.owing o waits))
    (λ id t o found waits _. owes_more c.warrants ws id (s.owing id t o found waits))
    (each_append (IsPending (changed c r gs all)) c.warrants ws
    (each_weaker (IsPending c) (IsPending (changed c r gs all)) (λ x owed. owed_kept c r gs all transition.change x owed (free_of x owed)) c.warrants s.owed)
    (each_weaker (IsOwedBy (c.given ++ gs) r) (IsPending (changed c r gs all)) (new_owed c r gs all) ws transition.owed))
    (apart_append r.id c.warrants ws s.apart transition.apart (each_weaker (IsPending c) (λ (x : PendingMarker). x.id ≡ r.id → ⊥) free_of c.warrants s.owed) (each_weaker (IsOwedBy (c.given ++ gs) r) (λ (x : PendingMarker). x.id ≡ r.id) (λ x owed. owed.own) ws transition.owed))

pub transition_sound : (w : World) (transition : Transition) → IsSound w → IsTurned w.coordinator transition → IsSound (with_transition w transition)
transition_sound w (Stays code) s h = s
transition_sound w (Puts code r gs ws) s h = puts_sound w code r gs ws s h
