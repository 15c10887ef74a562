-- Every move keeps the world sound.
use Rattle.record_batch.specs.declared.transaction_result.TransactionResult.TheVariants.{Commit, Abort}
use Rattle.std.proofs.Common.{◌≡◌, ℕ, ℤ, List, [], ◌∷◌, ◌++◌, Option, Some, None, Bool, true, false, cond, refl, sym, subst, ap, ◌∙◌, inl, append-nil, arith}
use Rattle.std.specs.Prelude.{◌&&◌, ◌||◌, ◌≤ℤ◌}
use Rattle.std.specs.Ordering.{int_eq}
use Rattle.std.specs.Str.{bytes_eq}
use Rattle.std.proofs.lemmas.Int.{ints}
use Rattle.wire_types.specs.declared.error_code.ErrorCode.{ErrorCode}
use Rattle.wire_types.specs.declared.error_code.ErrorCode.TheVariants as codes
use Rattle.txn_coordinator.specs.declared.producer_id.ProducerIdAndEpoch.{ProducerIdAndEpoch}
use Rattle.txn_coordinator.specs.declared.target.Target.{Target}
use Rattle.txn_coordinator.specs.declared.transaction.Transaction.{Transaction}
use Rattle.txn_coordinator.specs.declared.transaction.TransactionState.TheVariants.{Ongoing}
use Rattle.record_batch.specs.declared.transaction_result.TransactionResult.{TransactionResult}
use Rattle.txn_coordinator.specs.declared.marker.PendingMarker.{PendingMarker}
use Rattle.txn_coordinator.specs.Transition.{Transition, Stays, Puts}
use Rattle.txn_coordinator.specs.Words.{is_ongoing, has_target, completed_phase, prepared_phase}
use Rattle.txn_coordinator.specs.Coordinator.{CoordinatorValue, id_record, records_with, owner, given_free, apply_transition}
use Rattle.txn_coordinator.specs.InitProducerId.{init}
use Rattle.txn_coordinator.specs.Adding.{add_partitions, add_group}
use Rattle.txn_coordinator.specs.EndTxn.{end}
use Rattle.txn_coordinator.specs.Holding.{is_usable, holding_code_of, holding_code}
use Rattle.txn_coordinator.specs.Warrants.{has_pending_marker, completed_transaction, with_completed, with_first_written}
use Rattle.txn_coordinator.proofs.Table.{recorded_id}
use Rattle.txn_laws.specs.Small.{World, Entry, Move, first_world, is_same_target, world_with_entry, expire_transition, is_no_error, is_free, world_after_mark, world_after_move, world_after_moves}
use Rattle.txn_laws.specs.Small.Entry.{Data, Marker, Other}
use Rattle.txn_laws.specs.Small.Move.{Init, Give, AddPartitions, AddGroup, End, Expire, Moment, Store, Send, Plain, Mark}
use Rattle.txn_laws.specs.Sound.{Each, AreApart, IsFenced, IsPending, IsBacked, IsNotOlder, IsOrdered, IsSound}
use Rattle.txn_laws.proofs.Base.{owes_rest, each_weaker, each_append, each_of, each_with, is_same, owner_is, given_more, same_is}
use Rattle.txn_laws.proofs.Turns.{IsChange, changed, fence_kept, owed_kept, change_sound, transition_sound, IsTurned}
use Rattle.txn_laws.proofs.Targets.{and_true, same_number, target_is}
use Rattle.txn_laws.proofs.Calls.{init_transition, partitions_transition, group_transition, end_transition, ongoing_is, expire_one_transition}

-- ---- one entry more

-- the entry may stand after that one
abbrev Accepts : Entry → Entry → Type 0
Accepts (Data p) entry = Unit {0}
Accepts (Marker p o) entry = IsNotOlder p entry
Accepts Other entry = Unit {0}

alone : (entry : Entry) → IsOrdered (entry ∷ [])
alone (Data p) = tt
alone (Marker p o) = (tt, tt)
alone Other = tt

ordered_push : (xs : List Entry) (entry : Entry) → IsOrdered xs → Each (λ x. Accepts x entry) xs → IsOrdered (xs ++ entry ∷ [])
ordered_push [] entry h a = alone entry
ordered_push (Data p ∷ xs) entry h a = ordered_push xs entry h a.1
ordered_push (Marker p o ∷ xs) entry h a = (each_append (IsNotOlder p) xs (entry ∷ []) h.0 (a.0, tt), ordered_push xs entry h.1 a.1)
ordered_push (Other ∷ xs) entry h a = ordered_push xs entry h a.1

appended_sound : (w : World) (target : Target) (entry : Entry) → IsSound w → IsBacked w.coordinator entry → Each (λ x. Accepts x entry) (w.entries target) → IsSound (world_with_entry w target entry)
appended_sound w target entry s backed accepts = record {
  own_ids = s.own_ids;
  owned = s.owned;
  distinct = s.distinct;
  filled = s.filled;
  owed = s.owed;
  owing = s.owing;
  apart = s.apart;
  backed = λ t. by_backed t (is_same_target target t);
  ordered = λ t. by_ordered t (is_same_target target t) refl;
} where
  by_backed : (t : Target) (b : Bool) → Each (IsBacked w.coordinator) (cond b (w.entries t ++ entry ∷ []) (w.entries t))
  by_backed t true = each_append (IsBacked w.coordinator) (w.entries t) (entry ∷ []) (s.backed t) (backed, tt)
  by_backed t false = s.backed t

  by_ordered : (t : Target) (b : Bool) → is_same_target target t ≡ b → IsOrdered (cond b (w.entries t ++ entry ∷ []) (w.entries t))
  by_ordered t true h = ordered_push (w.entries t) entry (s.ordered t) (subst (λ u. Each (λ x. Accepts x entry) (w.entries u)) (target_is target t h) accepts)
  by_ordered t false h = s.ordered t

accepts_other : (x : Entry) → Accepts x Other
accepts_other (Data p) = tt
accepts_other (Marker p o) = tt
accepts_other Other = tt

accepts_marker : (p : ProducerIdAndEpoch) (o : TransactionResult) (x : Entry) → Accepts x (Marker p o)
accepts_marker p o (Data q) = tt
accepts_marker p o (Marker q u) = tt
accepts_marker p o Other = tt

-- ---- data under the check

pub record IsHeld (c : CoordinatorValue) (id : List ℕ) (pair : ProducerIdAndEpoch) : Type 0 where
  pub transaction : Transaction
  pub found : id_record c.transactions id ≡ Some transaction
  pub producer_is : transaction.pair.producer ≡ pair.producer
  pub epoch_is : transaction.pair.epoch ≡ pair.epoch
  pub state_is : transaction.state ≡ Ongoing

if_no_error : (b : Bool) (x y : ErrorCode) → is_no_error y ≡ false → is_no_error (cond b x y) ≡ true → (b ≡ true) × (is_no_error x ≡ true)
if_no_error true x y other h = (refl, h)
if_no_error false x y other h = absurd (let clash : true ≡ false = sym h ∙ other in cc)

pub held : (c : CoordinatorValue) (id : List ℕ) (pair : ProducerIdAndEpoch) (target : Target) → (found : Option Transaction) → id_record c.transactions id ≡ found → is_no_error (holding_code_of found pair target) ≡ true → IsHeld c id pair
held c id pair target None e h = absurd (let clash : false ≡ true = h in cc)
held c id pair target (Some t) e h =
    let first = if_no_error (int_eq t.pair.producer pair.producer) _ codes.InvalidProducerIdMapping refl h in
    let second = if_no_error (int_eq t.pair.epoch pair.epoch && is_usable target pair.epoch) _ codes.InvalidProducerEpoch refl first.1 in
    let third = if_no_error (is_ongoing t.state && has_target t target) codes.None codes.InvalidTxnState refl second.1 in
    let epochs = and_true (int_eq t.pair.epoch pair.epoch) (is_usable target pair.epoch) second.0 in
    record { transaction = t; found = e; producer_is = same_number t.pair.producer pair.producer first.0; epoch_is = same_number t.pair.epoch pair.epoch epochs.0; state_is = ongoing_is t.state (has_target t target) third.0 }

-- a producer id belongs to one id
pub one_owner : (c : CoordinatorValue) (p : ℤ) (id other : List ℕ) → owner c p ≡ Some (Some id) → owner c p ≡ Some (Some other) → id ≡ other
one_owner c p id other h k = let same : Some (Some id) ≡ Some (Some other) = sym h ∙ k in let inner : Some id ≡ Some other = cc in cc

accepts_held : (w : World) (id : List ℕ) (pair : ProducerIdAndEpoch) → IsSound w → IsHeld w.coordinator id pair → (x : Entry) → IsBacked w.coordinator x → Accepts x (Data pair)
accepts_held w id pair s h (Data q) backed = tt
accepts_held w id pair s h Other backed = tt
accepts_held w id pair s h (Marker q o) backed = λ same.
    let c = w.coordinator in
    let fence = backed.1 in
    let mine : owner c q.producer ≡ Some (Some id) = ap (owner c) (sym (h.producer_is ∙ same)) ∙ s.owned id h.transaction h.found in
    let one : backed.0 ≡ id = one_owner c q.producer backed.0 id fence.owned mine in
    let twice : Some fence.transaction ≡ Some h.transaction = sym fence.found ∙ ap (id_record c.transactions) one ∙ h.found in
    let record_is : fence.transaction ≡ h.transaction = cc in
    let reached = fence.reached (ap (λ (y : Transaction). y.pair.producer) record_is ∙ h.producer_is ∙ same) in
    let epochs : fence.transaction.pair.epoch ≡ pair.epoch = ap (λ (y : Transaction). y.pair.epoch) record_is ∙ h.epoch_is in
    omega (arith, ints)

stored_sound : (w : World) (id : List ℕ) (pair : ProducerIdAndEpoch) (target : Target) → IsSound w → (b : Bool) → is_no_error (holding_code w.coordinator id pair target) ≡ b → IsSound (cond b (world_with_entry w target (Data pair)) w)
stored_sound w id pair target s true e =
    let h = held w.coordinator id pair target (id_record w.coordinator.transactions id) refl e in
    appended_sound w target (Data pair) s tt (each_weaker (IsBacked w.coordinator) (λ x. Accepts x (Data pair)) (accepts_held w id pair s h) (w.entries target) (s.backed target))
stored_sound w id pair target s false e = s

-- ---- data of a producer id without transactional id

pub free_is : (o : Option (Option (List ℕ))) → is_free o ≡ true → o ≡ Some None
free_is None h = cc
free_is (Some None) h = refl
free_is (Some (Some id)) h = cc

accepts_free : (c : CoordinatorValue) (pair : ProducerIdAndEpoch) → owner c pair.producer ≡ Some None → (x : Entry) → IsBacked c x → Accepts x (Data pair)
accepts_free c pair free (Data q) backed = tt
accepts_free c pair free Other backed = tt
accepts_free c pair free (Marker q o) backed = λ same.
    let fence = backed.1 in
    let clash : Some None ≡ Some (Some backed.0) = sym free ∙ ap (owner c) same ∙ fence.owned in
    let inner : None ≡ Some backed.0 = cc in
    absurd (cc)

sent_sound : (w : World) (pair : ProducerIdAndEpoch) (target : Target) → IsSound w → (b : Bool) → is_free (owner w.coordinator pair.producer) ≡ b → IsSound (cond b (world_with_entry w target (Data pair)) w)
sent_sound w pair target s false e = s
sent_sound w pair target s true e =
    let free = free_is (owner w.coordinator pair.producer) e in
    appended_sound w target (Data pair) s tt (each_weaker (IsBacked w.coordinator) (λ x. Accepts x (Data pair)) (accepts_free w.coordinator pair free) (w.entries target) (s.backed target))

-- ---- a producer id for no transactional id

owned_given : (c : CoordinatorValue) (p : ℤ) (id : List ℕ) → owner c p ≡ Some (Some id) → owner (given_free c) p ≡ Some (Some id)
owned_given c p id h = owner_is (given_free c) (c.given ++ None ∷ []) p refl ∙ given_more c.given (None ∷ []) p (Some id) (sym (owner_is c c.given p refl) ∙ h)

fence_given : (c : CoordinatorValue) (id : List ℕ) (p : ProducerIdAndEpoch) → IsFenced c id p → IsFenced (given_free c) id p
fence_given c id p f = record { owned = owned_given c p.producer id f.owned; transaction = f.transaction; found = f.found; reached = f.reached }

backed_given : (c : CoordinatorValue) (x : Entry) → IsBacked c x → IsBacked (given_free c) x
backed_given c (Data p) h = tt
backed_given c (Marker p o) h = (h.0, fence_given c h.0 p h.1)
backed_given c Other h = tt

given_sound : (w : World) → IsSound w → IsSound (record w { coordinator = given_free w.coordinator })
given_sound w s = let c = w.coordinator in record {
  own_ids = s.own_ids;
  owned = λ id t found. owned_given c t.pair.producer id (s.owned id t found);
  distinct = s.distinct;
  filled = s.filled;
  owing = s.owing;
  owed = each_weaker (IsPending c) (IsPending (given_free c)) (λ x owed. record { fence = fence_given c x.id x.pair owed.fence; waits = owed.waits }) c.warrants s.owed;
  apart = s.apart;
  backed = λ target. each_weaker (IsBacked c) (IsBacked (given_free c)) (backed_given c) (w.entries target) (s.backed target);
  ordered = s.ordered;
}

-- ---- the front marker is written

owes_none : (ws : List PendingMarker) (id : List ℕ) → has_pending_marker ws id ≡ false → Each (λ (y : PendingMarker). y.id ≡ id → ⊥) ws
owes_none [] id h = tt
owes_none (y ∷ ys) id h = by_same (owes_none ys id) (bytes_eq y.id id) refl h where
  by_same : (has_pending_marker ys id ≡ false → Each (λ (y : PendingMarker). y.id ≡ id → ⊥) ys) → (b : Bool) → bytes_eq y.id id ≡ b → (b || has_pending_marker ys id) ≡ false → (y.id ≡ id → ⊥) × Each (λ (y : PendingMarker). y.id ≡ id → ⊥) ys
  by_same rest true e h = cc
  by_same rest false e h = ((λ same. let yes : bytes_eq y.id id ≡ true = is_same y.id id same in let clash : true ≡ false = sym yes ∙ e in cc), rest h)

owing_left : (x : PendingMarker) (xs : List PendingMarker) (id : List ℕ) → has_pending_marker xs x.id ≡ true → has_pending_marker (x ∷ xs) id ≡ true → has_pending_marker xs id ≡ true
owing_left x xs id some h = by_same (bytes_eq x.id id) refl h where
  by_same : (b : Bool) → bytes_eq x.id id ≡ b → (b || has_pending_marker xs id) ≡ true → has_pending_marker xs id ≡ true
  by_same true e h = ap (has_pending_marker xs) (sym (same_is x.id id e)) ∙ some
  by_same false e h = h

-- the coordinator without its front marker, with other records
abbrev left_with : CoordinatorValue → List Transaction → List (Option (List ℕ)) → List PendingMarker → CoordinatorValue
left_with c ts given ws = record { transactions = ts; given = given; warrants = ws }

-- it is sound, and what was fenced is fenced
abbrev IsLeft : World → CoordinatorValue → Type 0
IsLeft w c = IsSound (record w { coordinator = c }) × ((id : List ℕ) (p : ProducerIdAndEpoch) → IsFenced w.coordinator id p → IsFenced c id p)

owned_left : (c : CoordinatorValue) (ws : List PendingMarker) (p : ℤ) (id : List ℕ) → owner c p ≡ Some (Some id) → owner (left_with c c.transactions c.given ws) p ≡ Some (Some id)
owned_left c ws p id h = owner_is (left_with c c.transactions c.given ws) c.given p refl ∙ sym (owner_is c c.given p refl) ∙ h

fence_left : (c : CoordinatorValue) (ws : List PendingMarker) (id : List ℕ) (p : ProducerIdAndEpoch) → IsFenced c id p → IsFenced (left_with c c.transactions c.given ws) id p
fence_left c ws id p f = record { owned = owned_left c ws p.producer id f.owned; transaction = f.transaction; found = f.found; reached = f.reached }

backed_left : (c : CoordinatorValue) (ws : List PendingMarker) (x : Entry) → IsBacked c x → IsBacked (left_with c c.transactions c.given ws) x
backed_left c ws (Data p) h = tt
backed_left c ws (Marker p o) h = (h.0, fence_left c ws h.0 p h.1)
backed_left c ws Other h = tt

more_left : (w : World) (x : PendingMarker) (xs : List PendingMarker) → IsSound w → w.coordinator.warrants ≡ x ∷ xs → has_pending_marker xs x.id ≡ true → Each (IsPending w.coordinator) (x ∷ xs) → AreApart (x ∷ xs) → IsLeft w (left_with w.coordinator w.coordinator.transactions w.coordinator.given xs)
more_left w x xs s at some owed apart = let c = w.coordinator in (
  record {
    own_ids = s.own_ids;
    owned = λ id t found. owned_left c xs t.pair.producer id (s.owned id t found);
    distinct = s.distinct;
    filled = s.filled;
    owing = λ id t o found waits. owing_left x xs id some (ap (λ ws. has_pending_marker ws id) (sym at) ∙ s.owing id t o found waits);
    owed = each_weaker (IsPending c) (IsPending (left_with c c.transactions c.given xs)) (λ y o. record { fence = fence_left c xs y.id y.pair o.fence; waits = o.waits }) xs owed.1;
    apart = apart.1;
    backed = λ target. each_weaker (IsBacked c) (IsBacked (left_with c c.transactions c.given xs)) (backed_left c xs) (w.entries target) (s.backed target);
    ordered = s.ordered;
  },
  fence_left c xs,
)

complete_open : (o : TransactionResult) → completed_phase o ≡ Ongoing → ⊥
complete_open Commit h = cc
complete_open Abort h = cc

pub complete_waits : (a b : TransactionResult) → completed_phase a ≡ prepared_phase b → ⊥
complete_waits Commit Commit h = cc
complete_waits Commit Abort h = cc
complete_waits Abort Commit h = cc
complete_waits Abort Abort h = cc

last_left : (w : World) (x : PendingMarker) (xs : List PendingMarker) (t : Transaction) → IsSound w → w.coordinator.warrants ≡ x ∷ xs → Each (IsPending w.coordinator) (x ∷ xs) → AreApart (x ∷ xs) → has_pending_marker xs x.id ≡ false → id_record w.coordinator.transactions x.id ≡ Some t → IsLeft w (left_with w.coordinator (records_with w.coordinator.transactions (completed_transaction x.outcome t)) w.coordinator.given xs)
last_left w x xs t s at owed apart none found =
    subst (λ g. IsLeft w (left_with w.coordinator (records_with w.coordinator.transactions r) g xs)) (append-nil w.coordinator.given) (left_sound, fence_kept w.coordinator r [] xs change) where
      r : Transaction
      r = completed_transaction x.outcome t

      own : t.id ≡ x.id
      own = recorded_id w.coordinator.transactions x.id t found

      change : IsChange w.coordinator r []
      change = record {
        on = λ y h. let same : Some t ≡ Some y = sym found ∙ ap (id_record w.coordinator.transactions) (sym own) ∙ h in let e : t ≡ y = cc in inl (ap (λ (z : Transaction). z.pair.producer) e, subst (λ (z : Transaction). z.pair.epoch ≤ℤ t.pair.epoch) e (omega (arith, ints)));
        owned = given_more w.coordinator.given [] t.pair.producer (Some t.id) (sym (owner_is w.coordinator w.coordinator.given t.pair.producer refl) ∙ s.owned x.id t found ∙ ap (λ i. Some (Some i)) (sym own));
      }

      left_sound : IsSound (record w { coordinator = changed w.coordinator r [] xs })
      left_sound = change_sound w r [] xs s change tt
          (λ h _. complete_open x.outcome h) (λ o h. absurd (complete_waits x.outcome o h))
          (λ id y o at_id waits other. owes_rest x xs id (λ same. other (own ∙ same)) (ap (λ ws. has_pending_marker ws id) (sym at) ∙ s.owing id y o at_id waits))
          (each_weaker (λ (y : PendingMarker). IsPending w.coordinator y × (y.id ≡ x.id → ⊥)) (IsPending (changed w.coordinator r [] xs)) (λ y h. owed_kept w.coordinator r [] xs change y h.0 (λ e. h.1 (e ∙ own))) xs (each_with (IsPending w.coordinator) (λ (y : PendingMarker). y.id ≡ x.id → ⊥) xs owed.1 (owes_none xs x.id none)))
          apart.1

front_left : (w : World) (x : PendingMarker) (xs : List PendingMarker) → IsSound w → w.coordinator.warrants ≡ x ∷ xs → IsLeft w (with_first_written w.coordinator (x ∷ xs))
front_left w x xs s e = by_owes (has_pending_marker xs x.id) refl (subst (Each (IsPending w.coordinator)) e s.owed) where
  apart : AreApart (x ∷ xs)
  apart = subst AreApart e s.apart

  by_found : has_pending_marker xs x.id ≡ false → Each (IsPending w.coordinator) (x ∷ xs) → (found : Option Transaction) → id_record w.coordinator.transactions x.id ≡ found → IsLeft w (left_with w.coordinator (with_completed x.outcome found w.coordinator.transactions) w.coordinator.given xs)
  by_found none owed None found = let front = owed.0 in let fence = front.fence in absurd (let clash : None ≡ Some fence.transaction = sym found ∙ fence.found in cc)
  by_found none owed (Some t) found = last_left w x xs t s e owed apart none found

  by_owes : (b : Bool) → has_pending_marker xs x.id ≡ b → Each (IsPending w.coordinator) (x ∷ xs) → IsLeft w (left_with w.coordinator (cond b w.coordinator.transactions (with_completed x.outcome (id_record w.coordinator.transactions x.id) w.coordinator.transactions)) w.coordinator.given xs)
  by_owes true h owed = more_left w x xs s e h owed apart
  by_owes false h owed = by_found h owed (id_record w.coordinator.transactions x.id) refl

marked_sound : (w : World) (ws : List PendingMarker) → IsSound w → w.coordinator.warrants ≡ ws → IsSound (world_after_mark ws w)
marked_sound w [] s e = s
marked_sound w (x ∷ xs) s e =
    let left = front_left w x xs s e in
    let owed = subst (Each (IsPending w.coordinator)) e s.owed in
    appended_sound (record w { coordinator = with_first_written w.coordinator (x ∷ xs) }) x.target (Marker x.pair x.outcome) left.0 (x.id, left.1 x.id x.pair (fence_of owed.0)) (each_of (λ y. Accepts y (Marker x.pair x.outcome)) (accepts_marker x.pair x.outcome) (w.entries x.target)) where
      fence_of : IsPending w.coordinator x → IsFenced w.coordinator x.id x.pair
      fence_of o = o.fence

marked_fence : (w : World) (ws : List PendingMarker) → IsSound w → w.coordinator.warrants ≡ ws → (id : List ℕ) (p : ProducerIdAndEpoch) → IsFenced w.coordinator id p → IsFenced (world_after_mark ws w).coordinator id p
marked_fence w [] s h id p f = f
marked_fence w (x ∷ xs) s h id p f = let left = front_left w x xs s h in left.1 id p f

-- ---- every move

pub move_sound : (w : World) (m : Move) → IsSound w → IsSound (world_after_move w m)
move_sound w (Init id timeout greatest) s = transition_sound w (init w.coordinator id timeout greatest) s (init_transition w id timeout greatest s)
move_sound w Give s = given_sound w s
move_sound w (AddPartitions id pair partitions) s = transition_sound w (add_partitions w.coordinator id pair w.moment partitions) s (partitions_transition w id pair partitions s)
move_sound w (AddGroup id pair group) s = transition_sound w (add_group w.coordinator id pair w.moment group) s (group_transition w id pair group s)
move_sound w (End form id pair outcome) s = transition_sound w (end w.coordinator form id pair outcome) s (end_transition w form id pair outcome s)
move_sound w (Expire id) s = transition_sound w (expire_transition (id_record w.coordinator.transactions id) w.moment) s (expire_one_transition w id s (id_record w.coordinator.transactions id) refl)
move_sound w (Moment moment) s = record { own_ids = s.own_ids; owned = s.owned; distinct = s.distinct; filled = s.filled; owed = s.owed; owing = s.owing; apart = s.apart; backed = s.backed; ordered = s.ordered }
move_sound w (Store id pair target) s = stored_sound w id pair target s (is_no_error (holding_code w.coordinator id pair target)) refl
move_sound w (Send pair target) s = sent_sound w pair target s (is_free (owner w.coordinator pair.producer)) refl
move_sound w (Plain target) s = appended_sound w target Other s tt (each_of (λ x. Accepts x Other) accepts_other (w.entries target))
move_sound w Mark s = marked_sound w w.coordinator.warrants s refl

pub moves_sound : (w : World) (ms : List Move) → IsSound w → IsSound (world_after_moves w ms)
moves_sound w [] s = s
moves_sound w (m ∷ ms) s = moves_sound (world_after_move w m) ms (move_sound w m s)

pub first_sound : IsSound first_world
first_sound = record {
  own_ids = tt;
  owned = λ id t found. absurd (let clash : None ≡ Some t = found in cc);
  distinct = λ id t found. absurd (let clash : None ≡ Some t = found in cc);
  filled = λ id t found. absurd (let clash : None ≡ Some t = found in cc);
  owing = λ id t o found. absurd (let clash : None ≡ Some t = found in cc);
  owed = tt;
  apart = tt;
  backed = λ target. tt;
  ordered = λ target. tt;
}

-- ---- what is fenced stays fenced

turned_fence : (c : CoordinatorValue) (transition : Transition) → IsTurned c transition → (id : List ℕ) (p : ProducerIdAndEpoch) → IsFenced c id p → IsFenced (apply_transition c transition) id p
turned_fence c (Stays code) h id p f = f
turned_fence c (Puts code r gs ws) h id p f = fence_kept c r gs (c.warrants ++ ws) h.change id p f

-- data changes no coordinator
pub written_same : (b : Bool) (w : World) (target : Target) (entry : Entry) → (cond b (world_with_entry w target entry) w).coordinator ≡ w.coordinator
written_same true w target entry = refl
written_same false w target entry = refl

pub move_fence : (w : World) (m : Move) → IsSound w → (id : List ℕ) (p : ProducerIdAndEpoch) → IsFenced w.coordinator id p → IsFenced (world_after_move w m).coordinator id p
move_fence w (Init own timeout greatest) s id p f = turned_fence w.coordinator (init w.coordinator own timeout greatest) (init_transition w own timeout greatest s) id p f
move_fence w Give s id p f = fence_given w.coordinator id p f
move_fence w (AddPartitions own pair partitions) s id p f = turned_fence w.coordinator (add_partitions w.coordinator own pair w.moment partitions) (partitions_transition w own pair partitions s) id p f
move_fence w (AddGroup own pair group) s id p f = turned_fence w.coordinator (add_group w.coordinator own pair w.moment group) (group_transition w own pair group s) id p f
move_fence w (End form own pair outcome) s id p f = turned_fence w.coordinator (end w.coordinator form own pair outcome) (end_transition w form own pair outcome s) id p f
move_fence w (Expire own) s id p f = turned_fence w.coordinator (expire_transition (id_record w.coordinator.transactions own) w.moment) (expire_one_transition w own s (id_record w.coordinator.transactions own) refl) id p f
move_fence w (Moment moment) s id p f = f
move_fence w (Store own pair target) s id p f = subst (λ c. IsFenced c id p) (sym (written_same (is_no_error (holding_code w.coordinator own pair target)) w target (Data pair))) f
move_fence w (Send pair target) s id p f = subst (λ c. IsFenced c id p) (sym (written_same (is_free (owner w.coordinator pair.producer)) w target (Data pair))) f
move_fence w (Plain target) s id p f = f
move_fence w Mark s id p f = marked_fence w w.coordinator.warrants s refl id p f

pub moves_fence : (w : World) (ms : List Move) → IsSound w → (id : List ℕ) (p : ProducerIdAndEpoch) → IsFenced w.coordinator id p → IsFenced (world_after_moves w ms).coordinator id p
moves_fence w [] s id p f = f
moves_fence w (m ∷ ms) s id p f = moves_fence (world_after_move w m) ms (move_sound w m s) id p (move_fence w m s id p f)
