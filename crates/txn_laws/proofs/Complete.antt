-- What is owed is written by marks, before anything else of its producer comes there.
use Rattle.std.proofs.Common.{◌≡◌, ℕ, zero, suc, ◌+◌, ◌<◌, ◌≤◌, List, [], ◌∷◌, ◌++◌, length, Some, None, Bool, true, false, cond, refl, sym, subst, ap, ◌∙◌, inl, inr, ◌⊎◌, append-nil, append_assoc, arith}
use Rattle.std.specs.Prelude.{slice_get, ◌||◌}
use Rattle.std.specs.Str.{bytes_eq}
use Rattle.txn_coordinator.specs.declared.transaction.Transaction.{Transaction}
use Rattle.txn_coordinator.specs.declared.transaction.TransactionState.TheVariants.{Ongoing}
use Rattle.record_batch.specs.declared.transaction_result.TransactionResult.{TransactionResult}
use Rattle.record_batch.specs.declared.transaction_result.TransactionResult.TheVariants.{Commit, Abort}
use Rattle.txn_coordinator.specs.declared.marker.PendingMarker.{PendingMarker}
use Rattle.txn_coordinator.specs.Transition.{Transition, Stays, Puts}
use Rattle.txn_coordinator.specs.Words.{prepared_phase}
use Rattle.txn_coordinator.specs.Coordinator.{CoordinatorValue, id_record, owner, apply_transition}
use Rattle.txn_coordinator.specs.InitProducerId.{init}
use Rattle.txn_coordinator.specs.Adding.{add_partitions, add_group}
use Rattle.txn_coordinator.specs.EndTxn.{end}
use Rattle.txn_coordinator.specs.Holding.{holding_code}
use Rattle.txn_coordinator.specs.Warrants.{has_pending_marker}
use Rattle.txn_laws.specs.Small.{World, Entry, Move, is_same_target, expire_transition, is_no_error, is_free, world_after_mark, world_after_move, world_after_moves, mark_count, count_of_marks}
use Rattle.txn_laws.specs.Small.Entry.{Data, Marker, Other}
use Rattle.txn_laws.specs.Small.Move.{Init, Give, AddPartitions, AddGroup, End, Expire, Moment, Store, Send, Plain, Mark}
use Rattle.txn_laws.specs.Sound.{Each, IsSound, IsFenced, IsPending, IsApart, AreApart}
use Rattle.txn_laws.specs.Laws.{InSound, IsNotOf, IsEnded, CompletionLaw, WaitingLaw, up_to_last}
use Rattle.txn_laws.proofs.Base.{each_append, each_weaker, is_same}
use Rattle.txn_laws.proofs.Targets.{self_target, target_is}
use Rattle.txn_laws.proofs.Calls.{same_outcome}
use Rattle.txn_laws.proofs.Moves.{one_owner, move_sound, written_same}
use Rattle.txn_laws.proofs.Growth.{IsAdmitted, move_grown, moves_grow}

-- ---- the list of markers only grows at its end, but for marks

abbrev HasMore : List PendingMarker → List PendingMarker → Type 0
HasMore old new = (more : List PendingMarker) × (new ≡ old ++ more)

as_is : (old : List PendingMarker) → HasMore old old
as_is old = ([], sym (append-nil old))

as_same : (c d : CoordinatorValue) → d ≡ c → HasMore c.warrants d.warrants
as_same c d e = ([], ap (λ (x : CoordinatorValue). x.warrants) e ∙ sym (append-nil c.warrants))

turned_more : (c : CoordinatorValue) (transition : Transition) → HasMore c.warrants (apply_transition c transition).warrants
turned_more c (Stays code) = as_is c.warrants
turned_more c (Puts code r gs ws) = (ws, refl)

more_warrants : (w : World) (m : Move) → mark_count m ≡ 0 → HasMore w.coordinator.warrants (world_after_move w m).coordinator.warrants
more_warrants w (Init id timeout greatest) e = turned_more w.coordinator (init w.coordinator id timeout greatest)
more_warrants w Give e = as_is w.coordinator.warrants
more_warrants w (AddPartitions id pair partitions) e = turned_more w.coordinator (add_partitions w.coordinator id pair w.moment partitions)
more_warrants w (AddGroup id pair group) e = turned_more w.coordinator (add_group w.coordinator id pair w.moment group)
more_warrants w (End form id pair outcome) e = turned_more w.coordinator (end w.coordinator form id pair outcome)
more_warrants w (Expire id) e = turned_more w.coordinator (expire_transition (id_record w.coordinator.transactions id) w.moment)
more_warrants w (Moment moment) e = as_is w.coordinator.warrants
more_warrants w (Store id pair target) e = as_same w.coordinator _ (written_same (is_no_error (holding_code w.coordinator id pair target)) w target (Data pair))
more_warrants w (Send pair target) e = as_same w.coordinator _ (written_same (is_free (owner w.coordinator pair.producer)) w target (Data pair))
more_warrants w (Plain target) e = as_is w.coordinator.warrants
more_warrants w Mark e = absurd (omega arith)

-- ---- while it is owed, nothing else of its producer comes

pub ongoing_waits : (o : TransactionResult) → Ongoing ≡ prepared_phase o → ⊥
ongoing_waits Commit h = cc
ongoing_waits Abort h = cc

not_of : (w : World) (x : PendingMarker) → IsSound w → IsPending w.coordinator x → (y : Entry) → IsAdmitted 0 w.coordinator y → IsNotOf x.pair.producer y
not_of w x s owed (Marker p o) h = absurd (omega arith)
not_of w x s owed Other h = tt
not_of w x s owed (Data p) (inr free) = λ same.
    let clash : Some None ≡ Some (Some x.id) = sym free ∙ ap (owner w.coordinator) same ∙ owned_of owed.fence in
    let inner : None ≡ Some x.id = cc in absurd (cc) where
      owned_of : IsFenced w.coordinator x.id x.pair → owner w.coordinator x.pair.producer ≡ Some (Some x.id)
      owned_of f = f.owned
not_of w x s owed (Data p) (inl (id, h)) = λ same.
    let c = w.coordinator in
    let mine : owner c x.pair.producer ≡ Some (Some id) = ap (owner c) (sym (h.producer_is ∙ same)) ∙ s.owned id h.transaction h.found in
    let one : id ≡ x.id = one_owner c x.pair.producer id x.id mine (owned_of owed.fence) in
    let waits = owed.waits h.transaction (ap (id_record c.transactions) (sym one) ∙ h.found) in
    ongoing_waits x.outcome (sym h.state_is ∙ waits) where
      owned_of : IsFenced w.coordinator x.id x.pair → owner w.coordinator x.pair.producer ≡ Some (Some x.id)
      owned_of f = f.owned

-- the marker among those that are pending
owed_among : (c : CoordinatorValue) (front : List PendingMarker) (x : PendingMarker) (rest : List PendingMarker) → Each (IsPending c) (front ++ x ∷ rest) → IsPending c x
owed_among c [] x rest h = h.0
owed_among c (y ∷ ys) x rest h = owed_among c ys x rest h.1

other_among : (y : PendingMarker) (front : List PendingMarker) (x : PendingMarker) (rest : List PendingMarker) → Each (IsApart y) (front ++ x ∷ rest) → IsApart y x
other_among y [] x rest h = h.0
other_among y (z ∷ zs) x rest h = other_among y zs x rest h.1

-- two markers of one producer id are for different targets
not_its_marker : (c : CoordinatorValue) (y x : PendingMarker) → IsPending c y → IsPending c x → IsApart y x → y.target ≡ x.target → y.pair.producer ≡ x.pair.producer → ⊥
not_its_marker c y x owed_y owed_x other same_target same =
    other (one_owner c x.pair.producer y.id x.id (ap (owner c) (sym same) ∙ owned_of y owed_y.fence) (owned_of x owed_x.fence)) same_target where
      owned_of : (z : PendingMarker) → IsFenced c z.id z.pair → owner c z.pair.producer ≡ Some (Some z.id)
      owned_of z f = f.owned

-- ---- the induction over moves

-- with nothing of the producer since the beginning, that many markers in front, and enough marks, it ends so
abbrev Ends : List Move → World → Type 0
Ends ms w = (front : List PendingMarker) (x : PendingMarker) (rest : List PendingMarker) → w.coordinator.warrants ≡ front ++ x ∷ rest → length front < count_of_marks ms → (old mid : List Entry) → w.entries x.target ≡ old ++ mid → Each (IsNotOf x.pair.producer) mid → IsEnded x.pair x.outcome old ((world_after_moves w ms).entries x.target)

pub kind_of : (m : Move) → (m ≡ Mark) ⊎ (mark_count m ≡ 0)
kind_of (Init id timeout greatest) = inr refl
kind_of Give = inr refl
kind_of (AddPartitions id pair partitions) = inr refl
kind_of (AddGroup id pair group) = inr refl
kind_of (End form id pair outcome) = inr refl
kind_of (Expire id) = inr refl
kind_of (Moment moment) = inr refl
kind_of (Store id pair target) = inr refl
kind_of (Send pair target) = inr refl
kind_of (Plain target) = inr refl
kind_of Mark = inl refl

-- a move that is no mark
quiet : (w : World) (m : Move) (ms : List Move) → IsSound w → mark_count m ≡ 0 → Ends ms (world_after_move w m) → Ends (m ∷ ms) w
quiet w m ms s no_mark ih front x rest at enough old mid log nothing =
    let more = more_warrants w m no_mark in
    let owed = owed_among w.coordinator front x rest (subst (Each (IsPending w.coordinator)) at s.owed) in
    let grown = move_grown w m x.target in
    let admitted : Each (IsAdmitted 0 w.coordinator) grown.more = subst (λ n. Each (IsAdmitted n w.coordinator) grown.more) no_mark grown.admitted in
    ih front x (rest ++ more.0)
    (more.1 ∙ ap (λ l. l ++ more.0) at ∙ append_assoc front (x ∷ rest) more.0)
    (omega arith)
    old (mid ++ grown.more)
    (grown.log ∙ ap (λ l. l ++ grown.more) log ∙ append_assoc old mid grown.more)
    (each_append (IsNotOf x.pair.producer) mid grown.more nothing (each_weaker (IsAdmitted 0 w.coordinator) (IsNotOf x.pair.producer) (not_of w x s owed) grown.more admitted))

-- the mark that writes it
its_own : (w : World) (ms : List Move) (x : PendingMarker) (rest : List PendingMarker) → (old mid : List Entry) → w.entries x.target ≡ old ++ mid → Each (IsNotOf x.pair.producer) mid → IsEnded x.pair x.outcome old ((world_after_moves (world_after_mark (x ∷ rest) w) ms).entries x.target)
its_own w ms x rest old mid log nothing =
    let later = moves_grow (world_after_mark (x ∷ rest) w) ms x.target in
    let marker = Marker x.pair x.outcome in
    let here : (world_after_mark (x ∷ rest) w).entries x.target ≡ w.entries x.target ++ marker ∷ [] = ap (λ b. cond b (w.entries x.target ++ marker ∷ []) (w.entries x.target)) (self_target x.target) in
    record {
      between = mid;
      after = later.0;
      log = later.1 ∙ ap (λ l. l ++ later.0) (here ∙ ap (λ l. l ++ marker ∷ []) log) ∙ append_assoc (old ++ mid) (marker ∷ []) later.0 ∙ append_assoc old mid (marker ∷ later.0);
      nothing = nothing;
    }

-- a mark that writes one in front of it
another : (w : World) (ms : List Move) (y : PendingMarker) (ys : List PendingMarker) (x : PendingMarker) (rest : List PendingMarker) → IsPending w.coordinator y → IsPending w.coordinator x → IsApart y x → Ends ms (world_after_mark (y ∷ (ys ++ x ∷ rest)) w) → length ys < count_of_marks ms → (old mid : List Entry) → w.entries x.target ≡ old ++ mid → Each (IsNotOf x.pair.producer) mid → IsEnded x.pair x.outcome old ((world_after_moves (world_after_mark (y ∷ (ys ++ x ∷ rest)) w) ms).entries x.target)
another w ms y ys x rest owed_y owed_x other ih enough old mid log nothing = by_target (is_same_target y.target x.target) refl where
  after : World
  after = world_after_mark (y ∷ (ys ++ x ∷ rest)) w

  marker : Entry
  marker = Marker y.pair y.outcome

  here : (b : Bool) → is_same_target y.target x.target ≡ b → after.entries x.target ≡ cond b (w.entries x.target ++ marker ∷ []) (w.entries x.target)
  here b e = ap (λ b. cond b (w.entries x.target ++ marker ∷ []) (w.entries x.target)) e

  by_target : (b : Bool) → is_same_target y.target x.target ≡ b → IsEnded x.pair x.outcome old ((world_after_moves after ms).entries x.target)
  by_target true e = ih ys x rest refl enough old (mid ++ marker ∷ []) (here true e ∙ ap (λ l. l ++ marker ∷ []) log ∙ append_assoc old mid (marker ∷ []))
      (each_append (IsNotOf x.pair.producer) mid (marker ∷ []) nothing (not_its_marker w.coordinator y x owed_y owed_x other (target_is y.target x.target e), tt))
  by_target false e = ih ys x rest refl enough old mid (here false e ∙ log) nothing

pub ends : (ms : List Move) (w : World) → IsSound w → Ends ms w
ends [] w s = λ front x rest at enough old mid log nothing. absurd (omega arith)
ends (m ∷ ms) w s = by_kind (kind_of m) (ends ms (world_after_move w m) (move_sound w m s)) where
  by_front : (front : List PendingMarker) (x : PendingMarker) (rest : List PendingMarker) → w.coordinator.warrants ≡ front ++ x ∷ rest → Ends ms (world_after_mark (front ++ x ∷ rest) w) → length front < 1 + count_of_marks ms → (old mid : List Entry) → w.entries x.target ≡ old ++ mid → Each (IsNotOf x.pair.producer) mid → IsEnded x.pair x.outcome old ((world_after_moves (world_after_mark (front ++ x ∷ rest) w) ms).entries x.target)
  by_front [] x rest at ih enough old mid log nothing = its_own w ms x rest old mid log nothing
  by_front (y ∷ ys) x rest at ih enough old mid log nothing =
      let owed = subst (Each (IsPending w.coordinator)) at s.owed in
      let apart = subst AreApart at s.apart in
      another w ms y ys x rest owed.0 (owed_among w.coordinator ys x rest owed.1) (other_among y ys x rest apart.0) ih (omega arith) old mid log nothing

  at_mark : Ends ms (world_after_move w Mark) → Ends (Mark ∷ ms) w
  at_mark ih front x rest at enough old mid log nothing =
      subst (λ ws. IsEnded x.pair x.outcome old ((world_after_moves (world_after_mark ws w) ms).entries x.target)) (sym at)
      (by_front front x rest at (subst (λ ws. Ends ms (world_after_mark ws w)) at ih) enough old mid log nothing)

  by_kind : (m ≡ Mark) ⊎ (mark_count m ≡ 0) → Ends ms (world_after_move w m) → Ends (m ∷ ms) w
  by_kind (inr no_mark) ih = quiet w m ms s no_mark ih
  by_kind (inl is) ih = subst (λ m. Ends (m ∷ ms) w) (sym is) (at_mark (subst (λ m. Ends ms (world_after_move w m)) is ih))

-- from what stands at the target now
pub ended_after : (ms : List Move) (w : World) → IsSound w → (front : List PendingMarker) (x : PendingMarker) (rest : List PendingMarker) → w.coordinator.warrants ≡ front ++ x ∷ rest → length front < count_of_marks ms → IsEnded x.pair x.outcome (w.entries x.target) ((world_after_moves w ms).entries x.target)
ended_after ms w s front x rest at enough = ends ms w s front x rest at enough (w.entries x.target) [] (sym (append-nil (w.entries x.target))) tt

-- ---- by the place in the list

split_at : (ws : List PendingMarker) (i : ℕ) (x : PendingMarker) → slice_get ws i ≡ Some x → (front : List PendingMarker) × (rest : List PendingMarker) × (ws ≡ front ++ x ∷ rest) × (length front ≡ i)
split_at [] i x h = cc
split_at (y ∷ ys) zero x h = let e : y ≡ x = cc in ([], ys, ap (λ z. z ∷ ys) e, refl)
split_at (y ∷ ys) (suc i) x h = let inner = split_at ys i x h in (y ∷ inner.0, inner.1, ap (λ l. y ∷ l) inner.2, ap suc inner.3)

pub completion_law : InSound CompletionLaw
completion_law w s i x after at enough =
    let parts = split_at w.coordinator.warrants i x at in
    let long = parts.3 in
    ended_after after w s parts.0 x parts.1 parts.2 (omega arith)

-- ---- up to the last marker of an id

owes_among : (front : List PendingMarker) (x : PendingMarker) (rest : List PendingMarker) (id : List ℕ) → x.id ≡ id → has_pending_marker (front ++ x ∷ rest) id ≡ true
owes_among [] x rest id own = ap (λ b. b || has_pending_marker rest id) (is_same x.id id own)
owes_among (y ∷ ys) x rest id own = by_same (bytes_eq y.id id) (owes_among ys x rest id own) where
  by_same : (b : Bool) → has_pending_marker (ys ++ x ∷ rest) id ≡ true → (b || has_pending_marker (ys ++ x ∷ rest) id) ≡ true
  by_same true h = refl
  by_same false h = h

pub before_last : (front : List PendingMarker) (x : PendingMarker) (rest : List PendingMarker) (id : List ℕ) → x.id ≡ id → length front < up_to_last (front ++ x ∷ rest) id
before_last [] x rest id own = subst (λ b. 0 < cond b (1 + up_to_last rest id) 0) (sym (owes_among [] x rest id own)) (omega arith)
before_last (y ∷ ys) x rest id own =
    let low = before_last ys x rest id own in
    subst (λ b. length (y ∷ ys) < cond b (1 + up_to_last (ys ++ x ∷ rest) id) 0) (sym (owes_among (y ∷ ys) x rest id own)) (omega arith)

-- no more than are owed at all
pub last_within : (ws : List PendingMarker) (id : List ℕ) → up_to_last ws id ≤ length ws
last_within [] id = omega arith
last_within (x ∷ xs) id = by_owes (has_pending_marker (x ∷ xs) id) (last_within xs id) where
  by_owes : (b : Bool) → up_to_last xs id ≤ length xs → cond b (1 + up_to_last xs id) 0 ≤ length (x ∷ xs)
  by_owes true rest = omega arith
  by_owes false rest = omega arith

each_waiting : (ms : List Move) (w : World) → IsSound w → (id : List ℕ) (t : Transaction) (o : TransactionResult) → id_record w.coordinator.transactions id ≡ Some t → t.state ≡ prepared_phase o → up_to_last w.coordinator.warrants id ≤ count_of_marks ms
    → (front xs : List PendingMarker) → w.coordinator.warrants ≡ front ++ xs → Each (λ (x : PendingMarker). x.id ≡ id → IsEnded x.pair o (w.entries x.target) ((world_after_moves w ms).entries x.target)) xs
each_waiting ms w s id t o found waits enough front [] at = tt
each_waiting ms w s id t o found waits enough front (x ∷ xs) at = (one, each_waiting ms w s id t o found waits enough (front ++ x ∷ []) xs (at ∙ sym (append_assoc front (x ∷ []) xs))) where
  one : x.id ≡ id → IsEnded x.pair o (w.entries x.target) ((world_after_moves w ms).entries x.target)
  one own =
      let owed = owed_among w.coordinator front x xs (subst (Each (IsPending w.coordinator)) at s.owed) in
      let outcome : x.outcome ≡ o = same_outcome x.outcome o (sym (owed.waits t (ap (id_record w.coordinator.transactions) own ∙ found)) ∙ waits) in
      let low : length front < up_to_last w.coordinator.warrants id = subst (λ ws. length front < up_to_last ws id) (sym at) (before_last front x xs id own) in
      subst (λ outcome. IsEnded x.pair outcome (w.entries x.target) ((world_after_moves w ms).entries x.target)) outcome (ended_after ms w s front x xs at (omega arith))

pub waiting_law : InSound WaitingLaw
waiting_law w s id t o after found waits enough = each_waiting after w s id t o found waits enough [] w.coordinator.warrants refl
