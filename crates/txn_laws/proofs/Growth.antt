-- What a move appends to a log or a group.
use Rattle.std.proofs.Common.{◌≡◌, ℕ, List, [], ◌∷◌, ◌++◌, Some, None, Bool, true, false, cond, refl, sym, ap, ◌∙◌, inl, inr, ◌⊎◌, append-nil, append_assoc}
use Rattle.txn_coordinator.specs.declared.producer_id.ProducerIdAndEpoch.{ProducerIdAndEpoch}
use Rattle.txn_coordinator.specs.declared.target.Target.{Target}
use Rattle.txn_coordinator.specs.declared.marker.PendingMarker.{PendingMarker}
use Rattle.txn_coordinator.specs.Coordinator.{CoordinatorValue, id_record, owner}
use Rattle.txn_coordinator.specs.Holding.{holding_code}
use Rattle.txn_laws.specs.Small.{World, Entry, Move, is_same_target, with_entry, world_with_entry, is_no_error, is_free, world_after_mark, world_after_move, world_after_moves, mark_count}
use Rattle.txn_laws.specs.Small.Entry.{Data, Marker, Other}
use Rattle.txn_laws.specs.Small.Move.{Init, Give, AddPartitions, AddGroup, End, Expire, Moment, Store, Send, Plain, Mark}
use Rattle.txn_laws.specs.Sound.{Each}
use Rattle.txn_laws.proofs.Moves.{IsHeld, held, free_is}

-- data is let in by the check, or is of a producer id without transactional id; markers come by marks alone
abbrev pub IsAdmitted : ℕ → CoordinatorValue → Entry → Type 0
IsAdmitted marks c (Data p) = ((id : List ℕ) × IsHeld c id p) ⊎ (owner c p.producer ≡ Some None)
IsAdmitted marks c (Marker p o) = marks ≡ 1
IsAdmitted marks c Other = Unit {0}

pub record HasGrown (marks : ℕ) (c : CoordinatorValue) (old new : List Entry) : Type 0 where
  pub more : List Entry
  pub log : new ≡ old ++ more
  pub admitted : Each (IsAdmitted marks c) more

pub unchanged : (marks : ℕ) (c : CoordinatorValue) (old : List Entry) → HasGrown marks c old old
unchanged marks c old = record { more = []; log = sym (append-nil old); admitted = tt }

with_one : (marks : ℕ) (w : World) (target t : Target) (entry : Entry) → IsAdmitted marks w.coordinator entry → HasGrown marks w.coordinator (w.entries t) (with_entry w.entries target entry t)
with_one marks w target t entry h = by_same (is_same_target target t) where
  by_same : (b : Bool) → HasGrown marks w.coordinator (w.entries t) (cond b (w.entries t ++ entry ∷ []) (w.entries t))
  by_same true = record { more = entry ∷ []; log = refl; admitted = (h, tt) }
  by_same false = unchanged marks w.coordinator (w.entries t)

stored_grown : (w : World) (id : List ℕ) (pair : ProducerIdAndEpoch) (target t : Target) → (b : Bool) → is_no_error (holding_code w.coordinator id pair target) ≡ b → HasGrown 0 w.coordinator (w.entries t) ((cond b (world_with_entry w target (Data pair)) w).entries t)
stored_grown w id pair target t true e = with_one 0 w target t (Data pair) (inl (id, held w.coordinator id pair target (id_record w.coordinator.transactions id) refl e))
stored_grown w id pair target t false e = unchanged 0 w.coordinator (w.entries t)

sent_grown : (w : World) (pair : ProducerIdAndEpoch) (target t : Target) → (b : Bool) → is_free (owner w.coordinator pair.producer) ≡ b → HasGrown 0 w.coordinator (w.entries t) ((cond b (world_with_entry w target (Data pair)) w).entries t)
sent_grown w pair target t true e = with_one 0 w target t (Data pair) (inr (free_is (owner w.coordinator pair.producer) e))
sent_grown w pair target t false e = unchanged 0 w.coordinator (w.entries t)

marked_grown : (w : World) (t : Target) (ws : List PendingMarker) → HasGrown 1 w.coordinator (w.entries t) ((world_after_mark ws w).entries t)
marked_grown w t [] = unchanged 1 w.coordinator (w.entries t)
marked_grown w t (x ∷ xs) = with_one 1 w x.target t (Marker x.pair x.outcome) refl

pub move_grown : (w : World) (m : Move) (t : Target) → HasGrown (mark_count m) w.coordinator (w.entries t) ((world_after_move w m).entries t)
move_grown w (Init id timeout greatest) t = unchanged 0 w.coordinator (w.entries t)
move_grown w Give t = unchanged 0 w.coordinator (w.entries t)
move_grown w (AddPartitions id pair partitions) t = unchanged 0 w.coordinator (w.entries t)
move_grown w (AddGroup id pair group) t = unchanged 0 w.coordinator (w.entries t)
move_grown w (End form id pair outcome) t = unchanged 0 w.coordinator (w.entries t)
move_grown w (Expire id) t = unchanged 0 w.coordinator (w.entries t)
move_grown w (Moment moment) t = unchanged 0 w.coordinator (w.entries t)
move_grown w (Store id pair target) t = stored_grown w id pair target t (is_no_error (holding_code w.coordinator id pair target)) refl
move_grown w (Send pair target) t = sent_grown w pair target t (is_free (owner w.coordinator pair.producer)) refl
move_grown w (Plain target) t = with_one 0 w target t Other tt
move_grown w Mark t = marked_grown w t w.coordinator.warrants

-- nothing is ever taken out
pub moves_grow : (w : World) (ms : List Move) (t : Target) → (more : List Entry) × ((world_after_moves w ms).entries t ≡ w.entries t ++ more)
moves_grow w [] t = ([], sym (append-nil (w.entries t)))
moves_grow w (m ∷ ms) t =
    let one = move_grown w m t in
    let rest = moves_grow (world_after_move w m) ms t in
    (one.more ++ rest.0, rest.1 ∙ ap (λ l. l ++ rest.0) one.log ∙ append_assoc (w.entries t) one.more rest.0)
