-- A pair that was left writes nothing more.
use Rattle.std.proofs.Common.{◌≡◌, ℕ, List, [], ◌∷◌, ◌++◌, Some, None, sym, ap, ◌∙◌, inl, inr, append-nil, append_assoc, arith, Bool, true, false, refl}
use Rattle.std.proofs.lemmas.Int.{ints}
use Rattle.txn_coordinator.specs.declared.producer_id.ProducerIdAndEpoch.{ProducerIdAndEpoch}
use Rattle.txn_coordinator.specs.declared.target.Target.{Target}
use Rattle.txn_coordinator.specs.declared.transaction.Transaction.{Transaction}
use Rattle.txn_coordinator.specs.Words.{with_next_epoch}
use Rattle.txn_coordinator.specs.Coordinator.{id_record, owner}
use Rattle.txn_coordinator.specs.Holding.{holding_code}
use Rattle.txn_laws.specs.Small.{World, Entry, Move, is_no_error, is_free, world_after_move, world_after_moves, mark_count}
use Rattle.txn_laws.specs.Small.Entry.{Data, Marker, Other}
use Rattle.txn_laws.specs.Sound.{IsSound, IsFenced}
use Rattle.txn_laws.specs.Laws.{InSound, IsNotIdAndEpoch, IsSilent, HasIdAndEpoch, FencingLaw, Refuses, RefusalLaw, OrderLaw}
use Rattle.txn_laws.proofs.Base.{each_append, each_weaker}
use Rattle.txn_laws.proofs.Moves.{one_owner, move_sound, moves_sound, move_fence, moves_fence, held, free_is}
use Rattle.txn_laws.proofs.Growth.{IsAdmitted, move_grown}

-- no data of the pair is let in where the id has gone past it
not_admitted : (w : World) (id : List ℕ) (pair : ProducerIdAndEpoch) (marks : ℕ) → IsSound w → IsFenced w.coordinator id (with_next_epoch pair) → (x : Entry) → IsAdmitted marks w.coordinator x → IsNotIdAndEpoch pair x
not_admitted w id pair marks s f (Marker p o) h = tt
not_admitted w id pair marks s f Other h = tt
not_admitted w id pair marks s f (Data p) (inr free) = λ same.
    let clash : Some None ≡ Some (Some id) = sym free ∙ ap (λ (q : ProducerIdAndEpoch). owner w.coordinator q.producer) same ∙ f.owned in
    let inner : None ≡ Some id = cc in absurd (cc)
not_admitted w id pair marks s f (Data p) (inl (other, h)) = λ same.
    let c = w.coordinator in
    let producer : h.transaction.pair.producer ≡ pair.producer = h.producer_is ∙ ap (λ (q : ProducerIdAndEpoch). q.producer) same in
    let mine : owner c pair.producer ≡ Some (Some other) = ap (owner c) (sym producer) ∙ s.owned other h.transaction h.found in
    let one : other ≡ id = one_owner c pair.producer other id mine f.owned in
    let twice : Some h.transaction ≡ Some f.transaction = sym h.found ∙ ap (id_record c.transactions) one ∙ f.found in
    let record_is : f.transaction ≡ h.transaction = cc in
    let reached = f.reached (ap (λ (y : Transaction). y.pair.producer) record_is ∙ producer) in
    let epochs : f.transaction.pair.epoch ≡ pair.epoch = ap (λ (y : Transaction). y.pair.epoch) record_is ∙ h.epoch_is ∙ ap (λ (q : ProducerIdAndEpoch). q.epoch) same in
    omega (arith, ints)

silent : (ms : List Move) (w : World) (id : List ℕ) (pair : ProducerIdAndEpoch) → IsSound w → IsFenced w.coordinator id (with_next_epoch pair) → (target : Target) → IsSilent pair (w.entries target) ((world_after_moves w ms).entries target)
silent [] w id pair s f target = record { more = []; log = sym (append-nil (w.entries target)); nothing = tt }
silent (m ∷ ms) w id pair s f target =
    let one = move_grown w m target in
    let rest = silent ms (world_after_move w m) id pair (move_sound w m s) (move_fence w m s id (with_next_epoch pair) f) target in
    record {
      more = one.more ++ rest.more;
      log = rest.log ∙ ap (λ l. l ++ rest.more) one.log ∙ append_assoc (w.entries target) one.more rest.more;
      nothing = each_append (IsNotIdAndEpoch pair) one.more rest.more (each_weaker (IsAdmitted (mark_count m) w.coordinator) (IsNotIdAndEpoch pair) (not_admitted w id pair (mark_count m) s f) one.more one.admitted) rest.nothing;
    }

same_pair : (p q : ProducerIdAndEpoch) → p.producer ≡ q.producer → p.epoch ≡ q.epoch → p ≡ q
same_pair p q producer epoch = λ i. record { producer = producer i; epoch = epoch i }

-- a record that left the pair has gone past it
pub gone_past : (w : World) (ms : List Move) (id : List ℕ) (pair : ProducerIdAndEpoch) → IsSound w → HasIdAndEpoch w id pair → (HasIdAndEpoch (world_after_moves w ms) id pair → ⊥) → IsFenced (world_after_moves w ms).coordinator id (with_next_epoch pair)
gone_past w ms id pair s (t, found, pair_is) left =
    let epoch_is : t.pair.epoch ≡ pair.epoch = ap (λ (q : ProducerIdAndEpoch). q.epoch) pair_is in
    let before : IsFenced w.coordinator id pair = record { owned = ap (λ (q : ProducerIdAndEpoch). owner w.coordinator q.producer) (sym pair_is) ∙ s.owned id t found; transaction = t; found = found; reached = λ same. omega (arith, ints) } in
    let after = moves_fence w ms s id pair before in
    record {
      owned = after.owned;
      transaction = after.transaction;
      found = after.found;
      reached = λ same. let low = after.reached same in let not_same : after.transaction.pair.epoch ≡ pair.epoch → ⊥ = λ e. left (after.transaction, after.found, same_pair after.transaction.pair pair same e) in omega (arith, ints);
    }

pub fencing_law : InSound FencingLaw
fencing_law w s ms after id pair has left target =
    silent after (world_after_moves w ms) id pair (moves_sound w ms s) (gone_past w ms id pair s has left) target

-- from a world in which the id has gone past the pair
refuses : (w : World) (id : List ℕ) (pair : ProducerIdAndEpoch) → IsSound w → IsFenced w.coordinator id (with_next_epoch pair) → Refuses w pair
refuses w id pair s f = record {
  in_transaction = λ other target. by_held other target (is_no_error (holding_code w.coordinator other pair target)) refl;
  without_id = by_free (is_free (owner w.coordinator pair.producer)) refl;
} where
  by_held : (other : List ℕ) (target : Target) (b : Bool) → is_no_error (holding_code w.coordinator other pair target) ≡ b → b ≡ false
  by_held other target false e = refl
  by_held other target true e = absurd (not_admitted w id pair 0 s f (Data pair) (inl (other, held w.coordinator other pair target (id_record w.coordinator.transactions other) refl e)) refl)

  by_free : (b : Bool) → is_free (owner w.coordinator pair.producer) ≡ b → b ≡ false
  by_free false e = refl
  by_free true e = absurd (not_admitted w id pair 0 s f (Data pair) (inr (free_is (owner w.coordinator pair.producer) e)) refl)

pub refusal_law : InSound RefusalLaw
refusal_law w s ms after id pair has left =
    let then = world_after_moves w ms in
    let sound = moves_sound w ms s in
    refuses (world_after_moves then after) id pair (moves_sound then after sound) (moves_fence then after sound id (with_next_epoch pair) (gone_past w ms id pair s has left))

pub order_law : InSound OrderLaw
order_law w s target = s.ordered target
