-- To move what is kept is to keep what was moved.
use Rattle.std.proofs.Common.{◌≡◌, ℕ, ℤ, List, [], ◌∷◌, ◌++◌, map, Bool, true, false, cond, refl, sym, ap, ◌∙◌}
use Rattle.std.specs.Str.{bytes_eq}
use Rattle.txn_coordinator.specs.declared.producer_id.ProducerIdAndEpoch.{ProducerIdAndEpoch}
use Rattle.txn_coordinator.specs.declared.target.Target.{Target}
use Rattle.txn_coordinator.specs.declared.target.Target.TheVariants.{Partition, Group}
use Rattle.txn_coordinator.specs.declared.transaction.Transaction.{Transaction}
use Rattle.txn_coordinator.specs.declared.marker.PendingMarker.{PendingMarker}
use Rattle.txn_coordinator.specs.Coordinator.{CoordinatorValue, owner, no_transactions}
use Rattle.txn_coordinator.specs.Holding.{holding_code}
use Rattle.txn_coordinator.specs.Warrants.{with_first_written}
use Rattle.txn_laws.specs.Small.{World, Entry, Move, is_same_target, with_entry, world_with_entry, is_no_error, is_free, world_after_move, world_after_moves, world_after_mark, first_world}
use Rattle.txn_laws.specs.Small.Entry.{Data, Marker, Other}
use Rattle.txn_laws.specs.Small.Move.{Init, Give, AddPartitions, AddGroup, End, Expire, Moment, Store, Send, Plain, Mark}
use Rattle.txn_laws.specs.Sound.{Each, HaveOwnIds}
use Rattle.txn_laws.specs.Laws.{IsNotOf, expiries, world_after_tick}
use Rattle.txn_laws.specs.Kept.{kept_id_and_epoch, kept_entry, kept_entries, kept_world, kept_world_with_entry, kept_world_after_mark, kept_world_after_move, kept_world_after_moves, KeptLaw, KeptEndLaw}
use Rattle.txn_laws.proofs.Ticks.{one_by_one}

-- ---- one entry more

map_append : {A X : Type 0} (f : A → X) (xs ys : List A) → map f (xs ++ ys) ≡ map f xs ++ map f ys
map_append f [] ys = refl
map_append f (x ∷ xs) ys = ap (λ l. f x ∷ l) (map_append f xs ys)

entry_same : (g h : List ℕ) (entry : Entry) → kept_entry (Group h) entry ≡ kept_entry (Group g) entry
entry_same g h (Data p) = refl
entry_same g h (Marker p o) = refl
entry_same g h Other = refl

partition_entry : (entry kept : Entry) (xs : List Entry) (b : Bool) → entry ≡ kept → cond b (xs ++ entry ∷ []) xs ≡ cond b (xs ++ kept ∷ []) xs
partition_entry entry kept xs b e = ap (λ x. cond b (xs ++ x ∷ []) xs) e

whole_entry : (target : Target) (entry : Entry) → ((pair : ProducerIdAndEpoch) → kept_id_and_epoch target pair ≡ pair) → entry ≡ kept_entry target entry
whole_entry target (Data p) whole = ap (λ q. Data q) (sym (whole p))
whole_entry target (Marker p o) whole = ap (λ q. Marker q o) (sym (whole p))
whole_entry target Other whole = refl

-- in a group
group_entry : (g h : List ℕ) (entry : Entry) (xs : List Entry) (b : Bool) → map (kept_entry (Group h)) (cond b (xs ++ entry ∷ []) xs) ≡ cond b (map (kept_entry (Group h)) xs ++ kept_entry (Group g) entry ∷ []) (map (kept_entry (Group h)) xs)
group_entry g h entry xs true = map_append (kept_entry (Group h)) xs (entry ∷ []) ∙ ap (λ x. map (kept_entry (Group h)) xs ++ x ∷ []) (entry_same g h entry)
group_entry g h entry xs false = refl

with_kept : (entries : Target → List Entry) (target : Target) (entry : Entry) (t : Target) → kept_entries t (with_entry entries target entry t) ≡ with_entry (λ u. kept_entries u (entries u)) target (kept_entry target entry) t
with_kept entries (Partition p) entry (Partition q) = partition_entry entry (kept_entry (Partition p) entry) (entries (Partition q)) (is_same_target (Partition p) (Partition q)) (whole_entry (Partition p) entry (λ _. refl))
with_kept entries (Partition p) entry (Group h) = refl
with_kept entries (Group g) entry (Partition q) = refl
with_kept entries (Group g) entry (Group h) = group_entry g h entry (entries (Group h)) (bytes_eq g h)

put_kept : (c : CoordinatorValue) (entries : Target → List Entry) (moment : ℕ) (target : Target) (entry : Entry)
    → kept_world (record { coordinator = c; entries = with_entry entries target entry; moment = moment })
    ≡ record { coordinator = c; entries = with_entry (λ u. kept_entries u (entries u)) target (kept_entry target entry); moment = moment }
put_kept c entries moment target entry = λ i. record { coordinator = c; entries = λ t. with_kept entries target entry t i; moment = moment }

-- ---- moves

let_in : (b : Bool) (w : World) (target : Target) (entry : Entry) → kept_world (cond b (world_with_entry w target entry) w) ≡ cond b (kept_world_with_entry (kept_world w) target entry) (kept_world w)
let_in true w target entry = put_kept w.coordinator w.entries w.moment target entry
let_in false w target entry = refl

mark_kept : (ws : List PendingMarker) (w : World) → kept_world (world_after_mark ws w) ≡ kept_world_after_mark ws (kept_world w)
mark_kept [] w = refl
mark_kept (x ∷ xs) w = put_kept (with_first_written w.coordinator (x ∷ xs)) w.entries w.moment x.target (Marker x.pair x.outcome)

move_kept : (w : World) (m : Move) → kept_world (world_after_move w m) ≡ kept_world_after_move (kept_world w) m
move_kept w (Init id timeout greatest) = refl
move_kept w Give = refl
move_kept w (AddPartitions id pair partitions) = refl
move_kept w (AddGroup id pair group) = refl
move_kept w (End form id pair outcome) = refl
move_kept w (Expire id) = refl
move_kept w (Moment moment) = refl
move_kept w (Store id pair target) = let_in (is_no_error (holding_code w.coordinator id pair target)) w target (Data pair)
move_kept w (Send pair target) = let_in (is_free (owner w.coordinator pair.producer)) w target (Data pair)
move_kept w (Plain target) = put_kept w.coordinator w.entries w.moment target Other
move_kept w Mark = mark_kept w.coordinator.warrants w

moves_kept : (w : World) (ms : List Move) → kept_world (world_after_moves w ms) ≡ kept_world_after_moves (kept_world w) ms
moves_kept w [] = refl
moves_kept w (m ∷ ms) = moves_kept (world_after_move w m) ms ∙ ap (λ v. kept_world_after_moves v ms) (move_kept w m)

nothing_kept : (target : Target) → kept_entries target [] ≡ []
nothing_kept (Partition p) = refl
nothing_kept (Group g) = refl

first_kept : kept_world first_world ≡ first_world
first_kept = λ i. record { coordinator = no_transactions; entries = λ target. nothing_kept target i; moment = 0 }

pub kept_law : KeptLaw
kept_law = record { first = first_kept; next = moves_kept }

-- moves after moves
pub kept_append : (w : World) (xs ys : List Move) → kept_world_after_moves w (xs ++ ys) ≡ kept_world_after_moves (kept_world_after_moves w xs) ys
kept_append w [] ys = refl
kept_append w (m ∷ ms) ys = kept_append (kept_world_after_move w m) ms ys

-- ---- ticks

kept_expiries : (w : World) (ts : List Transaction) → kept_world_after_moves w (expiries ts) ≡ world_after_moves w (expiries ts)
kept_expiries w [] = refl
kept_expiries w (t ∷ ts) = kept_expiries (world_after_move w (Expire t.id)) ts

pub kept_tick : (w : World) (moment : ℕ) → HaveOwnIds w.coordinator.transactions → kept_world_after_moves w (Moment moment ∷ expiries w.coordinator.transactions) ≡ world_after_tick w moment
kept_tick w moment own = kept_expiries (world_after_move w (Moment moment)) w.coordinator.transactions ∙ one_by_one w own moment

-- ---- ends

not_of_kept : (g : List ℕ) (producer : ℤ) (xs : List Entry) → Each (IsNotOf producer) xs → Each (IsNotOf producer) (map (kept_entry (Group g)) xs)
not_of_kept g producer [] h = tt
not_of_kept g producer (Data p ∷ xs) h = (h.0, not_of_kept g producer xs h.1)
not_of_kept g producer (Marker p o ∷ xs) h = (h.0, not_of_kept g producer xs h.1)
not_of_kept g producer (Other ∷ xs) h = (tt, not_of_kept g producer xs h.1)

pub kept_end_law : KeptEndLaw
kept_end_law (Partition p) pair outcome old new h = h
kept_end_law (Group g) pair outcome old new h =
    let keep = kept_entry (Group g) in
    record {
      between = map keep h.between;
      after = map keep h.after;
      log = ap (map keep) h.log ∙ map_append keep old (h.between ++ Marker pair outcome ∷ h.after) ∙ ap (λ l. map keep old ++ l) (map_append keep h.between (Marker pair outcome ∷ h.after));
      nothing = not_of_kept g pair.producer h.between h.nothing;
    }
