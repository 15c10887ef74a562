-- What a broker keeps of the small world: all of a log, and of what a group holds no epochs.
use Rattle.std.specs.Prelude.{◌≡◌, pos, if◌then◌else◌, List, [], ◌∷◌, map}
use Rattle.txn_coordinator.specs.declared.producer_id.ProducerIdAndEpoch.{ProducerIdAndEpoch}
use Rattle.txn_coordinator.specs.declared.target.Target.{Target}
use Rattle.txn_coordinator.specs.declared.target.Target.TheVariants.{Partition, Group}
use Rattle.record_batch.specs.declared.transaction_result.TransactionResult.{TransactionResult}
use Rattle.txn_coordinator.specs.declared.marker.PendingMarker.{PendingMarker}
use Rattle.txn_coordinator.specs.Coordinator.{owner}
use Rattle.txn_coordinator.specs.Holding.{holding_code}
use Rattle.txn_coordinator.specs.Warrants.{with_first_written}
use Rattle.txn_laws.specs.Small.{World, Entry, Move, first_world, with_entry, world_with_entry, is_no_error, is_free, world_after_move, world_after_moves}
use Rattle.txn_laws.specs.Small.Entry.{Data, Marker, Other}
use Rattle.txn_laws.specs.Small.Move.{Store, Send, Mark}
use Rattle.txn_laws.specs.Laws.{IsEnded}

-- in a group the epoch 0 stands for each
abbrev pub kept_id_and_epoch : Target → ProducerIdAndEpoch → ProducerIdAndEpoch
kept_id_and_epoch (Partition p) pair = pair
kept_id_and_epoch (Group g) pair = record { producer = pair.producer; epoch = pos 0 }

abbrev pub kept_entry : Target → Entry → Entry
kept_entry target (Data pair) = Data (kept_id_and_epoch target pair)
kept_entry target (Marker pair outcome) = Marker (kept_id_and_epoch target pair) outcome
kept_entry target Other = Other

abbrev pub kept_entries : Target → List Entry → List Entry
kept_entries (Partition p) entries = entries
kept_entries (Group g) entries = map (kept_entry (Group g)) entries

abbrev pub kept_world : World → World
kept_world w = record w { entries = λ target. kept_entries target (w.entries target) }

-- one entry more, as its target keeps it
abbrev pub kept_world_with_entry : World → Target → Entry → World
kept_world_with_entry w target entry = world_with_entry w target (kept_entry target entry)

abbrev pub kept_world_after_mark : List PendingMarker → World → World
kept_world_after_mark [] w = w
kept_world_after_mark (m ∷ rest) w =
    record {
      coordinator = with_first_written w.coordinator (m ∷ rest);
      entries = with_entry w.entries m.target (kept_entry m.target (Marker m.pair m.outcome));
      moment = w.moment;
    }

-- a move of what is kept
abbrev pub kept_world_after_move : World → Move → World
kept_world_after_move w (Store id pair target) =
    if is_no_error (holding_code w.coordinator id pair target)
    then kept_world_with_entry w target (Data pair)
    else w
kept_world_after_move w (Send pair target) =
    if is_free (owner w.coordinator pair.producer) then kept_world_with_entry w target (Data pair)
    else w
kept_world_after_move w Mark = kept_world_after_mark w.coordinator.warrants w
kept_world_after_move w m = world_after_move w m

abbrev pub kept_world_after_moves : World → List Move → World
kept_world_after_moves w [] = w
kept_world_after_moves w (m ∷ ms) = kept_world_after_moves (kept_world_after_move w m) ms

-- to move what is kept is to keep what was moved, from the beginning on
pub record KeptLaw : Type 0 where
  pub first : kept_world first_world ≡ first_world
  pub next : (w : World) (moves : List Move)
      → kept_world (world_after_moves w moves) ≡ kept_world_after_moves (kept_world w) moves

-- a transaction's end is seen in what is kept
abbrev pub KeptEndLaw : Type 0
KeptEndLaw =
    (target : Target) (pair : ProducerIdAndEpoch) (outcome : TransactionResult)
    (old new : List Entry)
    → IsEnded pair outcome old new
    → IsEnded (kept_id_and_epoch target pair) outcome (kept_entries target old)
    (kept_entries target new)
