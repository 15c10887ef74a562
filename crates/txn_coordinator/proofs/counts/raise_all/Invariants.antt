use Rattle.std.proofs.Common.{◌≡◌, ◌+◌, ℕ, List, true, take}
use Rattle.txn_coordinator.specs.Warrants.{has_pending_marker}
use Rattle.txn_coordinator.specs.Kept.{count_of, has_count, pending_count_of}
use Rattle.txn_coordinator.proofs.counts.raise_all.Given as goal

-- the markers so far are counted
abbrev pub invariant-loop-marker : goal.invariant-loop-marker
invariant-loop-marker l = record {
  raised : (id : List ℕ) → count_of l.counts id ≡ count_of l.fn.counts id + pending_count_of (take l.marker-index l.owed) id;
  entered : (id : List ℕ) → has_pending_marker l.owed id ≡ true → has_count l.counts id ≡ true;
}
