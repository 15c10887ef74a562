use Rattle.std.proofs.Common.{◌≡◌, ℕ, List, true, take}
use Rattle.txn_coordinator.specs.Warrants.{has_pending_marker}
use Rattle.txn_coordinator.specs.Kept.{count_of, has_count}
use Rattle.txn_coordinator.proofs.counts.enter_all.Given as goal

-- nothing is counted yet, and the ids of the markers so far are there
abbrev pub invariant-loop-marker : goal.invariant-loop-marker
invariant-loop-marker l = record {
  same : (id : List ℕ) → count_of l.counts id ≡ count_of l.fn.counts id;
  entered : (id : List ℕ) → has_pending_marker (take l.marker-index l.owed) id ≡ true → has_count l.counts id ≡ true;
}
