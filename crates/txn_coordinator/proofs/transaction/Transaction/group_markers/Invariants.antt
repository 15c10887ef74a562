use Rattle.std.proofs.Common.{◌≡◌, ◌++◌, drop, map}
use Rattle.txn_coordinator.specs.declared.target.Target.TheVariants.{Group}
use Rattle.txn_coordinator.specs.Preparing.{marker_for}
use Rattle.txn_coordinator.proofs.transaction.Transaction.group_markers.Given as goal

-- the markers of the groups so far, and of those that are left
abbrev pub invariant-loop-group : goal.invariant-loop-group
invariant-loop-group l = l.owed ++ map (marker_for l.self.id l.pair l.outcome) (map (λ g. Group g) (drop l.group-index l.groups)) ≡ l.fn.before ++ map (marker_for l.self.id l.pair l.outcome) (map (λ g. Group g) l.groups)
