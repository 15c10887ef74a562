use Rattle.std.proofs.Common.{◌≡◌, ◌++◌, drop, map}
use Rattle.txn_coordinator.specs.declared.target.Target.TheVariants.{Partition}
use Rattle.txn_coordinator.specs.Preparing.{marker_for}
use Rattle.txn_coordinator.proofs.transaction.Transaction.partition_markers.Given as goal

-- the markers of the partitions so far, and of those that are left
abbrev pub invariant-loop-partition : goal.invariant-loop-partition
invariant-loop-partition l = l.owed ++ map (marker_for l.self.id l.pair l.outcome) (map (λ p. Partition p) (drop l.partition-index l.partitions)) ≡ map (marker_for l.self.id l.pair l.outcome) (map (λ p. Partition p) l.partitions)
