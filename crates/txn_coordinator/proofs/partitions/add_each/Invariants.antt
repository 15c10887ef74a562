use Rattle.std.proofs.Common.{◌≡◌, length, drop, take}
use Rattle.txn_coordinator.specs.Adding.{partitions_added}
use Rattle.txn_coordinator.proofs.partitions.add_each.Given as goal

-- what is added so far, and what is left; the partitions that were there come first
abbrev pub invariant-loop-partition : goal.invariant-loop-partition
invariant-loop-partition l =
    (partitions_added l.set.keys (drop l.partition-index l.partitions) ≡ partitions_added l.fn.set.keys l.partitions)
    × (l.before ≡ length l.fn.set.keys) × (take l.before l.set.keys ≡ l.fn.set.keys)
