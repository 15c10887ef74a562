use Rattle.std.proofs.Common.{◌≡◌, ◌++◌, take}
use Rattle.txn_handlers.specs.AddPartitions.{partitions_in}
use Rattle.txn_handlers.proofs.add_partitions.push_partitions.Given as goal

abbrev pub invariant-loop-index : goal.invariant-loop-index
invariant-loop-index l = l.partitions.items ≡ l.initial.partitions.items ++ partitions_in l.name (take l.index-index l.indices)
