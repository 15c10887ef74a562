use Rattle.std.proofs.Common.{◌≡◌, ◌++◌, drop}
use Rattle.txn_handlers.specs.AddPartitions.{partitions_of}
use Rattle.txn_handlers.proofs.add_partitions.partitions_of.Given as goal

abbrev pub invariant-loop-topic : goal.invariant-loop-topic
invariant-loop-topic l = l.partitions.items ++ partitions_of (drop l.topic-index l.named) ≡ partitions_of l.named
