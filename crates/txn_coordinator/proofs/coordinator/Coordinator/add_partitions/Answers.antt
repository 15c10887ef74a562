use Rattle.std.proofs.Common.{length}
use Rattle.txn_coordinator.proofs.Ranges.{partitions_records}
use Rattle.txn_coordinator.proofs.coordinator.Coordinator.add_partitions.Goals as goal

pub invariant_of-self : goal.invariant_of-self
invariant_of-self c =
    partitions_records c.add_partitions.result (length c.self.inside.given.items) c.self.inside.records.list c.add_partitions.new.self.list c.args.id.now c.args.pair c.args.moment c.args.partitions.now
    c.self.invariant c.add_partitions.ensures.ok c.add_partitions.ensures.err
