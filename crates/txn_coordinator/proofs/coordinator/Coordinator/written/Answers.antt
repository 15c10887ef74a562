use Rattle.std.proofs.Common.{length}
use Rattle.txn_coordinator.proofs.Ranges.{completed_range}
use Rattle.txn_coordinator.proofs.coordinator.Coordinator.written.Goals as goal

pub invariant_of-self : goal.invariant_of-self
invariant_of-self c = rw c.complete.ensures (completed_range (length c.self.inside.given.items) c.self.inside.records.list _ _ c.self.invariant)
