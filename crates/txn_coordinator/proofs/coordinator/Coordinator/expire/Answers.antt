use Rattle.std.proofs.Common.{length, arith}
use Rattle.std.proofs.lemmas.Grind.{common_steps}
use Rattle.txn_coordinator.proofs.Ranges.{all_can_raise, expired_range}
use Rattle.txn_coordinator.proofs.coordinator.Coordinator.expire.Goals as goal

pub expiry_markers-requires : goal.expiry_markers-requires
expiry_markers-requires c = rw c.as_slice.ensures (all_can_raise (length c.self.inside.given.items) c.self.inside.records.list c.self.invariant)

pub expire-requires : goal.expire-requires
expire-requires c = all_can_raise (length c.self.inside.given.items) c.self.inside.records.list c.self.invariant

pub invariant_of-self-2 : goal.invariant_of-self-2
invariant_of-self-2 c = grind (arith, common_steps, expired_range (length c.self.inside.given.items) c.args.moment c.self.inside.records.list c.self.invariant)
