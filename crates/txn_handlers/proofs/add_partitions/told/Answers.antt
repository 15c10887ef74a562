use Rattle.std.proofs.Common.{rules}
use Rattle.walk.proofs.Weights.{weightless}
use Rattle.txn_handlers.proofs.add_partitions.told.Goals as goal

pub walk_granted-requires : goal.walk_granted-requires
walk_granted-requires c = search (rules, weightless)
