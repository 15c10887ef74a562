use Rattle.std.proofs.Common.{rules}
use Rattle.walk.proofs.Weights.{weightless}
use Rattle.txn_handlers.proofs.add_partitions.cut.Goals as goal

pub walk_cut-requires : goal.walk_cut-requires
walk_cut-requires c = search (rules, weightless)
