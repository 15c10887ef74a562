use Rattle.std.proofs.Common.{refl, arith, rules}
use Rattle.walk.proofs.Weights.{weightless}
use Rattle.txn_handlers.proofs.txn_offset_commit.stage_all.Goals as goal

pub walk-requires : goal.walk-requires
walk-requires c = (omega arith, (omega arith, (refl, (search rules, search (rules, weightless)))))
