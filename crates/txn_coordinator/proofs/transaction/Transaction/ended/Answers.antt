use Rattle.std.proofs.Common.{sym}
use Rattle.txn_coordinator.proofs.Ranges.{pair_below}
use Rattle.txn_coordinator.proofs.transaction.Transaction.ended.Goals as goal

pub end_own-requires : goal.end_own-requires
end_own-requires c = pair_below c.other_epoch.result c.args.self.now c.args.asked.now.pair (sym c.in-None.ensures)
