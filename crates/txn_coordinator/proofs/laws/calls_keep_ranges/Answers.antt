use Rattle.txn_coordinator.proofs.Kept.{kept}
use Rattle.txn_coordinator.proofs.laws.calls_keep_ranges.Goals as goal

pub returns : goal.returns
returns c = record { first = tt; next = kept }
