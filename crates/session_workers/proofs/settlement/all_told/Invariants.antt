use Rattle.std.proofs.Common.{All, take}
use Rattle.session_workers.specs.Settle.{IsInTrail}
use Rattle.session_workers.proofs.settlement.all_told.Given as goal

abbrev pub invariant-loop-receipt : goal.invariant-loop-receipt
invariant-loop-receipt l = All (IsInTrail l.trail) (take l.receipt-index l.receipts)
