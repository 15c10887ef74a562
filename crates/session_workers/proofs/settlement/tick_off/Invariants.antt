use Rattle.std.proofs.Common.{◌≡◌, ◌+◌, ℕ, take}
use Rattle.session_workers.specs.Settle.{tick_count, times_held}
use Rattle.session_workers.proofs.settlement.tick_off.Given as goal

abbrev pub invariant-loop-receipt : goal.invariant-loop-receipt
invariant-loop-receipt l = (place : ℕ) → tick_count l.seen place ≡ tick_count l.initial.seen place + times_held place (take l.receipt-index l.receipts)
