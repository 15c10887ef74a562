use Rattle.std.proofs.Common.{◌≡◌, ◌+◌, ℕ, take}
use Rattle.session_workers.specs.Settle.{tick_count, times_in}
use Rattle.session_workers.proofs.settlement.tick_ends.Given as goal

abbrev pub invariant-loop-end : goal.invariant-loop-end
invariant-loop-end l = (place : ℕ) → tick_count l.seen place ≡ tick_count l.initial.seen place + times_in place (take l.end-index l.ends)
