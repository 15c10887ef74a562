use Rattle.std.proofs.Common.{◌≡◌, ℕ, ◌<◌}
use Rattle.session_workers.specs.Settle.{tick_count}
use Rattle.session_workers.proofs.settlement.all_ticked.Given as goal

abbrev pub invariant-loop-place : goal.invariant-loop-place
invariant-loop-place l = (k : ℕ) → k < l.place-index → tick_count l.seen k ≡ 1
