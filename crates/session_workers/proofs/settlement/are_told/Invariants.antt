use Rattle.std.proofs.Common.{take}
use Rattle.session_workers.specs.Settle.{AreInTrail}
use Rattle.session_workers.proofs.settlement.are_told.Given as goal

abbrev pub invariant-loop-end : goal.invariant-loop-end
invariant-loop-end l = AreInTrail l.trail (take l.end-index l.ends)
