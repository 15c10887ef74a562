use Rattle.std.proofs.Common.{length}
use Rattle.commands.proofs.hints.separator_hint.Given as goal

-- each line takes some of what is left
abbrev pub decreases-loop-rest : goal.decreases-loop-rest
decreases-loop-rest l = length l.rest
