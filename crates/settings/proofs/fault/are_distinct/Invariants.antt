use Rattle.std.proofs.Common.{◌≡◌, length}
use Rattle.settings.specs.Fault.{are_distinct}
use Rattle.settings.proofs.fault.are_distinct.Given as goal

-- the topics so far are distinct from all after them
abbrev pub invariant-loop-first : goal.invariant-loop-first
invariant-loop-first l = are_distinct l.initial.rest ≡ are_distinct l.rest

abbrev pub decreases-loop-first : goal.decreases-loop-first
decreases-loop-first l = length l.rest
