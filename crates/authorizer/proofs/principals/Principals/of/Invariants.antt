use Rattle.std.proofs.Common.{take}
use Rattle.authorizer.specs.Principals.{AreByPrincipal}
use Rattle.authorizer.proofs.principals.Principals.of.Given as goal

-- the table is that of the bindings so far
abbrev pub invariant-loop-entry : goal.invariant-loop-entry
invariant-loop-entry l = AreByPrincipal l.table (take l.entry-index l.entries)
