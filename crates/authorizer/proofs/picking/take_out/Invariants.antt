use Rattle.std.proofs.Common.{◌≡◌}
use Rattle.std.specs.BTreeMap.{keys}
use Rattle.authorizer.specs.Picking.{without_numbers}
use Rattle.authorizer.proofs.picking.take_out.Given as goal

-- what is left once the other numbers are taken out too
abbrev pub invariant-loop-number : goal.invariant-loop-number
invariant-loop-number l = without_numbers l.entries.entries l.number-iterator ≡ without_numbers l.initial.entries.entries (keys l.picked)
