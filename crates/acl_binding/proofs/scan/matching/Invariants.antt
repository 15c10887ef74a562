use Rattle.std.proofs.Common.{◌≡◌, ◌++◌, drop}
use Rattle.acl_binding.specs.Filter.{matching_bindings}
use Rattle.acl_binding.proofs.scan.matching.Given as goal

-- what was picked, then what is picked of the rest
abbrev pub invariant-loop-entry : goal.invariant-loop-entry
invariant-loop-entry l = l.picked ++ matching_bindings (drop l.entry-index l.entries) l.filter ≡ matching_bindings l.entries l.filter
