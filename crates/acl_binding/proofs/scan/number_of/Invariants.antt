use Rattle.std.proofs.Common.{◌≡◌, drop}
use Rattle.acl_binding.specs.Book.{number_of}
use Rattle.acl_binding.proofs.scan.number_of.Given as goal

-- where the binding is, it is among the rest
abbrev pub invariant-loop-entry : goal.invariant-loop-entry
invariant-loop-entry l = number_of (drop l.entry-index l.entries) l.binding ≡ number_of l.entries l.binding
