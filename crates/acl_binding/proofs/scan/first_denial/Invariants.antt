use Rattle.std.proofs.Common.{◌≡◌, drop}
use Rattle.acl_binding.specs.Verdict.{denials}
use Rattle.acl_binding.proofs.scan.first_denial.Given as goal

-- what denies is among the rest
abbrev pub invariant-loop-entry : goal.invariant-loop-entry
invariant-loop-entry l = denials (drop l.entry-index l.entries) l.question ≡ denials l.entries l.question
