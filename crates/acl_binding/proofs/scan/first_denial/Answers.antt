use Rattle.std.proofs.Common.{sym}
use Rattle.acl_binding.proofs.Rising.{first_is_least}
use Rattle.acl_binding.proofs.scan.first_denial.Goals as goal

pub returns-then-is_denial : goal.returns-then-is_denial
returns-then-is_denial c =
    let denies = rw c.value-entry.ensures at (sym c.if-is_denial.ensures) in
    rw c.value-entry.ensures (first_is_least _ _ c.loop-entry.entry-index _ c.requires c.loop-entry.invariant c.loop-entry-test.true c.entry-item.is denies)
