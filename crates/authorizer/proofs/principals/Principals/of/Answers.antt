use Rattle.std.proofs.Common.{subst, sym}
use Rattle.authorizer.specs.Principals.{AreByPrincipal}
use Rattle.authorizer.proofs.ByPrincipal.{next_by}
use Rattle.authorizer.proofs.principals.Principals.of.Goals as goal

pub loop-entry-preserved : goal.loop-entry-preserved
loop-entry-preserved c = next_by c.in_ok-table.table c.args.entries.now c.loop-entry.entry-index c.entry-item.result c.in_ok-share.field-0 c.loop-entry-test.true c.entry-item.is c.in_ok-share.ensures
    (λ old is. c.in_ok-table.ensures old (rw c.table.view_is (subst (AreByPrincipal c.loop-entry.table) (sym is) c.loop-entry.invariant)))
