use Rattle.std.proofs.Common.{sym, ◌∙◌}
use Rattle.acl_binding.proofs.Same.{derived_test}
use Rattle.acl_binding.proofs.Numbers.{number_found, number_passed}
use Rattle.acl_binding.proofs.scan.number_of.Goals as goal

pub returns-then-eq : goal.returns-then-eq
returns-then-eq c =
    let same = rw c.value-entry.ensures at (sym (derived_test c.value-entry.result.now.binding c.args.binding.now) ∙ sym c.eq.ensures ∙ c.if-eq.true) in
    rw c.value-entry.ensures (number_found _ _ c.loop-entry.entry-index _ c.loop-entry.invariant c.loop-entry-test.true c.entry-item.is same)

pub loop-entry-preserved : goal.loop-entry-preserved
loop-entry-preserved c =
    let other = rw c.value-entry.ensures at (sym (derived_test c.value-entry.result.now.binding c.args.binding.now) ∙ sym c.eq.ensures ∙ c.if-eq.false) in
    number_passed _ _ c.loop-entry.entry-index _ c.loop-entry.invariant c.loop-entry-test.true c.entry-item.is other
