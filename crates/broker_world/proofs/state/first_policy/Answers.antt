use Rattle.std.proofs.Common.{rules, arith, ap, ◌∙◌}
use Rattle.authorizer.specs.Policy.{PolicyValue}
use Rattle.acl_binding.specs.Creatable.{is_creatable}
use Rattle.broker_world.proofs.Parts.{book_goes_on, all_rest, next_named}
use Rattle.broker_world.proofs.state.first_policy.Goals as goal

pub loop-binding-preserved : goal.loop-binding-preserved
loop-binding-preserved c = record {
  book = book_goes_on _ _ _ _ _ _ _ c.loop-binding-test.true c.binding-item.is (search rules) c.in_ok-add.ensures.ok c.loop-binding.invariant.book;
  supers = ap (λ (p : PolicyValue). p.supers) c.in_ok-add.ensures.ok ∙ c.loop-binding.invariant.supers;
  next = omega (arith, c.in_ok-add.ensures.next, c.loop-binding.invariant.next);
  creatable = all_rest is_creatable _ _ _ c.loop-binding-test.true c.binding-item.is c.loop-binding.invariant.creatable;
}

pub add-requires-clause-named : goal.add-requires-clause-named
add-requires-clause-named c =
    let named = next_named _ _ _ c.loop-binding-test.true c.binding-item.is c.loop-binding.invariant.creatable in
    search (rules, named)
