use Rattle.std.proofs.Common.{◌+◌, ◌<◌, ap, length, arith, sym, subst}
use Rattle.acl_binding.specs.Book.{BookValue}
use Rattle.acl_binding.specs.Filter.{matching_bindings}
use Rattle.authorizer.specs.Policy.{IsCounted}
use Rattle.authorizer.proofs.Counted.{counted_removed, counted_kept}
use Rattle.authorizer.proofs.policy.Policy.remove.Goals as goal

pub invariant_of-self-then-len-ne0 : goal.invariant_of-self-then-len-ne0
invariant_of-self-then-len-ne0 c =
    let some : 0 < length (matching_bindings c.self.inside.book.entries c.args.filter.now) = omega (arith, c.if-len-ne0.true, c.len.ensures, ap length c.in_ok-picked.ensures.picked) in
    subst (λ (b : BookValue). IsCounted (c.self.inside.edit + 1) b) (sym c.in_ok-picked.ensures.ok) (counted_removed c.self.inside.edit c.self.inside.book c.args.filter.now some c.self.invariant)

pub invariant_of-self-else-len-ne0 : goal.invariant_of-self-else-len-ne0
invariant_of-self-else-len-ne0 c =
    subst (λ (b : BookValue). IsCounted c.self.inside.edit b) (sym c.in_ok-picked.ensures.ok) (counted_kept c.self.inside.edit c.self.inside.book c.args.filter.now c.self.invariant)
