use Rattle.std.proofs.Common.{sym}
use Rattle.authorizer.proofs.ByPrincipal.{less_by, there}
use Rattle.authorizer.proofs.shelf.Shelf.keep_unmatched.Goals as goal

pub invariant_of-self-2 : goal.invariant_of-self-2
invariant_of-self-2 c = rw c.keep_unmatched-any.ensures.left
    (less_by _ _ c.args.filter.now _ c.clean.ensures (there c.self.inside.principals c.in-Some.principals c.self.inside.all (sym c.in-Some.ensures.value) c.self.invariant))
