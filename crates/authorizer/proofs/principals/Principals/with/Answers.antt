use Rattle.authorizer.proofs.ByPrincipal.{more_by}
use Rattle.authorizer.proofs.principals.Principals.with.Goals as goal

pub returns : goal.returns
returns c = λ es is. more_by _ _ c.args.entry c.in_ok-add.ensures es is
