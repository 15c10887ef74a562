use Rattle.authorizer.proofs.LookUps.{few}
use Rattle.authorizer.proofs.laws.look_ups_are_few.Goals as goal

pub returns : goal.returns
returns c = few
