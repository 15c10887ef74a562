use Rattle.walk.proofs.Weaving.{woven}
use Rattle.walk.proofs.laws.one_walk.Goals as goal

pub returns : goal.returns
returns g c = woven
