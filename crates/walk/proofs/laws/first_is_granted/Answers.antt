use Rattle.walk.proofs.Granted.{first_granted}
use Rattle.walk.proofs.laws.first_is_granted.Goals as goal

pub returns : goal.returns
returns g c = first_granted
