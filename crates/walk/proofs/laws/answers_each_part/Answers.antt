use Rattle.walk.proofs.Headlines.{answers_each_part as the_law}
use Rattle.walk.proofs.laws.answers_each_part.Goals as goal

pub returns : goal.returns
returns g c = the_law
