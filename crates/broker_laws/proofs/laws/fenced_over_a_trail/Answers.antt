use Rattle.broker_laws.proofs.Trailing.{fenced_over_a_trail}
use Rattle.broker_laws.proofs.laws.fenced_over_a_trail.Goals as goal

pub returns : goal.returns
returns c = fenced_over_a_trail
