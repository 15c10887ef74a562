use Rattle.broker_laws.proofs.Trailing.{trail_tells}
use Rattle.broker_laws.proofs.laws.trail_tells.Goals as goal

pub returns : goal.returns
returns c = trail_tells
