use Rattle.broker_laws.proofs.Trailing.{completes_over_a_run}
use Rattle.broker_laws.proofs.laws.completes_over_a_run.Goals as goal

pub returns : goal.returns
returns c = completes_over_a_run
