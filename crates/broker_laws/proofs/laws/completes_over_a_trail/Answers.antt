use Rattle.broker_laws.proofs.Trailing.{completes_over_a_trail, completes_before_idle}
use Rattle.broker_laws.proofs.laws.completes_over_a_trail.Goals as goal

pub returns-clause-counted : goal.returns-clause-counted
returns-clause-counted c = completes_over_a_trail

pub returns-clause-before_idle : goal.returns-clause-before_idle
returns-clause-before_idle c = completes_before_idle
