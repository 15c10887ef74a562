use Rattle.broker_laws.specs.Laws.{CompletesWaiting}
use Rattle.broker_laws.proofs.Completing.{completes_waiting}
use Rattle.broker_laws.proofs.Cores.{in_cores}
use Rattle.broker_laws.proofs.laws.completes_waiting.Goals as goal

pub returns-clause-reached : goal.returns-clause-reached
returns-clause-reached c = completes_waiting

pub returns-clause-cores : goal.returns-clause-cores
returns-clause-cores c = in_cores CompletesWaiting completes_waiting
