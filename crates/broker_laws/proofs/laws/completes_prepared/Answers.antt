use Rattle.broker_laws.specs.Laws.{CompletesPrepared}
use Rattle.broker_laws.proofs.Completing.{completes_prepared}
use Rattle.broker_laws.proofs.Cores.{in_cores}
use Rattle.broker_laws.proofs.laws.completes_prepared.Goals as goal

pub returns-clause-reached : goal.returns-clause-reached
returns-clause-reached c = completes_prepared

pub returns-clause-cores : goal.returns-clause-cores
returns-clause-cores c = in_cores CompletesPrepared completes_prepared
