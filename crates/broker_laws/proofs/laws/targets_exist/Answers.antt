use Rattle.broker_laws.specs.Targets.{HasTargets}
use Rattle.broker_laws.proofs.Reached.{targets_exist}
use Rattle.broker_laws.proofs.Cores.{in_cores}
use Rattle.broker_laws.proofs.laws.targets_exist.Goals as goal

pub returns-clause-reached : goal.returns-clause-reached
returns-clause-reached c = targets_exist

pub returns-clause-cores : goal.returns-clause-cores
returns-clause-cores c = in_cores HasTargets targets_exist
