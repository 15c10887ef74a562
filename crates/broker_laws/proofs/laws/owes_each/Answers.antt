use Rattle.api_dispatch.specs.Step.{step}
use Rattle.broker_laws.specs.Laws.{OwesPrepared}
use Rattle.broker_laws.proofs.Owing.{owes_prepared}
use Rattle.broker_laws.proofs.WrongEnds.{not_without_markers, not_in_the_old_epoch}
use Rattle.broker_laws.proofs.Cores.{in_cores}
use Rattle.broker_laws.proofs.laws.owes_each.Goals as goal

pub returns-clause-reached : goal.returns-clause-reached
returns-clause-reached c = owes_prepared

pub returns-clause-markers : goal.returns-clause-markers
returns-clause-markers c = not_without_markers

pub returns-clause-epochs : goal.returns-clause-epochs
returns-clause-epochs c = not_in_the_old_epoch

pub returns-clause-cores : goal.returns-clause-cores
returns-clause-cores c = in_cores (OwesPrepared step) owes_prepared
