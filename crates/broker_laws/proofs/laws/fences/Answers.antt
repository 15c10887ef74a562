use Rattle.api_dispatch.specs.Step.{step, reply_to}
use Rattle.broker_laws.specs.Laws.{Fences}
use Rattle.broker_laws.proofs.Preparing.{fences}
use Rattle.broker_laws.proofs.WrongEnds.{not_unfenced, not_unfenced_by_init}
use Rattle.broker_laws.proofs.Cores.{in_cores}
use Rattle.broker_laws.proofs.laws.fences.Goals as goal

pub returns-clause-reached : goal.returns-clause-reached
returns-clause-reached c = fences

pub returns-clause-by_time : goal.returns-clause-by_time
returns-clause-by_time c = not_unfenced

pub returns-clause-by_the_next : goal.returns-clause-by_the_next
returns-clause-by_the_next c = not_unfenced_by_init

pub returns-clause-cores : goal.returns-clause-cores
returns-clause-cores c = in_cores (Fences step reply_to) fences
