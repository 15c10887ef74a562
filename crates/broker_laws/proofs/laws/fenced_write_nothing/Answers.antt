use Rattle.broker_laws.specs.Laws.{FencedWriteNothing}
use Rattle.broker_laws.proofs.Fencing.{fenced_write_nothing}
use Rattle.broker_laws.proofs.Cores.{in_cores}
use Rattle.broker_laws.proofs.laws.fenced_write_nothing.Goals as goal

pub returns-clause-reached : goal.returns-clause-reached
returns-clause-reached c = fenced_write_nothing

pub returns-clause-cores : goal.returns-clause-cores
returns-clause-cores c = in_cores FencedWriteNothing fenced_write_nothing
