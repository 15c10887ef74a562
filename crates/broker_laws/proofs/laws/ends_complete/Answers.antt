use Rattle.broker_laws.specs.Laws.{EndsComplete}
use Rattle.broker_laws.proofs.Ending.{ends_complete}
use Rattle.broker_laws.proofs.Cores.{in_cores}
use Rattle.broker_laws.proofs.laws.ends_complete.Goals as goal

pub returns-clause-reached : goal.returns-clause-reached
returns-clause-reached c = ends_complete

pub returns-clause-cores : goal.returns-clause-cores
returns-clause-cores c = in_cores EndsComplete ends_complete
