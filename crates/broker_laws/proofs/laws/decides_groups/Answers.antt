use Rattle.broker_laws.specs.Laws.{DecidesPrepared, DecidesWaiting}
use Rattle.broker_laws.proofs.Deciding.{prepared_groups, waiting_groups}
use Rattle.broker_laws.proofs.Cores.{in_cores}
use Rattle.broker_laws.proofs.laws.decides_groups.Goals as goal

pub returns-clause-prepared_reached : goal.returns-clause-prepared_reached
returns-clause-prepared_reached c = prepared_groups

pub returns-clause-prepared_cores : goal.returns-clause-prepared_cores
returns-clause-prepared_cores c = in_cores DecidesPrepared prepared_groups

pub returns-clause-waiting_reached : goal.returns-clause-waiting_reached
returns-clause-waiting_reached c = waiting_groups

pub returns-clause-waiting_cores : goal.returns-clause-waiting_cores
returns-clause-waiting_cores c = in_cores DecidesWaiting waiting_groups
