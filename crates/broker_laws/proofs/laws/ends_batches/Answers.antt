use Rattle.broker_laws.specs.LogEnds.{EndsPrepared, EndsWaiting}
use Rattle.broker_laws.proofs.LogEnds.{prepared_logs, waiting_logs}
use Rattle.broker_laws.proofs.Cores.{in_cores}
use Rattle.broker_laws.proofs.laws.ends_batches.Goals as goal

pub returns-clause-prepared_reached : goal.returns-clause-prepared_reached
returns-clause-prepared_reached c = prepared_logs

pub returns-clause-prepared_cores : goal.returns-clause-prepared_cores
returns-clause-prepared_cores c = in_cores EndsPrepared prepared_logs

pub returns-clause-waiting_reached : goal.returns-clause-waiting_reached
returns-clause-waiting_reached c = waiting_logs

pub returns-clause-waiting_cores : goal.returns-clause-waiting_cores
returns-clause-waiting_cores c = in_cores EndsWaiting waiting_logs
