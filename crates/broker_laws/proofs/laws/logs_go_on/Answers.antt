use Rattle.broker_laws.proofs.LogsGrow.{logs_go_on}
use Rattle.broker_laws.proofs.WrongLogs.{not_with_retention}
use Rattle.broker_laws.proofs.laws.logs_go_on.Goals as goal

pub returns-clause-each : goal.returns-clause-each
returns-clause-each c = logs_go_on

pub returns-clause-no_retention : goal.returns-clause-no_retention
returns-clause-no_retention c = not_with_retention
