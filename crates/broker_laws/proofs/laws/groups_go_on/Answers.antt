use Rattle.broker_laws.proofs.Growing.{groups_go_on}
use Rattle.broker_laws.proofs.WrongLogs.{not_removed, not_at_once}
use Rattle.broker_laws.proofs.laws.groups_go_on.Goals as goal

pub returns-clause-each : goal.returns-clause-each
returns-clause-each c = groups_go_on

pub returns-clause-no_removal : goal.returns-clause-no_removal
returns-clause-no_removal c = not_removed

pub returns-clause-by_the_end : goal.returns-clause-by_the_end
returns-clause-by_the_end c = not_at_once
