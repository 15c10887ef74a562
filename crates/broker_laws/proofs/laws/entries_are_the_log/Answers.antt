use Rattle.broker_laws.proofs.Reading.{entries_are_the_log}
use Rattle.broker_laws.proofs.WrongLogs.{not_of_partitions_alone}
use Rattle.broker_laws.proofs.laws.entries_are_the_log.Goals as goal

pub returns-clause-log : goal.returns-clause-log
returns-clause-log c = entries_are_the_log

pub returns-clause-groups : goal.returns-clause-groups
returns-clause-groups c = not_of_partitions_alone
