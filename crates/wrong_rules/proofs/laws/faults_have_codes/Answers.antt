use Rattle.wrong_rules.proofs.Faults.{told, not_fatal, not_endless, only_rule}
use Rattle.wrong_rules.proofs.laws.faults_have_codes.Goals as goal

pub returns-clause-told : goal.returns-clause-told
returns-clause-told c = told

pub returns-clause-checksum : goal.returns-clause-checksum
returns-clause-checksum c = not_fatal

pub returns-clause-large : goal.returns-clause-large
returns-clause-large c = not_endless

pub returns-clause-only : goal.returns-clause-only
returns-clause-only c = only_rule
