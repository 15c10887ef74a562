use Rattle.durability_laws.proofs.Acknowledged.{keeps_what_is_acknowledged, keeps_what_stands}
use Rattle.durability_laws.proofs.WrongSteps as wrong
use Rattle.durability_laws.proofs.laws.acknowledged_records_stay.Goals as goal

pub returns-clause-acknowledged : goal.returns-clause-acknowledged
returns-clause-acknowledged c = keeps_what_is_acknowledged

pub returns-clause-acknowledged_not_dropped : goal.returns-clause-acknowledged_not_dropped
returns-clause-acknowledged_not_dropped c = wrong.acknowledged_not_dropped

pub returns-clause-acknowledged_at_its_offset : goal.returns-clause-acknowledged_at_its_offset
returns-clause-acknowledged_at_its_offset c = wrong.acknowledged_at_its_offset

pub returns-clause-acknowledged_not_the_last_alone : goal.returns-clause-acknowledged_not_the_last_alone
returns-clause-acknowledged_not_the_last_alone c = wrong.acknowledged_not_the_last_alone

pub returns-clause-stands : goal.returns-clause-stands
returns-clause-stands c = keeps_what_stands

pub returns-clause-stands_not_the_last_alone : goal.returns-clause-stands_not_the_last_alone
returns-clause-stands_not_the_last_alone c = wrong.stands_not_the_last_alone

pub returns-clause-stands_in_transactions : goal.returns-clause-stands_in_transactions
returns-clause-stands_in_transactions c = wrong.stands_in_transactions

pub returns-clause-acknowledged_with_its_offset : goal.returns-clause-acknowledged_with_its_offset
returns-clause-acknowledged_with_its_offset c = wrong.acknowledged_with_its_offset
