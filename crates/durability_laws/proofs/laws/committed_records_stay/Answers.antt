use Rattle.durability_laws.proofs.Committed.{keeps_what_is_stable, serves_what_is_stable}
use Rattle.durability_laws.proofs.WrongSteps as wrong
use Rattle.durability_laws.proofs.laws.committed_records_stay.Goals as goal

pub returns-clause-stable : goal.returns-clause-stable
returns-clause-stable c = keeps_what_is_stable

pub returns-clause-stable_also_markers : goal.returns-clause-stable_also_markers
returns-clause-stable_also_markers c = wrong.stable_also_markers

pub returns-clause-served : goal.returns-clause-served
returns-clause-served c = serves_what_is_stable

pub returns-clause-served_not_the_last_alone : goal.returns-clause-served_not_the_last_alone
returns-clause-served_not_the_last_alone c = wrong.served_not_the_last_alone

pub returns-clause-served_also_last : goal.returns-clause-served_also_last
returns-clause-served_also_last c = wrong.served_also_last

pub returns-clause-served_also_large : goal.returns-clause-served_also_large
returns-clause-served_also_large c = wrong.served_also_large
