use Rattle.broker_laws.proofs.Putting.{commits_are_of_members}
use Rattle.broker_laws.proofs.WrongOffsets.{not_in_each_generation, not_for_each, not_nothing, not_before_the_end}
use Rattle.broker_laws.proofs.laws.commits_are_of_members.Goals as goal

pub returns-clause-members : goal.returns-clause-members
returns-clause-members c = commits_are_of_members

pub returns-clause-generations : goal.returns-clause-generations
returns-clause-generations c = not_in_each_generation

pub returns-clause-strangers : goal.returns-clause-strangers
returns-clause-strangers c = not_for_each

pub returns-clause-told : goal.returns-clause-told
returns-clause-told c = not_nothing

pub returns-clause-staged : goal.returns-clause-staged
returns-clause-staged c = not_before_the_end
