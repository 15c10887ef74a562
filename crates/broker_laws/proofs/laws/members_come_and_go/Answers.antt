use Rattle.broker_laws.proofs.Staying.{members_come_and_go}
use Rattle.broker_laws.proofs.WrongMembers.{no_second, not_the_same_generation, not_by_anybody, not_for_ever}
use Rattle.broker_laws.proofs.laws.members_come_and_go.Goals as goal

pub returns-clause-members : goal.returns-clause-members
returns-clause-members c = members_come_and_go

pub returns-clause-one : goal.returns-clause-one
returns-clause-one c = no_second

pub returns-clause-generations : goal.returns-clause-generations
returns-clause-generations c = not_the_same_generation

pub returns-clause-own : goal.returns-clause-own
returns-clause-own c = not_by_anybody

pub returns-clause-lapses : goal.returns-clause-lapses
returns-clause-lapses c = not_for_ever
