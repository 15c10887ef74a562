use Rattle.broker_laws.proofs.TransitionCodes.{calls_by_number}
use Rattle.broker_laws.proofs.WrongMembers.{not_from_anybody, not_in_any_generation, not_unknown, not_told}
use Rattle.broker_laws.proofs.laws.member_calls_by_number.Goals as goal

pub returns-clause-numbers : goal.returns-clause-numbers
returns-clause-numbers c = calls_by_number

pub returns-clause-strangers : goal.returns-clause-strangers
returns-clause-strangers c = not_from_anybody

pub returns-clause-generations : goal.returns-clause-generations
returns-clause-generations c = not_in_any_generation

pub returns-clause-full : goal.returns-clause-full
returns-clause-full c = not_unknown

pub returns-clause-nothing : goal.returns-clause-nothing
returns-clause-nothing c = not_told
