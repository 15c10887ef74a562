use Rattle.api_laws.proofs.Together.{adds_all_or_none as the_law}
use Rattle.api_laws.proofs.WrongTransactions.{not_what_is_there, not_adding_nothing}
use Rattle.api_laws.proofs.laws.adds_all_or_none.Goals as goal

pub returns-clause-together : goal.returns-clause-together
returns-clause-together c = the_law

pub returns-clause-none : goal.returns-clause-none
returns-clause-none c = not_what_is_there

pub returns-clause-all : goal.returns-clause-all
returns-clause-all c = not_adding_nothing
