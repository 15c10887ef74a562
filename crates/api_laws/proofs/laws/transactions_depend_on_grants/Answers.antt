use Rattle.api_laws.proofs.Together.{transactions_depend as the_law}
use Rattle.api_laws.proofs.WrongTransactions.{not_ending_unasked, not_adding_unasked}
use Rattle.api_laws.proofs.laws.transactions_depend_on_grants.Goals as goal

pub returns-clause-granted : goal.returns-clause-granted
returns-clause-granted c = the_law

pub returns-clause-ends : goal.returns-clause-ends
returns-clause-ends c = not_ending_unasked

pub returns-clause-adds : goal.returns-clause-adds
returns-clause-adds c = not_adding_unasked
