use Rattle.api_laws.proofs.Together.{keep_the_rest as the_law}
use Rattle.api_laws.proofs.WrongTransactions.{not_keeping_one, not_ended_unasked}
use Rattle.api_laws.proofs.laws.transactions_keep_the_rest.Goals as goal

pub returns-clause-kept : goal.returns-clause-kept
returns-clause-kept c = the_law

pub returns-clause-others : goal.returns-clause-others
returns-clause-others c = not_keeping_one

pub returns-clause-asked : goal.returns-clause-asked
returns-clause-asked c = not_ended_unasked
