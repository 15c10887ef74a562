use Rattle.api_laws.proofs.Unchanged.{errors_change_nothing as the_law}
use Rattle.api_laws.proofs.WrongTransactions.{not_beginning_groups, not_adding_beside_errors}
use Rattle.api_laws.proofs.laws.errors_change_nothing.Goals as goal

pub returns-clause-unchanged : goal.returns-clause-unchanged
returns-clause-unchanged c = the_law

pub returns-clause-joins : goal.returns-clause-joins
returns-clause-joins c = not_beginning_groups

pub returns-clause-adds : goal.returns-clause-adds
returns-clause-adds c = not_adding_beside_errors
