use Rattle.api_laws.proofs.Initials.{inits_once as the_law}
use Rattle.api_laws.proofs.WrongTransactions.{not_initing_again, not_initing_unasked}
use Rattle.api_laws.proofs.laws.inits_once.Goals as goal

pub returns-clause-given : goal.returns-clause-given
returns-clause-given c = the_law

pub returns-clause-once : goal.returns-clause-once
returns-clause-once c = not_initing_again

pub returns-clause-asked : goal.returns-clause-asked
returns-clause-asked c = not_initing_unasked
