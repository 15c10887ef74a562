use Rattle.api_laws.proofs.Initials.{init_depends as the_law}
use Rattle.api_laws.proofs.WrongTransactions.{not_telling_epochs}
use Rattle.api_laws.proofs.laws.init_depends_on_grants.Goals as goal

pub returns-clause-granted : goal.returns-clause-granted
returns-clause-granted c = the_law

pub returns-clause-asked : goal.returns-clause-asked
returns-clause-asked c = not_telling_epochs
