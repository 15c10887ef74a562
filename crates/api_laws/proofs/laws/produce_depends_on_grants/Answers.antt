use Rattle.api_laws.proofs.DataGrants.{produce_depends as the_law}
use Rattle.api_laws.proofs.WrongTenants.{not_producing_unasked}
use Rattle.api_laws.proofs.laws.produce_depends_on_grants.Goals as goal

pub returns-clause-granted : goal.returns-clause-granted
returns-clause-granted c = the_law

pub returns-clause-asked : goal.returns-clause-asked
returns-clause-asked c = not_producing_unasked
