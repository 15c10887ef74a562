use Rattle.api_laws.proofs.DataGrants.{fetch_depends as the_law}
use Rattle.api_laws.proofs.WrongTenants.{not_fetching_unasked, not_fetching_missing}
use Rattle.api_laws.proofs.laws.fetch_depends_on_grants.Goals as goal

pub returns-clause-granted : goal.returns-clause-granted
returns-clause-granted c = the_law

pub returns-clause-asked : goal.returns-clause-asked
returns-clause-asked c = not_fetching_unasked

pub returns-clause-existing : goal.returns-clause-existing
returns-clause-existing c = not_fetching_missing
