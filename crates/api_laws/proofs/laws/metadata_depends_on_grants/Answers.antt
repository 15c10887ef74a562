use Rattle.api_laws.proofs.Grants.{depends_on_grants as the_law}
use Rattle.api_laws.proofs.WrongTenants.{not_of_everybody, not_telling_missing}
use Rattle.api_laws.proofs.laws.metadata_depends_on_grants.Goals as goal

pub returns-clause-granted : goal.returns-clause-granted
returns-clause-granted c = the_law

pub returns-clause-described : goal.returns-clause-described
returns-clause-described c = not_of_everybody

pub returns-clause-existing : goal.returns-clause-existing
returns-clause-existing c = not_telling_missing
