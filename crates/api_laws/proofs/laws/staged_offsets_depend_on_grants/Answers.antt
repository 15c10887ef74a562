use Rattle.api_laws.proofs.Staged.{staging_depends as the_law}
use Rattle.api_laws.proofs.WrongTenants.{not_groups_unasked, not_staging_unasked}
use Rattle.api_laws.proofs.laws.staged_offsets_depend_on_grants.Goals as goal

pub returns-clause-granted : goal.returns-clause-granted
returns-clause-granted c = the_law

pub returns-clause-adds : goal.returns-clause-adds
returns-clause-adds c = not_groups_unasked

pub returns-clause-stages : goal.returns-clause-stages
returns-clause-stages c = not_staging_unasked
