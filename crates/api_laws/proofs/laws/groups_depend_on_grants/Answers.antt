use Rattle.api_laws.proofs.Grouped.{groups_depend as the_law}
use Rattle.api_laws.proofs.WrongTenants.{not_offsets_unasked, not_joining_unasked}
use Rattle.api_laws.proofs.laws.groups_depend_on_grants.Goals as goal

pub returns-clause-granted : goal.returns-clause-granted
returns-clause-granted c = the_law

pub returns-clause-fetches : goal.returns-clause-fetches
returns-clause-fetches c = not_offsets_unasked

pub returns-clause-joins : goal.returns-clause-joins
returns-clause-joins c = not_joining_unasked
