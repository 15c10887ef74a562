use Rattle.api_laws.proofs.Grouped.{groups_keep as the_law}
use Rattle.api_laws.proofs.WrongTenants.{not_joining_alone, not_joined_unasked}
use Rattle.api_laws.proofs.laws.groups_keep_the_rest.Goals as goal

pub returns-clause-kept : goal.returns-clause-kept
returns-clause-kept c = the_law

pub returns-clause-others : goal.returns-clause-others
returns-clause-others c = not_joining_alone

pub returns-clause-asked : goal.returns-clause-asked
returns-clause-asked c = not_joined_unasked
