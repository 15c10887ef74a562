use Rattle.api_laws.proofs.Staged.{staging_keeps as the_law}
use Rattle.api_laws.proofs.WrongTenants.{not_staging_alone, not_added_unasked}
use Rattle.api_laws.proofs.laws.staged_offsets_keep_the_rest.Goals as goal

pub returns-clause-kept : goal.returns-clause-kept
returns-clause-kept c = the_law

pub returns-clause-others : goal.returns-clause-others
returns-clause-others c = not_staging_alone

pub returns-clause-asked : goal.returns-clause-asked
returns-clause-asked c = not_added_unasked
