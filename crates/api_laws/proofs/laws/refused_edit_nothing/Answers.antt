use Rattle.api_laws.proofs.AclEdits.{refused_edit_nothing as the_law}
use Rattle.api_laws.proofs.WrongReads.{not_creating_unasked, not_deleting_unasked}
use Rattle.api_laws.proofs.laws.refused_edit_nothing.Goals as goal

pub returns-clause-unchanged : goal.returns-clause-unchanged
returns-clause-unchanged c = the_law

pub returns-clause-asked_to_create : goal.returns-clause-asked_to_create
returns-clause-asked_to_create c = not_creating_unasked

pub returns-clause-asked_to_delete : goal.returns-clause-asked_to_delete
returns-clause-asked_to_delete c = not_deleting_unasked
