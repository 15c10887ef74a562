use Rattle.api_laws.proofs.AclEdits.{deletes_each as the_law}
use Rattle.api_laws.proofs.Wrong.{not_deleting_nothing, not_deleting_everything}
use Rattle.api_laws.proofs.laws.deletes_each.Goals as goal

pub returns-clause-deleted : goal.returns-clause-deleted
returns-clause-deleted c = the_law

pub returns-clause-something : goal.returns-clause-something
returns-clause-something c = not_deleting_nothing

pub returns-clause-no_other : goal.returns-clause-no_other
returns-clause-no_other c = not_deleting_everything
