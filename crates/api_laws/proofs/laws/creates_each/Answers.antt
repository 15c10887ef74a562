use Rattle.api_laws.proofs.AclEdits.{creates_each as the_law}
use Rattle.api_laws.proofs.Wrong.{not_creating_nothing, not_creating_alone}
use Rattle.api_laws.proofs.laws.creates_each.Goals as goal

pub returns-clause-created : goal.returns-clause-created
returns-clause-created c = the_law

pub returns-clause-something : goal.returns-clause-something
returns-clause-something c = not_creating_nothing

pub returns-clause-beside : goal.returns-clause-beside
returns-clause-beside c = not_creating_alone
