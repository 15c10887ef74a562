use Rattle.api_laws.proofs.AclEdits.{acls_depend as the_law}
use Rattle.api_laws.proofs.WrongTenants.{not_topics_there, not_for_topics_there}
use Rattle.api_laws.proofs.laws.acls_depend_on_the_book.Goals as goal

pub returns-clause-by_book : goal.returns-clause-by_book
returns-clause-by_book c = the_law

pub returns-clause-described : goal.returns-clause-described
returns-clause-described c = not_topics_there

pub returns-clause-created : goal.returns-clause-created
returns-clause-created c = not_for_topics_there
