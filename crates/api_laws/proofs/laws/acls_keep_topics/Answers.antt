use Rattle.api_laws.proofs.AclEdits.{acls_keep_topics as the_law}
use Rattle.api_laws.proofs.WrongTenants.{not_creating_topics}
use Rattle.api_laws.proofs.laws.acls_keep_topics.Goals as goal

pub returns-clause-kept : goal.returns-clause-kept
returns-clause-kept c = the_law

pub returns-clause-created : goal.returns-clause-created
returns-clause-created c = not_creating_topics
