use Rattle.tenant_laws.proofs.Apart.{replies_depend, answers_depend, receipts_depend}
use Rattle.tenant_laws.proofs.Wrong.{not_without_a_grant, not_of_what_is_there}
use Rattle.tenant_laws.proofs.laws.answers_depend_on_grants.Goals as goal

pub returns-clause-replies : goal.returns-clause-replies
returns-clause-replies c = replies_depend

pub returns-clause-granted : goal.returns-clause-granted
returns-clause-granted c = not_without_a_grant

pub returns-clause-there : goal.returns-clause-there
returns-clause-there c = not_of_what_is_there

pub returns-clause-worlds : goal.returns-clause-worlds
returns-clause-worlds c = answers_depend

pub returns-clause-cores : goal.returns-clause-cores
returns-clause-cores c = receipts_depend
