use Rattle.tenant_laws.proofs.Telling.{null_tells_of_all}
use Rattle.tenant_laws.proofs.Wrong.{not_of_none}
use Rattle.tenant_laws.proofs.laws.null_tells_of_all.Goals as goal

pub returns-clause-all : goal.returns-clause-all
returns-clause-all c = null_tells_of_all

pub returns-clause-some : goal.returns-clause-some
returns-clause-some c = not_of_none
