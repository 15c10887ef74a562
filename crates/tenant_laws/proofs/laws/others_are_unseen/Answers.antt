use Rattle.tenant_laws.proofs.Unseen.{others_are_unseen as the_law}
use Rattle.tenant_laws.proofs.laws.others_are_unseen.Goals as goal

pub returns : goal.returns
returns c = the_law
