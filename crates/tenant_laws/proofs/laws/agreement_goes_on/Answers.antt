use Rattle.tenant_laws.proofs.Going.{agreement_goes_on as the_law}
use Rattle.tenant_laws.proofs.laws.agreement_goes_on.Goals as goal

pub returns : goal.returns
returns c = the_law
