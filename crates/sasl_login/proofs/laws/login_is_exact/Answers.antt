use Rattle.sasl_login.proofs.Plain.{exact}
use Rattle.sasl_login.proofs.laws.login_is_exact.Goals as goal

pub returns : goal.returns
returns c = exact
