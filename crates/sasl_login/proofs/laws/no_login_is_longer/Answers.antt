use Rattle.sasl_login.proofs.Longest.{no_longer}
use Rattle.sasl_login.proofs.laws.no_login_is_longer.Goals as goal

pub returns : goal.returns
returns c = no_longer
