use Rattle.sasl_login.proofs.Versions.{versions_are_listed}
use Rattle.sasl_login.proofs.laws.versions_are_listed.Goals as goal

pub returns : goal.returns
returns c = versions_are_listed
