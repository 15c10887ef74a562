use Rattle.api_laws.proofs.Runs.{whole_runs as the_law}
use Rattle.api_laws.proofs.laws.whole_runs.Goals as goal

pub returns : goal.returns
returns c = the_law
