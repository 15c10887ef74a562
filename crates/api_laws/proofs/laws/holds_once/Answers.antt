use Rattle.api_laws.proofs.Sequenced.{holds_once as the_law}
use Rattle.api_laws.proofs.WrongWrites.{not_of_repeats}
use Rattle.api_laws.proofs.laws.holds_once.Goals as goal

pub returns-clause-held : goal.returns-clause-held
returns-clause-held c = the_law

pub returns-clause-once : goal.returns-clause-once
returns-clause-once c = not_of_repeats
