use Rattle.txn_laws.proofs.Reached.{sound_law}
use Rattle.txn_laws.proofs.laws.soundness.Goals as goal

pub returns : goal.returns
returns c = sound_law
