use Rattle.record_batch.proofs.Lawful.{faultless_is_batch}
use Rattle.record_batch.proofs.laws.faultless_is_batch.Goals as goal

pub returns : goal.returns
returns c = faultless_is_batch
