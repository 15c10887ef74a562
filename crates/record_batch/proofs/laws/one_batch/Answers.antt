use Rattle.record_batch.proofs.Lawful.{one_batch}
use Rattle.record_batch.proofs.laws.one_batch.Goals as goal

pub returns : goal.returns
returns c = one_batch
