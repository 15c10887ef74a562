use Rattle.record_batch.proofs.Lawful.{same_faults}
use Rattle.record_batch.proofs.laws.same_faults.Goals as goal

pub returns : goal.returns
returns c = same_faults
