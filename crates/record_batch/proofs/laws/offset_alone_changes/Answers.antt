use Rattle.record_batch.proofs.Lawful.{offset_alone_changes}
use Rattle.record_batch.proofs.laws.offset_alone_changes.Goals as goal

pub returns : goal.returns
returns c = offset_alone_changes
