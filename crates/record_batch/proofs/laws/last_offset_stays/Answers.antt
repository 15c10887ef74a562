use Rattle.record_batch.proofs.Lawful.{last_offset_stays}
use Rattle.record_batch.proofs.laws.last_offset_stays.Goals as goal

pub returns : goal.returns
returns c = last_offset_stays
