use Rattle.record_batch.proofs.AnySize.{size_is_last}
use Rattle.record_batch.proofs.laws.size_is_last.Goals as goal

pub returns : goal.returns
returns c = size_is_last
