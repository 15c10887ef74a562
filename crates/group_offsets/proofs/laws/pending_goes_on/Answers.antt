use Rattle.group_offsets.proofs.Waiting.{pending_goes_on}
use Rattle.group_offsets.proofs.laws.pending_goes_on.Goals as goal

pub returns : goal.returns
returns c = pending_goes_on
