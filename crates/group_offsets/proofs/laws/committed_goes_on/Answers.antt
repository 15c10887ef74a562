use Rattle.group_offsets.proofs.Following.{committed_goes_on}
use Rattle.group_offsets.proofs.laws.committed_goes_on.Goals as goal

pub returns : goal.returns
returns c = committed_goes_on
