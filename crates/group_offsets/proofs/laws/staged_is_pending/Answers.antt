use Rattle.group_offsets.proofs.Waiting.{staged_is_pending}
use Rattle.group_offsets.proofs.laws.staged_is_pending.Goals as goal

pub returns : goal.returns
returns c = staged_is_pending
