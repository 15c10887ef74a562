use Rattle.group_offsets.proofs.Apart.{groups_are_apart}
use Rattle.group_offsets.proofs.laws.groups_are_apart.Goals as goal

pub returns : goal.returns
returns c = groups_are_apart
