use Rattle.group_offsets.proofs.Apart.{answers_are_apart}
use Rattle.group_offsets.proofs.laws.answers_are_apart.Goals as goal

pub returns : goal.returns
returns c = answers_are_apart
