use Rattle.std.proofs.Common.{rules}
use Rattle.walk.proofs.Weights.{weightless}
use Rattle.group_handlers.proofs.offset_commit.answer_offset_commit.Goals as goal

pub walk-requires : goal.walk-requires
walk-requires c = search (rules, weightless)
