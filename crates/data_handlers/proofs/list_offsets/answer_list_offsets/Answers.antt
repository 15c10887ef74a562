use Rattle.std.proofs.Common.{rules}
use Rattle.walk.proofs.Weights.{weightless}
use Rattle.data_handlers.proofs.list_offsets.answer_list_offsets.Goals as goal

pub walk-requires : goal.walk-requires
walk-requires c = search (rules, weightless)
