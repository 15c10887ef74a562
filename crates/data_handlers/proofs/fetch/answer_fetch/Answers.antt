use Rattle.std.proofs.Common.{rules}
use Rattle.walk.proofs.Weights.{weightless}
use Rattle.data_handlers.proofs.fetch.answer_fetch.Goals as goal

pub walk-requires : goal.walk-requires
walk-requires c = search (rules, weightless)
