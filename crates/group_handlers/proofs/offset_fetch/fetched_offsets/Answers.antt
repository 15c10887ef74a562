use Rattle.std.proofs.Common.{rules}
use Rattle.walk.proofs.Weights.{weightless}
use Rattle.group_handlers.proofs.offset_fetch.fetched_offsets.Goals as goal

pub walk-requires : goal.walk-requires
walk-requires c = search (rules, weightless)
