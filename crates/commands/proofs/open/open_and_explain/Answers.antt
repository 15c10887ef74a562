use Rattle.std.proofs.Common.{ap}
use Rattle.commands.proofs.ScriptLemmas.{if_some_then, ended_early}
use Rattle.commands.specs.Opened.{printed_by}
use Rattle.commands.proofs.open.open_and_explain.Goals as goal

pub returns-in-Err-Early-clause-opens : goal.returns-in-Err-Early-clause-opens
returns-in-Err-Early-clause-opens g c =
    if_some_then _ _ _ c.in-Err-Early.ensures.opens (λ input printed. ended_early _ _ _ _ _ _ (ap printed_by c.in-Err-Early.field-0-is) printed c.end_early.ensures)
