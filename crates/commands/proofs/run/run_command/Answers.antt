use Rattle.commands.proofs.ScriptLemmas.{if_some_then, ended_early}
use Rattle.commands.proofs.run.run_command.Goals as goal

pub returns-in-Err-clause-prints : goal.returns-in-Err-clause-prints
returns-in-Err-clause-prints g c =
    if_some_then _ _ _ c.run_whole.ensures.prints (λ input printed. ended_early _ _ _ _ _ _ c.in-Err.is printed c.end_early.ensures)
