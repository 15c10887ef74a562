use Rattle.commands.proofs.ScriptLemmas.{printed_nothing}
use Rattle.commands.proofs.run.answer_input.Goals as goal

pub returns-in-Err-open_checked : goal.returns-in-Err-open_checked
returns-in-Err-open_checked g c = printed_nothing _ _ _
