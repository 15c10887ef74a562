-- What `check` answers to its input, which is settings from its first line to its last.
use Rattle.std.specs.Prelude.{ℕ, List, ◌++◌, codes, Result, Ok, Err}
use Rattle.settings_text.specs.declared.document.Document.{Document}
use Rattle.settings_text.specs.declared.fault.SettingsFault.{SettingsFault}
use Rattle.settings_text.specs.Document.{document_of_text}
use Rattle.commands.specs.declared.command.Command.{Command}
use Rattle.commands.specs.declared.command.Command.TheVariants.{Replay, Check}
use Rattle.audit_trail.specs.Line.{feed}
use Rattle.commands.specs.Replay.{Answer, refused_answer, input_answer, within_limit}

abbrev pub settings_ok : List ℕ
settings_ok = codes "settings ok" ++ feed

abbrev pub document_answer : Result Document SettingsFault → Answer
document_answer (Err fault) = refused_answer fault
document_answer (Ok d) = record { text = settings_ok; status = 0 }

-- whether the settings can be taken, or their first fault
abbrev pub settings_answer : List ℕ → Answer
settings_answer input = document_answer (document_of_text input)

-- what `check` is to write for an input, and its status
abbrev pub check_answer : List ℕ → Answer
check_answer input = within_limit input (settings_answer input)

-- ---- by command

abbrev pub answer_to : Command → List ℕ → Answer
answer_to Replay input = input_answer input
answer_to Check input = settings_answer input

abbrev pub command_answer : Command → List ℕ → Answer
command_answer command input = within_limit input (answer_to command input)
