-- What a line of whoever steers a broker asks for: `tick N`, `mark`, `marks`, `audit`, `state` or
-- `end`.
use Rattle.std.specs.Prelude.{ℕ, if◌then◌else◌, List, codes, Option, Some, None, option_map, option_and_then}
use Rattle.std.specs.Str.{bytes_eq}
use Rattle.commands.specs.Order.{parts_at_blank, number_of, text_of}
use Rattle.broker_keeping.specs.declared.control_command.ControlCommand.{ControlCommand}
use Rattle.broker_keeping.specs.declared.control_command.ControlCommand.TheVariants.{Tick, Mark, Marks, Audit, State, End}

-- a first word, and the moment after its blank
abbrev pub tick_by : List ℕ × List ℕ → Option ControlCommand
tick_by parts =
    if bytes_eq parts.0 (codes "tick") then option_map Tick (number_of parts.1) else None

abbrev pub command_in : List ℕ → Option ControlCommand
command_in text =
    if bytes_eq text (codes "mark") then Some Mark else
    if bytes_eq text (codes "marks") then Some Marks else
    if bytes_eq text (codes "audit") then Some Audit else
    if bytes_eq text (codes "state") then Some State else
    if bytes_eq text (codes "end") then Some End else
    option_and_then tick_by (parts_at_blank text)

-- what a line without its line feed asks for, if it is readable
abbrev pub command_of : List ℕ → Option ControlCommand
command_of line = option_and_then command_in (text_of line)
