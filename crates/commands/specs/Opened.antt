-- What is printed where a core is opened, or isn't.
use Rattle.std.specs.Prelude.{◌≡◌, ℕ, List, Option, Result, Ok, Err}
use Rattle.settings_text.specs.Document.{document_of_text}
use Rattle.commands.specs.declared.cause.Early.{Early}
use Rattle.commands.specs.declared.open.Opened.{Opened}
use Rattle.commands.specs.declared.open.Unopened.{Unopened}
use Rattle.commands.specs.declared.open.Unopened.TheVariants as unopened
use Rattle.commands.specs.Replay.{Answer}
use Rattle.commands.specs.Printed.{Printed, Replayed}

-- the run that prints the same; of settings that are refused it has the status 1
abbrev pub printed_by : Unopened → Result ℕ Early
printed_by unopened.Refused = Ok 1
printed_by (unopened.Early early) = Err early

-- the core and the users are those of the settings, and nothing is printed
abbrev pub IsOf : Option (List ℕ) → Option (List ℕ) → List ℕ → Opened → Type 0
IsOf old new settings o =
    (document_of_text settings ≡ Ok (record { users = o.users; settings = o.core.settings }))
    × (new ≡ old)

-- it is of the settings; or what is told of them is printed, or a front of it
abbrev pub Opens : Option (List ℕ) → Option (List ℕ) → List ℕ → Answer → Result Opened Unopened
    → Type 0
Opens old new settings answer (Ok o) = IsOf old new settings o
Opens old new settings answer (Err u) = Printed old new answer (printed_by u)

-- the same, as whoever runs it sees it
abbrev pub OpensOr : Option (List ℕ) → Option (List ℕ) → List ℕ → Answer → Result Opened ℕ → Type 0
OpensOr old new settings answer (Ok o) = IsOf old new settings o
OpensOr old new settings answer (Err status) = Replayed old new answer status
