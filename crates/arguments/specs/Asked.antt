-- What a command line asks for.
use Rattle.std.specs.Prelude.{◌≡◌, ℕ, Bool, false, true, List, [], ◌∷◌, drop, codes, Some, option_map}
use Rattle.std.specs.Str.{bytes_eq}
use Rattle.clap.specs.Walk.{Row, first_of}
use Rattle.clap.specs.Simple.{subcommand_of}
use Rattle.clap.specs.Faults.{fault_of}
use Rattle.arguments.specs.declared.job.Job.{Job}
use Rattle.arguments.specs.declared.job.Job.TheVariants.{Replay, Check, Serve, Show}
use Rattle.arguments.specs.declared.job.Showing.{Showing}
use Rattle.arguments.specs.declared.serving.Serving.{Serving}
use Rattle.arguments.specs.CommandLine.{command_line}
use Rattle.arguments.specs.Job.{file_of}
use Rattle.arguments.specs.Serving.{IsServedBy, IsWithin}

-- whether these words begin with this one
abbrev pub begin_with : List ℕ → List (List ℕ) → Bool
begin_with name [] = false
begin_with name (word ∷ rest) = bytes_eq word name

-- the words begin with the name of a command, no step of their parse fails, and its options are
-- those that clap reads
pub record Gives (name : List ℕ) (words : List (List ℕ)) (options : List Row) : Type 0 where
  pub begins : begin_with name (drop 1 words) ≡ true
  pub taken : fault_of command_line words ≡ []
  pub read : subcommand_of command_line words ≡ Some (name, options)

-- the words give the options of `serve`, with their numbers in their limits
pub record AsksToServe (words : List (List ℕ)) (serving : Serving) : Type 0 where
  pub options : List Row
  pub given : Gives (codes "serve") words options
  pub served : IsServedBy (λ id. first_of id options) serving
  pub within : IsWithin serving

-- the words give the file of `show`, and its option
pub record AsksToShow (words : List (List ℕ)) (showing : Showing) : Type 0 where
  pub options : List Row
  pub given : Gives (codes "show") words options
  pub file : option_map (λ file. file.now) showing.file ≡ first_of (codes "file") options
  pub answers : option_map (λ file. file.now) showing.answers ≡ first_of (codes "answers") options

-- the job that the words ask for
abbrev pub IsAsked : List (List ℕ) → Job → Type 0
IsAsked words (Replay file) =
    file_of (codes "replay") words ≡ Some (option_map (λ file. file.now) file)
IsAsked words (Check file) =
    file_of (codes "check") words ≡ Some (option_map (λ file. file.now) file)
IsAsked words (Serve serving) = AsksToServe words serving
IsAsked words (Show showing) = AsksToShow words showing

-- the words ask for no job
abbrev pub AsksNothing : List (List ℕ) → Type 0
AsksNothing words = (job : Job) → IsAsked words job → ⊥
