-- How far an answer stands written.
use Rattle.std.specs.Prelude.{◌≡◌, ℕ, List, [], ◌++◌, Option, Result, IfOk, IfErr}
use Rattle.std.specs.Io.KnownBytes.{Appends}
use Rattle.request_handlers.specs.declared.stop.Stop.TheVariants.{NoMemory}
use Rattle.settings_text.specs.declared.fault.SettingsFault.TheVariants as faults
use Rattle.commands.specs.declared.cause.Early.{Early}
use Rattle.commands.specs.declared.cause.Early.TheVariants.{Settings, Script}
use Rattle.request_handlers.specs.Stop.{stop_line}
use Rattle.commands.specs.Replay.{Answer, refused_line}

-- nothing was written where an allocation failed for the settings
abbrev pub IsUnwritten : Early → List ℕ → Type 0
IsUnwritten early done = early ≡ Settings → done ≡ []

-- some of the answer's text was written, from its front; all of it, with its status, where the run
-- is Ok
pub record Printed (old new : Option (List ℕ)) (answer : Answer) (r : Result ℕ Early) : Type 0 where
  pub done : List ℕ
  pub left : List ℕ
  pub split : answer.text ≡ done ++ left
  pub grew : Appends old new done
  pub all : IfOk r (λ status. (left ≡ []) × (status ≡ answer.status))
  pub early : IfErr r (λ early. IsUnwritten early done)

-- the line of which a front stands written
abbrev pub IsFrontOf : List ℕ → List ℕ → Type 0
IsFrontOf text line = (rest : List ℕ) × (text ++ rest ≡ line)

-- the last words of a run that ends early: one line after an allocation failure, and else nothing
abbrev pub last_words : Early → List ℕ
last_words Settings = refused_line faults.NoMemory
last_words Script = stop_line NoMemory
last_words early = []

-- a front of the last words was written
abbrev pub EndsEarly : Option (List ℕ) → Option (List ℕ) → Early → Type 0
EndsEarly old new early = (last : List ℕ) × IsFrontOf last (last_words early) × Appends old new last

-- A run with this status wrote the whole answer and has its status, or ended early with status 1.
-- Then some of the answer's text stands written, from its front, and a front of the last words
-- after it: those of refused settings only where nothing else is written.
pub data Replayed (old new : Option (List ℕ)) (answer : Answer) (status : ℕ) : Type 0 where
  whole : Appends old new answer.text → status ≡ answer.status → Replayed old new answer status
  cut : (early : Early) (done left last : List ℕ) → answer.text ≡ done ++ left
      → IsUnwritten early done → IsFrontOf last (last_words early)
      → Appends old new (done ++ last) → status ≡ 1 → Replayed old new answer status
