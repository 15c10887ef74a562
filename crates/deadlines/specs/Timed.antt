-- What reads and what writes a stream as long as its peer has time.
use Rattle.std.specs.Prelude.{ℕ, List, Option}
use Rattle.deadlines.specs.declared.progress.Progress.{Progress}
use Rattle.deadlines.specs.declared.timed.Timed.{Timed}
use Rattle.deadlines.specs.declared.written.TimedWriter.{TimedWriter}

-- what a reader has left is what its stream has left
abbrev pub timed_remaining : {S R : Type 0} → (S → Option (List ℕ)) → Timed S R → Option (List ℕ)
timed_remaining remaining reader = remaining reader.stream

-- what a writer holds is what its stream holds
abbrev pub timed_contents : {S R : Type 0} → (S → Option (List ℕ)) → TimedWriter S R
    → Option (List ℕ)
timed_contents contents writer = contents writer.stream

-- how far the peer of a reader has come
abbrev pub progress_of : {S R : Type 0} → Timed S R → Progress
progress_of reader = reader.progress
