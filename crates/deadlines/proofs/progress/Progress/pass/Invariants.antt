use Rattle.std.proofs.Common.{◌-◌, ◌≤◌, ◌++◌, List, length, take}
use Rattle.deadlines.specs.Progress.{Came, IsCut, bytes_at}
use Rattle.deadlines.proofs.progress.Progress.pass.Given as goal

abbrev pub invariant-loop-passed : goal.invariant-loop-passed
invariant-loop-passed l = record {
  within : l.passed ≤ length l.bytes;
  cut : (came : List Came) → IsCut came l.initial.self → IsCut (came ++ bytes_at l.now (take l.passed l.bytes)) l.self;
}

abbrev pub decreases-loop-passed : goal.decreases-loop-passed
decreases-loop-passed l = length l.bytes - l.passed
