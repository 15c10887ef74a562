use Rattle.std.proofs.Common.{◌≡◌, ◌-◌, ◌≤◌, length}
use Rattle.frame_streams.specs.Reads.{Passes}
use Rattle.frame_streams.proofs.frame.read_past.Given as goal

abbrev pub invariant-loop-passed : goal.invariant-loop-passed
invariant-loop-passed g l = record {
  room : length l.piece ≡ 8192;
  within : l.passed ≤ l.size;
  read : Passes (g.R.Read.remaining l.initial.reader) (g.R.Read.remaining l.reader) l.passed;
}

abbrev pub decreases-loop-passed : goal.decreases-loop-passed
decreases-loop-passed g l = l.size - l.passed
