use Rattle.std.proofs.Common.{◌≡◌, ◌-◌, ◌≤◌, length}
use Rattle.std.specs.Io.KnownBytes.{Consumes}
use Rattle.frame_streams.proofs.frame.read_body.Given as goal

abbrev pub invariant-loop-held : goal.invariant-loop-held
invariant-loop-held g l = record {
  all : length l.body.items ≡ l.held;
  least : l.held ≤ l.size;
  read : Consumes (g.R.Read.remaining l.initial.reader) (g.R.Read.remaining l.reader) l.body.items;
}

abbrev pub decreases-loop-held : goal.decreases-loop-held
decreases-loop-held g l = l.size - l.held
