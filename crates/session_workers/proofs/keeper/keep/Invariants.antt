use Rattle.std.proofs.Common.{◌≡◌, ◌+◌, vec_len}
use Rattle.session_workers.specs.Ends.{Came}
use Rattle.session_workers.proofs.keeper.keep.Given as goal

abbrev pub invariant-loop : goal.invariant-loop
invariant-loop g l = record {
  risen : l.seat.count ≡ l.fn.seat.count + vec_len l.receipts;
  came : Came g.K.Steps.gives g.K.Steps.told (g.K.Steps.state l.initial.steps) l.receipts.items (g.K.Steps.state l.steps);
}
