use Rattle.std.proofs.Common.{◌≡◌, ◌-◌}
use Rattle.wire_types.specs.Reading.{many_at}
use Rattle.wire_types.proofs.Loop.{with_front}
use Rattle.wire_types.proofs.arrays.read_many.Given as goal

abbrev pub invariant-loop : goal.invariant-loop
invariant-loop g l = with_front l.items (many_at g.T.Wire.grammar.reading (l.count - l.counter) l.cursor) ≡ many_at g.T.Wire.grammar.reading l.count l.fn.cursor
