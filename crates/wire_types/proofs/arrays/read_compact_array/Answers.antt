use Rattle.wire_types.proofs.Announced.{many_refused}
use Rattle.wire_types.proofs.arrays.read_compact_array.Goals as goal

pub returns-in-Err : goal.returns-in-Err
returns-in-Err g c = rw c.from.ensures (many_refused _ g.T.Wire.grammar.reading _ _ c.in-Err.ensures)
