use Rattle.std.proofs.Common.{◌≡◌, ◌++◌, drop}
use Rattle.std.specs.Io.{StartsWith}
use Rattle.wire_types.specs.Spelling.{many_fit, many_written}
use Rattle.wire_types.proofs.arrays.write_many.Given as goal

abbrev pub invariant-loop-item : goal.invariant-loop-item
invariant-loop-item g l = record {
  fit : many_fit g.T.Wire.grammar.fits (drop l.item-index l.items) ≡ many_fit g.T.Wire.grammar.fits l.items;
  text : l.out.items ++ many_written g.T.Wire.grammar.written (drop l.item-index l.items) ≡ l.fn.out.items ++ many_written g.T.Wire.grammar.written l.items;
  begun : StartsWith l.out.items l.fn.out.items;
}
