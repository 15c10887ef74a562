use Rattle.std.proofs.Common.{◌≡◌, drop}
use Rattle.wire_types.specs.Spelling.{many_left}
use Rattle.wire_types.proofs.arrays.deduct_all.Given as goal

abbrev pub invariant-loop-item : goal.invariant-loop-item
invariant-loop-item g l = many_left g.T.Wire.grammar.left (drop l.item-index l.items) l.left ≡ many_left g.T.Wire.grammar.left l.items l.fn.budget
