use Rattle.std.proofs.Common.{◌∙◌}
use Rattle.wire_types.proofs.Deductions.{left_goes_on, left_ends, left_done}
use Rattle.wire_types.proofs.arrays.deduct_all.Goals as goal

pub returns-in_err-left : goal.returns-in_err-left
returns-in_err-left g c = c.from_residual.ensures ∙ left_ends g.T.Wire.grammar.left c.args.items.now c.loop-item.item-index c.item-item.result c.loop-item.left c.deduct_from.result _ c.loop-item-test.true c.item-item.is c.deduct_from.ensures c.in_err-left.was c.loop-item.invariant

pub loop-item-preserved : goal.loop-item-preserved
loop-item-preserved g c = left_goes_on g.T.Wire.grammar.left c.args.items.now c.loop-item.item-index c.item-item.result c.loop-item.left c.in_ok-left.left c.deduct_from.result _ c.loop-item-test.true c.item-item.is c.deduct_from.ensures c.in_ok-left.was c.loop-item.invariant

pub returns : goal.returns
returns g c = left_done g.T.Wire.grammar.left c.args.items.now c.loop-item.item-index c.loop-item.left _ c.loop-item-test.false c.loop-item.invariant
