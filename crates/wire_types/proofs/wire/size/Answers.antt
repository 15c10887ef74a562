use Rattle.std.proofs.Common.{◌∙◌, sym}
use Rattle.wire_types.proofs.Sizes.{size-some, size-none}
use Rattle.wire_types.proofs.wire.size.Goals as goal

pub returns-in_err-left : goal.returns-in_err-left
returns-in_err-left g c = c.from_residual.ensures ∙ size-none g.T.Wire.grammar c.args.value.now (sym c.deduct_from.ensures ∙ c.in_err-left.was)

pub returns : goal.returns
returns g c = size-some g.T.Wire.grammar c.args.value.now c.in_ok-left.left (sym c.deduct_from.ensures ∙ c.in_ok-left.was)
