use Rattle.wire_types.proofs.OneValue.{is_one_value}
use Rattle.wire_types.proofs.laws.one_value.Goals as goal

pub returns : goal.returns
returns g c = is_one_value g.T.Wire.grammar
