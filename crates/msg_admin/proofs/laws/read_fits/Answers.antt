use Rattle.std.proofs.Common.{arith}
use Rattle.wire_types.specs.Grammar.{IsBytes}
use Rattle.msg_admin.proofs.MessageLaws.{read_fits}
use Rattle.msg_admin.proofs.laws.read_fits.Goals as goal

pub returns : goal.returns
returns c =
    let bytes : IsBytes c.args.frame.now = λ i. omega (arith, c.type_inv.frame i) in
    read_fits c.args.frame.now bytes
