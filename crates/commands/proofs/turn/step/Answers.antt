use Rattle.std.proofs.Common.{w32}
use Rattle.std.proofs.lemmas.Int.{to_z-of_z}
use Rattle.commands.proofs.StepLemmas.{printed}
use Rattle.commands.proofs.turn.step.Goals as goal

pub returns-in_ok-receipt_text-in-Ok : goal.returns-in_ok-receipt_text-in-Ok
returns-in_ok-receipt_text-in-Ok c =
    let back = to_z-of_z w32 c.args.correlation c.ranges.correlation in
    printed c.args.core.now c.args.correlation c.args.event c.step.new.self c.in-Ok.receipt _ c.in-Ok.ensures.ready c.in-Ok.ensures.headline (rw back at c.in_ok-receipt_text-in-Ok.ensures)
