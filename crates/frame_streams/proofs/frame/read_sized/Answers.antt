use Rattle.std.proofs.Common.{arith}
use Rattle.frame_streams.proofs.Fronts.{framed, no_body}
use Rattle.frame_streams.proofs.frame.read_sized.Goals as goal
use Rattle.frame_streams.proofs.frame.read_sized.Goals.{then-size-most, else-size-most}

pub returns-in-Ok-clause-ok : goal.returns-in-Ok-clause-ok
returns-in-Ok-clause-ok g c =
    framed _ _ _ c.in_ok-head.head _ c.args.limit c.args.most c.from_be_bytes-size.result c.in_ok-head.ensures.ok.0 c.from_be_bytes-size.ensures (omega arith) (omega arith)
    (λ above. elim c.if-size-most.branch [ then-size-most w ↦ omega (arith, above, c.in-Ok.ensures.len) | else-size-most w ↦ omega (arith, above, c.in-Ok.ensures.len) ])
    (λ within. elim c.if-size-most.branch [ then-size-most w ↦ omega (arith, within, c.in-Ok.ensures.len) | else-size-most w ↦ omega (arith, within, c.in-Ok.ensures.len) ])
    c.in_ok-head.ensures.ok.1 c.in-Ok.ensures.ok

pub returns-in-Err-clause-err : goal.returns-in-Err-clause-err
returns-in-Err-clause-err g c =
    no_body _ _ _ c.in_ok-head.head c.args.limit c.from_be_bytes-size.result c.in-Err.why c.in_ok-head.ensures.ok.0 c.from_be_bytes-size.ensures (omega arith) (omega arith) c.in_ok-head.ensures.ok.1 c.in-Err.ensures.err
