use Rattle.std.proofs.Common.{◌+◌, arith}
use Rattle.session_workers.proofs.Places.{ends_more, ends_part}
use Rattle.session_workers.proofs.settlement.tick_ends.Goals as goal

pub returns-then-not-tick_off : goal.returns-then-not-tick_off
returns-then-not-tick_off c =
    let bad = c.if-not-tick_off.ensures in
    let p = bad.0 in
    (p, omega (arith, bad.1, c.loop-end.invariant p, ends_more p c.args.ends.now c.loop-end.end-index c.end-item.result c.as_slice.result.now c.loop-end-test.true c.end-item.is c.as_slice.ensures.value, ends_part p c.args.ends.now (c.loop-end.end-index + 1)))
