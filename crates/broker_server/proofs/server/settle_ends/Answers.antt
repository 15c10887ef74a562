use Rattle.std.proofs.Common.{◌≡◌, ◌+◌, List, length, subst, rules}
use Rattle.request_handlers.specs.Seats.{SeatValue}
use Rattle.session_pool.specs.declared.session.SessionEnd.{SessionEnd}
use Rattle.broker_server.proofs.Counting.{counted}
use Rattle.broker_server.proofs.server.settle_ends.Goals as goal

pub returns-in-Ok-settle-clause-counted : goal.returns-in-Ok-settle-clause-counted
returns-in-Ok-settle-clause-counted g c =
    let many : c.in-Some.sessions + 1 ≡ length c.args.ended.ends.items + c.args.ended.others =
    subst (λ (ends : List (SessionEnd SeatValue)). c.in-Some.sessions + 1 ≡ length ends + c.args.ended.others) c.as_slice.ensures.value c.in-Some.ensures in
    counted g.L.DeskLedger.settings c.close.result c.args.ended.ends.items c.in-Ok.receipts.items c.in-Some.sessions c.args.ended.others c.in-Ok-settle.settled
    c.requires many c.close.ensures c.in-Ok.ensures (search rules)
