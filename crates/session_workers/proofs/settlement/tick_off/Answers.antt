use Rattle.std.proofs.Common.{◌≡◌, ◌==◌, ap, arith, true, sym, ◌∙◌, if◌then◌else◌}
use Rattle.std.proofs.lemmas.Bool.Decides.{nat_tests}
use Rattle.session_workers.specs.Settle.{tick_count}
use Rattle.session_workers.proofs.Places.{held_here}
use Rattle.session_workers.proofs.settlement.tick_off.Goals as goal

pub returns-then-seen-place : goal.returns-then-seen-place
returns-then-seen-place c =
    let p = c.place-place.result in
    let same : (p == p) ≡ true = grind (arith, nat_tests) in
    let here = held_here c.args.receipts.now c.loop-receipt.receipt-index c.receipt-item.result p c.loop-receipt-test.true same (ap (λ r. r.place) (sym c.receipt-item.is) ∙ sym c.place-place.ensures) in
    let one : tick_count c.loop-receipt.seen p ≡ 1 = ap (λ b. if b then 1 else 0) c.if-seen-place.true in
    (p, omega (arith, here, one, c.loop-receipt.invariant p))
