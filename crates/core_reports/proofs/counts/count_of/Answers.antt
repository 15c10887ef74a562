use Rattle.std.proofs.Common.{arith, sym}
use Rattle.core_reports.proofs.Counting.{events_from, fewer, fewer_refusals, refusals_from}
use Rattle.core_reports.proofs.counts.count_of.Goals as goal

pub plus-counted-requires-clause-events : goal.plus-counted-requires-clause-events
plus-counted-requires-clause-events c =
    let events = events_from c.args.kind c.args.trail.now c.loop-place.place c.in-Some.entry.now (sym c.in-Some.ensures) in
    omega (arith, events, c.of.ensures.events, c.loop-place.invariant.0, fewer c.args.kind c.args.trail.now, c.len-place-end.ensures)

pub plus-counted-requires-clause-refusals : goal.plus-counted-requires-clause-refusals
plus-counted-requires-clause-refusals c =
    let refusals = refusals_from c.args.kind c.args.trail.now c.loop-place.place c.in-Some.entry.now (sym c.in-Some.ensures) in
    omega (arith, refusals, c.of.ensures.refusals, c.loop-place.invariant.1, fewer_refusals c.args.kind c.args.trail.now, c.refusals-all.ensures)

pub loop-place-preserved : goal.loop-place-preserved
loop-place-preserved c =
    let events = events_from c.args.kind c.args.trail.now c.loop-place.place c.in-Some.entry.now (sym c.in-Some.ensures) in
    let refusals = refusals_from c.args.kind c.args.trail.now c.loop-place.place c.in-Some.entry.now (sym c.in-Some.ensures) in
    (omega (arith, events, c.plus-counted.ensures.events, c.of.ensures.events, c.loop-place.invariant.0), omega (arith, refusals, c.plus-counted.ensures.refusals, c.of.ensures.refusals, c.loop-place.invariant.1))
