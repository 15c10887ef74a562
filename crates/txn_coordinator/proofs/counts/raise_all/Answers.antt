use Rattle.std.proofs.Common.{◌≡◌, ◌+◌, ◌^◌, ◌<◌, true, sym, subst, arith}
use Rattle.txn_coordinator.specs.declared.marker.PendingMarker.{PendingMarker}
use Rattle.txn_coordinator.specs.Kept.{count_of, has_count}
use Rattle.txn_coordinator.proofs.Counting.{owes_it, room_for_one}
use Rattle.txn_coordinator.proofs.counts.raise_all.Goals as goal

pub raise-requires-clause-entered : goal.raise-requires-clause-entered
raise-requires-clause-entered c =
    subst (λ (m : PendingMarker). has_count c.loop-marker.counts m.id ≡ true) (sym c.value.ensures)
    (c.loop-marker.invariant.entered c.marker-item.result.id (owes_it c.args.owed.now c.loop-marker.marker-index c.marker-item.result c.loop-marker-test.true c.marker-item.is))

pub raise-requires-clause-fits : goal.raise-requires-clause-fits
raise-requires-clause-fits c =
    subst (λ (m : PendingMarker). count_of c.loop-marker.counts m.id + 1 < 2 ^ 64) (sym c.value.ensures)
    (omega (arith, c.loop-marker.invariant.raised c.marker-item.result.id, c.requires.fits c.marker-item.result.id, room_for_one c.args.owed.now c.loop-marker.marker-index c.marker-item.result c.loop-marker-test.true c.marker-item.is))
