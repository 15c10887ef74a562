use Rattle.std.proofs.Common.{◌≡◌, true, subst, ◌∙◌}
use Rattle.txn_coordinator.specs.declared.marker.PendingMarker.{PendingMarker}
use Rattle.txn_coordinator.specs.Kept.{has_count}
use Rattle.txn_coordinator.proofs.Counting.{there_more}
use Rattle.txn_coordinator.proofs.counts.enter_all.Goals as goal

pub loop-marker-preserved : goal.loop-marker-preserved
loop-marker-preserved c = record {
  same = λ id. c.enter.ensures.same id ∙ c.loop-marker.invariant.same id;
  entered = there_more (has_count c.loop-marker.counts) (has_count c.enter.new.counts) c.args.owed.now c.loop-marker.marker-index c.marker-item.result c.loop-marker-test.true c.marker-item.is c.enter.ensures.kept
      (subst (λ (m : PendingMarker). has_count c.enter.new.counts m.id ≡ true) c.value.ensures c.in_ok-enter.ensures.entered) c.loop-marker.invariant.entered;
}
