use Rattle.broker_world.proofs.Parts.{one_more, partitions_at}
use Rattle.broker_world.proofs.infos.led_by.Goals as goal

pub loop-index-preserved : goal.loop-index-preserved
loop-index-preserved c = rw (c.in_ok-push.ensures.ok, c.in_ok-partition_info.ensures) (one_more _ _ _ _ _ (partitions_at _ _ _ c.loop-index-test.true) c.loop-index.invariant)
