-- A marker step: the front marker that is pending is written (KIP-98, 'WriteTxnMarkersRequest'). No
-- permission is asked: the transaction was ended by who might end it.
use Rattle.std.specs.Prelude.{List, [], length, Option, Some, None}
use Rattle.record_batch.specs.Batch.{BatchData}
use Rattle.msg_admin.specs.declared.reply.Reply.TheVariants as replies
use Rattle.txn_coordinator.specs.declared.marker.PendingMarker.{PendingMarker}
use Rattle.txn_coordinator.specs.declared.target.Target.{Target}
use Rattle.txn_coordinator.specs.declared.target.Target.TheVariants.{Partition, Group}
use Rattle.txn_coordinator.specs.Warrants.{next_warrant, with_front_written}
use Rattle.group_offsets.specs.declared.group.Group.{Group as GroupValue}
use Rattle.group_offsets.specs.Groups.{groups_after, decide}
use Rattle.broker_world.specs.World.{World, TopicValue}
use Rattle.broker_world.specs.HandlerResult.{HandlerResult}
use Rattle.broker_world.specs.Markers.{marker_batch, topics_with_marker}

-- what a marker writes: to a partition, its control batch
abbrev pub topics_with_marker_at : List TopicValue → Target → BatchData → List TopicValue
topics_with_marker_at topics (Partition p) b = topics_with_marker topics p.topic p.index b
topics_with_marker_at topics (Group g) b = topics

-- to a group, its producer's decision, which is that group's alone (KIP-98, 'GroupCoordinator')
abbrev pub groups_with_decision_at : List GroupValue → Target → PendingMarker → List GroupValue
groups_with_decision_at gs (Partition p) m = gs
groups_with_decision_at gs (Group g) m = groups_after gs (decide gs g m.pair.producer m.outcome)

abbrev pub mark_by : World → Option PendingMarker → HandlerResult
mark_by w None = record { world = w; reply = replies.Idle; refusals = [] }
mark_by w (Some m) = record {
  world = record w {
    topics = topics_with_marker_at w.topics m.target (marker_batch m w.moment);
    groups = groups_with_decision_at w.groups m.target m;
    coordinator = with_front_written w.coordinator;
  };
  reply = replies.Marked (length (with_front_written w.coordinator).warrants);
  refusals = [];
}

abbrev pub mark_outcome : World → HandlerResult
mark_outcome w = mark_by w (next_warrant w.coordinator)
