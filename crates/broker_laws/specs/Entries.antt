-- What the laws of transactions see of the broker's world: the coordinator, the moment, and of each
-- batch and marker of a log, and of each offset and decision of a group, whose it is.
use Rattle.std.specs.Prelude.{ℤ, pos, int_lt, List, [], map, Option, Some, None, if◌then◌else◌}
use Rattle.record_batch.specs.Batch.{BatchData}
use Rattle.txn_coordinator.specs.declared.producer_id.ProducerIdAndEpoch.{ProducerIdAndEpoch}
use Rattle.txn_coordinator.specs.declared.target.Target.{Target}
use Rattle.txn_coordinator.specs.declared.target.Target.TheVariants.{Partition, Group}
use Rattle.record_batch.specs.declared.transaction_result.TransactionResult.{TransactionResult}
use Rattle.group_offsets.specs.declared.event.OffsetEvent.{OffsetEvent}
use Rattle.group_offsets.specs.declared.event.OffsetEvent.TheVariants.{Put, Stage, Decide}
use Rattle.group_offsets.specs.declared.group.Group.{Group as GroupValue}
use Rattle.group_offsets.specs.Groups.{group_of}
use Rattle.txn_laws.specs.Small.{Entry, World as SmallWorld}
use Rattle.txn_laws.specs.Small.Entry.{Data, Marker, Other}
use Rattle.broker_world.specs.World.{World, TopicValue, LogValue}
use Rattle.broker_world.specs.Logs.{log_at}
use Rattle.data_handlers.specs.Judged.{id_and_epoch_of}

-- ---- a batch

-- records are of a producer where they bear a producer id, which is one from 0 on
abbrev pub data_of : ProducerIdAndEpoch → Entry
data_of pair = if int_lt pair.producer (pos 0) then Other else Data pair

abbrev pub entry_by : Option TransactionResult → ProducerIdAndEpoch → Entry
entry_by None pair = data_of pair
entry_by (Some outcome) pair = Marker pair outcome

abbrev pub entry_of : BatchData → Entry
entry_of b = entry_by b.marker (id_and_epoch_of b.header)

-- ---- a log

-- a partition that isn't there has none
abbrev pub log_entries : Option LogValue → List Entry
log_entries None = []
log_entries (Some log) = map entry_of log

-- ---- a group

-- a group keeps of a producer its id alone: the epoch 0 stands for each
abbrev pub in_group : ℤ → ProducerIdAndEpoch
in_group producer = record { producer = producer; epoch = pos 0 }

-- an offset of no transaction, an offset of a transaction, and a transaction's end
abbrev pub event_entry : OffsetEvent → Entry
event_entry (Put o) = Other
event_entry (Stage producer o) = Data (in_group producer)
event_entry (Decide producer outcome) = Marker (in_group producer) outcome

-- ---- the world

-- a group that hasn't begun has none
abbrev pub entries_at : List TopicValue → List GroupValue → Target → List Entry
entries_at topics groups (Partition p) = log_entries (log_at topics p.topic p.index)
entries_at topics groups (Group g) = map event_entry (group_of groups g).offsets

abbrev pub entries_in : World → Target → List Entry
entries_in w target = entries_at w.topics w.groups target

abbrev pub small_world : World → SmallWorld
small_world w =
    record {
      coordinator = w.coordinator;
      entries = λ target. entries_in w target;
      moment = w.moment;
    }
