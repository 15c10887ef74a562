-- The broker's world: all that it keeps between two events. It is laid out for the whole broker;
-- what no api changes yet is empty.
use Rattle.std.specs.Prelude.{ℕ, List, map, Option}
use Rattle.std.specs.List.{find}
use Rattle.std.specs.Str.{bytes_eq}
use Rattle.acl_binding.specs.Book.{BookValue}
use Rattle.authorizer.specs.Asking.{Rules}
use Rattle.record_batch.specs.Batch.{BatchData}
use Rattle.txn_coordinator.specs.Coordinator.{CoordinatorValue}
use Rattle.group_offsets.specs.declared.group.Group.{Group}
use Rattle.broker_world.specs.declared.node.Node.{Node}
use Rattle.broker_world.specs.declared.slot.Slot.{Slot}

-- a partition's log: its record batches and markers in order
abbrev pub LogValue : Type 0
LogValue = List BatchData

-- a topic: its name, and the log of each of its partitions
abbrev pub TopicValue : Type 0
TopicValue = Slot

pub record World : Type 0 where
  pub node : Node
  -- the principals to whom everything is allowed
  pub supers : List (List ℕ)
  pub book : BookValue
  -- in the order of the settings
  pub topics : List TopicValue
  -- transactional ids, the producer ids given out, and the markers that are pending
  pub coordinator : CoordinatorValue
  -- in the order of their beginning
  pub groups : List Group
  -- in milliseconds
  pub moment : ℕ
  -- how many events there were
  pub events : ℕ

-- what permissions are decided by
abbrev pub rules_of : World → Rules
rules_of w = record { book = w.book; supers = w.supers }

abbrev pub find_topic : List TopicValue → List ℕ → Option TopicValue
find_topic topics name = find (λ (t : TopicValue). bytes_eq t.name name) topics

abbrev pub topic_names : List TopicValue → List (List ℕ)
topic_names topics = map (λ (t : TopicValue). t.name) topics
