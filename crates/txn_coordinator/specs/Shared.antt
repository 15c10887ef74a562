-- Partitions that the copies of a record share.
use Rattle.std.specs.Prelude.{List, [], Option, Some, None}
use Rattle.txn_coordinator.specs.declared.target.TopicPartition.{TopicPartition}

-- those of a set, if there is one
abbrev pub shared_partitions : Option (List TopicPartition) → List TopicPartition
shared_partitions None = []
shared_partitions (Some partitions) = partitions
