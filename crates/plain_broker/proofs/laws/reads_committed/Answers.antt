use Rattle.plain_broker.proofs.Committed.{reads_committed, fetches_committed}
use Rattle.plain_broker.proofs.laws.reads_committed.Goals as goal

pub returns-clause-partitions : goal.returns-clause-partitions
returns-clause-partitions c = reads_committed

pub returns-clause-requests : goal.returns-clause-requests
returns-clause-requests c = fetches_committed
