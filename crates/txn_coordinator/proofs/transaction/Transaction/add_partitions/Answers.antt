use Rattle.std.proofs.Common.{List, ap, ◌∙◌}
use Rattle.txn_coordinator.specs.declared.target.TopicPartition.{TopicPartition}
use Rattle.txn_coordinator.specs.Adding.{with_partitions, opened_transaction}
use Rattle.txn_coordinator.proofs.Opening.{refused, opened_with_partitions, added}
use Rattle.txn_coordinator.proofs.transaction.Transaction.add_partitions.Goals as goal

pub returns-in-Some-clause-ok : goal.returns-in-Some-clause-ok
returns-in-Some-clause-ok c = (refused (with_partitions c.args.partitions.now) _ c.args.self.now c.in-Some.code (c.in-Some.ensures c.args.moment)).0

pub returns-in-Some-clause-code : goal.returns-in-Some-clause-code
returns-in-Some-clause-code c = (refused (with_partitions c.args.partitions.now) _ c.args.self.now c.in-Some.code (c.in-Some.ensures c.args.moment)).1

pub returns-clause-ok : goal.returns-clause-ok
returns-clause-ok c =
    c.open.ensures
    ∙ ap (λ (all : List TopicPartition). opened_transaction (record c.args.self.now { partitions = all }) c.args.moment) c.in_ok-add.ensures.ok
    ∙ opened_with_partitions c.args.partitions.now c.args.self.now c.args.moment
    ∙ (added (with_partitions c.args.partitions.now) c.args.self.now c.args.pair c.args.moment (c.in_default.ensures c.args.moment)).0
