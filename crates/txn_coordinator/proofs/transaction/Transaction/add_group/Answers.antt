use Rattle.std.proofs.Common.{ℕ, List, ap, ◌∙◌}
use Rattle.txn_coordinator.specs.Adding.{with_group, opened_transaction}
use Rattle.txn_coordinator.proofs.Opening.{refused, opened_with_group, added}
use Rattle.txn_coordinator.proofs.transaction.Transaction.add_group.Goals as goal

pub returns-in-Some-clause-ok : goal.returns-in-Some-clause-ok
returns-in-Some-clause-ok c = (refused (with_group c.args.group.now) _ c.args.self.now c.in-Some.code (c.in-Some.ensures c.args.moment)).0

pub returns-in-Some-clause-code : goal.returns-in-Some-clause-code
returns-in-Some-clause-code c = (refused (with_group c.args.group.now) _ c.args.self.now c.in-Some.code (c.in-Some.ensures c.args.moment)).1

pub returns-clause-ok : goal.returns-clause-ok
returns-clause-ok c =
    c.open.ensures
    ∙ ap (λ (all : List (List ℕ)). opened_transaction (record c.args.self.now { groups = all }) c.args.moment) c.in_ok-add_group.ensures.ok
    ∙ opened_with_group c.args.group.now c.args.self.now c.args.moment
    ∙ (added (with_group c.args.group.now) c.args.self.now c.args.pair c.args.moment (c.in_default.ensures c.args.moment)).0
