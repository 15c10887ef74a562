use Rattle.std.proofs.Common.{◌≡◌, [], length, subst, rules}
use Rattle.std.specs.Prelude.{OnOk}
use Rattle.txn_coordinator.specs.Coordinator.{CoordinatorValue, apply_transition}
use Rattle.txn_coordinator.specs.Adding.{add_group}
use Rattle.txn_coordinator.proofs.Ranges.{group_records}
use Rattle.txn_coordinator.proofs.Calls.{group_added}
use Rattle.txn_coordinator.proofs.coordinator.Coordinator.add_group.Goals as goal

pub invariant_of-self : goal.invariant_of-self
invariant_of-self c =
    group_records c.add_group.result (length c.self.inside.given.items) c.self.inside.records.list c.add_group.new.self.list c.args.id.now c.args.pair c.args.moment c.args.group.now
    c.self.invariant c.add_group.ensures.ok c.add_group.ensures.err

pub returns-clause-ok : goal.returns-clause-ok
returns-clause-ok c =
    let before : CoordinatorValue = record { transactions = c.self.inside.records.list; given = c.self.inside.given.items; warrants = c.self.inside.owed } in
    let after : CoordinatorValue = record before { transactions = c.add_group.new.self.list } in
    let some : c.args.id.now ≡ [] → ⊥ = search rules in
    subst (λ (v : CoordinatorValue). OnOk c.add_group.result (after ≡ apply_transition v (add_group v c.args.id.now c.args.pair c.args.moment c.args.group.now))) c.self.view_is
    (group_added c.add_group.result before c.add_group.new.self.list c.args.id.now c.args.pair c.args.moment c.args.group.now some c.add_group.ensures.ok)
