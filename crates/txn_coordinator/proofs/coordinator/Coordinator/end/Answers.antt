use Rattle.std.proofs.Common.{◌≡◌, [], pos, length, refl, subst, rules}
use Rattle.std.specs.Prelude.{IfOk, OnOk}
use Rattle.txn_coordinator.specs.Transition.{Transition}
use Rattle.txn_coordinator.specs.Coordinator.{CoordinatorValue, id_record, fresh_producer_id, apply_transition, transition_answer}
use Rattle.txn_coordinator.specs.EndTxn.{end_found, end}
use Rattle.txn_coordinator.proofs.Ranges.{called_range, end_found_range}
use Rattle.txn_coordinator.proofs.Calls.{call_ok, call_answer, end_looked_up}
use Rattle.txn_coordinator.proofs.coordinator.Coordinator.end.Goals as goal

pub invariant_of-self : goal.invariant_of-self
invariant_of-self c =
    let ts = c.self.inside.records.list in
    let given = c.self.inside.given.items in
    called_range c.end.result given c.end.new.given.items ts c.end.new.self.list (end_found (id_record ts c.args.asked.now.id.now) c.args.asked.now.form (pos (length given)) c.args.asked.now.pair c.args.asked.now.outcome) c.self.invariant
    (end_found_range (id_record ts c.args.asked.now.id.now) c.args.asked.now.form (length given) ts c.args.asked.now.id.now c.args.asked.now.pair c.args.asked.now.outcome c.self.invariant refl)
    c.end.ensures.ok c.end.ensures.given c.end.ensures.err c.end.ensures.given_err

pub returns-clause-ok : goal.returns-clause-ok
returns-clause-ok c =
    let before : CoordinatorValue = record { transactions = c.self.inside.records.list; given = c.self.inside.given.items; warrants = c.self.inside.owed } in
    let some : c.args.asked.now.id.now ≡ [] → ⊥ = search rules in
    let left : CoordinatorValue = record { transactions = c.end.new.self.list; given = c.end.new.given.items; warrants = c.end.new.owed } in
    let transition = end_found (id_record before.transactions c.args.asked.now.id.now) c.args.asked.now.form (fresh_producer_id before) c.args.asked.now.pair c.args.asked.now.outcome in
    subst (λ (v : CoordinatorValue). OnOk c.end.result (left ≡ apply_transition v (end v c.args.asked.now.form c.args.asked.now.id.now c.args.asked.now.pair c.args.asked.now.outcome))) c.self.view_is
    (subst (λ (t : Transition). OnOk c.end.result (left ≡ apply_transition before t)) (end_looked_up before c.args.asked.now.form c.args.asked.now.id.now c.args.asked.now.pair c.args.asked.now.outcome some)
    (call_ok c.end.result before left.transactions left.given left.warrants transition c.end.ensures.ok c.end.ensures.given c.end.ensures.owed))

pub returns-clause-answer : goal.returns-clause-answer
returns-clause-answer c =
    let before : CoordinatorValue = record { transactions = c.self.inside.records.list; given = c.self.inside.given.items; warrants = c.self.inside.owed } in
    let some : c.args.asked.now.id.now ≡ [] → ⊥ = search rules in
    let transition = end_found (id_record before.transactions c.args.asked.now.id.now) c.args.asked.now.form (fresh_producer_id before) c.args.asked.now.pair c.args.asked.now.outcome in
    subst (λ (v : CoordinatorValue). IfOk c.end.result (λ answer. answer ≡ transition_answer v c.args.asked.now.id.now (end v c.args.asked.now.form c.args.asked.now.id.now c.args.asked.now.pair c.args.asked.now.outcome))) c.self.view_is
    (subst (λ (t : Transition). IfOk c.end.result (λ answer. answer ≡ transition_answer before c.args.asked.now.id.now t)) (end_looked_up before c.args.asked.now.form c.args.asked.now.id.now c.args.asked.now.pair c.args.asked.now.outcome some)
    (call_answer c.end.result before c.end.new.self.list c.end.new.given.items c.end.new.owed transition c.args.asked.now.id.now c.end.ensures.ok c.end.ensures.answer))
