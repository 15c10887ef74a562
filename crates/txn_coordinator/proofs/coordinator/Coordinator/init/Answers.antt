use Rattle.std.proofs.Common.{◌≡◌, [], pos, length, Some, refl, subst, rules}
use Rattle.std.specs.Prelude.{IfOk, OnOk}
use Rattle.txn_coordinator.specs.Transition.{Transition}
use Rattle.txn_coordinator.specs.Coordinator.{CoordinatorValue, id_record, fresh_producer_id, apply_transition, transition_answer}
use Rattle.txn_coordinator.specs.InitProducerId.{timeout_within, init_for, init}
use Rattle.txn_coordinator.proofs.Ranges.{called_range, init_for_range, all_can_raise}
use Rattle.txn_coordinator.proofs.Calls.{call_ok, call_answer, init_looked_up}
use Rattle.txn_coordinator.proofs.coordinator.Coordinator.init.Goals as goal

pub init-requires : goal.init-requires
init-requires c = all_can_raise (length c.self.inside.given.items) c.self.inside.records.list c.self.invariant

pub invariant_of-self : goal.invariant_of-self
invariant_of-self c =
    let ts = c.self.inside.records.list in
    let given = c.self.inside.given.items in
    called_range c.init.result given c.init.new.given.items ts c.init.new.self.list (init_for (Some c.in-Some.timeout) (id_record ts c.args.id.now) c.args.id.now (pos (length given))) c.self.invariant
    (init_for_range (Some c.in-Some.timeout) (id_record ts c.args.id.now) (length given) ts c.args.id.now c.self.invariant refl)
    c.init.ensures.ok c.init.ensures.given c.init.ensures.err c.init.ensures.given_err

pub returns-clause-ok : goal.returns-clause-ok
returns-clause-ok c =
    let before : CoordinatorValue = record { transactions = c.self.inside.records.list; given = c.self.inside.given.items; warrants = c.self.inside.owed } in
    let some : c.args.id.now ≡ [] → ⊥ = search rules in
    let left : CoordinatorValue = record { transactions = c.init.new.self.list; given = c.init.new.given.items; warrants = c.init.new.owed } in
    let transition = init_for (Some c.in-Some.timeout) (id_record before.transactions c.args.id.now) c.args.id.now (fresh_producer_id before) in
    let within : Some c.in-Some.timeout ≡ timeout_within c.args.timeout c.args.greatest = search rules in
    subst (λ (v : CoordinatorValue). OnOk c.init.result (left ≡ apply_transition v (init v c.args.id.now c.args.timeout c.args.greatest))) c.self.view_is
    (subst (λ (t : Transition). OnOk c.init.result (left ≡ apply_transition before t)) (init_looked_up before c.args.id.now c.args.timeout c.args.greatest c.in-Some.timeout some within)
    (call_ok c.init.result before left.transactions left.given left.warrants transition c.init.ensures.ok c.init.ensures.given c.init.ensures.owed))

pub returns-clause-answer : goal.returns-clause-answer
returns-clause-answer c =
    let before : CoordinatorValue = record { transactions = c.self.inside.records.list; given = c.self.inside.given.items; warrants = c.self.inside.owed } in
    let some : c.args.id.now ≡ [] → ⊥ = search rules in
    let transition = init_for (Some c.in-Some.timeout) (id_record before.transactions c.args.id.now) c.args.id.now (fresh_producer_id before) in
    let within : Some c.in-Some.timeout ≡ timeout_within c.args.timeout c.args.greatest = search rules in
    subst (λ (v : CoordinatorValue). IfOk c.init.result (λ answer. answer ≡ transition_answer v c.args.id.now (init v c.args.id.now c.args.timeout c.args.greatest))) c.self.view_is
    (subst (λ (t : Transition). IfOk c.init.result (λ answer. answer ≡ transition_answer before c.args.id.now t)) (init_looked_up before c.args.id.now c.args.timeout c.args.greatest c.in-Some.timeout some within)
    (call_answer c.init.result before c.init.new.self.list c.init.new.given.items c.init.new.owed transition c.args.id.now c.init.ensures.ok c.init.ensures.answer))
