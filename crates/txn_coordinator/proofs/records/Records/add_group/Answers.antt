use Rattle.std.proofs.Common.{◌≡◌, ℕ, List, Option, Some, None, refl, sym, subst, ap, ◌∙◌}
use Rattle.std.specs.Prelude.{IfOk}
use Rattle.std.specs.Map.{lookup, set_value, values_of}
use Rattle.std.specs.Option.{option_copied_mut}
use Rattle.txn_coordinator.specs.declared.transaction.Transaction.{Transaction}
use Rattle.txn_coordinator.specs.Transition.{Transition}
use Rattle.txn_coordinator.specs.Coordinator.{transition_code, records_after}
use Rattle.txn_coordinator.specs.Adding.{with_group, open_found, growth_transition}
use Rattle.txn_coordinator.specs.Kept.{RecordsValue, AreIds}
use Rattle.keyed_tables.proofs.Tables.{is_under}
use Rattle.txn_coordinator.proofs.Table.{is_recorded, called_ids, called_ok, called_err}
use Rattle.txn_coordinator.proofs.Opening.{added_id}
use Rattle.txn_coordinator.proofs.records.Records.add_group.Goals as goal

pub invariant_of-self : goal.invariant_of-self
invariant_of-self c = subst (λ m. AreIds m.entries) (sym c.get_mut.follows.holds-at-none) c.self.invariant

pub returns-in_default-clause-ok : goal.returns-in_default-clause-ok
returns-in_default-clause-ok c =
    let es = c.self.inside.table.entries in
    let transition : Option Transaction → Transition = λ found. growth_transition (with_group c.args.group.now) (open_found found c.args.pair c.args.moment) in
    let none : lookup (is_under c.args.id.now) es ≡ None =
    ap (λ (n : List ℕ). lookup (is_under n) es) (sym c.as_str.ensures) ∙ sym c.get_mut.ensures.value ∙ ap option_copied_mut c.in_default.is in
    let same = ap (λ m. values_of m.entries) c.get_mut.follows.holds-at-none ∙ ap (λ (v : RecordsValue). v.list) c.self.view_is in
    same ∙ ap (λ (found : Option Transaction). records_after c.args.self.now.list (transition found)) (is_recorded es _ c.args.id.now None none c.self.invariant (ap (λ (v : RecordsValue). v.list) c.self.view_is))

pub returns-in_default-clause-code : goal.returns-in_default-clause-code
returns-in_default-clause-code c =
    let es = c.self.inside.table.entries in
    let transition : Option Transaction → Transition = λ found. growth_transition (with_group c.args.group.now) (open_found found c.args.pair c.args.moment) in
    let none : lookup (is_under c.args.id.now) es ≡ None =
    ap (λ (n : List ℕ). lookup (is_under n) es) (sym c.as_str.ensures) ∙ sym c.get_mut.ensures.value ∙ ap option_copied_mut c.in_default.is in
    ap (λ (found : Option Transaction). transition_code (transition found)) (is_recorded es _ c.args.id.now None none c.self.invariant (ap (λ (v : RecordsValue). v.list) c.self.view_is))

pub invariant_of-self-2 : goal.invariant_of-self-2
invariant_of-self-2 c =
    let es = c.self.inside.table.entries in
    let t = c.in-Some.transaction.now in
    let transition : Option Transaction → Transition = λ found. growth_transition (with_group c.args.group.now) (open_found found c.args.pair c.args.moment) in
    let found : lookup (is_under c.args.id.now) es ≡ Some t = ap (λ (n : List ℕ). lookup (is_under n) es) (sym c.as_str.ensures) ∙ sym c.in-Some.ensures.value in
    let written : (c.get_mut.follows.lender c.add_group.new.self).entries ≡ set_value (is_under c.args.id.now) es c.add_group.new.self =
    (c.get_mut.follows.holds c.add_group.new.self).0 ∙ (λ i. set_value (is_under (c.as_str.ensures i)) es c.add_group.new.self) in
    called_ids es _ _ c.args.id.now t _ c.add_group.result transition c.self.invariant found refl written (added_id (with_group c.args.group.now) t c.args.pair c.args.moment (λ u. refl)) c.add_group.ensures.ok c.add_group.ensures.err

pub returns-clause-ok : goal.returns-clause-ok
returns-clause-ok c =
    let es = c.self.inside.table.entries in
    let t = c.in-Some.transaction.now in
    let transition : Option Transaction → Transition = λ found. growth_transition (with_group c.args.group.now) (open_found found c.args.pair c.args.moment) in
    let found : lookup (is_under c.args.id.now) es ≡ Some t = ap (λ (n : List ℕ). lookup (is_under n) es) (sym c.as_str.ensures) ∙ sym c.in-Some.ensures.value in
    let written : (c.get_mut.follows.lender c.add_group.new.self).entries ≡ set_value (is_under c.args.id.now) es c.add_group.new.self =
    (c.get_mut.follows.holds c.add_group.new.self).0 ∙ (λ i. set_value (is_under (c.as_str.ensures i)) es c.add_group.new.self) in
    called_ok es _ c.args.self.now.list c.args.id.now t _ c.add_group.result transition c.self.invariant found (ap (λ (v : RecordsValue). v.list) c.self.view_is) written (added_id (with_group c.args.group.now) t c.args.pair c.args.moment (λ u. refl)) c.add_group.ensures.ok

pub returns-clause-code : goal.returns-clause-code
returns-clause-code c =
    let es = c.self.inside.table.entries in
    let t = c.in-Some.transaction.now in
    let transition : Option Transaction → Transition = λ found. growth_transition (with_group c.args.group.now) (open_found found c.args.pair c.args.moment) in
    let found : lookup (is_under c.args.id.now) es ≡ Some t = ap (λ (n : List ℕ). lookup (is_under n) es) (sym c.as_str.ensures) ∙ sym c.in-Some.ensures.value in
    subst (λ (x : Option Transaction). IfOk c.add_group.result (λ code. code ≡ transition_code (transition x))) (is_recorded es c.args.self.now.list c.args.id.now (Some t) found c.self.invariant (ap (λ (v : RecordsValue). v.list) c.self.view_is)) c.add_group.ensures.code

pub returns-clause-err : goal.returns-clause-err
returns-clause-err c =
    let es = c.self.inside.table.entries in
    let t = c.in-Some.transaction.now in
    let transition : Option Transaction → Transition = λ found. growth_transition (with_group c.args.group.now) (open_found found c.args.pair c.args.moment) in
    let found : lookup (is_under c.args.id.now) es ≡ Some t = ap (λ (n : List ℕ). lookup (is_under n) es) (sym c.as_str.ensures) ∙ sym c.in-Some.ensures.value in
    let written : (c.get_mut.follows.lender c.add_group.new.self).entries ≡ set_value (is_under c.args.id.now) es c.add_group.new.self =
    (c.get_mut.follows.holds c.add_group.new.self).0 ∙ (λ i. set_value (is_under (c.as_str.ensures i)) es c.add_group.new.self) in
    called_err es _ c.args.self.now.list c.args.id.now t _ c.add_group.result transition c.self.invariant found (ap (λ (v : RecordsValue). v.list) c.self.view_is) written (added_id (with_group c.args.group.now) t c.args.pair c.args.moment (λ u. refl)) c.add_group.ensures.err
