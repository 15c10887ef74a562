use Rattle.std.proofs.Common.{◌≡◌, ℕ, List, Option, Some, None, sym, subst, ap, ◌∙◌}
use Rattle.std.specs.Map.{lookup, set_value, values_of}
use Rattle.std.specs.Option.{option_copied_mut}
use Rattle.txn_coordinator.specs.declared.transaction.Transaction.{Transaction}
use Rattle.txn_coordinator.specs.Coordinator.{id_record}
use Rattle.txn_coordinator.specs.Warrants.{completed_transaction, with_completed}
use Rattle.txn_coordinator.specs.Kept.{RecordsValue, AreIds}
use Rattle.keyed_tables.proofs.Tables.{is_under}
use Rattle.txn_coordinator.proofs.Table.{looked_up, completed_in, ids_completed}
use Rattle.txn_coordinator.proofs.records.Records.complete.Goals as goal

pub invariant_of-self : goal.invariant_of-self
invariant_of-self c = subst (λ m. AreIds m.entries) (sym c.get_mut.follows.holds-at-none) c.self.invariant

pub returns-in_default : goal.returns-in_default
returns-in_default c =
    let es = c.self.inside.table.entries in
    let none : lookup (is_under c.args.id.now) es ≡ None =
    ap (λ (n : List ℕ). lookup (is_under n) es) (sym c.as_str.ensures) ∙ sym c.get_mut.ensures.value ∙ ap option_copied_mut c.in_default.is in
    ap (λ m. values_of m.entries) c.get_mut.follows.holds-at-none
    ∙ ap (λ (v : RecordsValue). v.list) c.self.view_is
    ∙ ap (λ (r : Option Transaction). with_completed c.args.outcome r c.args.self.now.list) (sym none ∙ looked_up es c.args.id.now c.self.invariant ∙ ap (λ (v : RecordsValue). id_record v.list c.args.id.now) c.self.view_is)

pub invariant_of-self-2 : goal.invariant_of-self-2
invariant_of-self-2 c =
    let es = c.self.inside.table.entries in
    let found : lookup (is_under c.args.id.now) es ≡ Some c.in-Some.transaction.now = ap (λ (n : List ℕ). lookup (is_under n) es) (sym c.as_str.ensures) ∙ sym c.in-Some.ensures.value in
    let written : (c.get_mut.follows.lender c.complete.new.self).entries ≡ set_value (is_under c.args.id.now) es (completed_transaction c.args.outcome c.in-Some.transaction.now) =
    (c.get_mut.follows.holds c.complete.new.self).0 ∙ (λ i. set_value (is_under (c.as_str.ensures i)) es (c.complete.ensures i)) in
    subst AreIds (sym written) (ids_completed es c.args.id.now c.in-Some.transaction.now c.args.outcome c.self.invariant found)

pub returns : goal.returns
returns c =
    let es = c.self.inside.table.entries in
    let found : lookup (is_under c.args.id.now) es ≡ Some c.in-Some.transaction.now = ap (λ (n : List ℕ). lookup (is_under n) es) (sym c.as_str.ensures) ∙ sym c.in-Some.ensures.value in
    let written : (c.get_mut.follows.lender c.complete.new.self).entries ≡ set_value (is_under c.args.id.now) es (completed_transaction c.args.outcome c.in-Some.transaction.now) =
    (c.get_mut.follows.holds c.complete.new.self).0 ∙ (λ i. set_value (is_under (c.as_str.ensures i)) es (c.complete.ensures i)) in
    ap values_of written
    ∙ completed_in es c.args.id.now c.in-Some.transaction.now c.args.outcome c.self.invariant found
    ∙ ap (λ (v : RecordsValue). with_completed c.args.outcome (id_record v.list c.args.id.now) v.list) c.self.view_is
