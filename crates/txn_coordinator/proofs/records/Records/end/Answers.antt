use Rattle.std.proofs.Common.{◌≡◌, ◌++◌, ℕ, pos, length, List, Option, Some, None, refl, sym, subst, ap, ◌∙◌}
use Rattle.std.specs.Prelude.{OnOk}
use Rattle.std.proofs.lemmas.List.{append-nil}
use Rattle.std.specs.Map.{lookup, set_value, values_of}
use Rattle.std.specs.Option.{option_copied_mut}
use Rattle.txn_coordinator.specs.declared.transaction.Transaction.{Transaction}
use Rattle.txn_coordinator.specs.Transition.{Transition}
use Rattle.txn_coordinator.specs.Coordinator.{transition_code, records_after, given_for, pending_markers_for, id_and_epoch_answer, id_record}
use Rattle.txn_coordinator.specs.EndTxn.{end_found}
use Rattle.txn_coordinator.specs.Kept.{RecordsValue}
use Rattle.keyed_tables.proofs.Tables.{is_under}
use Rattle.txn_coordinator.proofs.Table.{is_recorded, called_ids, called_ok, called_err, called_answer}
use Rattle.txn_coordinator.proofs.Keeping.{end_id}
use Rattle.txn_coordinator.proofs.records.Records.end.Goals as goal

pub returns-in_default-clause-ok : goal.returns-in_default-clause-ok
returns-in_default-clause-ok c =
    let es = c.self.inside.table.entries in
    let ts_is = ap (λ (v : RecordsValue). v.list) c.self.view_is in
    let transition : Option Transaction → Transition = λ found. end_found found c.args.asked.now.form (pos (length c.args.given.now.items)) c.args.asked.now.pair c.args.asked.now.outcome in
    let none : lookup (is_under c.args.asked.now.id.now) es ≡ None =
    ap (λ (n : List ℕ). lookup (is_under n) es) (sym c.as_str.ensures) ∙ sym c.get_mut.ensures.value ∙ ap option_copied_mut c.in_default.is in
    let there = is_recorded es _ c.args.asked.now.id.now None none c.self.invariant ts_is in
    let same = ap (λ m. values_of m.entries) c.get_mut.follows.holds-at-none ∙ ts_is in
    same ∙ ap (λ (found : Option Transaction). records_after c.args.self.now.list (transition found)) there

pub returns-in_default-clause-given : goal.returns-in_default-clause-given
returns-in_default-clause-given c =
    let es = c.self.inside.table.entries in
    let ts_is = ap (λ (v : RecordsValue). v.list) c.self.view_is in
    let transition : Option Transaction → Transition = λ found. end_found found c.args.asked.now.form (pos (length c.args.given.now.items)) c.args.asked.now.pair c.args.asked.now.outcome in
    let none : lookup (is_under c.args.asked.now.id.now) es ≡ None =
    ap (λ (n : List ℕ). lookup (is_under n) es) (sym c.as_str.ensures) ∙ sym c.get_mut.ensures.value ∙ ap option_copied_mut c.in_default.is in
    let there = is_recorded es _ c.args.asked.now.id.now None none c.self.invariant ts_is in
    sym (append-nil c.args.given.now.items) ∙ ap (λ (found : Option Transaction). c.args.given.now.items ++ given_for (transition found)) there

pub returns-in_default-clause-owed : goal.returns-in_default-clause-owed
returns-in_default-clause-owed c =
    let es = c.self.inside.table.entries in
    let ts_is = ap (λ (v : RecordsValue). v.list) c.self.view_is in
    let transition : Option Transaction → Transition = λ found. end_found found c.args.asked.now.form (pos (length c.args.given.now.items)) c.args.asked.now.pair c.args.asked.now.outcome in
    let none : lookup (is_under c.args.asked.now.id.now) es ≡ None =
    ap (λ (n : List ℕ). lookup (is_under n) es) (sym c.as_str.ensures) ∙ sym c.get_mut.ensures.value ∙ ap option_copied_mut c.in_default.is in
    let there = is_recorded es _ c.args.asked.now.id.now None none c.self.invariant ts_is in
    sym (append-nil c.args.owed.now) ∙ ap (λ (found : Option Transaction). c.args.owed.now ++ pending_markers_for (transition found)) there

pub returns-in_default-clause-answer : goal.returns-in_default-clause-answer
returns-in_default-clause-answer c =
    let es = c.self.inside.table.entries in
    let ts_is = ap (λ (v : RecordsValue). v.list) c.self.view_is in
    let transition : Option Transaction → Transition = λ found. end_found found c.args.asked.now.form (pos (length c.args.given.now.items)) c.args.asked.now.pair c.args.asked.now.outcome in
    let none : lookup (is_under c.args.asked.now.id.now) es ≡ None =
    ap (λ (n : List ℕ). lookup (is_under n) es) (sym c.as_str.ensures) ∙ sym c.get_mut.ensures.value ∙ ap option_copied_mut c.in_default.is in
    let there = is_recorded es _ c.args.asked.now.id.now None none c.self.invariant ts_is in
    c.refused.ensures ∙ ap (λ (found : Option Transaction). id_and_epoch_answer (transition_code (transition found)) (id_record (values_of c.get_mut.follows.lender-at-none.entries) c.args.asked.now.id.now)) there

pub invariant_of-self-2 : goal.invariant_of-self-2
invariant_of-self-2 c =
    let es = c.self.inside.table.entries in
    let ts_is = ap (λ (v : RecordsValue). v.list) c.self.view_is in
    let transition : Option Transaction → Transition = λ found. end_found found c.args.asked.now.form (pos (length c.args.given.now.items)) c.args.asked.now.pair c.args.asked.now.outcome in
    let t = c.in-Some.transaction.now in
    let found : lookup (is_under c.args.asked.now.id.now) es ≡ Some t = ap (λ (n : List ℕ). lookup (is_under n) es) (sym c.as_str.ensures) ∙ sym c.in-Some.ensures.value in
    let written : (c.get_mut.follows.lender c.end.new.self).entries ≡ set_value (is_under c.args.asked.now.id.now) es c.end.new.self =
    (c.get_mut.follows.holds c.end.new.self).0 ∙ (λ i. set_value (is_under (c.as_str.ensures i)) es c.end.new.self) in
    let keeps = end_id t c.args.asked.now.form (pos (length c.args.given.now.items)) c.args.asked.now.pair c.args.asked.now.outcome in
    called_ids es _ _ c.args.asked.now.id.now t _ c.end.result transition c.self.invariant found refl written keeps c.end.ensures.ok c.end.ensures.err

pub returns-clause-ok : goal.returns-clause-ok
returns-clause-ok c =
    let es = c.self.inside.table.entries in
    let ts_is = ap (λ (v : RecordsValue). v.list) c.self.view_is in
    let transition : Option Transaction → Transition = λ found. end_found found c.args.asked.now.form (pos (length c.args.given.now.items)) c.args.asked.now.pair c.args.asked.now.outcome in
    let t = c.in-Some.transaction.now in
    let found : lookup (is_under c.args.asked.now.id.now) es ≡ Some t = ap (λ (n : List ℕ). lookup (is_under n) es) (sym c.as_str.ensures) ∙ sym c.in-Some.ensures.value in
    let written : (c.get_mut.follows.lender c.end.new.self).entries ≡ set_value (is_under c.args.asked.now.id.now) es c.end.new.self =
    (c.get_mut.follows.holds c.end.new.self).0 ∙ (λ i. set_value (is_under (c.as_str.ensures i)) es c.end.new.self) in
    let keeps = end_id t c.args.asked.now.form (pos (length c.args.given.now.items)) c.args.asked.now.pair c.args.asked.now.outcome in
    called_ok es _ c.args.self.now.list c.args.asked.now.id.now t _ c.end.result transition c.self.invariant found ts_is written keeps c.end.ensures.ok

pub returns-clause-given : goal.returns-clause-given
returns-clause-given c =
    let es = c.self.inside.table.entries in
    let ts_is = ap (λ (v : RecordsValue). v.list) c.self.view_is in
    let transition : Option Transaction → Transition = λ found. end_found found c.args.asked.now.form (pos (length c.args.given.now.items)) c.args.asked.now.pair c.args.asked.now.outcome in
    let t = c.in-Some.transaction.now in
    let found : lookup (is_under c.args.asked.now.id.now) es ≡ Some t = ap (λ (n : List ℕ). lookup (is_under n) es) (sym c.as_str.ensures) ∙ sym c.in-Some.ensures.value in
    let there = is_recorded es c.args.self.now.list c.args.asked.now.id.now (Some t) found c.self.invariant ts_is in
    subst (λ (x : Option Transaction). OnOk c.end.result (c.end.new.given.items ≡ c.args.given.now.items ++ given_for (transition x))) there c.end.ensures.given

pub returns-clause-owed : goal.returns-clause-owed
returns-clause-owed c =
    let es = c.self.inside.table.entries in
    let ts_is = ap (λ (v : RecordsValue). v.list) c.self.view_is in
    let transition : Option Transaction → Transition = λ found. end_found found c.args.asked.now.form (pos (length c.args.given.now.items)) c.args.asked.now.pair c.args.asked.now.outcome in
    let t = c.in-Some.transaction.now in
    let found : lookup (is_under c.args.asked.now.id.now) es ≡ Some t = ap (λ (n : List ℕ). lookup (is_under n) es) (sym c.as_str.ensures) ∙ sym c.in-Some.ensures.value in
    let there = is_recorded es c.args.self.now.list c.args.asked.now.id.now (Some t) found c.self.invariant ts_is in
    subst (λ (x : Option Transaction). OnOk c.end.result (c.end.new.owed ≡ c.args.owed.now ++ pending_markers_for (transition x))) there c.end.ensures.owed

pub returns-clause-answer : goal.returns-clause-answer
returns-clause-answer c =
    let es = c.self.inside.table.entries in
    let ts_is = ap (λ (v : RecordsValue). v.list) c.self.view_is in
    let transition : Option Transaction → Transition = λ found. end_found found c.args.asked.now.form (pos (length c.args.given.now.items)) c.args.asked.now.pair c.args.asked.now.outcome in
    let t = c.in-Some.transaction.now in
    let found : lookup (is_under c.args.asked.now.id.now) es ≡ Some t = ap (λ (n : List ℕ). lookup (is_under n) es) (sym c.as_str.ensures) ∙ sym c.in-Some.ensures.value in
    let written : (c.get_mut.follows.lender c.end.new.self).entries ≡ set_value (is_under c.args.asked.now.id.now) es c.end.new.self =
    (c.get_mut.follows.holds c.end.new.self).0 ∙ (λ i. set_value (is_under (c.as_str.ensures i)) es c.end.new.self) in
    let keeps = end_id t c.args.asked.now.form (pos (length c.args.given.now.items)) c.args.asked.now.pair c.args.asked.now.outcome in
    called_answer es _ c.args.self.now.list c.args.asked.now.id.now t _ c.end.result transition c.self.invariant found ts_is written keeps c.end.ensures.ok c.end.ensures.answer

pub returns-clause-err : goal.returns-clause-err
returns-clause-err c =
    let es = c.self.inside.table.entries in
    let ts_is = ap (λ (v : RecordsValue). v.list) c.self.view_is in
    let transition : Option Transaction → Transition = λ found. end_found found c.args.asked.now.form (pos (length c.args.given.now.items)) c.args.asked.now.pair c.args.asked.now.outcome in
    let t = c.in-Some.transaction.now in
    let found : lookup (is_under c.args.asked.now.id.now) es ≡ Some t = ap (λ (n : List ℕ). lookup (is_under n) es) (sym c.as_str.ensures) ∙ sym c.in-Some.ensures.value in
    let written : (c.get_mut.follows.lender c.end.new.self).entries ≡ set_value (is_under c.args.asked.now.id.now) es c.end.new.self =
    (c.get_mut.follows.holds c.end.new.self).0 ∙ (λ i. set_value (is_under (c.as_str.ensures i)) es c.end.new.self) in
    let keeps = end_id t c.args.asked.now.form (pos (length c.args.given.now.items)) c.args.asked.now.pair c.args.asked.now.outcome in
    called_err es _ c.args.self.now.list c.args.asked.now.id.now t _ c.end.result transition c.self.invariant found ts_is written keeps c.end.ensures.err
