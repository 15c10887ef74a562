use Rattle.std.proofs.Common.{◌≡◌, ◌++◌, ℕ, pos, length, List, Option, Some, None, refl, sym, subst, ap, ◌∙◌}
use Rattle.std.specs.Prelude.{IfOk, OnOk}
use Rattle.std.proofs.lemmas.List.{append-nil}
use Rattle.std.specs.Map.{lookup, set_value, values_of}
use Rattle.std.specs.Option.{option_copied_mut}
use Rattle.txn_coordinator.specs.declared.transaction.Transaction.{Transaction}
use Rattle.txn_coordinator.specs.Transition.{Transition}
use Rattle.txn_coordinator.specs.Coordinator.{transition_code, records_after, given_for, pending_markers_for, id_and_epoch_answer, id_record}
use Rattle.txn_coordinator.specs.InitProducerId.{init_for}
use Rattle.txn_coordinator.specs.Kept.{RecordsValue}
use Rattle.keyed_tables.proofs.Tables.{is_under}
use Rattle.txn_coordinator.proofs.Table.{is_recorded, called_ids, called_ok, called_err, called_answer, raise_found, when_ok}
use Rattle.txn_coordinator.proofs.Keeping.{init_id}
use Rattle.txn_coordinator.proofs.records.Records.init.Goals as goal

pub init-requires : goal.init-requires
init-requires c =
    let es = c.self.inside.table.entries in
    let ts_is = ap (λ (v : RecordsValue). v.list) c.self.view_is in
    let transition : Option Transaction → Transition = λ found. init_for (Some c.args.timeout) found c.args.id.now (pos (length c.args.given.now.items)) in
    let t = c.in-Some.transaction.now in
    let found : lookup (is_under c.args.id.now) es ≡ Some t = ap (λ (n : List ℕ). lookup (is_under n) es) (sym c.as_str.ensures) ∙ sym c.in-Some.ensures.value in
    let there = is_recorded es c.args.self.now.list c.args.id.now (Some t) found c.self.invariant ts_is in
    raise_found c.args.self.now.list c.args.id.now t c.requires (sym there)

pub invariant_of-self : goal.invariant_of-self
invariant_of-self c =
    let es = c.self.inside.table.entries in
    let ts_is = ap (λ (v : RecordsValue). v.list) c.self.view_is in
    let transition : Option Transaction → Transition = λ found. init_for (Some c.args.timeout) found c.args.id.now (pos (length c.args.given.now.items)) in
    let t = c.in-Some.transaction.now in
    let found : lookup (is_under c.args.id.now) es ≡ Some t = ap (λ (n : List ℕ). lookup (is_under n) es) (sym c.as_str.ensures) ∙ sym c.in-Some.ensures.value in
    let written : (c.get_mut.follows.lender c.init.new.self).entries ≡ set_value (is_under c.args.id.now) es c.init.new.self =
    (c.get_mut.follows.holds c.init.new.self).0 ∙ (λ i. set_value (is_under (c.as_str.ensures i)) es c.init.new.self) in
    let keeps = init_id t (pos (length c.args.given.now.items)) c.args.timeout in
    called_ids es _ _ c.args.id.now t _ c.init.result transition c.self.invariant found refl written keeps c.init.ensures.ok c.init.ensures.err

pub create-requires : goal.create-requires
create-requires c =
    let es = c.self.inside.table.entries in
    let ts_is = ap (λ (v : RecordsValue). v.list) c.self.view_is in
    let transition : Option Transaction → Transition = λ found. init_for (Some c.args.timeout) found c.args.id.now (pos (length c.args.given.now.items)) in
    let none : lookup (is_under c.args.id.now) es ≡ None =
    ap (λ (n : List ℕ). lookup (is_under n) es) (sym c.as_str.ensures) ∙ sym c.get_mut.ensures.value ∙ ap option_copied_mut c.in-None.is in
    let there = is_recorded es _ c.args.id.now None none c.self.invariant ts_is in
    ap (λ m. id_record (values_of m.entries) c.args.id.now) c.get_mut.follows.holds-at-none ∙ ap (λ (ts : List Transaction). id_record ts c.args.id.now) ts_is ∙ sym there

pub returns-in-Some-clause-ok : goal.returns-in-Some-clause-ok
returns-in-Some-clause-ok c =
    let es = c.self.inside.table.entries in
    let ts_is = ap (λ (v : RecordsValue). v.list) c.self.view_is in
    let transition : Option Transaction → Transition = λ found. init_for (Some c.args.timeout) found c.args.id.now (pos (length c.args.given.now.items)) in
    let t = c.in-Some.transaction.now in
    let found : lookup (is_under c.args.id.now) es ≡ Some t = ap (λ (n : List ℕ). lookup (is_under n) es) (sym c.as_str.ensures) ∙ sym c.in-Some.ensures.value in
    let written : (c.get_mut.follows.lender c.init.new.self).entries ≡ set_value (is_under c.args.id.now) es c.init.new.self =
    (c.get_mut.follows.holds c.init.new.self).0 ∙ (λ i. set_value (is_under (c.as_str.ensures i)) es c.init.new.self) in
    let keeps = init_id t (pos (length c.args.given.now.items)) c.args.timeout in
    called_ok es _ c.args.self.now.list c.args.id.now t _ c.init.result transition c.self.invariant found ts_is written keeps c.init.ensures.ok

pub returns-in-Some-clause-given : goal.returns-in-Some-clause-given
returns-in-Some-clause-given c =
    let es = c.self.inside.table.entries in
    let ts_is = ap (λ (v : RecordsValue). v.list) c.self.view_is in
    let transition : Option Transaction → Transition = λ found. init_for (Some c.args.timeout) found c.args.id.now (pos (length c.args.given.now.items)) in
    let t = c.in-Some.transaction.now in
    let found : lookup (is_under c.args.id.now) es ≡ Some t = ap (λ (n : List ℕ). lookup (is_under n) es) (sym c.as_str.ensures) ∙ sym c.in-Some.ensures.value in
    let there = is_recorded es c.args.self.now.list c.args.id.now (Some t) found c.self.invariant ts_is in
    subst (λ (x : Option Transaction). OnOk c.init.result (c.init.new.given.items ≡ c.args.given.now.items ++ given_for (transition x))) there c.init.ensures.given

pub returns-in-Some-clause-owed : goal.returns-in-Some-clause-owed
returns-in-Some-clause-owed c =
    let es = c.self.inside.table.entries in
    let ts_is = ap (λ (v : RecordsValue). v.list) c.self.view_is in
    let transition : Option Transaction → Transition = λ found. init_for (Some c.args.timeout) found c.args.id.now (pos (length c.args.given.now.items)) in
    let t = c.in-Some.transaction.now in
    let found : lookup (is_under c.args.id.now) es ≡ Some t = ap (λ (n : List ℕ). lookup (is_under n) es) (sym c.as_str.ensures) ∙ sym c.in-Some.ensures.value in
    let there = is_recorded es c.args.self.now.list c.args.id.now (Some t) found c.self.invariant ts_is in
    subst (λ (x : Option Transaction). OnOk c.init.result (c.init.new.owed ≡ c.args.owed.now ++ pending_markers_for (transition x))) there c.init.ensures.owed

pub returns-in-Some-clause-answer : goal.returns-in-Some-clause-answer
returns-in-Some-clause-answer c =
    let es = c.self.inside.table.entries in
    let ts_is = ap (λ (v : RecordsValue). v.list) c.self.view_is in
    let transition : Option Transaction → Transition = λ found. init_for (Some c.args.timeout) found c.args.id.now (pos (length c.args.given.now.items)) in
    let t = c.in-Some.transaction.now in
    let found : lookup (is_under c.args.id.now) es ≡ Some t = ap (λ (n : List ℕ). lookup (is_under n) es) (sym c.as_str.ensures) ∙ sym c.in-Some.ensures.value in
    let written : (c.get_mut.follows.lender c.init.new.self).entries ≡ set_value (is_under c.args.id.now) es c.init.new.self =
    (c.get_mut.follows.holds c.init.new.self).0 ∙ (λ i. set_value (is_under (c.as_str.ensures i)) es c.init.new.self) in
    let keeps = init_id t (pos (length c.args.given.now.items)) c.args.timeout in
    called_answer es _ c.args.self.now.list c.args.id.now t _ c.init.result transition c.self.invariant found ts_is written keeps c.init.ensures.ok c.init.ensures.answer

pub returns-in-Some-clause-err : goal.returns-in-Some-clause-err
returns-in-Some-clause-err c =
    let es = c.self.inside.table.entries in
    let ts_is = ap (λ (v : RecordsValue). v.list) c.self.view_is in
    let transition : Option Transaction → Transition = λ found. init_for (Some c.args.timeout) found c.args.id.now (pos (length c.args.given.now.items)) in
    let t = c.in-Some.transaction.now in
    let found : lookup (is_under c.args.id.now) es ≡ Some t = ap (λ (n : List ℕ). lookup (is_under n) es) (sym c.as_str.ensures) ∙ sym c.in-Some.ensures.value in
    let written : (c.get_mut.follows.lender c.init.new.self).entries ≡ set_value (is_under c.args.id.now) es c.init.new.self =
    (c.get_mut.follows.holds c.init.new.self).0 ∙ (λ i. set_value (is_under (c.as_str.ensures i)) es c.init.new.self) in
    let keeps = init_id t (pos (length c.args.given.now.items)) c.args.timeout in
    called_err es _ c.args.self.now.list c.args.id.now t _ c.init.result transition c.self.invariant found ts_is written keeps c.init.ensures.err

pub returns-in-None-clause-ok : goal.returns-in-None-clause-ok
returns-in-None-clause-ok c =
    let es = c.self.inside.table.entries in
    let ts_is = ap (λ (v : RecordsValue). v.list) c.self.view_is in
    let transition : Option Transaction → Transition = λ found. init_for (Some c.args.timeout) found c.args.id.now (pos (length c.args.given.now.items)) in
    let none : lookup (is_under c.args.id.now) es ≡ None =
    ap (λ (n : List ℕ). lookup (is_under n) es) (sym c.as_str.ensures) ∙ sym c.get_mut.ensures.value ∙ ap option_copied_mut c.in-None.is in
    let there = is_recorded es _ c.args.id.now None none c.self.invariant ts_is in
    let same : values_of c.get_mut.follows.lender-at-none.entries ≡ c.args.self.now.list = ap (λ m. values_of m.entries) c.get_mut.follows.holds-at-none ∙ ts_is in
    subst (λ (ts : List Transaction). OnOk c.create.result (c.create.new.self.list ≡ records_after ts (transition (id_record c.args.self.now.list c.args.id.now)))) same
    (subst (λ (x : Option Transaction). OnOk c.create.result (c.create.new.self.list ≡ records_after (values_of c.get_mut.follows.lender-at-none.entries) (transition x))) there c.create.ensures.ok)

pub returns-in-None-clause-given : goal.returns-in-None-clause-given
returns-in-None-clause-given c =
    let es = c.self.inside.table.entries in
    let ts_is = ap (λ (v : RecordsValue). v.list) c.self.view_is in
    let transition : Option Transaction → Transition = λ found. init_for (Some c.args.timeout) found c.args.id.now (pos (length c.args.given.now.items)) in
    let none : lookup (is_under c.args.id.now) es ≡ None =
    ap (λ (n : List ℕ). lookup (is_under n) es) (sym c.as_str.ensures) ∙ sym c.get_mut.ensures.value ∙ ap option_copied_mut c.in-None.is in
    let there = is_recorded es _ c.args.id.now None none c.self.invariant ts_is in
    subst (λ (x : Option Transaction). OnOk c.create.result (c.create.new.given.items ≡ c.args.given.now.items ++ given_for (transition x))) there c.create.ensures.given

pub returns-in-None-clause-owed : goal.returns-in-None-clause-owed
returns-in-None-clause-owed c =
    let es = c.self.inside.table.entries in
    let ts_is = ap (λ (v : RecordsValue). v.list) c.self.view_is in
    let transition : Option Transaction → Transition = λ found. init_for (Some c.args.timeout) found c.args.id.now (pos (length c.args.given.now.items)) in
    let none : lookup (is_under c.args.id.now) es ≡ None =
    ap (λ (n : List ℕ). lookup (is_under n) es) (sym c.as_str.ensures) ∙ sym c.get_mut.ensures.value ∙ ap option_copied_mut c.in-None.is in
    let there = is_recorded es _ c.args.id.now None none c.self.invariant ts_is in
    subst (λ (x : Option Transaction). OnOk c.create.result (c.args.owed.now ≡ c.args.owed.now ++ pending_markers_for (transition x))) there (when_ok c.create.result _ (sym (append-nil c.args.owed.now)))

pub returns-in-None-clause-answer : goal.returns-in-None-clause-answer
returns-in-None-clause-answer c =
    let es = c.self.inside.table.entries in
    let ts_is = ap (λ (v : RecordsValue). v.list) c.self.view_is in
    let transition : Option Transaction → Transition = λ found. init_for (Some c.args.timeout) found c.args.id.now (pos (length c.args.given.now.items)) in
    let none : lookup (is_under c.args.id.now) es ≡ None =
    ap (λ (n : List ℕ). lookup (is_under n) es) (sym c.as_str.ensures) ∙ sym c.get_mut.ensures.value ∙ ap option_copied_mut c.in-None.is in
    let there = is_recorded es _ c.args.id.now None none c.self.invariant ts_is in
    subst (λ (x : Option Transaction). IfOk c.create.result (λ answer. answer ≡ id_and_epoch_answer (transition_code (transition x)) (id_record c.create.new.self.list c.args.id.now))) there c.create.ensures.answer
