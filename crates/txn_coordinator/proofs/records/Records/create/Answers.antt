use Rattle.std.proofs.Common.{◌≡◌, pos, length, List, sym, subst, ap, ◌∙◌, rules}
use Rattle.std.specs.Map.{values_of}
use Rattle.std.specs.String.{string_bytes, string_eq}
use Rattle.indexmap.specs.IndexMap.{insert_entry}
use Rattle.keyed_tables.proofs.Tables.{keyed_insert}
use Rattle.wire_types.specs.declared.error_code.ErrorCode.TheVariants as codes
use Rattle.txn_coordinator.specs.declared.transaction.Transaction.{Transaction}
use Rattle.txn_coordinator.specs.Coordinator.{records_with, id_record, id_and_epoch_answer}
use Rattle.txn_coordinator.specs.InitProducerId.{new_transaction}
use Rattle.txn_coordinator.specs.Kept.{RecordsValue, id_of, AreIds}
use Rattle.txn_coordinator.proofs.Table.{put_in, created_answer}
use Rattle.txn_coordinator.proofs.records.Records.create.Goals as goal

pub invariant_of-self-2 : goal.invariant_of-self-2
invariant_of-self-2 c =
    let es = c.self.inside.table.entries in
    let t = c.in_ok-transaction.transaction in
    let entries : c.insert.new.self.entries ≡ insert_entry string_eq es c.in_ok-name.name t = search rules in
    let t_is : t ≡ new_transaction c.args.id.now (pos (length c.args.given.now.items)) c.args.timeout = search rules in
    let named : string_bytes c.in_ok-name.name ≡ t.id = c.in_ok-name.ensures ∙ ap (λ (x : Transaction). x.id) (sym t_is) in
    subst AreIds (sym entries) (keyed_insert id_of es c.in_ok-name.name t named c.self.invariant)

pub returns-clause-ok : goal.returns-clause-ok
returns-clause-ok c =
    let es = c.self.inside.table.entries in
    let t = c.in_ok-transaction.transaction in
    let entries : c.insert.new.self.entries ≡ insert_entry string_eq es c.in_ok-name.name t = search rules in
    let t_is : t ≡ new_transaction c.args.id.now (pos (length c.args.given.now.items)) c.args.timeout = search rules in
    let named : string_bytes c.in_ok-name.name ≡ t.id = c.in_ok-name.ensures ∙ ap (λ (x : Transaction). x.id) (sym t_is) in
    ap values_of entries ∙ put_in es c.in_ok-name.name t named c.self.invariant ∙ ap (λ (v : RecordsValue). records_with v.list t) c.self.view_is ∙ ap (records_with c.args.self.now.list) t_is

pub returns-clause-answer : goal.returns-clause-answer
returns-clause-answer c =
    let es = c.self.inside.table.entries in
    let t = c.in_ok-transaction.transaction in
    let entries : c.insert.new.self.entries ≡ insert_entry string_eq es c.in_ok-name.name t = search rules in
    let t_is : t ≡ new_transaction c.args.id.now (pos (length c.args.given.now.items)) c.args.timeout = search rules in
    let named : string_bytes c.in_ok-name.name ≡ t.id = c.in_ok-name.ensures ∙ ap (λ (x : Transaction). x.id) (sym t_is) in
    created_answer (values_of es) c.args.id.now t (sym named ∙ c.in_ok-name.ensures)
    ∙ ap (λ (ts : List Transaction). id_and_epoch_answer codes.None (id_record ts c.args.id.now)) (sym (ap values_of entries ∙ put_in es c.in_ok-name.name t named c.self.invariant))
