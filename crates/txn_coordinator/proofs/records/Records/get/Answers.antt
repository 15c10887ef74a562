use Rattle.std.proofs.Common.{ℕ, List, ap, ◌∙◌}
use Rattle.std.specs.Map.{lookup}
use Rattle.txn_coordinator.specs.Coordinator.{id_record}
use Rattle.txn_coordinator.specs.Kept.{RecordsValue}
use Rattle.keyed_tables.proofs.Tables.{is_under}
use Rattle.txn_coordinator.proofs.Table.{looked_up}
use Rattle.txn_coordinator.proofs.records.Records.get.Goals as goal

pub returns : goal.returns
returns c =
    c.get.ensures.value
    ∙ ap (λ (n : List ℕ). lookup (is_under n) c.self.inside.table.entries) c.as_str.ensures
    ∙ looked_up c.self.inside.table.entries c.args.id.now c.self.invariant
    ∙ ap (λ (v : RecordsValue). id_record v.list c.args.id.now) c.self.view_is
