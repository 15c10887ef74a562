use Rattle.std.proofs.Common.{map, sym, subst, ap, ◌∙◌}
use Rattle.std.specs.Map.{values_of}
use Rattle.txn_coordinator.specs.Bounds.{AllCanRaise}
use Rattle.txn_coordinator.specs.Expiry.{fenced_if_due}
use Rattle.txn_coordinator.specs.Kept.{RecordsValue, AreIds}
use Rattle.keyed_tables.proofs.Tables.{changed_in}
use Rattle.txn_coordinator.proofs.Table.{ids_expired}
use Rattle.txn_coordinator.proofs.records.Records.expire.Goals as goal

pub expire_all-requires : goal.expire_all-requires
expire_all-requires c = subst (λ (v : RecordsValue). AllCanRaise v.list) (sym c.self.view_is) c.requires

pub invariant_of-self : goal.invariant_of-self
invariant_of-self c = subst AreIds (sym c.expire_all.ensures) (ids_expired c.args.moment c.self.inside.table.entries c.self.invariant)

pub returns : goal.returns
returns c =
    ap values_of c.expire_all.ensures
    ∙ changed_in (fenced_if_due c.args.moment) c.self.inside.table.entries
    ∙ ap (λ (v : RecordsValue). map (fenced_if_due c.args.moment) v.list) c.self.view_is
