use Rattle.std.proofs.Common.{◌≡◌, [], filter}
use Rattle.std.specs.BTreeMap.{values}
use Rattle.authorizer.specs.Picking.{with_entries, picks}
use Rattle.authorizer.proofs.picking.pick_from_all.Given as goal

-- what was picked, and then what the filter picks of the rest
abbrev pub invariant-loop-entry : goal.invariant-loop-entry
invariant-loop-entry l = with_entries l.picked.entries (filter (picks l.filter) l.entry-iterator) ≡ with_entries [] (filter (picks l.filter) (values l.entries))
