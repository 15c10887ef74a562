use Rattle.std.proofs.Common.{◌≡◌, drop, filter}
use Rattle.authorizer.specs.Picking.{with_entries, picks}
use Rattle.authorizer.proofs.picking.pick_from.Given as goal

-- what was picked, and then what the filter picks of the rest
abbrev pub invariant-loop-entry : goal.invariant-loop-entry
invariant-loop-entry l = with_entries l.picked.entries (filter (picks l.filter) (drop l.entry-index l.entries)) ≡ with_entries l.initial.picked.entries (filter (picks l.filter) l.entries)
