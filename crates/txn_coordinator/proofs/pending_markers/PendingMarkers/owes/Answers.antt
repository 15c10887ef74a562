use Rattle.std.proofs.Common.{List, sym, ap, ◌∙◌}
use Rattle.std.specs.Prelude.{nat_lt}
use Rattle.txn_coordinator.specs.declared.marker.PendingMarker.{PendingMarker}
use Rattle.txn_coordinator.specs.Warrants.{has_pending_marker}
use Rattle.txn_coordinator.proofs.Counting.{owes_counted}
use Rattle.txn_coordinator.proofs.pending_markers.PendingMarkers.owes.Goals as goal

pub returns : goal.returns
returns c =
    c.owes_any.ensures ∙ ap (nat_lt 0) (c.self.invariant c.args.id.now) ∙ sym (owes_counted c.self.inside.queue.items c.args.id.now)
    ∙ ap (λ (owed : List PendingMarker). has_pending_marker owed c.args.id.now) c.self.view_is
