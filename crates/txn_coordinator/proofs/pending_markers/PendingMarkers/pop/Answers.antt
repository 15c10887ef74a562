use Rattle.std.proofs.Common.{◌≡◌, ◌<◌, ◌∷◌, sym, subst, rules}
use Rattle.txn_coordinator.specs.declared.marker.PendingMarker.{PendingMarker}
use Rattle.txn_coordinator.specs.Kept.{count_of}
use Rattle.txn_coordinator.proofs.Counting.{owes_front}
use Rattle.txn_coordinator.proofs.pending_markers.PendingMarkers.pop.Goals as goal

pub lower-requires : goal.lower-requires
lower-requires c =
    let split : c.self.inside.queue.items ≡ c.unwrap-front.result ∷ c.pop_front.new.self.items = search rules in
    subst (λ (m : PendingMarker). 0 < count_of c.self.inside.counts m.id) (sym c.value.ensures)
    (owes_front c.self.inside.queue.items c.pop_front.new.self.items c.unwrap-front.result _ split (c.self.invariant c.unwrap-front.result.id))
