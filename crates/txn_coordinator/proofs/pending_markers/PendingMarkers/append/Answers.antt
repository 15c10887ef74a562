use Rattle.std.proofs.Common.{◌≡◌, true, List, length, sym, subst, ap, ◌∙◌, arith}
use Rattle.std.specs.Str.{bytes_eq}
use Rattle.std.proofs.lemmas.List.Sums.{count_by-le-length}
use Rattle.txn_coordinator.specs.declared.marker.PendingMarker.{PendingMarker}
use Rattle.txn_coordinator.specs.Warrants.{has_pending_marker}
use Rattle.txn_coordinator.proofs.pending_markers.PendingMarkers.append.Goals as goal

pub raise_all-requires : goal.raise_all-requires
raise_all-requires c = record {
  entered = λ id owed. c.in_ok-enter_all.ensures.entered id (subst (λ (l : List PendingMarker). has_pending_marker l id ≡ true) (c.deref-2.ensures.value ∙ sym c.deref.ensures.value) owed);
  fits = λ id. omega (
    arith,
    c.enter_all.ensures.same id,
    c.self.invariant id,
    count_by-le-length (λ (m : PendingMarker). bytes_eq m.id id) c.self.inside.queue.items,
    count_by-le-length (λ (m : PendingMarker). bytes_eq m.id id) c.deref-2.result.now,
    ap length c.deref-2.ensures.value,
    c.in_ok-reserve.ensures.ok,
    c.reserve.ensures.len,
    c.len.ensures,
    c.self.inside.queue.ok.0,
    c.reserve.new.self.small.0,
  );
}
