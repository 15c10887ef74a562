-- Lists of events.
use Rattle.std.proofs.Common.{◌≡◌, List, [], ◌∷◌, Option, Some, None, refl, ap, ◌∙◌}
use Rattle.std.specs.List.{AllByRecursion}
use Rattle.txn_coordinator.specs.declared.marker.PendingMarker.{PendingMarker}
use Rattle.txn_coordinator.specs.Warrants.{next_warrant}
use Rattle.audit_trail.specs.declared.event.Event.{Event}
use Rattle.audit_trail.specs.declared.event.Event.TheVariants.{Ask, Mark, Tick}
use Rattle.broker_world.specs.World.{World, rules_of}
use Rattle.txn_handlers.specs.Marks.{mark_by}
use Rattle.api_dispatch.specs.Step.{with_event_counted, step, reply_to, refusals_of, world_after_events}
use Rattle.api_dispatch.proofs.Told.{refusals_are_of_parts}
use Rattle.plain_broker.specs.Named.{IsRightRefusal}
use Rattle.plain_broker.specs.Events.{reference_step, reference_run, EventsArePlain}
use Rattle.plain_broker.proofs.Together.{plain_of_allowed}
use Rattle.plain_broker.proofs.Named.{refusals_are_right}

pub replied : (w : World) (e : Event) → reply_to w e ≡ (reference_step w e).reply
replied w (Ask caller client request) = (plain_of_allowed w caller client request).reply
replied w Mark = refl
replied w (Tick moment) = refl

mark_refused : (w : World) (o : Option PendingMarker) → (mark_by w o).refusals ≡ []
mark_refused w None = refl
mark_refused w (Some m) = refl

pub refused : (w : World) (e : Event) → refusals_of w e ≡ (reference_step w e).refusals
refused w (Ask caller client request) = refusals_are_of_parts w caller client request
refused w Mark = mark_refused w (next_warrant w.coordinator)
refused w (Tick moment) = refl

pub named : (w : World) (e : Event) → AllByRecursion (IsRightRefusal (rules_of w)) (reference_step w e).refusals
named w (Ask caller client request) = refusals_are_right (rules_of w) caller request
named w Mark = tt
named w (Tick moment) = tt

pub stepped : (w : World) (e : Event) → step w e ≡ with_event_counted (reference_step w e).world
stepped w (Ask caller client request) = (plain_of_allowed w caller client request).world
stepped w Mark = refl
stepped w (Tick moment) = refl

pub left : (w : World) (es : List Event) → world_after_events w es ≡ reference_run w es
left w [] = refl
left w (e ∷ es) = left (step w e) es ∙ ap (λ (v : World). reference_run v es) (stepped w e)

pub events_are_plain : EventsArePlain
events_are_plain = record { worlds = left; replies = replied; refusals = refused; named = named }
