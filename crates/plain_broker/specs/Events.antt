-- Lists of events, by the plain broker.
use Rattle.std.specs.Prelude.{◌≡◌, List, [], ◌∷◌}
use Rattle.std.specs.List.{AllByRecursion}
use Rattle.audit_trail.specs.declared.event.Event.{Event}
use Rattle.audit_trail.specs.declared.event.Event.TheVariants.{Ask, Mark, Tick}
use Rattle.broker_world.specs.World.{World, rules_of}
use Rattle.broker_world.specs.HandlerResult.{HandlerResult}
use Rattle.txn_handlers.specs.Marks.{mark_outcome}
use Rattle.api_dispatch.specs.Ticks.{tick_outcome}
use Rattle.api_dispatch.specs.Step.{with_event_counted, reply_to, refusals_of, world_after_events}
use Rattle.api_dispatch.specs.Refusals.{request_refusals}
use Rattle.plain_broker.specs.Allowed.{allowed_part}
use Rattle.plain_broker.specs.Plain.{with_refusals}
use Rattle.plain_broker.specs.Named.{IsRightRefusal}

-- A request comes to the plain broker's answer to its allowed part, put together with the refused
-- parts, each of which is refused by the first of its questions that isn't granted. Marker steps
-- and ticks ask nothing.
abbrev pub reference_step : World → Event → HandlerResult
reference_step w (Ask caller client request) = record {
  world = (with_refusals w caller request (allowed_part (rules_of w) caller request)).world;
  reply = (with_refusals w caller request (allowed_part (rules_of w) caller request)).reply;
  refusals = request_refusals (rules_of w) caller request;
}
reference_step w Mark =
    record { world = (mark_outcome w).world; reply = (mark_outcome w).reply; refusals = [] }
reference_step w (Tick moment) =
    record {
      world = (tick_outcome w moment).world;
      reply = (tick_outcome w moment).reply;
      refusals = [];
    }

-- the world after the events
abbrev pub reference_run : World → List Event → World
reference_run w [] = w
reference_run w (e ∷ es) = reference_run (with_event_counted (reference_step w e).world) es

-- this is what events come to
pub record EventsArePlain : Type 0 where
  pub worlds : (w : World) (es : List Event) → world_after_events w es ≡ reference_run w es
  pub replies : (w : World) (e : Event) → reply_to w e ≡ (reference_step w e).reply
  pub refusals : (w : World) (e : Event) → refusals_of w e ≡ (reference_step w e).refusals
  -- and each refusal names the first of the bindings that deny its question, whatever allows it, or
  -- that nothing allowed it
  pub named : (w : World) (e : Event)
      → AllByRecursion (IsRightRefusal (rules_of w)) (reference_step w e).refusals
