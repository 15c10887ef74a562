-- The worlds that events lead to, by the broker's step or by another.
use Rattle.std.specs.Prelude.{List, [], ◌∷◌}
use Rattle.audit_trail.specs.declared.event.Event.{Event}
use Rattle.broker_world.specs.World.{World}
use Rattle.broker_world.specs.HandlerResult.{HandlerResult}
use Rattle.api_dispatch.specs.Step.{with_event_counted}

-- what an event comes to
abbrev pub StepRule : Type 0
StepRule = World → Event → HandlerResult

-- the world after an event
abbrev pub world_after : StepRule → World → Event → World
world_after rule w e = with_event_counted (rule w e).world

-- the world after events, one after the other
abbrev pub world_later : StepRule → World → List Event → World
world_later rule w [] = w
world_later rule w (e ∷ es) = world_later rule (world_after rule w e) es
