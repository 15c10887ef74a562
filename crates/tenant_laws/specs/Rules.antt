-- What a broker makes of an event, as rules of which a law speaks.
use Rattle.std.specs.Prelude.{List, [], ◌∷◌}
use Rattle.msg_admin.specs.declared.reply.Reply.{Reply}
use Rattle.audit_trail.specs.declared.event.Event.{Event}
use Rattle.broker_world.specs.World.{World}

-- the world after an event
abbrev pub WorldRule : Type 0
WorldRule = World → Event → World

-- what an event is answered
abbrev pub ReplyRule : Type 0
ReplyRule = World → Event → Reply

-- the world after these events, one after the other
abbrev pub world_after : WorldRule → World → List Event → World
world_after step w [] = w
world_after step w (e ∷ es) = world_after step (step w e) es
