-- What an event may hold, and how far numbers go before it.
use Rattle.std.specs.Prelude.{◌≤ℤ◌, pos, ℕ, List, [], ◌∷◌}
use Rattle.group_offsets.specs.declared.group.Group.{Group}
use Rattle.msg_admin.specs.Request.{Fits}
use Rattle.audit_trail.specs.declared.event.Event.{Event}
use Rattle.audit_trail.specs.declared.event.Event.TheVariants.{Ask, Mark, Tick}

-- the request of an event fits a frame, if it is one
abbrev pub EventFits : Event → Type 0
EventFits (Ask caller client request) = Fits request
EventFits Mark = Unit {0}
EventFits (Tick told) = Unit {0}

-- a request that was read from a frame of at most so many bytes has fewer parts
abbrev pub most_parts : ℕ
most_parts = 104857600

-- no trail takes more events
abbrev pub most_events : ℕ
most_events = 1073741824

-- each group has begun so many generations at most
abbrev pub GenerationsWithin : ℕ → List Group → Type 0
GenerationsWithin most [] = Unit {0}
GenerationsWithin most (g ∷ gs) = (g.generation ≤ℤ pos most) × GenerationsWithin most gs
