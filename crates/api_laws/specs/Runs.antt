-- A list of events that a core takes without a stop.
use Rattle.std.specs.Prelude.{◌≡◌, List, [], ◌∷◌, None}
use Rattle.audit_trail.specs.declared.event.Event.{Event}
use Rattle.broker_world.specs.World.{World}
use Rattle.request_handlers.specs.Receipt.{ReceiptValue}
use Rattle.request_handlers.specs.Core.{CoreValue, core_after, receipt_of, IsRun}

-- the core after the events, and what the caller is given for them
abbrev pub core_after_all : CoreValue → List Event → CoreValue
core_after_all core [] = core
core_after_all core (e ∷ es) = core_after_all (core_after core e) es

abbrev pub receipts_of : CoreValue → List Event → List ReceiptValue
receipts_of core [] = []
receipts_of core (e ∷ es) = receipt_of core e ∷ receipts_of (core_after core e) es

-- a run without a stop has a receipt for each event, and leaves the core where they lead
abbrev pub WholeRuns : Type 0
WholeRuns =
    (old new : CoreValue) (es : List Event) (rs : List ReceiptValue) → IsRun old es rs None new
    → (rs ≡ receipts_of old es) × (new ≡ core_after_all old es)

-- the world to which events lead
abbrev pub RunRule : Type 0
RunRule = World → List Event → World
