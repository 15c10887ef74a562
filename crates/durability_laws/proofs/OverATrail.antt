-- What a core's trail acknowledges is read back from its world.
use Rattle.std.proofs.Common.{◌≡◌, false, List, [], ◌∷◌, ◌++◌, length, Some, refl, sym, ap, ◌∙◌}
use Rattle.std.specs.Prelude.{slice_get}
use Rattle.std.proofs.lemmas.List.{map-append, length-map}
use Rattle.msg_admin.specs.declared.request.Request.TheVariants.{Produce}
use Rattle.audit_trail.specs.declared.event.Event.{Event}
use Rattle.audit_trail.specs.declared.event.Event.TheVariants.{Ask}
use Rattle.audit_trail.specs.declared.trail.Entry.{Entry}
use Rattle.broker_world.specs.World.{World}
use Rattle.broker_world.specs.First.{first_world}
use Rattle.api_dispatch.specs.Step.{outcome, step, world_after_events}
use Rattle.request_handlers.specs.Core.{CoreValue, IsHistory, entry_of, history, events_of}
use Rattle.read_laws.specs.Fetches.{at_place}
use Rattle.durability_laws.specs.Steps.{world_after, world_later}
use Rattle.durability_laws.specs.Acknowledged.{topics_acknowledged}
use Rattle.durability_laws.specs.OverATrail.{ReadsBackOverATrail}
use Rattle.durability_laws.proofs.Acknowledged.{later_is}
use Rattle.durability_laws.proofs.Committed.{reached_append, reads_what_is_acknowledged}

abbrev world_at : CoreValue → List Entry → World
world_at core before = world_after_events (first_world core.settings) (events_of before)

trail_leads : (core : CoreValue) → IsHistory core → (before later : List Entry) (x : Entry) → core.trail ≡ before ++ x ∷ later → core.down ≡ false → core.world ≡ world_after_events (step (world_at core before) x.event) (events_of later)
trail_leads core h before later x parts up =
    let first = first_world core.settings in
    h.world up
    ∙ ap (λ (l : List Entry). world_after_events first (events_of l)) parts
    ∙ ap (world_after_events first) (map-append (λ (y : Entry). y.event) before (x ∷ later))
    ∙ reached_append first (events_of before) (x.event ∷ events_of later)

-- an entry is what is kept of its event, in the world in which that was taken
history_at : (w : World) (before later : List Event) (e : Event) → slice_get (history w (before ++ e ∷ later)) (length before) ≡ Some (entry_of (world_after_events w before) e)
history_at w [] later e = refl
history_at w (x ∷ xs) later e = history_at (step w x) xs later e

get_at : (before later : List Entry) (x : Entry) → slice_get (before ++ x ∷ later) (length before) ≡ Some x
get_at [] later x = refl
get_at (y ∷ ys) later x = get_at ys later x

entry_is : (core : CoreValue) → IsHistory core → (before later : List Entry) (x : Entry) → core.trail ≡ before ++ x ∷ later → x ≡ entry_of (world_at core before) x.event
entry_is core h before later x parts =
    let first = first_world core.settings in
    let events = ap events_of parts ∙ map-append (λ (y : Entry). y.event) before (x ∷ later) in
    let place : length before ≡ length (events_of before) = sym (length-map before (λ (y : Entry). y.event)) in
    let told : slice_get core.trail (length before) ≡ Some (entry_of (world_at core before) x.event) =
    ap (λ (l : List Entry). slice_get l (length before)) (h.entries ∙ ap (history first) events)
    ∙ ap (slice_get (history first (events_of before ++ x.event ∷ events_of later))) place
    ∙ history_at first (events_of before) (events_of later) x.event
    in
    let twice : Some x ≡ Some (entry_of (world_at core before) x.event) = sym (ap (λ (l : List Entry). slice_get l (length before)) parts ∙ get_at before later x) ∙ told in
    cc

pub reads_back_over_a_trail : ReadsBackOverATrail
reads_back_over_a_trail core is up before later x parts writer client r i j t p answer event h k told code =
    let w = world_at core before in
    let e = Ask writer client (Produce r) in
    let s = core.settings in
    let here : world_later outcome (first_world s) (events_of before) ≡ w = later_is (first_world s) (events_of before) in
    let replied : at_place (topics_acknowledged (outcome (world_later outcome (first_world s) (events_of before)) e).reply) i j ≡ Some answer =
    ap (λ (v : World). at_place (topics_acknowledged (outcome v e).reply) i j) here
    ∙ ap (λ (y : Event). at_place (topics_acknowledged (outcome w y).reply) i j) (sym event)
    ∙ ap (λ (y : Entry). at_place (topics_acknowledged y.reply) i j) (sym (entry_is core is.history before later x parts))
    ∙ told
    in
    let leads : core.world ≡ world_later outcome (world_after outcome (world_later outcome (first_world s) (events_of before)) e) (events_of later) =
    trail_leads core is.history before later x parts up
    ∙ ap (λ (y : Event). world_after_events (step w y) (events_of later)) event
    ∙ ap (λ (v : World). world_after_events (step v e) (events_of later)) (sym here)
    ∙ sym (later_is (step (world_later outcome (first_world s) (events_of before)) e) (events_of later))
    in
    reads_what_is_acknowledged s (events_of before) writer client r i j t p answer (events_of later) h k replied code core.world leads
