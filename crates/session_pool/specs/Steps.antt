-- What a keeper's steps go by, and those that go by a clock.
use Rattle.std.specs.Prelude.{◌≡◌, ℕ, zero, suc, Bool, true, not, Option, Some, None, option_map, Result, Ok, Err}
use Rattle.audit_trail.specs.declared.event.Event.{Event}
use Rattle.audit_trail.specs.declared.event.Event.TheVariants.{Mark, Tick}
use Rattle.session_pool.specs.declared.end_reason.EndReason.{EndReason}
use Rattle.session_pool.specs.declared.steps.Step.{Step}
use Rattle.session_pool.specs.declared.steps.Step.TheVariants as steps

-- the event of a step
abbrev pub step_event : Step → Event
step_event (steps.Tick moment) = Tick moment
step_event steps.Mark = Mark

-- Whether a keeper goes on after a step: always where it was taken, and else unless it halts then.
abbrev pub goes_on : Bool → Result ℕ EndReason → Bool
goes_on halts (Ok left) = true
goes_on halts (Err why) = not halts

-- ---- steps by a clock: what is remembered is the clock, and how many markers are pending

-- A mark as long as markers are pending. Else a tick of the moment that the clock gives, and no
-- step where it gives none.
abbrev pub GivenByClock : {C : Type 0} → (C → Bool → Option ℕ → C → Type 0)
    → C × ℕ → Bool → Option Step → C × ℕ → Type 0
GivenByClock gives (clock, zero) done step (later, left) =
    ((moment : Option ℕ) × gives clock done moment later × (step ≡ option_map steps.Tick moment))
    × (left ≡ zero)
GivenByClock gives (clock, suc n) done step (later, left) =
    (step ≡ Some steps.Mark) × (later ≡ clock) × (left ≡ suc n)

-- ... and after the keeper was told how many a step left, or why it wasn't taken
abbrev pub told_by_clock : {C : Type 0} → C × ℕ → Result ℕ EndReason → C × ℕ
told_by_clock (clock, before) (Ok left) = (clock, left)
told_by_clock (clock, before) (Err why) = (clock, before)
