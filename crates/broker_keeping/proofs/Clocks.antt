-- A keeper of time goes by its clock, of which it says only when that gives a moment.
use Rattle.std.proofs.Common.{◌≡◌, ℕ, zero, suc, Bool, Option, Result, Ok, Err, ap, refl}
use Rattle.std.specs.Prelude.{is_some, not}
use Rattle.session_pool.specs.declared.end_reason.EndReason.{EndReason}
use Rattle.session_pool.specs.declared.steps.Step.{Step}
use Rattle.session_pool.specs.Steps.{GivenByClock, told_by_clock}

pub given_until_done : {C : Type 0} (gives : C → Bool → Option ℕ → C → Type 0) (clock later : C) (left now : ℕ) (done : Bool) (step : Option Step)
    → ((c d : C) (b : Bool) (m : Option ℕ) → gives c b m d → is_some m ≡ not b) → GivenByClock gives (clock, left) done step (later, now)
    → GivenByClock (λ (_ : Unit {0}) (b : Bool) (m : Option ℕ) (_ : Unit {0}). is_some m ≡ not b) (tt, left) done step (tt, now)
given_until_done gives clock later zero now done step until ((m, gave, is), same) = ((m, until clock later done m gave, is), same)
given_until_done gives clock later (suc n) now done step until (is, same, kept) = (is, refl, kept)

pub told_left : {C : Type 0} (clock later : C) (left now : ℕ) (outcome : Result ℕ EndReason) → (later, now) ≡ told_by_clock (clock, left) outcome → (tt {0}, now) ≡ told_by_clock (tt {0}, left) outcome
told_left {C = C} clock later left now (Ok n) h = ap (λ (p : C × ℕ). (tt {0}, p.1)) h
told_left {C = C} clock later left now (Err why) h = ap (λ (p : C × ℕ). (tt {0}, p.1)) h
