-- What a clock's steps are, from what the clock gives.
use Rattle.std.proofs.Common.{◌≡◌, ◌<◌, ℕ, zero, suc, Bool, Option, Some, None, refl, sym, subst, ap, arith}
use Rattle.std.specs.Prelude.{option_map}
use Rattle.session_pool.specs.declared.steps.Step.{Step}
use Rattle.session_pool.specs.declared.steps.Step.TheVariants as steps
use Rattle.session_pool.specs.Steps.{GivenByClock}

-- a mark while markers are pending
pub marks : {C : Type 0} (gives : C → Bool → Option ℕ → C → Type 0) (clock : C) (left : ℕ) (done : Bool) → 0 < left → GivenByClock gives (clock, left) done (Some steps.Mark) (clock, left)
marks gives clock zero done lt = absurd (omega arith)
marks gives clock (suc n) done lt = (refl, refl, refl)

-- else what the clock gives
pub ticks : {C : Type 0} (gives : C → Bool → Option ℕ → C → Type 0) (clock later : C) (left : ℕ) (done : Bool) (moment : Option ℕ) (step : Option Step) → left ≡ 0 → gives clock done moment later
    → step ≡ option_map steps.Tick moment → GivenByClock gives (clock, left) done step (later, left)
ticks gives clock later zero done moment step none gave is = ((moment, gave, is), refl)
ticks gives clock later (suc n) done moment step none gave is = absurd (omega (arith, none))
