-- A run without a stop.
use Rattle.std.proofs.Common.{[], ◌∷◌, refl}
use Rattle.request_handlers.specs.Core.{core_after}
use Rattle.api_laws.specs.Runs.{WholeRuns}

pub whole_runs : WholeRuns
whole_runs old new [] [] ran = (refl, ran)
whole_runs old new [] (r ∷ rs) ran = absurd ran
whole_runs old new (e ∷ es) [] ran = absurd ran
whole_runs old new (e ∷ es) (r ∷ rs) ran =
    let rest = whole_runs (core_after old e) new es rs ran.3 in
    let same = ran.1 in
    let others = rest.0 in
    (λ i. same i ∷ others i, rest.1)
