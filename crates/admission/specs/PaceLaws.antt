-- What a rate holds a user to, in the words of requests and seconds.
use Rattle.std.specs.Prelude.{ℕ, ◌+◌, ◌≤◌, min, List, [], ◌∷◌}
use Rattle.admission.specs.declared.pace.Load.{Load}
use Rattle.admission.specs.declared.pace.Rate.{Rate}
use Rattle.admission.specs.Pace.{last_moment, second, price, paid_after}

-- a request that a user sends: the moment at which it is charged, and its load
pub record Sent : Type 0 where
  pub moment : ℕ
  pub load : Load

-- until when a user has paid after these requests
abbrev pub paid_for : Rate → ℕ → List Sent → ℕ
paid_for rate paid [] = paid
paid_for rate paid (s ∷ more) = paid_for rate (paid_after rate paid s.moment s.load) more

-- what they cost together
abbrev pub total : Rate → List Sent → ℕ
total rate [] = 0
total rate (s ∷ more) = price rate s.load + total rate more

-- At each moment at which a user is let go on, its requests so far cost no more than the time since
-- the first of them, and a second.
pub record RateIsKept : Type 0 where
  pub kept : (rate : Rate) (first : Sent) (more : List Sent) (now : ℕ)
      → paid_for rate 0 (first ∷ more) ≤ now + second
      → min (first.moment + total rate (first ∷ more)) last_moment ≤ now + second
