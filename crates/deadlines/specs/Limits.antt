-- How long a read may wait.
use Rattle.std.specs.Prelude.{◌≡◌, ◌⊎◌, ◌-◌, ◌≤◌, ℕ, if◌then◌else◌, nat_lt, Bool, Option, None, Some, IfSome, option_map}
use Rattle.std.specs.Duration.{as_nanos}
use Rattle.std.specs.declared.time.Duration.{Duration}
use Rattle.deadlines.specs.declared.limits.Bound.{Bound}
use Rattle.deadlines.specs.declared.limits.Limit.{Limit}
use Rattle.deadlines.specs.declared.limits.Limit.TheVariants.{Idle, Login, Frame}
use Rattle.deadlines.specs.declared.limits.Times.{Times}

-- what is left of a time that began so many nanoseconds after the session: nothing, where it can't
-- be told what time it is
abbrev pub nanos_left : Duration → ℕ → Option Duration → ℕ
nanos_left time since None = 0
nanos_left time since (Some now) = as_nanos time - (as_nanos now - since)

-- who is unheard has said no whole frame yet, and has the time of a first one
abbrev pub login_time : Times → Bool → Duration
login_time times unheard = if unheard then times.first else times.login

-- what each limit leaves, if it holds: that of a login until the user is known, and that of a frame
-- once it has begun
abbrev pub nanos_left_by : Times → Bool → Bool → Option Duration → Option Duration → Limit
    → Option ℕ
nanos_left_by times known unheard begun now Idle = option_map as_nanos times.idle
nanos_left_by times known unheard begun now Login =
    if known then None else Some (nanos_left (login_time times unheard) 0 now)
nanos_left_by times known unheard begun now Frame =
    option_map (λ since. nanos_left times.frame (as_nanos since) now) begun

-- what a time leaves who has waited for so long to be served: the rest of it, and the least time at
-- least, unless there was less from the first
abbrev pub time_after : ℕ → ℕ → ℕ → ℕ
time_after least time waited =
    if nat_lt (time - waited) least then (if nat_lt time least then time else least)
    else time - waited

-- what a limit leaves is this bound, or there is none where it doesn't hold
abbrev pub IsBound : Limit → Option ℕ → Option Bound → Type 0
IsBound limit None bound = bound ≡ None
IsBound limit (Some nanos) bound =
    (b : Bound) × (bound ≡ Some b) × (b.by ≡ limit) × (as_nanos b.time ≡ nanos)

-- one of two bounds, if there is one, and no later than either
abbrev pub AtMost : Bound → Option Bound → Type 0
AtMost bound other = IfSome other (λ b. as_nanos bound.time ≤ as_nanos b.time)

abbrev pub IsLesser : Option Bound → Option Bound → Option Bound → Type 0
IsLesser one other None = (one ≡ None) × (other ≡ None)
IsLesser one other (Some bound) =
    ((one ≡ Some bound) ⊎ (other ≡ Some bound)) × AtMost bound one × AtMost bound other

-- the bound is what its limit leaves, and no limit that holds leaves less
pub record IsLeast (left_by : Limit → Option ℕ) (bound : Bound) : Type 0 where
  pub by : left_by bound.by ≡ Some (as_nanos bound.time)
  pub least : (limit : Limit) → IfSome (left_by limit) (λ nanos. as_nanos bound.time ≤ nanos)
