-- How fast a user may ask: each request costs a part of a second, and is paid by time that passes.
use Rattle.std.specs.Prelude.{◌≡◌, ◌≢◌, ℕ, ◌+◌, ◌-◌, ◌*◌, ◌/◌, ◌&&◌, min, max, Bool, is_none, List, Option, Some, None, unwrap_or}
use Rattle.std.specs.Map.{lookup}
use Rattle.std.specs.Str.{bytes_eq}
use Rattle.admission.specs.declared.pace.Load.{Load}
use Rattle.admission.specs.declared.pace.Rate.{Rate}

-- nobody is held to a rate without a number
abbrev pub is_any : Rate → Bool
is_any rate = is_none rate.requests && is_none rate.bytes

-- moments and costs are nanoseconds, of which 64 bits are kept: these last for 584 years
abbrev pub second : ℕ
second = 1000000000

abbrev pub last_moment : ℕ
last_moment = 18446744073709551615

-- what so many things cost where so many may be sent in a second; nothing where any number may
abbrev pub cost : Option ℕ → ℕ → ℕ
cost None things = 0
cost (Some rate) things = min (things * second / max rate 1) last_moment

-- a request costs what is the dearer of it, its events, each as a request, or its bytes
abbrev pub price : Rate → Load → ℕ
price rate load = max (cost rate.requests load.events) (cost rate.bytes load.bytes)

-- until when a user has paid that asks at this moment, and had paid until then
abbrev pub paid_after : Rate → ℕ → ℕ → Load → ℕ
paid_after rate paid now load = min (max paid now + price rate load) last_moment

-- a user is let go on that is at most a second ahead
abbrev pub wait : ℕ → ℕ → ℕ
wait paid now = paid - (now + second)

-- the rate, and until when those users have paid that asked, by their texts
pub record PaceValue : Type 0 where
  pub rate : Rate
  pub paid : List (List ℕ × ℕ)

abbrev pub paid_until : PaceValue → List ℕ → ℕ
paid_until pace user = unwrap_or (lookup (bytes_eq user) pace.paid) 0

-- the user has paid until then, and every other until when it had
pub record HasPaid (old new : PaceValue) (user : List ℕ) (paid : ℕ) : Type 0 where
  pub rate : new.rate ≡ old.rate
  pub here : paid_until new user ≡ paid
  pub others : (other : List ℕ) → other ≢ user → paid_until new other ≡ paid_until old other
