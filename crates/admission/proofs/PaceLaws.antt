-- A rate is kept, and what it says on worked cases.
use Rattle.std.proofs.Common.{◌≡◌, ℕ, ◌+◌, ◌≤◌, min, List, [], ◌∷◌, Some, None, refl, arith}
use Rattle.admission.specs.declared.pace.Load.{Load}
use Rattle.admission.specs.declared.pace.Rate.{Rate}
use Rattle.admission.specs.Pace.{last_moment, price, paid_after, wait}
use Rattle.admission.specs.PaceLaws.{Sent, paid_for, total, RateIsKept}

-- who had paid until then has paid for what it sends after that too, as far as moments go
behind : (rate : Rate) (paid base : ℕ) (sent : List Sent) → min base last_moment ≤ paid → min (base + total rate sent) last_moment ≤ paid_for rate paid sent
behind rate paid base [] le = omega (arith, le)
behind rate paid base (s ∷ more) le =
    let p = price rate s.load in
    let after = paid_after rate paid s.moment s.load in
    let next : min (base + p) last_moment ≤ after = omega (arith, le) in
    let rest = behind rate after (base + p) more next in
    omega (arith, rest)

pub kept : RateIsKept
kept = record {
  kept = λ rate first more now let_go.
      let p = price rate first.load in
      let after = paid_after rate 0 first.moment first.load in
      let began : min (first.moment + p) last_moment ≤ after = omega arith in
      let all = behind rate after (first.moment + p) more began in
      omega (arith, all, let_go);
}

-- ---- worked cases

abbrev two_a_second : Rate
two_a_second = record { requests = Some 2; bytes = None }

abbrev a_kilobyte : Rate
a_kilobyte = record { requests = Some 2; bytes = Some 1000 }

abbrev one_of : ℕ → Load
one_of bytes = record { events = 1; bytes = bytes }

half_a_second : price two_a_second (one_of 1000000) ≡ 500000000
half_a_second = refl

-- the dearer of the two
three_seconds : price a_kilobyte (one_of 3000) ≡ 3000000000
three_seconds = refl

by_number : price a_kilobyte (one_of 100) ≡ 500000000
by_number = refl

nothing_asked : price (record { requests = None; bytes = None }) (one_of 3000) ≡ 0
nothing_asked = refl

-- a rate of 0 is one of 1
of_none : price (record { requests = Some 0; bytes = None }) (one_of 10) ≡ 1000000000
of_none = refl

-- three requests at one moment: a second's are free, and the third waits for its part
abbrev at : ℕ → Sent
at bytes = record { moment = 7000000000; load = one_of bytes }

-- three partitions of a transaction come to three markers
four_events : price two_a_second (record { events = 4; bytes = 100 }) ≡ 2000000000
four_events = refl

third_waits : wait (paid_for two_a_second 0 (at 10 ∷ at 10 ∷ at 10 ∷ [])) 7000000000 ≡ 500000000
third_waits = refl

second_goes_on : wait (paid_for two_a_second 0 (at 10 ∷ at 10 ∷ [])) 7000000000 ≡ 0
second_goes_on = refl
