-- The least of the bounds.
use Rattle.std.proofs.Common.{◌≡◌, ◌∙◌, ◌⊎◌, ◌≤◌, ℕ, Option, Some, None, inl, inr, arith}
use Rattle.std.specs.Prelude.{IfSome, IfNone}
use Rattle.std.specs.Duration.{as_nanos}
use Rattle.std.proofs.lemmas.Grind.{common_steps}
use Rattle.deadlines.specs.declared.limits.Bound.{Bound}
use Rattle.deadlines.specs.declared.limits.Limit.{Limit}
use Rattle.deadlines.specs.declared.limits.Limit.TheVariants.{Idle, Login, Frame}
use Rattle.deadlines.specs.Limits.{AtMost, IsBound, IsLeast, IsLesser}

-- a bound of some limits: none of them leaves less
abbrev Leaves : (Limit → Option ℕ) → Limit → ℕ → Type 0
Leaves f limit nanos = IfSome (f limit) (λ n. nanos ≤ n)

abbrev Names : (Limit → Option ℕ) → Option Bound → Type 0
Names f bound = IfSome bound (λ b. f b.by ≡ Some (as_nanos b.time))

names : (f : Limit → Option ℕ) (limit : Limit) (bound : Option Bound) → IsBound limit (f limit) bound → Names f bound
names f limit bound is = grind (arith, common_steps)

-- at most what a bound is, at most what its limit leaves
leaves : (f : Limit → Option ℕ) (limit : Limit) (bound : Option Bound) (b : Bound) → IsBound limit (f limit) bound → AtMost b bound → Leaves f limit (as_nanos b.time)
leaves f limit bound b is most = grind (arith, common_steps)

named : (f : Limit → Option ℕ) (limit : Limit) (bound : Option Bound) (b : Bound) → IsBound limit (f limit) bound → bound ≡ Some b → f b.by ≡ Some (as_nanos b.time)
named f limit bound b is one = grind (arith, common_steps)

absent : (f : Limit → Option ℕ) (limit : Limit) (bound : Option Bound) → IsBound limit (f limit) bound → bound ≡ None → f limit ≡ None
absent f limit bound is none = grind (arith, common_steps)

at_most : (b x : Bound) (other : Option Bound) → as_nanos b.time ≤ as_nanos x.time → AtMost x other → AtMost b other
at_most b x other less most = grind (arith, common_steps)

none_lesser : (one other : Option Bound) (b : Bound) → one ≡ None → AtMost b one
none_lesser one other b is = grind (arith, common_steps)

-- of three bounds
least_of : (f : Limit → Option ℕ) (idle login frame : Option Bound) (b : Bound) → IsBound Idle (f Idle) idle → IsBound Login (f Login) login → IsBound Frame (f Frame) frame → (idle ≡ Some b) ⊎ ((login ≡ Some b) ⊎ (frame ≡ Some b)) → AtMost b idle → AtMost b login → AtMost b frame → IsLeast f b
least_of f idle login frame b is_idle is_login is_frame which less_idle less_login less_frame =
    record {
      by = elim which [
        | inl one ↦ named f Idle idle b is_idle one
        | inr more ↦ elim more [
          | inl one ↦ named f Login login b is_login one
          | inr one ↦ named f Frame frame b is_frame one
        ]
      ];
      least = each;
    }
  where
    each : (limit : Limit) → Leaves f limit (as_nanos b.time)
    each Idle = leaves f Idle idle b is_idle less_idle
    each Login = leaves f Login login b is_login less_login
    each Frame = leaves f Frame frame b is_frame less_frame

pub least : (f : Limit → Option ℕ) (idle login frame one two : Option Bound) → IsBound Idle (f Idle) idle → IsBound Login (f Login) login → IsBound Frame (f Frame) frame → IsLesser idle login one → IsLesser one frame two → IfSome two (IsLeast f)
least f idle login frame one None is_idle is_login is_frame first second = tt
least f idle login frame None (Some b) is_idle is_login is_frame first second =
    least_of f idle login frame b is_idle is_login is_frame
    (elim second.0 [ inl none ↦ absurd (no_bound b none) | inr is ↦ inr (inr is) ])
    (none_lesser idle None b first.0) (none_lesser login None b first.1) second.2
  where
    no_bound : (b : Bound) → None ≡ Some b → ⊥
    no_bound b is = cc
least f idle login frame (Some x) (Some b) is_idle is_login is_frame first second =
    least_of f idle login frame b is_idle is_login is_frame
    (elim second.0 [ inl is ↦ both is first.0 | inr is ↦ inr (inr is) ])
    (at_most b x idle second.1 first.1) (at_most b x login second.1 first.2) second.2
  where
    both : Some x ≡ Some b → (idle ≡ Some x) ⊎ (login ≡ Some x) → (idle ≡ Some b) ⊎ ((login ≡ Some b) ⊎ (frame ≡ Some b))
    both is (inl one) = inl (one ∙ is)
    both is (inr one) = inr (inl (one ∙ is))

pub none : (f : Limit → Option ℕ) (idle login frame one two : Option Bound) → IsBound Idle (f Idle) idle → IsBound Login (f Login) login → IsBound Frame (f Frame) frame → IsLesser idle login one → IsLesser one frame two → IfNone two ((limit : Limit) → f limit ≡ None)
none f idle login frame one (Some b) is_idle is_login is_frame first second = tt
none f idle login frame None None is_idle is_login is_frame first second = each
  where
    each : (limit : Limit) → f limit ≡ None
    each Idle = absent f Idle idle is_idle first.0
    each Login = absent f Login login is_login first.1
    each Frame = absent f Frame frame is_frame second.1
none f idle login frame (Some x) None is_idle is_login is_frame first second = absurd (some_none x second.0)
  where
    some_none : (b : Bound) → Some b ≡ None → ⊥
    some_none b is = cc
