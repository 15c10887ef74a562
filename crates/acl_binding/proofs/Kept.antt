-- Books of which a filter leaves some bindings.
use Rattle.std.proofs.Common.{◌≡◌, ℕ, ◌+◌, List, [], ◌∷◌, filter, Option, Some, None, Bool, true, false, cond, refl, arith}
use Rattle.acl_binding.specs.declared.binding.Binding.{Binding}
use Rattle.acl_binding.specs.declared.binding.Numbered.{Numbered}
use Rattle.acl_binding.specs.Binding.{same_binding}
use Rattle.acl_binding.specs.Book.{IsRising, AreBelow, AreDistinct, number_of}
use Rattle.acl_binding.proofs.Rising.{rising_from_less}

pub rising_filter : (p : Numbered → Bool) (es : List Numbered) (low : ℕ) → IsRising low es → IsRising low (filter p es)
rising_filter p [] low h = tt
rising_filter p (e ∷ es) low h = by (p e) (rising_filter p es (e.number + 1) h.1) where
  by : (b : Bool) → IsRising (e.number + 1) (filter p es) → IsRising low (cond b (e ∷ filter p es) (filter p es))
  by true rest = (h.0, rest)
  by false rest = let lower = h.0 in rising_from_less (filter p es) low (e.number + 1) (omega arith) rest

pub below_filter : (p : Numbered → Bool) (es : List Numbered) (high : ℕ) → AreBelow high es → AreBelow high (filter p es)
below_filter p [] high h = tt
below_filter p (e ∷ es) high h = by (p e) (below_filter p es high h.1) where
  by : (b : Bool) → AreBelow high (filter p es) → AreBelow high (cond b (e ∷ filter p es) (filter p es))
  by true rest = (h.0, rest)
  by false rest = rest

absent_head : (t : Bool) (n : ℕ) (rest : Option ℕ) → cond t (Some n) rest ≡ None → (t ≡ false) × (rest ≡ None)
absent_head true n rest h = absurd (let clash : Some n ≡ None = h in cc)
absent_head false n rest h = (refl, h)

absent_cons : (t : Bool) (n : ℕ) (rest : Option ℕ) → t ≡ false → rest ≡ None → cond t (Some n) rest ≡ None
absent_cons true n rest e h = absurd (let clash : true ≡ false = e in cc)
absent_cons false n rest e h = h

pub absent_filter : (p : Numbered → Bool) (es : List Numbered) (b : Binding) → number_of es b ≡ None → number_of (filter p es) b ≡ None
absent_filter p [] b h = refl
absent_filter p (e ∷ es) b h =
    let parts = absent_head (same_binding e.binding b) e.number (number_of es b) h in
    by (p e) parts.0 (absent_filter p es b parts.1) where
      by : (k : Bool) → same_binding e.binding b ≡ false → number_of (filter p es) b ≡ None → number_of (cond k (e ∷ filter p es) (filter p es)) b ≡ None
      by true apart rest = absent_cons (same_binding e.binding b) e.number (number_of (filter p es) b) apart rest
      by false apart rest = rest

pub distinct_filter : (p : Numbered → Bool) (es : List Numbered) → AreDistinct es → AreDistinct (filter p es)
distinct_filter p [] h = tt
distinct_filter p (e ∷ es) h = by (p e) (absent_filter p es e.binding h.0) (distinct_filter p es h.1) where
  by : (k : Bool) → number_of (filter p es) e.binding ≡ None → AreDistinct (filter p es) → AreDistinct (cond k (e ∷ filter p es) (filter p es))
  by true absent rest = (absent, rest)
  by false absent rest = rest
