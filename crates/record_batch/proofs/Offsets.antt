-- Offsets in a batch.
use Rattle.std.proofs.Common.{◌≡◌, ℕ, ℤ, pos, ◌-◌, ◌<◌, subst, arith}
use Rattle.std.specs.Prelude.{◌+ℤ◌, FitsSigned}
use Rattle.std.specs.Int.{w64}
use Rattle.std.proofs.lemmas.Int.{ints}

-- the offset after so many records is the one after the last of them
pub after_all : (base last : ℤ) (n : ℕ) → 0 < n → last ≡ pos (n - 1) → base +ℤ (last +ℤ pos 1) ≡ base +ℤ pos n
after_all base last n some is = rw is (omega (arith, ints, some))

pub after_last : (base last : ℤ) (n : ℕ) → 0 < n → last ≡ pos (n - 1) → FitsSigned w64 (base +ℤ (last +ℤ pos 1)) → FitsSigned w64 (base +ℤ pos n)
after_last base last n some is fits = subst (FitsSigned w64) (after_all base last n some is) fits
