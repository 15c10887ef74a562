-- What a writer leaves after the bytes that were there.
use Rattle.std.specs.Prelude.{◌≡◌, ℕ, List, Bool, true, false, Result, Ok, Err}
use Rattle.wire_types.specs.Grammar.{Grammar}
use Rattle.wire_types.specs.declared.fault.WriteFault.{WriteFault}
use Rattle.wire_types.specs.declared.fault.WriteFault.TheVariants.{NoMemory, TooLong}

-- The writer left the whole text, where the value fits. `TooLong` comes only where it does not.
abbrev pub Writes : {T : Type 0} → Bool → List ℕ → Result T WriteFault → List ℕ → Type 0
Writes fits whole (Ok done) new = (fits ≡ true) × (new ≡ whole)
Writes fits whole (Err NoMemory) new = Unit {0}
Writes fits whole (Err TooLong) new = fits ≡ false

-- The writer put the value's spelling after the old bytes. `TooLong` comes only where the value has
-- none.
abbrev pub Puts : {A T : Type 0} → Grammar A → A → List ℕ → Result T WriteFault → List ℕ → Type 0
Puts g x old result new = Writes (g.fits x) (g.put old x) result new
