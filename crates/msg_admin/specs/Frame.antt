-- Frames: a size, and so many bytes (Kafka protocol guide, "Common Request and Response
-- Structure").
use Rattle.std.specs.Prelude.{◌≡◌, ℕ, pos, ◌^◌, List, ◌++◌, length, Bool, true, false, ◌&&◌, nat_lt, ◌<◌, Option, Some, None, Result, Ok, Err}
use Rattle.wire_types.specs.declared.fault.WriteFault.{WriteFault}
use Rattle.wire_types.specs.declared.fault.WriteFault.TheVariants as faults
use Rattle.wire_types.specs.Grammar.{Grammar}
use Rattle.wire_types.specs.Schema.{int32}

-- size => INT32, and the bytes that it counts
abbrev pub frame_bytes : List ℕ → List ℕ
frame_bytes text = int32.written (pos (length text)) ++ text

-- the value has a spelling, whose size can be told
unfoldable pub frame_fits : {A : Type 0} → Grammar A → A → Bool
frame_fits g x = g.fits x && nat_lt (length (g.written x)) (2 ^ 31)

-- The call gave the bytes, where they can be written. `TooLong` comes only where they can not.
abbrev pub Gives : Bool → List ℕ → Result (List ℕ) WriteFault → Type 0
Gives fits whole (Ok bytes) = (fits ≡ true) × (bytes ≡ whole)
Gives fits whole (Err faults.NoMemory) = Unit {0}
Gives fits whole (Err faults.TooLong) = fits ≡ false

-- ... the frame of a value
abbrev pub GivesFrame : {A : Type 0} → Grammar A → A → Result (List ℕ) WriteFault → Type 0
GivesFrame g x = Gives (frame_fits g x) (frame_bytes (g.written x))

-- the size of the value's spelling, where it fits
abbrev pub TellsSize : {A : Type 0} → Grammar A → A → Option ℕ → Type 0
TellsSize g x (Some size) =
    (frame_fits g x ≡ true) × (size ≡ length (g.written x)) × (size < 2 ^ 31)
TellsSize g x None = frame_fits g x ≡ false
