-- Why a part of a frame does not come, by what was read and what is left.
use Rattle.std.specs.Prelude.{◌≡◌, ◌<◌, ◌+◌, ℕ, List, [], ◌++◌, length, Option, Some, IfSome}
use Rattle.std.specs.Io.KnownBytes.{Consumes}
use Rattle.frame_streams.specs.declared.fault.FrameFault.{FrameFault}
use Rattle.frame_streams.specs.declared.fault.FrameFault.TheVariants as fault

-- what was read of known bytes, and what is left of them
abbrev pub Took : Option (List ℕ) → Option (List ℕ) → (List ℕ → List ℕ → Type 0) → Type 0
Took old new P =
    IfSome old
    (λ input. (read rest : List ℕ) × (input ≡ read ++ rest) × (new ≡ Some rest) × P read rest)

-- the same of a reader that is given up after it
abbrev pub TookLast : Option (List ℕ) → (List ℕ → List ℕ → Type 0) → Type 0
TookLast old P = IfSome old (λ input. (read rest : List ℕ) × (input ≡ read ++ rest) × P read rest)

-- fewer bytes than so many were read
abbrev pub StopsShort : Option (List ℕ) → Option (List ℕ) → ℕ → Type 0
StopsShort old new n = (read : List ℕ) × Consumes old new read × (length read < n)

-- what was read stands after what was held
abbrev pub ReadsOn : Option (List ℕ) → Option (List ℕ) → List ℕ → List ℕ → Type 0
ReadsOn old new held more = (read : List ℕ) × (more ≡ held ++ read) × Consumes old new read

-- so many bytes were read past
abbrev pub Passes : Option (List ℕ) → Option (List ℕ) → ℕ → Type 0
Passes old new n = (read : List ℕ) × (length read ≡ n) × Consumes old new read

-- so many bytes were read, and these are the first of them
abbrev pub ReadsPast : Option (List ℕ) → Option (List ℕ) → List ℕ → ℕ → Type 0
ReadsPast old new front n =
    (more : List ℕ) × (length front + length more ≡ n) × Consumes old new (front ++ more)

abbrev pub HeadLacks : FrameFault → List ℕ → List ℕ → Type 0
HeadLacks fault.Closed read rest = (length read ≡ 0) × (rest ≡ [])
HeadLacks fault.Cut read rest = (0 < length read) × (length read < 4) × (rest ≡ [])
HeadLacks fault.ReadFault read rest = length read < 4
HeadLacks _ read rest = ⊥

abbrev pub BodyLacks : ℕ → FrameFault → List ℕ → List ℕ → Type 0
BodyLacks size fault.Cut read rest = (length read < size) × (rest ≡ [])
BodyLacks size fault.ReadFault read rest = length read < size
BodyLacks size fault.NoMemory read rest = Unit {0}
BodyLacks size _ read rest = ⊥
