-- Bytes as they come, cut into frames (Kafka protocol guide, "Common Request and Response
-- Structure").
use Rattle.std.specs.Prelude.{◌≡◌, ◌+◌, ◌≤◌, ℕ, zero, suc, List, [], ◌∷◌, ◌++◌, length, map, take, All, Option, None, Some, IfSome}
use Rattle.std.specs.Int.{from_be_bytes, w32}
use Rattle.std.specs.declared.time.Duration.{Duration}
use Rattle.deadlines.specs.declared.progress.Part.{Part}
use Rattle.deadlines.specs.declared.progress.Part.TheVariants.{Nothing, One, Two, Three, Body}
use Rattle.deadlines.specs.declared.progress.Progress.{Progress}

-- a byte, and the moment at which it came
pub record Came : Type 0 where
  pub byte : ℕ
  pub moment : Duration

-- bytes that came at one moment
abbrev pub bytes_at : Duration → List ℕ → List Came
bytes_at moment bytes = map (λ byte. record { byte = byte; moment = moment }) bytes

abbrev pub bytes_of : List Came → List ℕ
bytes_of came = map (λ c. c.byte) came

-- what the size field says, which is a frame's first four bytes
abbrev pub size_of : List Came → ℕ
size_of frame = from_be_bytes w32 (bytes_of (take 4 frame))

-- a size field, and as many bytes as it says
abbrev pub IsFrame : List Came → Type 0
IsFrame frame = (4 ≤ length frame) × (length frame ≡ 4 + size_of frame)

-- what has come of a frame that isn't whole: nothing, bytes of its size field, or that and its body
-- but for some bytes and the last
abbrev pub IsPart : Part → List Came → Type 0
IsPart Nothing part = part ≡ []
IsPart (One a) part = bytes_of part ≡ a ∷ []
IsPart (Two a b) part = bytes_of part ≡ a ∷ b ∷ []
IsPart (Three a b c) part = bytes_of part ≡ a ∷ b ∷ c ∷ []
IsPart (Body more) part = (4 ≤ length part) × (length part + more + 1 ≡ 4 + size_of part)

-- what has come of a frame of whose body so many bytes are to come
abbrev pub part_of : ℕ → Part
part_of zero = Nothing
part_of (suc more) = Body more

-- when a frame began: once its first byte came
abbrev pub frame_start : List Came → Option Duration
frame_start [] = None
frame_start (first ∷ rest) = Some first.moment

-- the frames one after the other, and what follows them
abbrev pub all_bytes : List (List Came) → List Came → List Came
all_bytes [] part = part
all_bytes (frame ∷ frames) part = frame ++ all_bytes frames part

-- what came is whole frames and a part of another, which is the one that is known
pub record IsCut (came : List Came) (progress : Progress) : Type 0 where
  pub frames : List (List Came)
  pub part : List Came
  pub joined : came ≡ all_bytes frames part
  pub whole : All IsFrame frames
  pub part_of : IsPart progress.part part
  pub since : IfSome (frame_start part) (λ moment. progress.since ≡ moment)
