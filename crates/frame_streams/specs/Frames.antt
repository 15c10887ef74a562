-- Frames: the input, cut by their sizes (Kafka protocol guide, "Common Request and Response
-- Structure").
use Rattle.std.specs.Prelude.{◌≡◌, ℕ, ◌==◌, ◌||◌, nat_lt, List, [], ◌++◌, length, take, drop, ◌⊎◌, if◌then◌else◌}
use Rattle.std.specs.Int.{from_be_bytes, w32}
use Rattle.frame_streams.specs.declared.fault.FrameFault.{FrameFault}
use Rattle.frame_streams.specs.declared.fault.FrameFault.TheVariants as fault
use Rattle.frame_streams.specs.declared.frame.Came.{Came}

-- Size => INT32. A negative one counts here as a number above each limit.
abbrev pub size_of : List ℕ → ℕ
size_of input = from_be_bytes w32 (take 4 input)

-- what stands at the front of the input
pub data Front : Type 0 where
  -- nothing at all
  Nothing : Front
  -- a part of a frame
  Part : Front
  -- a size that no frame has
  Bad : Front
  -- a frame, and what follows it
  Whole : List ℕ → List ℕ → Front

-- after the size field
abbrev pub front_after_size : ℕ → ℕ → List ℕ → Front
front_after_size limit size bytes =
    if nat_lt size 8 || nat_lt limit size then Bad
    else if nat_lt (length bytes) size then Part
    else Whole (take size bytes) (drop size bytes)

abbrev pub front_of : ℕ → List ℕ → Front
front_of limit input =
    if length input == 0 then Nothing
    else if nat_lt (length input) 4 then Part
    else front_after_size limit (size_of input) (drop 4 input)

-- ---- of what was read

-- the bytes that were read are a frame, whatever follows
abbrev pub Comes : ℕ → List ℕ → List ℕ → List ℕ → Type 0
Comes limit frame read rest = (tail : List ℕ) → front_of limit (read ++ tail) ≡ Whole frame tail

-- what is kept of a frame: the whole, or of one with more than so many bytes the first eight
abbrev pub kept_bytes : ℕ → List ℕ → List ℕ
kept_bytes most frame = if nat_lt most (length frame) then take 8 frame else frame

-- what came is of this frame
abbrev pub IsOf : ℕ → Came → List ℕ → Type 0
IsOf most came frame = (came.kept ≡ kept_bytes most frame) × (came.size ≡ length frame)

-- the bytes that were read are a frame of which this came, whatever follows
abbrev pub Arrives : ℕ → ℕ → Came → List ℕ → List ℕ → Type 0
Arrives limit most came read rest =
    (frame : List ℕ) × IsOf most came frame × Comes limit frame read rest

-- where a frame does not come
abbrev pub Lacks : ℕ → FrameFault → List ℕ → List ℕ → Type 0
Lacks limit fault.Closed read rest = (front_of limit read ≡ Nothing) × (rest ≡ [])
Lacks limit fault.Cut read rest = (front_of limit read ≡ Part) × (rest ≡ [])
Lacks limit fault.BadFrame read rest = (tail : List ℕ) → front_of limit (read ++ tail) ≡ Bad
Lacks limit fault.ReadFault read rest =
    (front_of limit read ≡ Nothing) ⊎ (front_of limit read ≡ Part)
Lacks limit fault.NoMemory read rest = Unit {0}
