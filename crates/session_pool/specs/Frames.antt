-- The frames of a whole input, one after the other.
use Rattle.std.specs.Prelude.{ℕ, zero, suc, List, [], ◌∷◌}
use Rattle.frame_streams.specs.declared.fault.FrameFault.{FrameFault}
use Rattle.frame_streams.specs.declared.fault.FrameFault.TheVariants as fault
use Rattle.frame_streams.specs.Frames.{Front, Nothing, Part, Bad, Whole, front_of}
use Rattle.session_pool.specs.declared.end_reason.EndReason.{EndReason}
use Rattle.session_pool.specs.declared.end_reason.EndReason.TheVariants as why

-- why a session ends for which no frame comes
abbrev pub why_none_comes : FrameFault → EndReason
why_none_comes fault.Closed = why.Closed
why_none_comes fault.Cut = why.Cut
why_none_comes fault.ReadFault = why.ReadFault
why_none_comes fault.BadFrame = why.BadFrame
why_none_comes fault.NoMemory = why.NoMemory

-- the frames, and why there are no more
pub record Cut : Type 0 where
  pub frames : List (List ℕ)
  pub why : EndReason

abbrev pub frames_by_front : Front → (List ℕ → Cut) → Cut
frames_by_front Nothing more = record { frames = []; why = why.Closed }
frames_by_front Part more = record { frames = []; why = why.Cut }
frames_by_front Bad more = record { frames = []; why = why.BadFrame }
frames_by_front (Whole frame rest) more =
    record { frames = frame ∷ (more rest).frames; why = (more rest).why }

-- at most so many frames, none above the limit
abbrev pub frames_of : ℕ → ℕ → List ℕ → Cut
frames_of zero limit input = record { frames = []; why = why.Limit }
frames_of (suc n) limit input = frames_by_front (front_of limit input) (frames_of n limit)
