-- What is seen of a reader of frames.
use Rattle.std.specs.Prelude.{ℕ, List, Option}
use Rattle.frame_streams.specs.declared.frame.FrameReader.{FrameReader}

-- what it has left is what the reader that it reads has left
abbrev pub frames_left : {R : Type 0} → (R → Option (List ℕ)) → FrameReader R → Option (List ℕ)
frames_left remaining frames = remaining frames.reader

-- how many bytes were kept of the frame of which most were
abbrev pub longest_kept : {R : Type 0} → FrameReader R → ℕ
longest_kept frames = frames.longest
