use Rattle.std.proofs.Common.{◌++◌, drop}
use Rattle.wire_types.specs.Spelling.{many_written}
use Rattle.frame_streams.proofs.Streaming.{Rests}
use Rattle.frame_streams.proofs.streamed.stream_all.Given as goal

-- so much is written, and the values that are left follow what is gathered
abbrev pub invariant-loop-value : goal.invariant-loop-value
invariant-loop-value g l = Rests (g.W.Write.contents l.initial.writer) (g.W.Write.contents l.writer) (l.fn.gathered.items ++ many_written g.T.Streamed.text l.values) (l.gathered.items ++ many_written g.T.Streamed.text (drop l.value-index l.values))
