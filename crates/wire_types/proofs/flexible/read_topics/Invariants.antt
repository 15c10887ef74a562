use Rattle.std.proofs.Common.{◌≡◌, ◌-◌}
use Rattle.wire_types.specs.Reading.{many_at}
use Rattle.wire_types.specs.Topic.{flexible_topic_of}
use Rattle.wire_types.proofs.Loop.{with_front}
use Rattle.wire_types.proofs.flexible.read_topics.Given as goal

abbrev pub invariant-loop : goal.invariant-loop
invariant-loop g l = with_front l.topics (many_at (flexible_topic_of g.P.Wire.grammar).reading (l.count - l.counter) l.cursor) ≡ many_at (flexible_topic_of g.P.Wire.grammar).reading l.count l.fn.cursor
