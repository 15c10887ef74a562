use Rattle.std.proofs.Common.{◌≡◌, ◌++◌, drop}
use Rattle.std.specs.Io.{StartsWith}
use Rattle.wire_types.specs.Spelling.{many_fit, many_written}
use Rattle.wire_types.specs.Topic.{flexible_topic_of}
use Rattle.wire_types.proofs.flexible.write_topics.Given as goal

abbrev pub invariant-loop-topic : goal.invariant-loop-topic
invariant-loop-topic g l = record {
  fit : many_fit (flexible_topic_of g.P.Wire.grammar).fits (drop l.topic-index l.topics) ≡ many_fit (flexible_topic_of g.P.Wire.grammar).fits l.topics;
  text : l.out.items ++ many_written (flexible_topic_of g.P.Wire.grammar).written (drop l.topic-index l.topics) ≡ l.fn.out.items ++ many_written (flexible_topic_of g.P.Wire.grammar).written l.topics;
  begun : StartsWith l.out.items l.fn.out.items;
}
