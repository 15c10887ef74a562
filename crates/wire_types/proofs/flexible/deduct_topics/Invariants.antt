use Rattle.std.proofs.Common.{◌≡◌, drop}
use Rattle.wire_types.specs.Spelling.{many_left}
use Rattle.wire_types.specs.Topic.{flexible_topic_of}
use Rattle.wire_types.proofs.flexible.deduct_topics.Given as goal

abbrev pub invariant-loop-topic : goal.invariant-loop-topic
invariant-loop-topic g l = many_left (flexible_topic_of g.P.Wire.grammar).left (drop l.topic-index l.topics) l.left ≡ many_left (flexible_topic_of g.P.Wire.grammar).left l.topics l.fn.budget
