use Rattle.std.proofs.Common.{◌∙◌}
use Rattle.wire_types.specs.Topic.{flexible_topic_of}
use Rattle.wire_types.proofs.Deductions.{left_goes_on, left_ends, left_done}
use Rattle.wire_types.proofs.flexible.deduct_topics.Goals as goal

pub returns-in_err-left : goal.returns-in_err-left
returns-in_err-left g c = c.from_residual.ensures ∙ left_ends (flexible_topic_of g.P.Wire.grammar).left c.args.topics.now c.loop-topic.topic-index c.topic-item.result c.loop-topic.left c.deduct_topic.result _ c.loop-topic-test.true c.topic-item.is c.deduct_topic.ensures c.in_err-left.was c.loop-topic.invariant

pub loop-topic-preserved : goal.loop-topic-preserved
loop-topic-preserved g c = left_goes_on (flexible_topic_of g.P.Wire.grammar).left c.args.topics.now c.loop-topic.topic-index c.topic-item.result c.loop-topic.left c.in_ok-left.left c.deduct_topic.result _ c.loop-topic-test.true c.topic-item.is c.deduct_topic.ensures c.in_ok-left.was c.loop-topic.invariant

pub returns : goal.returns
returns g c = left_done (flexible_topic_of g.P.Wire.grammar).left c.args.topics.now c.loop-topic.topic-index c.loop-topic.left _ c.loop-topic-test.false c.loop-topic.invariant
