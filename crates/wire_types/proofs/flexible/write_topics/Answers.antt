use Rattle.wire_types.specs.Topic.{flexible_topic_of}
use Rattle.wire_types.proofs.Writes.{text_goes_on, fit_goes_on}
use Rattle.wire_types.proofs.Fronts.{after_spelling}
use Rattle.wire_types.proofs.flexible.write_topics.Goals as goal

pub loop-topic-preserved : goal.loop-topic-preserved
loop-topic-preserved g c =
    let i = c.loop-topic.topic-index in
    record {
      fit = fit_goes_on (flexible_topic_of g.P.Wire.grammar).fits c.args.topics.now i c.topic-item.result _ c.loop-topic-test.true c.topic-item.is c.in-Ok.ensures.spelled.0 c.loop-topic.invariant.fit;
      text = text_goes_on (flexible_topic_of g.P.Wire.grammar) c.args.topics.now i c.topic-item.result c.loop-topic.out.items c.write_topic.new.out.items _ c.loop-topic-test.true c.topic-item.is c.in-Ok.ensures.spelled.1 c.loop-topic.invariant.text;
      begun = after_spelling (flexible_topic_of g.P.Wire.grammar) c.args.out.now.items c.loop-topic.out.items c.write_topic.new.out.items c.topic-item.result c.in-Ok.ensures.spelled.1 c.loop-topic.invariant.begun;
    }
