use Rattle.std.proofs.lemmas.Result.{err_from_is_err_and}
use Rattle.wire_types.specs.Reading.{many_at}
use Rattle.wire_types.specs.Topic.{flexible_topic_of}
use Rattle.wire_types.proofs.Loop.{goes_on, ends, is_done}
use Rattle.wire_types.proofs.flexible.read_topics.Goals as goal

pub returns-in_err-read_topic : goal.returns-in_err-read_topic
returns-in_err-read_topic g c =
    let p = err_from_is_err_and c.from_residual.result c.from_residual.ensures.1 in
    rw (p.1, p.2) (ends (flexible_topic_of g.P.Wire.grammar).reading c.in_err-read_topic.field-0.0 c.loop.topics c.args.count c.loop.counter c.loop.cursor c.read_topic.new.cursor (many_at (flexible_topic_of g.P.Wire.grammar).reading c.args.count c.args.cursor.now) c.loop-test.true c.in_err-read_topic.ensures c.loop.invariant)

pub loop-preserved : goal.loop-preserved
loop-preserved g c =
    rw c.in_ok-push.ensures.ok (goes_on (flexible_topic_of g.P.Wire.grammar).reading c.loop.topics c.args.count c.loop.counter c.loop.cursor c.in_ok-read_topic.field-0 c.read_topic.new.cursor (many_at (flexible_topic_of g.P.Wire.grammar).reading c.args.count c.args.cursor.now) c.loop-test.true c.in_ok-read_topic.ensures c.loop.invariant)

pub returns : goal.returns
returns g c = is_done (flexible_topic_of g.P.Wire.grammar).reading c.loop.topics c.args.count c.loop.counter c.loop.cursor (many_at (flexible_topic_of g.P.Wire.grammar).reading c.args.count c.args.cursor.now) c.loop-test.false c.loop.invariant
