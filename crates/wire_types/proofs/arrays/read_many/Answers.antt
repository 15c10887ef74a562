use Rattle.std.proofs.lemmas.Result.{err_from_is_err_and}
use Rattle.wire_types.specs.Reading.{many_at}
use Rattle.wire_types.proofs.Loop.{goes_on, ends, is_done}
use Rattle.wire_types.proofs.arrays.read_many.Goals as goal

pub returns-in_err-read : goal.returns-in_err-read
returns-in_err-read g c =
    let p = err_from_is_err_and c.from_residual-in_err-read.result c.from_residual-in_err-read.ensures.1 in
    rw (p.1, p.2) (ends g.T.Wire.grammar.reading c.in_err-read.field-0.0 c.loop.items c.args.count c.loop.counter c.loop.cursor c.read.new.cursor (many_at g.T.Wire.grammar.reading c.args.count c.args.cursor.now) c.loop-test.true c.in_err-read.ensures c.loop.invariant)

pub loop-preserved : goal.loop-preserved
loop-preserved g c =
    rw c.in_ok-push.ensures.ok (goes_on g.T.Wire.grammar.reading c.loop.items c.args.count c.loop.counter c.loop.cursor c.in_ok-read.field-0 c.read.new.cursor (many_at g.T.Wire.grammar.reading c.args.count c.args.cursor.now) c.loop-test.true c.in_ok-read.ensures c.loop.invariant)

pub returns : goal.returns
returns g c = is_done g.T.Wire.grammar.reading c.loop.items c.args.count c.loop.counter c.loop.cursor (many_at g.T.Wire.grammar.reading c.args.count c.args.cursor.now) c.loop-test.false c.loop.invariant
