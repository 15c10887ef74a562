use Rattle.std.proofs.lemmas.Result.{err_from_is_err_and}
use Rattle.frame_streams.proofs.Streaming.{at_first, rests_on, rests_off, rests_none}
use Rattle.frame_streams.proofs.streamed.stream_all.Goals as goal

pub loop-value-init : goal.loop-value-init
loop-value-init g c = at_first _ _

pub returns-in_err-stream : goal.returns-in_err-stream
returns-in_err-stream g c =
    let p = err_from_is_err_and c.from_residual.result c.from_residual.ensures.1 in
    rw p.1 (rests_off g.T.Streamed.text c.args.values.now c.loop-value.value-index c.value-item.result _ _ _ _ _ _ _ _ c.stream.result _ c.loop-value-test.true c.value-item.is c.loop-value.invariant c.stream.ensures)

pub loop-value-preserved : goal.loop-value-preserved
loop-value-preserved g c = rests_on g.T.Streamed.text c.args.values.now c.loop-value.value-index c.value-item.result _ _ _ _ _ _ c.stream.result _ c.loop-value-test.true c.value-item.is c.in_ok-stream.was c.loop-value.invariant c.stream.ensures

pub returns : goal.returns
returns g c = rests_none g.T.Streamed.text c.args.values.now c.loop-value.value-index _ _ _ _ _ _ c.loop-value-test.false c.loop-value.invariant
