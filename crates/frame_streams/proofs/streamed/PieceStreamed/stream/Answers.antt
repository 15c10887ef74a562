use Rattle.std.proofs.lemmas.Result.{err_from_is_err_and}
use Rattle.frame_streams.proofs.Streaming.{fails_first, both}
use Rattle.frame_streams.proofs.streamed.PieceStreamed.stream.Goals as goal

pub returns-in_err-stream_bytes : goal.returns-in_err-stream_bytes
returns-in_err-stream_bytes g c =
    let p = err_from_is_err_and c.from_residual.result c.from_residual.ensures.1 in
    rw p.1 (fails_first _ _ _ c.runs.result.0.now c.runs.result.1.now _ _ _ c.stream_bytes.result _ c.runs.ensures c.stream_bytes.ensures)

pub returns : goal.returns
returns g c = both _ _ _ _ c.runs.result.0.now c.runs.result.1.now _ _ _ c.stream_bytes.result _ c.stream_bytes-2.result c.runs.ensures c.in_ok-stream_bytes.was c.stream_bytes.ensures c.stream_bytes-2.ensures
