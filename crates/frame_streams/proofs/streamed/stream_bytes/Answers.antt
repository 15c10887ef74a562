use Rattle.std.proofs.Common.{[], refl}
use Rattle.std.proofs.lemmas.Result.{err_from_is_err_and}
use Rattle.frame_streams.proofs.Streaming.{fails_first, spilled_then, spilled_fails}
use Rattle.frame_streams.proofs.streamed.stream_bytes.Goals as goal

pub returns-in_err-spill : goal.returns-in_err-spill
returns-in_err-spill g c =
    let p = err_from_is_err_and c.from_residual.result c.from_residual.ensures.1 in
    rw p.1 (fails_first _ _ _ [] c.args.bytes.now _ _ _ c.spill.result _ refl c.spill.ensures.streams)

pub returns-in_err-write_whole : goal.returns-in_err-write_whole
returns-in_err-write_whole g c =
    let p = err_from_is_err_and c.from_residual-in_err-write_whole.result c.from_residual-in_err-write_whole.ensures.1 in
    rw p.1 (spilled_fails _ _ _ _ _ _ _ c.spill.result _ c.write_whole.result _ c.in_ok-spill.was c.in_ok-spill.ensures.empty c.spill.ensures.streams c.write_whole.ensures)

pub returns-then-bytes-ge-UNCOPIED : goal.returns-then-bytes-ge-UNCOPIED
returns-then-bytes-ge-UNCOPIED g c = spilled_then _ _ _ _ _ _ c.spill.result _ c.write_whole.result _ tt c.in_ok-spill.was c.in_ok-spill.ensures.empty c.in_ok-write_whole.was c.spill.ensures.streams c.write_whole.ensures
