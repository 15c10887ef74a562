use Rattle.std.proofs.Common.{arith}
use Rattle.frame_streams.proofs.Bytes.{piece_lacks}
use Rattle.frame_streams.proofs.frame.read_body.Goals as goal

pub returns-in-Err-read_rest-clause-err : goal.returns-in-Err-read_rest-clause-err
returns-in-Err-read_rest-clause-err g c =
    piece_lacks _ _ _ _ c.args.size c.loop-held.body.items _ (omega (arith, c.loop-held.invariant.all, c.in_default.ensures.len, c.min-more.ensures)) c.loop-held.invariant.read c.in-Err-read_rest.ensures.err
