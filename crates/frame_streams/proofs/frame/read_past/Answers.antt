use Rattle.std.proofs.Common.{arith, drop, length-append, length-drop, length-take}
use Rattle.frame_streams.proofs.Bytes.{more_passed, passing_lacks}
use Rattle.frame_streams.proofs.frame.read_past.Goals as goal

pub returns-in-Err-clause-err : goal.returns-in-Err-clause-err
returns-in-Err-clause-err g c = passing_lacks _ _ _ _ _ c.args.size _ (omega (arith, c.min-more.ensures, length-take c.min-more.result c.loop-passed.piece)) c.loop-passed.invariant.read c.in-Err.ensures.err

pub loop-passed-preserved : goal.loop-passed-preserved
loop-passed-preserved g c = record {
  room = omega (arith, c.read_piece.auto.piece, length-append c.read_piece.new.piece (drop c.min-more.result c.loop-passed.piece), length-drop c.min-more.result c.loop-passed.piece, length-take c.min-more.result c.loop-passed.piece);
  within = omega (arith, c.min-more.ensures);
  read = more_passed _ _ _ _ _ _ c.loop-passed.invariant.read (omega (arith, c.read_piece.auto.piece, length-take c.min-more.result c.loop-passed.piece)) c.in_default.ensures.ok;
}
