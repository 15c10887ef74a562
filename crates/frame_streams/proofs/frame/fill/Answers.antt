use Rattle.std.proofs.Common.{rules}
use Rattle.frame_streams.proofs.Bytes.{consumes_more}
use Rattle.frame_streams.proofs.frame.fill.Goals as goal

pub loop-filled-preserved : goal.loop-filled-preserved
loop-filled-preserved g c = record {
  within = search rules;
  read = consumes_more _ _ _ _ _ _ _ _ c.loop-filled.invariant.within c.in_ok-count.ensures.few c.loop-filled.invariant.read c.in_ok-count.ensures.ok.0;
}
