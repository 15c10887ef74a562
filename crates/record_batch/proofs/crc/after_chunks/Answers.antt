use Rattle.record_batch.proofs.Chunks.{goes_on, is_done}
use Rattle.record_batch.proofs.crc.after_chunks.Goals as goal

pub loop-chunk-preserved : goal.loop-chunk-preserved
loop-chunk-preserved c = goes_on c.args.chunks.now c.loop-chunk.chunk-index c.loop-chunk.remainder c.after_chunk-remainder.result _ c.loop-chunk-test.true c.after_chunk-remainder.ensures c.loop-chunk.invariant

pub returns : goal.returns
returns c = is_done c.args.chunks.now c.loop-chunk.chunk-index c.loop-chunk.remainder _ c.loop-chunk-test.false c.loop-chunk.invariant
