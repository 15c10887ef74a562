use Rattle.std.proofs.Common.{◌≡◌, drop}
use Rattle.std.specs.List.{concat}
use Rattle.record_batch.specs.Crc.{crc_after}
use Rattle.record_batch.proofs.crc.after_chunks.Given as goal

abbrev pub invariant-loop-chunk : goal.invariant-loop-chunk
invariant-loop-chunk l = crc_after l.remainder (concat (drop l.chunk-index l.chunks)) ≡ crc_after l.fn.crc (concat l.chunks)
