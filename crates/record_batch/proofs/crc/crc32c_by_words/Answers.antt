use Rattle.std.proofs.Common.{ap, length, ◌/◌}
use Rattle.std.specs.Prelude.{bit_xor}
use Rattle.record_batch.proofs.Chunks.{by_chunks}
use Rattle.record_batch.proofs.crc.crc32c_by_words.Goals as goal

pub returns : goal.returns
returns c =
    let bytes = c.args.bytes.now in
    rw (c.after_bytes.ensures, c.after_chunks.ensures, c.as_chunks.ensures.front, c.as_chunks.ensures.back) (ap (λ crc. bit_xor crc 0xffffffff) (by_chunks 8 (length bytes / 8) 0xffffffff bytes))
