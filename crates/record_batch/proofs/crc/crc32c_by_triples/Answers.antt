use Rattle.std.proofs.Common.{ap, length, ◌/◌, ◌*◌, ◌∙◌, drop}
use Rattle.std.specs.Prelude.{bit_xor}
use Rattle.std.specs.Simd.{first_chunks}
use Rattle.record_batch.specs.Crc.{crc_after}
use Rattle.record_batch.proofs.Chunks.{by_chunks}
use Rattle.record_batch.proofs.Triples.{by_triples}
use Rattle.record_batch.proofs.crc.crc32c_by_triples.Goals as goal

pub returns : goal.returns
returns c =
    let bytes = c.args.bytes.now in
    let count = length bytes / 8 in
    let words = first_chunks 8 count bytes in
    rw (c.after_bytes.ensures, c.after_chunks.ensures, c.after_triples-remainder.ensures, c.as_chunks-2.ensures.front, c.as_chunks-2.ensures.back, c.as_chunks.ensures.front, c.as_chunks.ensures.back)
    (ap (λ crc. bit_xor (crc_after crc (drop (count * 8) bytes)) 0xffffffff) (by_triples 3 (length words / 3) 0xffffffff words)
    ∙ ap (λ crc. bit_xor crc 0xffffffff) (by_chunks 8 count 0xffffffff bytes))
