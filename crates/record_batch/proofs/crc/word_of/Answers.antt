use Rattle.std.proofs.Common.{rules, ◌∙◌, ap}
use Rattle.std.specs.Prelude.{bit_xor}
use Rattle.record_batch.specs.Crc.{bit_shift_by}
use Rattle.record_batch.proofs.Chunks.{chunk_in}
use Rattle.record_batch.proofs.crc.word_of.Goals as goal

pub returns : goal.returns
returns c = λ crc. ap (λ n. bit_shift_by 64 (bit_xor crc n)) c.from_le_bytes.ensures ∙ chunk_in crc c.args.bytes.now (search rules) (search rules)
