use Rattle.std.proofs.Common.{rules}
use Rattle.record_batch.specs.Crc.{bit_shift_by, crc_after}
use Rattle.wire_laws.proofs.laws.sums_are_crc32c.Goals as goal

pub returns-clause-sums : goal.returns-clause-sums
unfolding bit_shift_by crc_after
returns-clause-sums c = search rules

pub returns-clause-not_crc32 : goal.returns-clause-not_crc32
returns-clause-not_crc32 c = search rules

pub returns-clause-not_inverted_at_the_end : goal.returns-clause-not_inverted_at_the_end
unfolding bit_shift_by crc_after
returns-clause-not_inverted_at_the_end c = search rules
