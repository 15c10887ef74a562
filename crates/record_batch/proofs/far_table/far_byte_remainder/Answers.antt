use Rattle.record_batch.proofs.Remainders.{far_remainder_at}
use Rattle.record_batch.proofs.far_table.far_byte_remainder.Goals as goal

pub returns : goal.returns
returns c = far_remainder_at c.args.byte c.args.zeros c.ranges.byte.fits c.requires
