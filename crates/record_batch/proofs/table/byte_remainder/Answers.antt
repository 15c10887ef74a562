use Rattle.record_batch.proofs.Remainders.{remainder_at}
use Rattle.record_batch.proofs.table.byte_remainder.Goals as goal

pub returns : goal.returns
returns c = remainder_at c.args.byte c.args.zeros c.ranges.byte.fits c.requires
