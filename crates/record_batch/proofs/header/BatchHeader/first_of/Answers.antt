use Rattle.record_batch.proofs.HeaderLaws.{first_is, first_long}
use Rattle.record_batch.proofs.header.BatchHeader.first_of.Goals as goal

pub returns-in-Ok-clause-some : goal.returns-in-Ok-clause-some
returns-in-Ok-clause-some c = first_is c.args.bytes.now c.new-cursor.result c.read.new.cursor c.in-Ok.header c.new-cursor.ensures c.in-Ok.ensures

pub returns-in-Ok-clause-long : goal.returns-in-Ok-clause-long
returns-in-Ok-clause-long c _ = first_long c.args.bytes.now c.new-cursor.result c.read.new.cursor c.in-Ok.header c.new-cursor.ensures c.in-Ok.ensures
