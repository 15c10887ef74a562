use Rattle.std.proofs.Common.{Some, None, length}
use Rattle.record_batch.proofs.Checked.{found_first}
use Rattle.record_batch.proofs.check.fault_of.Goals as goal

pub returns-in-Ok : goal.returns-in-Ok
returns-in-Ok c = found_first (length c.args.bytes.now) c.args.bytes.now c.in-Some.header None c.in-Some.ensures.some c.in-Ok.ensures

pub returns-in-Err : goal.returns-in-Err
returns-in-Err c = found_first (length c.args.bytes.now) c.args.bytes.now c.in-Some.header (Some c.in-Err.fault) c.in-Some.ensures.some c.in-Err.ensures
