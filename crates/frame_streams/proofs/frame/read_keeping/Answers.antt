use Rattle.frame_streams.proofs.Bytes.{rest_lacks}
use Rattle.frame_streams.proofs.frame.read_keeping.Goals as goal

pub returns-in-Err-read_past-clause-err : goal.returns-in-Err-read_past-clause-err
returns-in-Err-read_past-clause-err g c = rest_lacks _ _ _ c.args.kept c.args.size c.in-Ok.body _ c.requires c.in-Ok.ensures.len c.in-Ok.ensures.ok c.in-Err-read_past.ensures.err
