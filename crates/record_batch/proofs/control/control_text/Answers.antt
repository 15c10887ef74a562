use Rattle.record_batch.proofs.Marked.{gathered}
use Rattle.record_batch.proofs.control.control_text.Goals as goal

pub returns : goal.returns
returns c = gathered c.args.outcome c.args.header.now _ _ _ _ c.in_ok-out.ensures.items c.in_ok-write.ensures c.marker_text.ensures c.in_ok-extend_from_slice.ensures.items
