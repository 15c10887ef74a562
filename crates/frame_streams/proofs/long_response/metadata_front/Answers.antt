use Rattle.std.proofs.Common.{◌∙◌}
use Rattle.frame_streams.proofs.Responses.{metadata_is}
use Rattle.frame_streams.proofs.long_response.metadata_front.Goals as goal

pub returns-in_ok-from_vec-in-Ok : goal.returns-in_ok-from_vec-in-Ok
returns-in_ok-from_vec-in-Ok c = metadata_is c.args.correlation c.in-Some.size c.args.answer.now c.new-out.result.items _ c.ranges.correlation c.in-Some.ensures c.new-out.ensures.items (c.in_ok-from_vec-in-Ok.ensures ∙ c.in-Ok.ensures.1)
