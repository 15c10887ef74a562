use Rattle.frame_streams.proofs.Streaming.{streamed_whole}
use Rattle.frame_streams.proofs.long_response.send_topics.Goals as goal

pub returns : goal.returns
returns g c = streamed_whole _ _ _ _ _ _ _ c.stream_topics.result _ c.spill.result c.in_ok-gathered.ensures.items c.in_ok-stream_topics.was c.stream_topics.ensures c.spill.ensures.streams c.spill.ensures.empty
