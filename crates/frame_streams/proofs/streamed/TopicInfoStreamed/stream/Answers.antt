use Rattle.std.proofs.Common.{[], append-nil, ◌∙◌}
use Rattle.msg_data.specs.Metadata.{topic}
use Rattle.frame_streams.proofs.Streaming.{gathered_first}
use Rattle.frame_streams.proofs.streamed.TopicInfoStreamed.stream.Goals as goal

pub returns : goal.returns
returns g c = gathered_first _ _ c.args.gathered.now.items (topic.written c.args.self.now) [] _ c.put.new.out.items _ c.spill_enough.result (c.in_ok-put.ensures.spelled.1 ∙ topic.puts _ _) (append-nil _) c.spill_enough.ensures
