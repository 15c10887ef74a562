use Rattle.std.proofs.Common.{◌∙◌, length}
use Rattle.wire_types.specs.Spelling.{many_written}
use Rattle.msg_data.specs.Fetch.{fetched_records}
use Rattle.frame_streams.specs.Streaming.{topic_head}
use Rattle.frame_streams.proofs.Streaming.{gathered_first, topic_text}
use Rattle.frame_streams.proofs.streamed.TopicFetchedRecordsStreamed.stream.Goals as goal

pub returns : goal.returns
returns g c = gathered_first _ _ c.args.gathered.now.items (topic_head.written (c.args.self.now.name, length c.args.self.now.partitions)) (many_written fetched_records.written c.as_slice.result.now) _ c.put_topic_head.new.out.items _ c.stream_all.result
    (c.in_ok-put_topic_head.ensures.1 ∙ topic_head.puts _ _) (topic_text c.args.self.now c.as_slice.result.now c.as_slice.ensures) c.stream_all.ensures
