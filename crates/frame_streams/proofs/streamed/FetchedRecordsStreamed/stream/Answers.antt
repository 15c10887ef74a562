use Rattle.std.proofs.Common.{◌∙◌}
use Rattle.wire_types.specs.Spelling.{many_written}
use Rattle.frame_streams.specs.Streaming.{records_head, records_head_of}
use Rattle.frame_streams.proofs.Streaming.{gathered_first, records_text}
use Rattle.frame_streams.proofs.streamed.FetchedRecordsStreamed.stream.Goals as goal

pub returns : goal.returns
returns g c = gathered_first _ _ c.args.gathered.now.items (records_head.written (records_head_of c.args.self.now)) (many_written (λ x. x) c.as_slice.result.now) _ c.put_records_head.new.out.items _ c.stream_all.result
    (c.in_ok-put_records_head.ensures.1 ∙ records_head.puts _ _) (records_text c.args.self.now c.as_slice.result.now c.as_slice.ensures) c.stream_all.ensures
