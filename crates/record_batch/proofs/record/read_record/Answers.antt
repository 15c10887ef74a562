use Rattle.wire_types.specs.Schema.{varint_count}
use Rattle.record_batch.specs.Record.{record_parts}
use Rattle.record_batch.proofs.Sized.{sized_after}
use Rattle.record_batch.proofs.record.read_record.Goals as goal

pub returns : goal.returns
returns c = rw (sized_after varint_count.reading (record_parts c.args.place).reading c.args.cursor.now c.read_varint_count.new.self c.in_ok-len.len c.in_ok-len.ensures) c.read_filled.ensures
