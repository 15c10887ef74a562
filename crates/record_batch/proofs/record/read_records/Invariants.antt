use Rattle.std.proofs.Common.{◌≡◌, ◌-◌}
use Rattle.wire_types.proofs.Loop.{with_front}
use Rattle.record_batch.specs.Record.{records_at}
use Rattle.record_batch.specs.Batch.{placed_if_found}
use Rattle.record_batch.proofs.record.read_records.Given as goal

-- what was read, and what is still read
abbrev pub invariant-loop-place : goal.invariant-loop-place
invariant-loop-place l = with_front l.recs (placed_if_found l.header.base_offset l.place (records_at l.place (l.count - l.place) l.cursor)) ≡ placed_if_found l.header.base_offset 0 (records_at 0 l.count l.fn.cursor)
