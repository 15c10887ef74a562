use Rattle.std.proofs.Common.{◌≡◌, ◌-◌}
use Rattle.wire_types.specs.Reading.{skipped_if_found}
use Rattle.record_batch.specs.Record.{records_at}
use Rattle.record_batch.proofs.walk.skip_records.Given as goal

abbrev pub invariant-loop-place : goal.invariant-loop-place
invariant-loop-place l = skipped_if_found (records_at l.place (l.count - l.place) l.cursor) ≡ skipped_if_found (records_at 0 l.count l.fn.cursor)
