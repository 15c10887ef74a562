use Rattle.std.proofs.Common.{◌≡◌, ◌-◌}
use Rattle.wire_types.specs.Reading.{skipped_if_found, many_at}
use Rattle.record_batch.specs.Record.{header}
use Rattle.record_batch.proofs.walk.skip_some_headers.Given as goal

abbrev pub invariant-loop : goal.invariant-loop
invariant-loop l = skipped_if_found (many_at header.reading (l.count - l.counter) l.cursor) ≡ skipped_if_found (many_at header.reading l.count l.fn.cursor)
