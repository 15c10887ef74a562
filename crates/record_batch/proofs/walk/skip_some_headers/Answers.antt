use Rattle.std.proofs.lemmas.Result.{err_from_is_err_and}
use Rattle.wire_types.specs.Reading.{skipped_if_found, many_at}
use Rattle.wire_types.proofs.Loop.{skip_goes_on, skip_ends, skip_done}
use Rattle.record_batch.specs.Record.{header}
use Rattle.record_batch.proofs.walk.skip_some_headers.Goals as goal

pub returns-in_err-skip_header : goal.returns-in_err-skip_header
returns-in_err-skip_header c =
    let p = err_from_is_err_and c.from_residual.result c.from_residual.ensures.1 in
    rw (p.1, p.2) (skip_ends header.reading c.in_err-skip_header.field-0.0 c.args.count c.loop.counter c.loop.cursor (skipped_if_found (many_at header.reading c.args.count c.args.cursor.now)) c.loop-test.true c.in_err-skip_header.ensures c.loop.invariant)

pub loop-preserved : goal.loop-preserved
loop-preserved c =
    skip_goes_on header.reading c.args.count c.loop.counter c.loop.cursor c.skip_header.new.cursor (skipped_if_found (many_at header.reading c.args.count c.args.cursor.now)) c.loop-test.true c.in_ok-skip_header.ensures c.loop.invariant

pub returns : goal.returns
returns c = skip_done header.reading c.args.count c.loop.counter c.loop.cursor (skipped_if_found (many_at header.reading c.args.count c.args.cursor.now)) c.loop-test.false c.loop.invariant
