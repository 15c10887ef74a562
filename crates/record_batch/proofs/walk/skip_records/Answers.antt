use Rattle.std.proofs.lemmas.Result.{err_from_is_err_and}
use Rattle.wire_types.specs.Reading.{skipped_if_found}
use Rattle.record_batch.specs.Record.{records_at}
use Rattle.record_batch.proofs.RecordLoop.{skip_goes_on, skip_ends, skip_done}
use Rattle.record_batch.proofs.walk.skip_records.Goals as goal

pub returns-in_err-skip_record : goal.returns-in_err-skip_record
returns-in_err-skip_record c =
    let p = err_from_is_err_and c.from_residual.result c.from_residual.ensures.1 in
    rw (p.1, p.2) (skip_ends c.in_err-skip_record.field-0.0 c.args.count c.loop-place.place c.loop-place.cursor (skipped_if_found (records_at 0 c.args.count c.args.cursor.now)) c.loop-place-test.true c.in_err-skip_record.ensures c.loop-place.invariant)

pub loop-place-preserved : goal.loop-place-preserved
loop-place-preserved c =
    skip_goes_on c.args.count c.loop-place.place c.loop-place.cursor c.skip_record.new.cursor (skipped_if_found (records_at 0 c.args.count c.args.cursor.now)) c.loop-place-test.true c.in_ok-skip_record.ensures c.loop-place.invariant

pub returns : goal.returns
returns c = skip_done c.args.count c.loop-place.place c.loop-place.cursor (skipped_if_found (records_at 0 c.args.count c.args.cursor.now)) c.loop-place-test.false c.loop-place.invariant
