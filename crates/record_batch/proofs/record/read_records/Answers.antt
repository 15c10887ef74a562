use Rattle.std.proofs.lemmas.Result.{err_from_is_err_and}
use Rattle.record_batch.specs.Record.{records_at}
use Rattle.record_batch.specs.Batch.{placed_if_found}
use Rattle.record_batch.proofs.RecordLoop.{goes_on, ends, is_done}
use Rattle.record_batch.proofs.record.read_records.Goals as goal

pub returns-in_err-rec : goal.returns-in_err-rec
returns-in_err-rec c =
    let p = err_from_is_err_and c.from_residual.result c.from_residual.ensures.1 in
    rw (p.1, p.2) (ends c.in_err-rec.field-0.0 c.args.header.now.base_offset c.loop-place.recs c.args.count c.loop-place.place c.loop-place.cursor c.read_record.new.cursor (placed_if_found c.args.header.now.base_offset 0 (records_at 0 c.args.count c.args.cursor.now)) c.loop-place-test.true c.in_err-rec.ensures c.loop-place.invariant)

pub loop-place-preserved : goal.loop-place-preserved
loop-place-preserved c =
    rw (c.in_ok-push.ensures.ok, c.at.ensures) (goes_on c.args.header.now.base_offset c.loop-place.recs c.args.count c.loop-place.place c.loop-place.cursor c.in_ok-rec.rec c.read_record.new.cursor (placed_if_found c.args.header.now.base_offset 0 (records_at 0 c.args.count c.args.cursor.now)) c.loop-place-test.true c.in_ok-rec.ensures c.loop-place.invariant)

pub returns : goal.returns
returns c = is_done c.args.header.now.base_offset c.loop-place.recs c.args.count c.loop-place.place c.loop-place.cursor (placed_if_found c.args.header.now.base_offset 0 (records_at 0 c.args.count c.args.cursor.now)) c.loop-place-test.false c.loop-place.invariant
