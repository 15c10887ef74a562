use Rattle.std.proofs.Common.{Some, refl, sym, ap, subst, ◌∙◌, to_z, of_z}
use Rattle.std.specs.Int.{w16, w64}
use Rattle.std.proofs.lemmas.Int.{to_z-of_z}
use Rattle.record_batch.specs.Batch.{BatchData, IsBatch}
use Rattle.record_batch.specs.Control.{control}
use Rattle.record_batch.proofs.Marked.{made_view}
use Rattle.record_batch.proofs.Placed.{read_back}
use Rattle.record_batch.proofs.batch.Batch.control.Goals as goal

pub invariant_of-result : goal.invariant_of-result
invariant_of-result c =
    let p = to_z w64 (of_z w64 c.args.producer) in
    let e = to_z w16 (of_z w16 c.args.epoch) in
    let m = to_z w64 (of_z w64 c.args.moment) in
    let made = made_view c.args.outcome c.args.producer c.args.epoch c.args.moment p e m (control c.args.outcome p e m).header c.in_ok-text.text.items c.in_ok-from_vec.field-0 c.ranges.producer c.ranges.epoch c.ranges.moment
    c.in_ok-text.ensures.sum (to_z-of_z w64 _ c.ranges.producer) (to_z-of_z w16 _ c.ranges.epoch) (to_z-of_z w64 _ c.ranges.moment) refl c.in_ok-text.ensures.text c.in_ok-from_vec.ensures in
    let read = read_back (control c.args.outcome p e m).header (Some c.args.outcome) c.in_ok-from_vec.field-0 made.1 in
    (subst IsBatch (sym read) made.1, tt, sym (ap (λ (b : BatchData). b.header.last_offset_delta) read))

pub returns-clause-value : goal.returns-clause-value
returns-clause-value c =
    let p = to_z w64 (of_z w64 c.args.producer) in
    let e = to_z w16 (of_z w16 c.args.epoch) in
    let m = to_z w64 (of_z w64 c.args.moment) in
    let made = made_view c.args.outcome c.args.producer c.args.epoch c.args.moment p e m (control c.args.outcome p e m).header c.in_ok-text.text.items c.in_ok-from_vec.field-0 c.ranges.producer c.ranges.epoch c.ranges.moment
    c.in_ok-text.ensures.sum (to_z-of_z w64 _ c.ranges.producer) (to_z-of_z w16 _ c.ranges.epoch) (to_z-of_z w64 _ c.ranges.moment) refl c.in_ok-text.ensures.text c.in_ok-from_vec.ensures in
    read_back (control c.args.outcome p e m).header (Some c.args.outcome) c.in_ok-from_vec.field-0 made.1 ∙ made.0

pub returns-clause-batch : goal.returns-clause-batch
returns-clause-batch c =
    let p = to_z w64 (of_z w64 c.args.producer) in
    let e = to_z w16 (of_z w16 c.args.epoch) in
    let m = to_z w64 (of_z w64 c.args.moment) in
    let made = made_view c.args.outcome c.args.producer c.args.epoch c.args.moment p e m (control c.args.outcome p e m).header c.in_ok-text.text.items c.in_ok-from_vec.field-0 c.ranges.producer c.ranges.epoch c.ranges.moment
    c.in_ok-text.ensures.sum (to_z-of_z w64 _ c.ranges.producer) (to_z-of_z w16 _ c.ranges.epoch) (to_z-of_z w64 _ c.ranges.moment) refl c.in_ok-text.ensures.text c.in_ok-from_vec.ensures in
    subst IsBatch (sym (read_back (control c.args.outcome p e m).header (Some c.args.outcome) c.in_ok-from_vec.field-0 made.1)) made.1
