use Rattle.std.proofs.Common.{ℕ, ◌<◌, ◌^◌, ◌∙◌, ap, sym, subst}
use Rattle.std.specs.Int.{w16, w64}
use Rattle.std.proofs.lemmas.Int.{to_z-of_z}
use Rattle.record_batch.specs.Control.{control_text}
use Rattle.record_batch.specs.declared.header.BatchHeader.{BatchHeader}
use Rattle.record_batch.proofs.Marked.{IsMade, made_header, on_ok}
use Rattle.record_batch.proofs.control.control_batch.Goals as goal

pub returns-clause-text : goal.returns-clause-text
returns-clause-text c =
    let is : IsMade c.args.outcome c.args.producer c.args.epoch c.args.moment _ _ _ c.of_control-draft.result c.with_crc-header.result c.in_ok-summed.summed.items c.deref.result.now c.crc32c.result = record {
      producer = to_z-of_z w64 c.args.producer c.ranges.producer;
      epoch = to_z-of_z w16 c.args.epoch c.ranges.epoch;
      moment = to_z-of_z w64 c.args.moment c.ranges.moment;
      drafted = c.of_control-draft.ensures;
      text = c.in_ok-summed.ensures;
      over = c.deref.ensures.value;
      crc = c.crc32c.ensures;
      made = c.with_crc-header.ensures;
    } in
    rw (← ap (control_text c.args.outcome)
    (made_header c.args.outcome c.args.producer c.args.epoch c.args.moment _ _ _ c.of_control-draft.result c.with_crc-header.result c.in_ok-summed.summed.items c.deref.result.now c.crc32c.result is)) c.control_text-2.ensures

pub returns-clause-sum : goal.returns-clause-sum
returns-clause-sum c =
    let is : IsMade c.args.outcome c.args.producer c.args.epoch c.args.moment _ _ _ c.of_control-draft.result c.with_crc-header.result c.in_ok-summed.summed.items c.deref.result.now c.crc32c.result = record {
      producer = to_z-of_z w64 c.args.producer c.ranges.producer;
      epoch = to_z-of_z w16 c.args.epoch c.ranges.epoch;
      moment = to_z-of_z w64 c.args.moment c.ranges.moment;
      drafted = c.of_control-draft.ensures;
      text = c.in_ok-summed.ensures;
      over = c.deref.ensures.value;
      crc = c.crc32c.ensures;
      made = c.with_crc-header.ensures;
    } in
    let made = made_header c.args.outcome c.args.producer c.args.epoch c.args.moment _ _ _ c.of_control-draft.result c.with_crc-header.result c.in_ok-summed.summed.items c.deref.result.now c.crc32c.result is in
    on_ok c.control_text-2.result _ (subst (λ (n : ℕ). n < 2 ^ 32) (sym (ap (λ (h : BatchHeader). h.crc) c.with_crc-header.ensures) ∙ ap (λ (h : BatchHeader). h.crc) made) c.crc32c.type_inv)
