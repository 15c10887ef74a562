use Rattle.std.proofs.Common.{rules, refl, ap, sym, ◌∙◌}
use Rattle.std.specs.Int.{w32}
use Rattle.std.proofs.lemmas.Int.{to_z-of_z}
use Rattle.record_batch.specs.declared.header.BatchHeader.{BatchHeader}
use Rattle.record_batch.proofs.Placed.{faultless_in, header_is}
use Rattle.record_batch.proofs.batch.Batch.faultless.Goals as goal

pub invariant_of-result : goal.invariant_of-result
invariant_of-result c = (
  faultless_in c.args.bytes c.args.header.now c.requires.header c.requires.fault,
  tt,
  to_z-of_z w32 c.args.header.now.last_offset_delta (search rules) ∙ sym (ap (λ (h : BatchHeader). h.last_offset_delta) (header_is c.args.bytes c.args.bytes c.args.header.now refl c.requires.header)),
)

pub returns : goal.returns
returns c = (refl, refl, faultless_in c.args.bytes c.args.header.now c.requires.header c.requires.fault)
