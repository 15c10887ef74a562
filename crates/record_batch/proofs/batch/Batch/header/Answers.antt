use Rattle.std.proofs.Common.{ℤ, Option, sym, ap, subst, ◌∙◌}
use Rattle.std.specs.Prelude.{IfSome, FitsSigned}
use Rattle.std.specs.Int.{w64}
use Rattle.std.proofs.lemmas.Int.{to_z-of_z}
use Rattle.record_batch.specs.BatchHeader.{header_at}
use Rattle.record_batch.specs.Batch.{BatchData, batch_placed, batch_of_bytes}
use Rattle.record_batch.proofs.Placed.{header_is, has_header}
use Rattle.record_batch.proofs.batch.Batch.header.Goals as goal

pub unreachable-requires : goal.unreachable-requires
unreachable-requires c = has_header c.self.inside.marker c.self.inside.bytes c.as_slice.result.now c.in_default.ensures.none.0 c.self.invariant.0 c.as_slice.ensures c.in_default.ensures.none.1

pub returns-in-Some-placed : goal.returns-in-Some-placed
returns-in-Some-placed c =
    let whole = batch_of_bytes c.self.inside.marker c.self.inside.bytes in
    let fits : FitsSigned w64 c.in-Some-placed.offset = subst (λ (p : Option ℤ). IfSome p (FitsSigned w64)) c.in-Some-placed.is c.self.invariant.1 in
    c.at.ensures
    ∙ ap (λ (z : ℤ). header_at z c.in-Some.header) (to_z-of_z w64 c.in-Some-placed.offset fits)
    ∙ ap (header_at c.in-Some-placed.offset) (sym (header_is c.self.inside.bytes c.as_slice.result.now c.in-Some.header c.as_slice.ensures c.in-Some.ensures.some))
    ∙ ap (λ (p : Option ℤ). (batch_placed p whole).header) (sym c.in-Some-placed.is)
    ∙ ap (λ (b : BatchData). b.header) c.self.view_is

pub returns-in-None : goal.returns-in-None
returns-in-None c =
    let whole = batch_of_bytes c.self.inside.marker c.self.inside.bytes in
    sym (header_is c.self.inside.bytes c.as_slice.result.now c.in-Some.header c.as_slice.ensures c.in-Some.ensures.some)
    ∙ ap (λ (p : Option ℤ). (batch_placed p whole).header) (sym c.in-None.is)
    ∙ ap (λ (b : BatchData). b.header) c.self.view_is
