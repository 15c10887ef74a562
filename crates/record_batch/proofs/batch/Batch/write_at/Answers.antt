use Rattle.std.proofs.Common.{◌≡◌, ℕ, ℤ, List, sym, ap, subst, ◌∙◌, to_z, of_z, rules}
use Rattle.std.specs.Prelude.{FitsSigned}
use Rattle.std.specs.Int.{w32, w64}
use Rattle.std.proofs.lemmas.Int.{to_z-of_z}
use Rattle.record_batch.specs.Batch.{IsBatch, batch_of_bytes, header_in, written_at}
use Rattle.record_batch.proofs.Moved.{written_at-is}
use Rattle.record_batch.proofs.Placed.{placed_again}
use Rattle.record_batch.proofs.batch.Batch.write_at.Goals as goal

pub invariant_of-result : goal.invariant_of-result
invariant_of-result c =
    let same : c.in_ok-clone.field-0 ≡ c.self.inside.bytes = search rules in (
      subst (λ (t : List ℕ). IsBatch (batch_of_bytes c.self.inside.marker t)) (sym same) c.self.invariant.0,
      subst (FitsSigned w64) (sym (to_z-of_z w64 c.args.offset c.ranges.offset)) c.ranges.offset,
      to_z-of_z w32 c.self.inside.last_offset_delta (search rules) ∙ c.self.invariant.2 ∙ ap (λ (t : List ℕ). (header_in t).last_offset_delta) (sym same),
    )

pub returns-clause-value : goal.returns-clause-value
returns-clause-value c =
    let same : c.in_ok-clone.field-0 ≡ c.self.inside.bytes = search rules in
    let m = c.self.inside.marker in
    ap (λ (z : ℤ). written_at z (batch_of_bytes m c.in_ok-clone.field-0)) (to_z-of_z w64 c.args.offset c.ranges.offset)
    ∙ ap (λ (t : List ℕ). written_at c.args.offset (batch_of_bytes m t)) same
    ∙ placed_again c.self.inside.placed (batch_of_bytes m c.self.inside.bytes) c.args.offset c.self.invariant.0
    ∙ ap (written_at c.args.offset) c.self.view_is

pub returns-clause-batch : goal.returns-clause-batch
returns-clause-batch c =
    let same : c.in_ok-clone.field-0 ≡ c.self.inside.bytes = search rules in
    written_at-is (to_z w64 (of_z w64 c.args.offset)) (batch_of_bytes c.self.inside.marker c.in_ok-clone.field-0)
    (subst (FitsSigned w64) (sym (to_z-of_z w64 c.args.offset c.ranges.offset)) c.ranges.offset)
    (subst (λ (t : List ℕ). IsBatch (batch_of_bytes c.self.inside.marker t)) (sym same) c.self.invariant.0)
