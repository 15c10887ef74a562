use Rattle.std.proofs.Common.{◌≡◌, ℕ, ℤ, List, ◌++◌, drop, Option, refl, sym, ap, subst, ◌∙◌, to_z, of_z, rules}
use Rattle.std.specs.Prelude.{FitsSigned, IfSome}
use Rattle.std.specs.Int.{w64}
use Rattle.std.proofs.lemmas.Int.{to_z-of_z}
use Rattle.record_batch.specs.Batch.{BatchData, batch_of_bytes, batch_placed, bytes_with_offset}
use Rattle.record_batch.proofs.Moved.{gathered}
use Rattle.record_batch.proofs.batch.Batch.piece.Goals as goal

pub returns-in-Some : goal.returns-in-Some
returns-in-Some c =
    let cloned : c.in_ok-clone.field-0 ≡ c.self.inside.bytes = search rules in
    let whole : c.of-whole.result ≡ c.self.inside.bytes = c.of-whole.ensures ∙ cloned in
    let offset = c.in-Some.offset in
    let fits : FitsSigned w64 offset = subst (λ (p : Option ℤ). IfSome p (FitsSigned w64)) c.in-Some.is c.self.invariant.1 in
    let put : c.front_at.result ++ drop 16 c.of-whole.result ≡ bytes_with_offset offset c.of-whole.result =
    gathered (to_z w64 (of_z w64 offset)) c.of-whole.result _ _ _ c.front.ensures c.front_at.ensures refl
    ∙ ap (λ (z : ℤ). bytes_with_offset z c.of-whole.result) (to_z-of_z w64 offset fits) in
    let all : c.args.self.now.bytes ≡ c.front_at.result ++ drop 16 c.of-whole.result =
    sym (ap (λ (b : BatchData). b.bytes) c.self.view_is)
    ∙ ap (λ (p : Option ℤ). (batch_placed p (batch_of_bytes c.self.inside.marker c.self.inside.bytes)).bytes) c.in-Some.is
    ∙ ap (bytes_with_offset offset) (sym whole)
    ∙ sym put in
    rw all c.with_front.ensures
