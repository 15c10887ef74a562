use Rattle.std.proofs.Common.{length, sym, ap, subst, ◌∙◌}
use Rattle.record_batch.specs.Batch.{BatchData, IsBatch, batch_of_bytes}
use Rattle.record_batch.proofs.Placed.{placed_is, placed_length}
use Rattle.record_batch.proofs.batch.Batch.len.Goals as goal

pub returns-clause-len : goal.returns-clause-len
returns-clause-len c =
    c.len.ensures ∙ sym (placed_length c.self.inside.placed (batch_of_bytes c.self.inside.marker c.self.inside.bytes) c.self.invariant.0)
    ∙ ap (λ (b : BatchData). length b.bytes) c.self.view_is

pub returns-clause-batch : goal.returns-clause-batch
returns-clause-batch c = subst IsBatch c.self.view_is (placed_is c.self.inside.placed (batch_of_bytes c.self.inside.marker c.self.inside.bytes) c.self.invariant.1 c.self.invariant.0)
