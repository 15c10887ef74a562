use Rattle.std.proofs.Common.{sym, ◌∙◌}
use Rattle.record_batch.proofs.AnySize.{fault_kept, too_large, no_fault, headless}
use Rattle.record_batch.proofs.sent.SentBatch.batch.Goals as goal

pub returns-in-Some-clause-fault : goal.returns-in-Some-clause-fault
returns-in-Some-clause-fault c = rw (← c.self.view_is) (sym (fault_kept c.args.max c.self.inside.bytes c.in-Some.fault (sym c.self.invariant ∙ c.in-Some.is)))

pub returns-then-len-max-clause-fault : goal.returns-then-len-max-clause-fault
returns-then-len-max-clause-fault c = rw (← c.self.view_is) (sym (too_large c.args.max c.self.inside.bytes c.len.result (sym c.self.invariant ∙ c.in_default.is) c.len.ensures c.if-len-max.true))

pub unreachable-requires : goal.unreachable-requires
unreachable-requires c = headless c.self.inside.bytes c.as_slice.result.now c.in-None.ensures.none.0 c.as_slice.ensures c.in-None.ensures.none.1 (sym c.self.invariant ∙ c.in_default.is)

pub returns-clause-fault : goal.returns-clause-fault
returns-clause-fault c = rw (← c.self.view_is) (sym (no_fault c.args.max c.self.inside.bytes c.len.result (sym c.self.invariant ∙ c.in_default.is) c.len.ensures c.if-len-max.false))
