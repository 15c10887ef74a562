use Rattle.std.proofs.Common.{◌≤◌, ◌+◌, ◌∙◌, Some, ap, arith, sym}
use Rattle.admission.specs.Quota.{QuotaValue, connections}
use Rattle.admission.proofs.Counts.{within_seen, kept_same, kept_after, put_in, one_more}
use Rattle.admission.proofs.quota.Quota.enter.Goals as goal

pub returns-then-count-self-clause-within : goal.returns-then-count-self-clause-within
returns-then-count-self-clause-within c = rw (← c.self.view_is) (within_seen c.self.inside.most c.self.inside.table c.self.invariant)

pub returns-in_err-to_owned-clause-within : goal.returns-in_err-to_owned-clause-within
returns-in_err-to_owned-clause-within c = within_seen c.self.inside.most c.self.inside.table c.self.invariant

pub returns-in_err-insert-clause-within : goal.returns-in_err-insert-clause-within
returns-in_err-insert-clause-within c = within_seen c.self.inside.most c.insert.new.self (kept_same c.self.inside.most c.self.inside.table c.insert.new.self c.in_err-insert.ensures.err c.self.invariant)

pub invariant_of-self-2 : goal.invariant_of-self-2
invariant_of-self-2 c =
    let few : c.connections-count.result + 1 ≤ c.self.inside.most = omega (arith, ap (λ (h : QuotaValue). h.most) c.self.view_is, c.connections-count.ensures.within) in
    kept_after c.self.inside.most c.self.inside.table c.insert.new.self c.args.holder.now (Some (c.connections-count.result + 1))
    (put_in c.self.inside.table c.insert.new.self c.in_ok-to_owned.field-0 c.args.holder.now (c.connections-count.result + 1) c.in_ok-to_owned.ensures c.in_ok-insert.ensures.updates) few (omega arith) c.self.invariant

pub returns-clause-entered : goal.returns-clause-entered
returns-clause-entered c = λ _. rw (← c.self.view_is)
    (one_more c.self.inside.most c.self.inside.table c.insert.new.self c.args.holder.now (Some (c.connections-count.result + 1))
    (put_in c.self.inside.table c.insert.new.self c.in_ok-to_owned.field-0 c.args.holder.now (c.connections-count.result + 1) c.in_ok-to_owned.ensures c.in_ok-insert.ensures.updates)
    (ap (λ n. n + 1) (c.connections-count.ensures.is ∙ ap (λ (h : QuotaValue). connections h c.args.holder.now) (sym c.self.view_is))))

pub returns-clause-within : goal.returns-clause-within
returns-clause-within c = within_seen c.self.inside.most c.insert.new.self (invariant_of-self-2 c)
