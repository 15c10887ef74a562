use Rattle.std.proofs.Common.{◌≤◌, ◌-◌, ◌∙◌, Some, None, ap, arith, sym}
use Rattle.std.specs.Option.{option_copied_mut}
use Rattle.admission.specs.Quota.{QuotaValue, connections}
use Rattle.admission.proofs.Counts.{kept_after, put_at, one_less, nothing_out, found_some, count_none}
use Rattle.admission.proofs.quota.Quota.leave.Goals as goal

pub invariant_of-self : goal.invariant_of-self
invariant_of-self c =
    let few : c.connections-count.result - 1 ≤ c.self.inside.most = omega (arith, ap (λ (h : QuotaValue). h.most) c.self.view_is, c.connections-count.ensures.within) in
    kept_after c.self.inside.most c.self.inside.table (c.get_mut.follows.lender (c.connections-count.result - 1)) c.args.holder.now (Some (c.connections-count.result - 1))
    (put_at c.self.inside.table (c.get_mut.follows.lender (c.connections-count.result - 1)) c.as_str.result.now c.args.holder.now (Some (c.connections-count.result - 1)) c.as_str.ensures ((c.get_mut.follows.holds (c.connections-count.result - 1)).3 (found_some _ c.in-Some.entry.now c.in-Some.ensures.value)))
    few (omega arith) c.self.invariant

pub invariant_of-self-else-count-gt1 : goal.invariant_of-self-else-count-gt1
invariant_of-self-else-count-gt1 c =
    kept_after c.self.inside.most c.self.inside.table c.swap_remove.new.self c.args.holder.now None
    (put_at c.self.inside.table c.swap_remove.new.self c.as_str-else-count-gt1.result.now c.args.holder.now None c.as_str-else-count-gt1.ensures c.swap_remove.ensures.updates)
    (omega arith) tt c.self.invariant

pub returns-in-Some-clause-left : goal.returns-in-Some-clause-left
returns-in-Some-clause-left c = λ _. rw (← c.self.view_is)
    (one_less c.self.inside.most c.self.inside.table (c.get_mut.follows.lender (c.connections-count.result - 1)) c.args.holder.now (Some (c.connections-count.result - 1))
    (put_at c.self.inside.table (c.get_mut.follows.lender (c.connections-count.result - 1)) c.as_str.result.now c.args.holder.now (Some (c.connections-count.result - 1)) c.as_str.ensures ((c.get_mut.follows.holds (c.connections-count.result - 1)).3 (found_some _ c.in-Some.entry.now c.in-Some.ensures.value)))
    (omega (arith, c.connections-count.ensures.is, (ap (λ (h : QuotaValue). connections h c.args.holder.now) c.self.view_is))))

pub returns-in_default-clause-left : goal.returns-in_default-clause-left
returns-in_default-clause-left c = λ _. absurd (omega (
  arith,
  c.connections-count.ensures.is,
  (ap (λ (h : QuotaValue). connections h c.args.holder.now) c.self.view_is),
  count_none c.self.inside.most c.self.inside.table c.as_str.result.now c.args.holder.now c.as_str.ensures (sym (ap option_copied_mut c.in_default.is) ∙ c.get_mut.ensures.value),
))

pub returns-else-count-gt1-clause-left : goal.returns-else-count-gt1-clause-left
returns-else-count-gt1-clause-left c = λ some. rw (← c.self.view_is)
    (one_less c.self.inside.most c.self.inside.table c.swap_remove.new.self c.args.holder.now None
    (put_at c.self.inside.table c.swap_remove.new.self c.as_str-else-count-gt1.result.now c.args.holder.now None c.as_str-else-count-gt1.ensures c.swap_remove.ensures.updates)
    (omega (arith, some, c.connections-count.ensures.is, (ap (λ (h : QuotaValue). connections h c.args.holder.now) c.self.view_is))))

pub returns-else-count-gt1-clause-none : goal.returns-else-count-gt1-clause-none
returns-else-count-gt1-clause-none c = λ none.
    nothing_out c.self.inside.most c.self.inside.table c.swap_remove.new.self c.as_str-else-count-gt1.result.now c.args.holder.now c.swap_remove.result c.as_str-else-count-gt1.ensures c.swap_remove.ensures.value c.self.invariant ((ap (λ (h : QuotaValue). connections h c.args.holder.now) c.self.view_is) ∙ none) c.swap_remove.ensures.unchanged
    ∙ c.self.view_is
