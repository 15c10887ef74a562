use Rattle.std.proofs.Common.{◌∙◌, ap, sym}
use Rattle.std.specs.Option.{option_copied}
use Rattle.admission.proofs.Counts.{count_found, count_none, found_within}
use Rattle.admission.proofs.quota.Quota.connections.Goals as goal

pub returns-in-Some-clause-is : goal.returns-in-Some-clause-is
returns-in-Some-clause-is c = rw (← c.self.view_is) (count_found c.self.inside.most c.self.inside.table c.as_str.result.now c.args.holder.now c.in-Some.count.now c.as_str.ensures c.in-Some.ensures.value)

pub returns-in-Some-clause-within : goal.returns-in-Some-clause-within
returns-in-Some-clause-within c = rw (← c.self.view_is) (found_within c.self.inside.most c.self.inside.table c.as_str.result.now c.in-Some.count.now c.self.invariant c.in-Some.ensures.value)

pub returns-in-None-clause-is : goal.returns-in-None-clause-is
returns-in-None-clause-is c = rw (← c.self.view_is) (count_none c.self.inside.most c.self.inside.table c.as_str.result.now c.args.holder.now c.as_str.ensures (sym (ap option_copied c.in-None.is) ∙ c.get.ensures.value))
