use Rattle.std.proofs.Common.{◌∙◌, ap, sym}
use Rattle.std.specs.Option.{option_copied}
use Rattle.admission.proofs.Counts.{count_found, count_none}
use Rattle.admission.proofs.pace.Pace.paid.Goals as goal

pub returns-in-Some : goal.returns-in-Some
returns-in-Some c = rw (← c.self.view_is) (count_found 0 c.self.inside.table c.as_str.result.now c.args.user.now c.in-Some.paid.now c.as_str.ensures c.in-Some.ensures.value)

pub returns-in-None : goal.returns-in-None
returns-in-None c = rw (← c.self.view_is) (count_none 0 c.self.inside.table c.as_str.result.now c.args.user.now c.as_str.ensures (sym (ap option_copied c.in-None.is) ∙ c.get.ensures.value))
