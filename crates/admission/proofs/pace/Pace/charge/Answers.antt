use Rattle.std.proofs.Common.{◌≡◌, ℕ, subst, rules}
use Rattle.admission.specs.Pace.{PaceValue, HasPaid, paid_after, paid_until}
use Rattle.admission.proofs.Counts.{put_in}
use Rattle.admission.proofs.Paid.{kept, has_paid}
use Rattle.admission.proofs.pace.Pace.charge.Goals as goal

pub returns-clause-paid : goal.returns-clause-paid
returns-clause-paid c =
    let table = c.insert.new.self in
    let paid = c.paid_after-paid.result in
    let is : paid ≡ paid_after c.args.self.now.rate (paid_until c.args.self.now c.args.user.now) c.args.now c.args.load = search rules in
    let has : HasPaid (kept c.self.inside.rate c.self.inside.table) (kept c.self.inside.rate table) c.args.user.now paid =
    has_paid c.self.inside.rate c.self.inside.table table c.args.user.now paid
    (put_in c.self.inside.table table c.in_ok-to_owned.field-0 c.args.user.now paid c.in_ok-to_owned.ensures c.in_ok-insert.ensures.updates) in
    subst (λ (p : ℕ). HasPaid c.args.self.now (kept c.self.inside.rate table) c.args.user.now p) is
    (subst (λ (v : PaceValue). HasPaid v (kept c.self.inside.rate table) c.args.user.now paid) c.self.view_is has)
