use Rattle.deadlines.specs.Limits.{nanos_left_by}
use Rattle.deadlines.proofs.Least.{least, none}
use Rattle.deadlines.proofs.limits.Times.bound.Goals as goal

pub returns-clause-some : goal.returns-clause-some
returns-clause-some c = least (nanos_left_by c.args.self.now c.args.known c.args.unheard c.args.begun c.args.now) _ _ _ _ _ c.idle_bound.ensures (c.login_bound.ensures c.args.begun) (c.frame_bound.ensures c.args.known c.args.unheard) c.lesser-least.ensures c.lesser.ensures

pub returns-clause-none : goal.returns-clause-none
returns-clause-none c = none (nanos_left_by c.args.self.now c.args.known c.args.unheard c.args.begun c.args.now) _ _ _ _ _ c.idle_bound.ensures (c.login_bound.ensures c.args.begun) (c.frame_bound.ensures c.args.known c.args.unheard) c.lesser-least.ensures c.lesser.ensures
