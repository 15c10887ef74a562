use Rattle.session_workers.specs.Ends.{IsOfSteps}
use Rattle.session_workers.proofs.Keeping.{are_ends}
use Rattle.session_workers.proofs.workers.keep_and_join.Goals as goal

pub returns-in-Ok-push : goal.returns-in-Ok-push
returns-in-Ok-push g c =
    are_ends (IsOfSteps g.K.Steps.gives g.K.Steps.told g.K.Steps.halts (g.K.Steps.state c.args.steps)) c.in-Ok.field-0.kept.items c.push.new.self.items c.keep-keeper.result c.args.seat c.in-Ok-push.ensures.items c.in-Ok.field-0.risen c.in-Ok.field-0.asked c.requires c.keep-keeper.ensures.risen c.keep-keeper.ensures.ran
