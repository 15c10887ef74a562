use Rattle.std.proofs.Common.{ap, ◌∙◌}
use Rattle.authorizer.specs.Asking.{policy_rules}
use Rattle.authorizer.specs.Tally.{count_after}
use Rattle.walk.specs.declared.part.Part.{Part}
use Rattle.walk.specs.Steps.{spent_in}
use Rattle.walk.proofs.Endings.{done_told}
use Rattle.walk.proofs.walking.answer_part.Goals as goal

pub returns-clause-told : goal.returns-clause-told
returns-clause-told g c =
    done_told (g.X.PartApi.cuts c.args.api.now) (g.X.PartApi.rule c.args.api.now) (policy_rules c.args.policy.now) c.args.world.now c.args.name.now c.args.part.now c.in_ok-answer.field-0 c.counted.result c.in_ok-answer.ensures.done c.counted.ensures.refusal

pub returns-clause-world : goal.returns-clause-world
returns-clause-world g c = c.in_ok-answer.ensures.world

pub returns-clause-spent : goal.returns-clause-spent
returns-clause-spent g c = c.counted.ensures.spent ∙ ap (λ (d : Part g.row.A.Denot). count_after c.args.spent.now (spent_in d.ending)) c.in_ok-answer.ensures.done
