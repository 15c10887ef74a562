use Rattle.std.proofs.Common.{◌≡◌, ◌+◌, ◌∷◌, drop}
use Rattle.authorizer.specs.Asking.{policy_rules}
use Rattle.walk.proofs.Further.{left_at}
use Rattle.walk.proofs.PartByPart.{next_world, next_answers, next_refusals, next_spent, next_budget}
use Rattle.walk.proofs.walking.walk_parts.Goals as goal

pub loop-part-preserved : goal.loop-part-preserved
loop-part-preserved g c =
    let api = g.X.PartApi.rule c.args.api.now in
    let rules = policy_rules c.args.policy.now in
    let name = c.args.name.now in
    let before = c.loop-part.invariant in
    let rest = drop (c.loop-part.part-index + 1) c.args.parts.now in
    let left : drop c.loop-part.part-index c.args.parts.now ≡ c.part-item.result ∷ rest = left_at _ _ _ c.loop-part-test.true c.part-item.is in
    let told = c.in_ok-told.ensures in
    record {
      world = next_world api rules _ _ _ name _ _ rest left told.world before.world;
      answers = next_answers api rules _ _ name _ _ rest _ _ _ _ left told.world told.told c.in_ok-push.ensures.ok before.answers;
      refusals = next_refusals api rules _ name _ _ rest _ _ _ _ left told.told c.in_ok-push_some.ensures.ok before.refusals;
      spent = next_spent (g.X.PartApi.cuts c.args.api.now) api rules name _ _ rest _ _ _ left told.spent before.spent;
      budget = next_budget api rules _ _ name _ _ rest _ _ left told.world before.budget;
    }
