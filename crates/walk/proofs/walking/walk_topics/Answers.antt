use Rattle.std.proofs.Common.{◌≡◌, ◌+◌, ◌∷◌, drop}
use Rattle.authorizer.specs.Asking.{policy_rules}
use Rattle.walk.proofs.Further.{left_at, world_further, answers_further, refusals_further, spent_further, budget_further}
use Rattle.walk.proofs.walking.walk_topics.Goals as goal

pub loop-topic-preserved : goal.loop-topic-preserved
loop-topic-preserved g c =
    let api = g.X.PartApi.rule c.args.api.now in
    let rules = policy_rules c.args.policy.now in
    let before = c.loop-topic.invariant in
    let rest = drop (c.loop-topic.topic-index + 1) c.args.topics.now in
    let left : drop c.loop-topic.topic-index c.args.topics.now ≡ c.topic-item.result ∷ rest = left_at _ _ _ c.loop-topic-test.true c.topic-item.is in
    let here = c.as_slice-parts.ensures in
    let walked = c.in_ok-partitions.ensures in
    record {
      world = world_further api rules _ _ _ _ _ rest _ left here walked.world before.world;
      answers = answers_further api rules _ _ _ _ rest _ _ _ _ _ _ left here walked.world (search (c.in_ok-clone.ensures.cases)) walked.answers c.in_ok-push.ensures.ok before.answers;
      refusals = refusals_further api rules _ _ rest _ _ _ _ left here walked.refusals before.refusals;
      spent = spent_further (g.X.PartApi.cuts c.args.api.now) api rules _ _ rest _ _ _ _ left here walked.spent before.spent;
      budget = budget_further api _ _ rest _ _ _ left here walked.budget before.budget;
    }
