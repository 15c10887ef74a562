use Rattle.std.proofs.Common.{◌≡◌, ◌≤◌, ◌++◌, drop}
use Rattle.authorizer.specs.Asking.{policy_rules}
use Rattle.walk.specs.Walk.{refusals, topics_weight}
use Rattle.walk.specs.Steps.{topics_world, topics_answers, topics_spent}
use Rattle.walk.proofs.walking.walk_topics.Given as goal

-- what is done so far and what is left, and that the budget suffices for it
abbrev pub invariant-loop-topic : goal.invariant-loop-topic
invariant-loop-topic g l = record {
  world : topics_world (g.X.PartApi.rule l.api) (policy_rules l.policy) l.world (drop l.topic-index l.topics) ≡ topics_world (g.X.PartApi.rule l.api) (policy_rules l.policy) l.fn.world l.topics;
  answers : l.answers ++ topics_answers (g.X.PartApi.rule l.api) (policy_rules l.policy) l.world (drop l.topic-index l.topics) ≡ topics_answers (g.X.PartApi.rule l.api) (policy_rules l.policy) l.fn.world l.topics;
  refusals : l.refusals ++ refusals (g.X.PartApi.rule l.api) (policy_rules l.policy) (drop l.topic-index l.topics) ≡ refusals (g.X.PartApi.rule l.api) (policy_rules l.policy) l.topics;
  spent : topics_spent (g.X.PartApi.cuts l.api) (g.X.PartApi.rule l.api) (policy_rules l.policy) l.spent (drop l.topic-index l.topics) ≡ topics_spent (g.X.PartApi.cuts l.api) (g.X.PartApi.rule l.api) (policy_rules l.policy) 0 l.topics;
  budget : topics_weight (g.X.PartApi.rule l.api) (drop l.topic-index l.topics) ≤ (g.X.PartApi.rule l.api).budget l.world;
}
