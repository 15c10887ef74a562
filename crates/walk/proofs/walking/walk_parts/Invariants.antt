use Rattle.std.proofs.Common.{◌≡◌, ◌+◌, ◌≤◌, ◌++◌, drop}
use Rattle.authorizer.specs.Asking.{policy_rules}
use Rattle.walk.specs.Walk.{parts_refused, parts_weight}
use Rattle.walk.specs.Steps.{parts_world, parts_answers, parts_spent}
use Rattle.walk.proofs.walking.walk_parts.Given as goal

-- what is done so far and what is left, and that the budget suffices for it
abbrev pub invariant-loop-part : goal.invariant-loop-part
invariant-loop-part g l = record {
  world : parts_world (g.X.PartApi.rule l.api) (policy_rules l.policy) l.world l.name (drop l.part-index l.parts) ≡ parts_world (g.X.PartApi.rule l.api) (policy_rules l.policy) l.fn.world l.name l.parts;
  answers : l.answers ++ parts_answers (g.X.PartApi.rule l.api) (policy_rules l.policy) l.world l.name (drop l.part-index l.parts) ≡ parts_answers (g.X.PartApi.rule l.api) (policy_rules l.policy) l.fn.world l.name l.parts;
  refusals : l.refusals ++ parts_refused (g.X.PartApi.rule l.api) (policy_rules l.policy) l.name (drop l.part-index l.parts) ≡ l.fn.refusals ++ parts_refused (g.X.PartApi.rule l.api) (policy_rules l.policy) l.name l.parts;
  spent : parts_spent (g.X.PartApi.cuts l.api) (g.X.PartApi.rule l.api) (policy_rules l.policy) l.spent l.name (drop l.part-index l.parts) ≡ parts_spent (g.X.PartApi.cuts l.api) (g.X.PartApi.rule l.api) (policy_rules l.policy) l.fn.spent l.name l.parts;
  budget : (g.X.PartApi.rule l.api).budget l.fn.world + parts_weight (g.X.PartApi.rule l.api) (drop l.part-index l.parts) ≤ parts_weight (g.X.PartApi.rule l.api) l.parts + (g.X.PartApi.rule l.api).budget l.world;
}
