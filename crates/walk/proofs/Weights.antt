-- What a part takes of the world's budget, and apis whose parts take nothing.
use Rattle.std.proofs.Common.{ℕ, ◌+◌, ◌≤◌, List, [], ◌∷◌, Option, Some, None, subst, arith}
use Rattle.authorizer.specs.declared.answer.Refusal.{Refusal}
use Rattle.authorizer.specs.Asking.{Rules}
use Rattle.wire_types.specs.declared.topic.Topic.{Topic}
use Rattle.walk.specs.Rule.{PartRule, refusal_of}
use Rattle.walk.specs.Walk.{world_after, parts_weight, topics_weight}
use Rattle.walk.specs.Steps.{world_by, part_world, parts_world, topics_world}
use Rattle.walk.proofs.Weaving.{woven}

pub part_takes : {P A W : Type 0} (api : PartRule P A W) (rules : Rules) (w : W) (name : List ℕ) (p : P) → api.budget w ≤ api.weight p + api.budget (part_world api rules w name p)
part_takes api rules w name p = by_refusal (refusal_of api rules name p) where
  by_refusal : (r : Option Refusal) → api.budget w ≤ api.weight p + api.budget (world_by api r w name p)
  by_refusal (Some r) = omega arith
  by_refusal None = api.takes w name p

parts_weightless : {P A W : Type 0} (api : PartRule P A W) (ps : List P) → ((p : P) → api.weight p ≤ 0) → parts_weight api ps ≤ 0
parts_weightless api [] none = omega arith
parts_weightless api (p ∷ ps) none = omega (arith, none p, parts_weightless api ps none)

pub weightless : {P A W : Type 0} (api : PartRule P A W) (budget : ℕ) (ts : List (Topic P)) → ((p : P) → api.weight p ≤ 0) → topics_weight api ts ≤ budget
weightless api budget [] none = omega arith
weightless api budget (t ∷ ts) none = omega (arith, parts_weightless api t.partitions none, weightless api 0 ts none)

-- ---- what a request takes of it

parts_take : {P A W : Type 0} (api : PartRule P A W) (rules : Rules) (w : W) (name : List ℕ) (ps : List P) → api.budget w ≤ parts_weight api ps + api.budget (parts_world api rules w name ps)
parts_take api rules w name [] = omega arith
parts_take api rules w name (p ∷ ps) = omega (arith, part_takes api rules w name p, parts_take api rules (part_world api rules w name p) name ps)

topics_take : {P A W : Type 0} (api : PartRule P A W) (rules : Rules) (w : W) (ts : List (Topic P)) → api.budget w ≤ topics_weight api ts + api.budget (topics_world api rules w ts)
topics_take api rules w [] = omega arith
topics_take api rules w (t ∷ ts) = omega (arith, parts_take api rules w t.name t.partitions, topics_take api rules (parts_world api rules w t.name t.partitions) ts)

pub walk_takes : {P A W : Type 0} (api : PartRule P A W) (rules : Rules) (w : W) (ts : List (Topic P)) → api.budget w ≤ topics_weight api ts + api.budget (world_after api rules w ts)
walk_takes api rules w ts = subst (λ v. api.budget w ≤ topics_weight api ts + api.budget v) (woven api rules w ts).world (topics_take api rules w ts)
