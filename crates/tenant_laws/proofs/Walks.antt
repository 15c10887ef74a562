-- What a walk leaves as it was: what each part leaves that is granted.
use Rattle.std.proofs.Common.{◌≡◌, ℕ, List, [], ◌∷◌, Option, Some, None, refl, sym, ap, ◌∙◌}
use Rattle.authorizer.specs.declared.answer.Refusal.{Refusal}
use Rattle.authorizer.specs.Asking.{Rules}
use Rattle.wire_types.specs.declared.topic.Topic.{Topic}
use Rattle.walk.specs.Rule.{PartRule, refusal_of}
use Rattle.walk.specs.Walk.{world_after}
use Rattle.walk.specs.Steps.{world_by, part_world, parts_world, topics_world}
use Rattle.walk.specs.Alike.{AllParts, AllTopics}
use Rattle.walk.proofs.Weaving.{woven}

-- the part is refused, or leaves it
abbrev pub Leaves : {P A W X : Type 0} → PartRule P A W → Rules → (W → X) → List ℕ → P → Type 0
Leaves {W = W} api rules of name p = refusal_of api rules name p ≡ None → (w : W) → of (api.after w name p) ≡ of w

part_leaves : {P A W X : Type 0} (api : PartRule P A W) (rules : Rules) (of : W → X) (w : W) (name : List ℕ) (p : P) → Leaves api rules of name p → of (part_world api rules w name p) ≡ of w
part_leaves api rules of w name p leaves = by_refusal (refusal_of api rules name p) refl where
  by_refusal : (o : Option Refusal) → refusal_of api rules name p ≡ o → of (world_by api o w name p) ≡ of w
  by_refusal None is = leaves is w
  by_refusal (Some r) is = refl

parts_leave : {P A W X : Type 0} (api : PartRule P A W) (rules : Rules) (of : W → X) (w : W) (name : List ℕ) (ps : List P) → AllParts (Leaves api rules of) name ps → of (parts_world api rules w name ps) ≡ of w
parts_leave api rules of w name [] all = refl
parts_leave api rules of w name (p ∷ ps) all = parts_leave api rules of (part_world api rules w name p) name ps all.1 ∙ part_leaves api rules of w name p all.0

topics_leave : {P A W X : Type 0} (api : PartRule P A W) (rules : Rules) (of : W → X) (w : W) (ts : List (Topic P)) → AllTopics (Leaves api rules of) ts → of (topics_world api rules w ts) ≡ of w
topics_leave api rules of w [] all = refl
topics_leave api rules of w (t ∷ ts) all = topics_leave api rules of (parts_world api rules w t.name t.partitions) ts all.1 ∙ parts_leave api rules of w t.name t.partitions all.0

pub walk_leaves : {P A W X : Type 0} (api : PartRule P A W) (rules : Rules) (of : W → X) (w : W) (ts : List (Topic P)) → AllTopics (Leaves api rules of) ts → of (world_after api rules w ts) ≡ of w
walk_leaves api rules of w ts all = ap of (sym (woven api rules w ts).world) ∙ topics_leave api rules of w ts all
