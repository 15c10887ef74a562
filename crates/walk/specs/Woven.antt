-- The two forms of the walk are one; what a request without a refusal does and tells.
use Rattle.std.specs.Prelude.{◌≡◌, ℕ, Bool, true, false, ◌||◌, List, [], ◌∷◌, None}
use Rattle.acl_binding.specs.declared.question.Question.{Question}
use Rattle.authorizer.specs.Asking.{Rules, question_refusal}
use Rattle.wire_types.specs.declared.topic.Topic.{Topic}
use Rattle.walk.specs.Rule.{PartRule}
use Rattle.walk.specs.Walk.{plain_world, plain_topics, world_after, answers, refusals}
use Rattle.walk.specs.Steps.{topics_world, topics_answers}

-- one part after the other comes to the plain walk of the allowed parts with the refused ones put
-- back
pub record IsWoven {P A W : Type 0} (api : PartRule P A W) (rules : Rules) (w : W)
    (ts : List (Topic P)) : Type 0 where
  pub world : topics_world api rules w ts ≡ world_after api rules w ts
  pub answers : topics_answers api rules w ts ≡ answers api rules w ts

abbrev pub OneWalk : (P A W : Type 0) → Type 0
OneWalk P A W =
    (api : PartRule P A W) (rules : Rules) (w : W) (ts : List (Topic P)) → IsWoven api rules w ts

-- ---- a request without a refusal

-- all of its parts are served
pub record IsPlain {P A W : Type 0} (api : PartRule P A W) (rules : Rules) (w : W)
    (ts : List (Topic P)) : Type 0 where
  pub world : topics_world api rules w ts ≡ plain_world api w ts
  pub answers : topics_answers api rules w ts ≡ plain_topics api w ts

abbrev pub has_any : {A : Type 0} → List A → Bool
has_any [] = false
has_any (x ∷ xs) = true

-- some partition is asked for
abbrev pub has_part : {P : Type 0} → List (Topic P) → Bool
has_part [] = false
has_part (t ∷ ts) = has_any t.partitions || has_part ts

-- each part asks this question first
abbrev pub AsksFirst : {P A W : Type 0} → PartRule P A W → Question → Type 0
AsksFirst {P} api q =
    (name : List ℕ) (p : P) → (rest : List Question) × (api.questions name p ≡ q ∷ rest)

-- where no part of a request with a part was refused, what each part asks first is granted
abbrev pub FirstIsGranted : (P A W : Type 0) → Type 0
FirstIsGranted P A W =
    (api : PartRule P A W) (rules : Rules) (q : Question) (ts : List (Topic P)) → AsksFirst api q
    → has_part ts ≡ true → refusals api rules ts ≡ [] → question_refusal rules q ≡ None
