-- What each part is answered, at its place.
use Rattle.std.specs.Prelude.{◌≡◌, ℕ, zero, suc, List, [], ◌∷◌, length, take, Option, Some, None}
use Rattle.authorizer.specs.Asking.{Rules}
use Rattle.wire_types.specs.declared.topic.Topic.{Topic}
use Rattle.walk.specs.Rule.{PartRule, refusal_of}
use Rattle.walk.specs.Walk.{allowed_parts, plain_parts_world, world_after, answers}
use Rattle.walk.specs.Steps.{answer_by}

-- the element at a place
abbrev pub element_at : {A : Type 0} → List A → ℕ → Option A
element_at [] i = None
element_at (x ∷ xs) zero = Some x
element_at (x ∷ xs) (suc i) = element_at xs i

-- the world when the part at place `j` of the topic at place `i` has its turn: the allowed parts
-- before it were served
abbrev pub world_before : {P A W : Type 0} → PartRule P A W → Rules → W → List (Topic P) → ℕ
    → Topic P → ℕ → W
world_before api rules w ts i t j =
    plain_parts_world api (world_after api rules w (take i ts)) t.name
    (allowed_parts api rules t.name (take j t.partitions))

-- A topic's answer has its name and an answer for each of its parts: the code of the refusal where
-- the part is refused, else the plain answer in the world that the allowed parts before it leave.
pub record IsAnswered {P A W : Type 0} (api : PartRule P A W) (rules : Rules) (w : W)
    (ts : List (Topic P)) (i : ℕ) (t : Topic P) (a : Topic A) : Type 0 where
  pub name : a.name ≡ t.name
  pub number : length a.partitions ≡ length t.partitions
  pub places : (j : ℕ) (p : P) → element_at t.partitions j ≡ Some p
      → element_at a.partitions j
      ≡ Some
      (answer_by api (refusal_of api rules t.name p) (world_before api rules w ts i t j) t.name
      p)

-- each topic is answered at its place, and nothing else is
pub record AnswersEachPart (P A W : Type 0) : Type 0 where
  pub number : (api : PartRule P A W) (rules : Rules) (w : W) (ts : List (Topic P))
      → length (answers api rules w ts) ≡ length ts
  pub places : (api : PartRule P A W) (rules : Rules) (w : W) (ts : List (Topic P)) (i : ℕ)
      (t : Topic P)
      → element_at ts i ≡ Some t
      → ((a : Topic A)
      × ((element_at (answers api rules w ts) i ≡ Some a) × IsAnswered api rules w ts i t a))
