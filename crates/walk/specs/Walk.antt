-- The walk over the partitions of topics: the plain answers to the allowed parts of a request, with
-- those of the refused parts put back at their places.
use Rattle.std.specs.Prelude.{ℕ, ◌+◌, List, [], ◌∷◌, ◌++◌, map, filter, Option}
use Rattle.std.specs.Option.{option_map}
use Rattle.std.specs.List.{filter_map, flat_map}
use Rattle.acl_binding.specs.declared.question.Question.{Question}
use Rattle.authorizer.specs.declared.answer.Refusal.{Refusal}
use Rattle.authorizer.specs.Asking.{Rules}
use Rattle.wire_types.specs.declared.topic.Topic.{Topic}
use Rattle.walk.specs.Codes.{refusal_code}
use Rattle.walk.specs.Weave.{weave}
use Rattle.walk.specs.Rule.{PartRule, refusal_of, is_allowed}

-- ---- the request with its refused parts taken out; each topic keeps its place

abbrev pub allowed_parts : {P A W : Type 0} → PartRule P A W → Rules → List ℕ → List P → List P
allowed_parts api rules name ps = filter (is_allowed api rules name) ps

abbrev pub allowed_topics : {P A W : Type 0} → PartRule P A W → Rules → List (Topic P)
    → List (Topic P)
allowed_topics api rules [] = []
allowed_topics api rules (t ∷ ts) =
    record { name = t.name; partitions = allowed_parts api rules t.name t.partitions }
    ∷ allowed_topics api rules ts

-- ---- the plain broker, which knows no permission: one part after the other, one topic after the
-- other

abbrev pub plain_parts_world : {P A W : Type 0} → PartRule P A W → W → List ℕ → List P → W
plain_parts_world api w name [] = w
plain_parts_world api w name (p ∷ ps) = plain_parts_world api (api.after w name p) name ps

abbrev pub plain_parts : {P A W : Type 0} → PartRule P A W → W → List ℕ → List P → List A
plain_parts api w name [] = []
plain_parts api w name (p ∷ ps) = api.plain w name p ∷ plain_parts api (api.after w name p) name ps

abbrev pub plain_world : {P A W : Type 0} → PartRule P A W → W → List (Topic P) → W
plain_world api w [] = w
plain_world api w (t ∷ ts) = plain_world api (plain_parts_world api w t.name t.partitions) ts

abbrev pub plain_topics : {P A W : Type 0} → PartRule P A W → W → List (Topic P) → List (Topic A)
plain_topics api w [] = []
plain_topics api w (t ∷ ts) =
    record { name = t.name; partitions = plain_parts api w t.name t.partitions }
    ∷ plain_topics api (plain_parts_world api w t.name t.partitions) ts

-- ---- refused parts, put back at their places

-- what stands in the answer for a part, if it is refused
abbrev pub refused_part : {P A W : Type 0} → PartRule P A W → Rules → List ℕ → P → Option A
refused_part api rules name p =
    option_map (λ r. api.refused (refusal_code r) name p) (refusal_of api rules name p)

abbrev pub weave_parts : {P A W : Type 0} → PartRule P A W → Rules → List ℕ → List P → List A
    → List A
weave_parts api rules name ps answers = weave (map (refused_part api rules name) ps) answers

abbrev pub weave_topics : {P A W : Type 0} → PartRule P A W → Rules → List (Topic P)
    → List (Topic A) → List (Topic A)
weave_topics api rules [] answers = answers
weave_topics api rules (t ∷ ts) [] = []
weave_topics api rules (t ∷ ts) (a ∷ answers) =
    record { name = a.name; partitions = weave_parts api rules t.name t.partitions a.partitions }
    ∷ weave_topics api rules ts answers

-- ---- what a request comes to

-- the world that the allowed parts leave
abbrev pub world_after : {P A W : Type 0} → PartRule P A W → Rules → W → List (Topic P) → W
world_after api rules w ts = plain_world api w (allowed_topics api rules ts)

-- the plain answers to the allowed parts, with those of the refused parts at their places
abbrev pub answers : {P A W : Type 0} → PartRule P A W → Rules → W → List (Topic P) → List (Topic A)
answers api rules w ts =
    weave_topics api rules ts (plain_topics api w (allowed_topics api rules ts))

abbrev pub parts_refused : {P A W : Type 0} → PartRule P A W → Rules → List ℕ → List P
    → List Refusal
parts_refused api rules name ps = filter_map (refusal_of api rules name) ps

-- one refusal for each refused part, in order
abbrev pub refusals : {P A W : Type 0} → PartRule P A W → Rules → List (Topic P) → List Refusal
refusals api rules [] = []
refusals api rules (t ∷ ts) = parts_refused api rules t.name t.partitions ++ refusals api rules ts

-- ---- what each part asks, in order

abbrev pub asked_in : {P A W : Type 0} → PartRule P A W → List (Topic P) → List (List Question)
asked_in {P} api ts = flat_map (λ (t : Topic P). map (api.questions t.name) t.partitions) ts

-- ---- how much a request may add to the world

abbrev pub parts_weight : {P A W : Type 0} → PartRule P A W → List P → ℕ
parts_weight api [] = 0
parts_weight api (p ∷ ps) = api.weight p + parts_weight api ps

abbrev pub topics_weight : {P A W : Type 0} → PartRule P A W → List (Topic P) → ℕ
topics_weight api [] = 0
topics_weight api (t ∷ ts) = parts_weight api t.partitions + topics_weight api ts
