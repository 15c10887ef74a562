-- One part after the other comes to the plain walk of the allowed parts with the refused ones put back at their places.
use Rattle.std.proofs.Common.{◌≡◌, ℕ, List, [], ◌∷◌, ◌++◌, map, Option, Some, None, cond, refl, ap, ◌∙◌}
use Rattle.std.specs.Prelude.{is_none}
use Rattle.std.specs.Option.{option_map}
use Rattle.std.specs.List.{cons_option}
use Rattle.authorizer.specs.declared.answer.Refusal.{Refusal}
use Rattle.authorizer.specs.Asking.{Rules}
use Rattle.wire_types.specs.declared.topic.Topic.{Topic}
use Rattle.walk.specs.Codes.{refusal_code}
use Rattle.walk.specs.Weave.{weave}
use Rattle.walk.specs.Rule.{PartRule, refusal_of}
use Rattle.walk.specs.Walk.{allowed_parts, allowed_topics, plain_parts_world, plain_parts, plain_world, plain_topics, refused_part, weave_parts, weave_topics, parts_refused, refusals}
use Rattle.walk.specs.Steps.{answer_by, world_by, parts_world, parts_answers, topics_world, topics_answers}
use Rattle.walk.specs.Woven.{IsWoven, IsPlain}

-- ---- a topic's parts

pub parts_world_woven : {P A W : Type 0} (api : PartRule P A W) (rules : Rules) (w : W) (name : List ℕ) (ps : List P) → parts_world api rules w name ps ≡ plain_parts_world api w name (allowed_parts api rules name ps)
parts_world_woven api rules w name [] = refl
parts_world_woven {W = W} api rules w name (p ∷ ps) = by_refusal (λ v. parts_world_woven api rules v name ps) (refusal_of api rules name p) where
  by_refusal : ((v : W) → parts_world api rules v name ps ≡ plain_parts_world api v name (allowed_parts api rules name ps)) → (r : Option Refusal) → parts_world api rules (world_by api r w name p) name ps ≡ plain_parts_world api w name (cond (is_none r) (p ∷ allowed_parts api rules name ps) (allowed_parts api rules name ps))
  by_refusal rest (Some r) = rest w
  by_refusal rest None = rest (api.after w name p)

pub parts_answers_woven : {P A W : Type 0} (api : PartRule P A W) (rules : Rules) (w : W) (name : List ℕ) (ps : List P) → parts_answers api rules w name ps ≡ weave_parts api rules name ps (plain_parts api w name (allowed_parts api rules name ps))
parts_answers_woven api rules w name [] = refl
parts_answers_woven {W = W} api rules w name (p ∷ ps) = by_refusal (λ v. parts_answers_woven api rules v name ps) (refusal_of api rules name p) where
  by_refusal : ((v : W) → parts_answers api rules v name ps ≡ weave_parts api rules name ps (plain_parts api v name (allowed_parts api rules name ps))) → (r : Option Refusal) → answer_by api r w name p ∷ parts_answers api rules (world_by api r w name p) name ps ≡ weave (option_map (λ x. api.refused (refusal_code x) name p) r ∷ map (refused_part api rules name) ps) (plain_parts api w name (cond (is_none r) (p ∷ allowed_parts api rules name ps) (allowed_parts api rules name ps)))
  by_refusal rest (Some r) = ap (λ l. api.refused (refusal_code r) name p ∷ l) (rest w)
  by_refusal rest None = ap (λ l. api.plain w name p ∷ l) (rest (api.after w name p))

-- ---- the topics

topics_world_woven : {P A W : Type 0} (api : PartRule P A W) (rules : Rules) (w : W) (ts : List (Topic P)) → topics_world api rules w ts ≡ plain_world api w (allowed_topics api rules ts)
topics_world_woven api rules w [] = refl
topics_world_woven api rules w (t ∷ ts) =
    topics_world_woven api rules (parts_world api rules w t.name t.partitions) ts
    ∙ ap (λ v. plain_world api v (allowed_topics api rules ts)) (parts_world_woven api rules w t.name t.partitions)

topics_answers_woven : {P A W : Type 0} (api : PartRule P A W) (rules : Rules) (w : W) (ts : List (Topic P)) → topics_answers api rules w ts ≡ weave_topics api rules ts (plain_topics api w (allowed_topics api rules ts))
topics_answers_woven api rules w [] = refl
topics_answers_woven {P} {A} {W} api rules w (t ∷ ts) =
    ap (λ l. record { name = t.name; partitions = parts_answers api rules w t.name t.partitions } ∷ l) (topics_answers_woven api rules (parts_world api rules w t.name t.partitions) ts)
    ∙ ap (λ (l : List A). record { name = t.name; partitions = l } ∷ weave_topics api rules ts (plain_topics api (parts_world api rules w t.name t.partitions) (allowed_topics api rules ts))) (parts_answers_woven api rules w t.name t.partitions)
    ∙ ap (λ (v : W). record { name = t.name; partitions = weave_parts api rules t.name t.partitions (plain_parts api w t.name (allowed_parts api rules t.name t.partitions)) } ∷ weave_topics api rules ts (plain_topics api v (allowed_topics api rules ts))) (parts_world_woven api rules w t.name t.partitions)

pub woven : {P A W : Type 0} (api : PartRule P A W) (rules : Rules) (w : W) (ts : List (Topic P)) → IsWoven api rules w ts
woven api rules w ts = record {
  world = topics_world_woven api rules w ts;
  answers = topics_answers_woven api rules w ts;
}

-- ---- a request without a refusal is plain

-- nothing stands in either of two lists that make no list
front_empty : {X : Type 0} (xs ys : List X) → xs ++ ys ≡ [] → xs ≡ []
front_empty [] ys h = refl
front_empty (x ∷ xs) ys h = absurd (let clash : x ∷ (xs ++ ys) ≡ [] = h in cc)

back_empty : {X : Type 0} (xs ys : List X) → xs ++ ys ≡ [] → ys ≡ []
back_empty [] ys h = h
back_empty (x ∷ xs) ys h = absurd (let clash : x ∷ (xs ++ ys) ≡ [] = h in cc)

granted_parts_world : {P A W : Type 0} (api : PartRule P A W) (rules : Rules) (w : W) (name : List ℕ) (ps : List P) → parts_refused api rules name ps ≡ [] → parts_world api rules w name ps ≡ plain_parts_world api w name ps
granted_parts_world api rules w name [] none = refl
granted_parts_world {W = W} api rules w name (p ∷ ps) none = by_refusal (λ v. granted_parts_world api rules v name ps) (refusal_of api rules name p) none where
  by_refusal : ((v : W) → parts_refused api rules name ps ≡ [] → parts_world api rules v name ps ≡ plain_parts_world api v name ps) → (r : Option Refusal) → cons_option r (parts_refused api rules name ps) ≡ [] → parts_world api rules (world_by api r w name p) name ps ≡ plain_parts_world api (api.after w name p) name ps
  by_refusal rest (Some r) h = absurd (let clash : r ∷ parts_refused api rules name ps ≡ [] = h in cc)
  by_refusal rest None h = rest (api.after w name p) h

granted_parts_answers : {P A W : Type 0} (api : PartRule P A W) (rules : Rules) (w : W) (name : List ℕ) (ps : List P) → parts_refused api rules name ps ≡ [] → parts_answers api rules w name ps ≡ plain_parts api w name ps
granted_parts_answers api rules w name [] none = refl
granted_parts_answers {W = W} api rules w name (p ∷ ps) none = by_refusal (λ v. granted_parts_answers api rules v name ps) (refusal_of api rules name p) none where
  by_refusal : ((v : W) → parts_refused api rules name ps ≡ [] → parts_answers api rules v name ps ≡ plain_parts api v name ps) → (r : Option Refusal) → cons_option r (parts_refused api rules name ps) ≡ [] → answer_by api r w name p ∷ parts_answers api rules (world_by api r w name p) name ps ≡ api.plain w name p ∷ plain_parts api (api.after w name p) name ps
  by_refusal rest (Some r) h = absurd (let clash : r ∷ parts_refused api rules name ps ≡ [] = h in cc)
  by_refusal rest None h = ap (λ l. api.plain w name p ∷ l) (rest (api.after w name p) h)

granted_world : {P A W : Type 0} (api : PartRule P A W) (rules : Rules) (w : W) (ts : List (Topic P)) → refusals api rules ts ≡ [] → topics_world api rules w ts ≡ plain_world api w ts
granted_world api rules w [] none = refl
granted_world api rules w (t ∷ ts) none =
    granted_world api rules (parts_world api rules w t.name t.partitions) ts (back_empty (parts_refused api rules t.name t.partitions) (refusals api rules ts) none)
    ∙ ap (λ v. plain_world api v ts) (granted_parts_world api rules w t.name t.partitions (front_empty (parts_refused api rules t.name t.partitions) (refusals api rules ts) none))

granted_answers : {P A W : Type 0} (api : PartRule P A W) (rules : Rules) (w : W) (ts : List (Topic P)) → refusals api rules ts ≡ [] → topics_answers api rules w ts ≡ plain_topics api w ts
granted_answers api rules w [] none = refl
granted_answers {P} {A} {W} api rules w (t ∷ ts) none =
    ap (λ l. record { name = t.name; partitions = parts_answers api rules w t.name t.partitions } ∷ l) (granted_answers api rules (parts_world api rules w t.name t.partitions) ts (back_empty (parts_refused api rules t.name t.partitions) (refusals api rules ts) none))
    ∙ ap (λ (l : List A). record { name = t.name; partitions = l } ∷ plain_topics api (parts_world api rules w t.name t.partitions) ts) (granted_parts_answers api rules w t.name t.partitions (front_empty (parts_refused api rules t.name t.partitions) (refusals api rules ts) none))
    ∙ ap (λ (v : W). record { name = t.name; partitions = plain_parts api w t.name t.partitions } ∷ plain_topics api v ts) (granted_parts_world api rules w t.name t.partitions (front_empty (parts_refused api rules t.name t.partitions) (refusals api rules ts) none))

pub granted : {P A W : Type 0} (api : PartRule P A W) (rules : Rules) (w : W) (ts : List (Topic P)) → refusals api rules ts ≡ [] → IsPlain api rules w ts
granted api rules w ts none = record {
  world = granted_world api rules w ts none;
  answers = granted_answers api rules w ts none;
}
