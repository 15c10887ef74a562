-- Each part is answered at its place.
use Rattle.std.proofs.Common.{◌≡◌, ℕ, zero, suc, List, [], ◌∷◌, length, take, Some, None, refl, sym, ap, ◌∙◌}
use Rattle.authorizer.specs.Asking.{Rules}
use Rattle.wire_types.specs.declared.topic.Topic.{Topic}
use Rattle.walk.specs.Rule.{PartRule, refusal_of}
use Rattle.walk.specs.Walk.{world_after, answers}
use Rattle.walk.specs.Steps.{answer_by, world_by, parts_world, parts_answers, topics_world, topics_answers}
use Rattle.walk.specs.Headline.{element_at, IsAnswered, AnswersEachPart}
use Rattle.walk.proofs.Weaving.{parts_world_woven, woven}

same_element : {X : Type 0} (x y : X) → Some x ≡ Some y → x ≡ y
same_element x y h = cc

-- ---- the parts of a topic

part_at : {P A W : Type 0} (api : PartRule P A W) (rules : Rules) (w : W) (name : List ℕ) (ps : List P) (j : ℕ) (p : P) → element_at ps j ≡ Some p → element_at (parts_answers api rules w name ps) j ≡ Some (answer_by api (refusal_of api rules name p) (parts_world api rules w name (take j ps)) name p)
part_at api rules w name [] j p h = absurd (let clash : None ≡ Some p = h in cc)
part_at api rules w name (x ∷ xs) zero p h = ap (λ y. Some (answer_by api (refusal_of api rules name y) w name y)) (same_element x p h)
part_at api rules w name (x ∷ xs) (suc j) p h = part_at api rules (world_by api (refusal_of api rules name x) w name x) name xs j p h

parts_number : {P A W : Type 0} (api : PartRule P A W) (rules : Rules) (w : W) (name : List ℕ) (ps : List P) → length (parts_answers api rules w name ps) ≡ length ps
parts_number api rules w name [] = refl
parts_number api rules w name (p ∷ ps) = ap suc (parts_number api rules (world_by api (refusal_of api rules name p) w name p) name ps)

-- ---- the topics

abbrev stepped : {P A W : Type 0} → PartRule P A W → Rules → W → Topic P → Topic A
stepped api rules w t = record { name = t.name; partitions = parts_answers api rules w t.name t.partitions }

topic_at : {P A W : Type 0} (api : PartRule P A W) (rules : Rules) (w : W) (ts : List (Topic P)) (i : ℕ) (t : Topic P) → element_at ts i ≡ Some t → element_at (topics_answers api rules w ts) i ≡ Some (stepped api rules (topics_world api rules w (take i ts)) t)
topic_at api rules w [] i t h = absurd (let clash : None ≡ Some t = h in cc)
topic_at api rules w (x ∷ xs) zero t h = ap (λ y. Some (stepped api rules w y)) (same_element x t h)
topic_at api rules w (x ∷ xs) (suc i) t h = topic_at api rules (parts_world api rules w x.name x.partitions) xs i t h

topics_number : {P A W : Type 0} (api : PartRule P A W) (rules : Rules) (w : W) (ts : List (Topic P)) → length (topics_answers api rules w ts) ≡ length ts
topics_number api rules w [] = refl
topics_number api rules w (t ∷ ts) = ap suc (topics_number api rules (parts_world api rules w t.name t.partitions) ts)

-- ---- the woven answers

answers_at : {P A W : Type 0} (api : PartRule P A W) (rules : Rules) (w : W) (ts : List (Topic P)) (i : ℕ) (t : Topic P) → element_at ts i ≡ Some t → element_at (answers api rules w ts) i ≡ Some (stepped api rules (world_after api rules w (take i ts)) t)
answers_at api rules w ts i t h =
    ap (λ l. element_at l i) (sym (woven api rules w ts).answers)
    ∙ topic_at api rules w ts i t h
    ∙ ap (λ v. Some (stepped api rules v t)) (woven api rules w (take i ts)).world

answered : {P A W : Type 0} (api : PartRule P A W) (rules : Rules) (w : W) (ts : List (Topic P)) (i : ℕ) (t : Topic P) → IsAnswered api rules w ts i t (stepped api rules (world_after api rules w (take i ts)) t)
answered api rules w ts i t =
    let v = world_after api rules w (take i ts) in
    record {
      name = refl;
      number = parts_number api rules v t.name t.partitions;
      places = λ j p h. part_at api rules v t.name t.partitions j p h ∙ ap (λ u. Some (answer_by api (refusal_of api rules t.name p) u t.name p)) (parts_world_woven api rules v t.name (take j t.partitions));
    }

pub answers_each_part : {P A W : Type 0} → AnswersEachPart P A W
answers_each_part = record {
  number = λ api rules w ts. ap length (sym (woven api rules w ts).answers) ∙ topics_number api rules w ts;
  places = λ api rules w ts i t h. (stepped api rules (world_after api rules w (take i ts)) t, (answers_at api rules w ts i t h, answered api rules w ts i t));
}
