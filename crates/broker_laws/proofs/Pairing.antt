-- What each part of a walk is answered, beside the part, and what they add one after the other.
use Rattle.std.proofs.Common.{◌≡◌, ℕ, List, [], ◌∷◌, ◌++◌, Option, refl, sym, ap, ◌∙◌, append-nil, append_assoc}
use Rattle.authorizer.specs.declared.answer.Refusal.{Refusal}
use Rattle.authorizer.specs.Asking.{Rules}
use Rattle.wire_types.specs.declared.topic.Topic.{Topic}
use Rattle.walk.specs.Rule.{PartRule, refusal_of}
use Rattle.walk.specs.Steps.{answer_by, world_by, part_world, part_answer, parts_world, parts_answers, topics_world, topics_answers}
use Rattle.broker_laws.specs.Commits.{BothParts, BothTopics, made_parts, made_topics}

-- what is kept, what is answered and what is added
pub record IsOne {P A W E : Type 0} (api : PartRule P A W) (Keeps : W → Type 0) (Is : List ℕ → P → A → Type 0) (made : List ℕ → P → A → List E) (seen : W → List E) (o : Option Refusal) (w : W) (name : List ℕ) (p : P) : Type 0 where
  pub keeps : Keeps (world_by api o w name p)
  pub is : Is name p (answer_by api o w name p)
  pub adds : seen (world_by api o w name p) ≡ seen w ++ made name p (answer_by api o w name p)

pub record AreAll {P A W E : Type 0} (api : PartRule P A W) (rules : Rules) (Keeps : W → Type 0) (Is : List ℕ → P → A → Type 0) (made : List ℕ → P → A → List E) (seen : W → List E) (w : W) (ts : List (Topic P)) : Type 0 where
  pub keeps : Keeps (topics_world api rules w ts)
  pub are : BothTopics Is ts (topics_answers api rules w ts)
  pub add : seen (topics_world api rules w ts) ≡ seen w ++ made_topics made ts (topics_answers api rules w ts)

record AreParts {P A W E : Type 0} (api : PartRule P A W) (rules : Rules) (Keeps : W → Type 0) (Is : List ℕ → P → A → Type 0) (made : List ℕ → P → A → List E) (seen : W → List E) (w : W) (name : List ℕ) (ps : List P) : Type 0 where
  keeps : Keeps (parts_world api rules w name ps)
  are : BothParts Is name ps (parts_answers api rules w name ps)
  add : seen (parts_world api rules w name ps) ≡ seen w ++ made_parts made name ps (parts_answers api rules w name ps)

module _ {P A W E : Type 0} (api : PartRule P A W) (rules : Rules) (Keeps : W → Type 0) (Is : List ℕ → P → A → Type 0) (made : List ℕ → P → A → List E) (seen : W → List E) (one : (w : W) (name : List ℕ) (p : P) → Keeps w → (o : Option Refusal) → refusal_of api rules name p ≡ o → IsOne api Keeps Is made seen o w name p) where
  parts_are : (w : W) (name : List ℕ) (ps : List P) → Keeps w → AreParts api rules Keeps Is made seen w name ps
  parts_are w name [] keeps = record { keeps = keeps; are = tt; add = sym (append-nil (seen w)) }
  parts_are w name (p ∷ ps) keeps =
      let next = part_world api rules w name p in
      let first = one w name p keeps (refusal_of api rules name p) refl in
      let rest = parts_are next name ps first.keeps in
      record {
        keeps = rest.keeps;
        are = (first.is, rest.are);
        add = rest.add ∙ ap (λ l. l ++ made_parts made name ps (parts_answers api rules next name ps)) first.adds
            ∙ append_assoc (seen w) (made name p (part_answer api rules w name p).answer) (made_parts made name ps (parts_answers api rules next name ps));
      }

  pub all_are : (w : W) (ts : List (Topic P)) → Keeps w → AreAll api rules Keeps Is made seen w ts
  all_are w [] keeps = record { keeps = keeps; are = tt; add = sym (append-nil (seen w)) }
  all_are w (t ∷ ts) keeps =
      let next = parts_world api rules w t.name t.partitions in
      let first = parts_are w t.name t.partitions keeps in
      let rest = all_are next ts first.keeps in
      record {
        keeps = rest.keeps;
        are = (refl, first.are, rest.are);
        add = rest.add ∙ ap (λ l. l ++ made_topics made ts (topics_answers api rules next ts)) first.add
            ∙ append_assoc (seen w) (made_parts made t.name t.partitions (parts_answers api rules w t.name t.partitions)) (made_topics made ts (topics_answers api rules next ts));
      }
