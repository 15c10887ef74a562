-- Two walks whose parts are alike answer alike.
use Rattle.std.proofs.Common.{◌≡◌, ℕ, List, [], ◌∷◌, ◌++◌, Option, Some, None, refl, sym, ap, subst, ◌∙◌}
use Rattle.std.specs.List.{cons_option}
use Rattle.authorizer.specs.declared.answer.Refusal.{Refusal}
use Rattle.authorizer.specs.Asking.{Rules, part_refusal}
use Rattle.wire_types.specs.declared.topic.Topic.{Topic}
use Rattle.walk.specs.Codes.{refusal_code}
use Rattle.walk.specs.Rule.{PartRule, refusal_of}
use Rattle.walk.specs.Walk.{world_after, parts_refused, refusals}
use Rattle.walk.specs.Steps.{answer_by, world_by, parts_world, parts_answers, topics_world, topics_answers}
use Rattle.walk.specs.Alike.{AllParts, AllTopics, AreAlike, AnswerAlike}
use Rattle.walk.proofs.Weaving.{woven}

-- one part
same_refusal : {P A W : Type 0} (f g : PartRule P A W) (rules : Rules) (Is : List ℕ → P → Type 0) (Agree : W → W → Type 0) → AreAlike f g rules Is Agree → (name : List ℕ) (p : P) → refusal_of f rules name p ≡ refusal_of g rules name p
same_refusal f g rules Is Agree alike name p = ap (part_refusal rules) (alike.questions name p)

world_agrees : {P A W : Type 0} (f g : PartRule P A W) (rules : Rules) (Is : List ℕ → P → Type 0) (Agree : W → W → Type 0) → AreAlike f g rules Is Agree → (v w : W) (name : List ℕ) (p : P) → Is name p → Agree v w → (r : Option Refusal) → refusal_of f rules name p ≡ r → Agree (world_by f r v name p) (world_by g r w name p)
world_agrees f g rules Is Agree alike v w name p is agree (Some r) e = agree
world_agrees f g rules Is Agree alike v w name p is agree None e = alike.after v w name p is agree e

same_answer : {P A W : Type 0} (f g : PartRule P A W) (rules : Rules) (Is : List ℕ → P → Type 0) (Agree : W → W → Type 0) → AreAlike f g rules Is Agree → (v w : W) (name : List ℕ) (p : P) → Is name p → Agree v w → (r : Option Refusal) → refusal_of f rules name p ≡ r → answer_by f r v name p ≡ answer_by g r w name p
same_answer f g rules Is Agree alike v w name p is agree (Some r) e = alike.refused (refusal_code r) name p
same_answer f g rules Is Agree alike v w name p is agree None e = alike.plain v w name p is agree e

-- the world of g after a part, by f's refusal of it
step_agrees : {P A W : Type 0} (f g : PartRule P A W) (rules : Rules) (Is : List ℕ → P → Type 0) (Agree : W → W → Type 0) → AreAlike f g rules Is Agree → (v w : W) (name : List ℕ) (p : P) → Is name p → Agree v w → Agree (world_by f (refusal_of f rules name p) v name p) (world_by g (refusal_of g rules name p) w name p)
step_agrees f g rules Is Agree alike v w name p is agree =
    subst (λ r. Agree (world_by f (refusal_of f rules name p) v name p) (world_by g r w name p)) (same_refusal f g rules Is Agree alike name p) (world_agrees f g rules Is Agree alike v w name p is agree (refusal_of f rules name p) refl)

-- a topic's parts
parts_agree : {P A W : Type 0} (f g : PartRule P A W) (rules : Rules) (Is : List ℕ → P → Type 0) (Agree : W → W → Type 0) → AreAlike f g rules Is Agree → (v w : W) (name : List ℕ) (ps : List P) → AllParts Is name ps → Agree v w → Agree (parts_world f rules v name ps) (parts_world g rules w name ps)
parts_agree f g rules Is Agree alike v w name [] all agree = agree
parts_agree f g rules Is Agree alike v w name (p ∷ ps) all agree = parts_agree f g rules Is Agree alike (world_by f (refusal_of f rules name p) v name p) (world_by g (refusal_of g rules name p) w name p) name ps all.1 (step_agrees f g rules Is Agree alike v w name p all.0 agree)

parts_same : {P A W : Type 0} (f g : PartRule P A W) (rules : Rules) (Is : List ℕ → P → Type 0) (Agree : W → W → Type 0) → AreAlike f g rules Is Agree → (v w : W) (name : List ℕ) (ps : List P) → AllParts Is name ps → Agree v w → parts_answers f rules v name ps ≡ parts_answers g rules w name ps
parts_same f g rules Is Agree alike v w name [] all agree = refl
parts_same f g rules Is Agree alike v w name (p ∷ ps) all agree =
    ap (λ a. a ∷ parts_answers f rules (world_by f (refusal_of f rules name p) v name p) name ps) (same_answer f g rules Is Agree alike v w name p all.0 agree (refusal_of f rules name p) refl ∙ ap (λ r. answer_by g r w name p) (same_refusal f g rules Is Agree alike name p))
    ∙ ap (λ l. answer_by g (refusal_of g rules name p) w name p ∷ l) (parts_same f g rules Is Agree alike (world_by f (refusal_of f rules name p) v name p) (world_by g (refusal_of g rules name p) w name p) name ps all.1 (step_agrees f g rules Is Agree alike v w name p all.0 agree))

refused_same : {P A W : Type 0} (f g : PartRule P A W) (rules : Rules) (Is : List ℕ → P → Type 0) (Agree : W → W → Type 0) → AreAlike f g rules Is Agree → (name : List ℕ) (ps : List P) → parts_refused f rules name ps ≡ parts_refused g rules name ps
refused_same f g rules Is Agree alike name [] = refl
refused_same f g rules Is Agree alike name (p ∷ ps) =
    ap (λ r. cons_option r (parts_refused f rules name ps)) (same_refusal f g rules Is Agree alike name p) ∙ ap (λ l. cons_option (refusal_of g rules name p) l) (refused_same f g rules Is Agree alike name ps)

-- the topics
topics_agree : {P A W : Type 0} (f g : PartRule P A W) (rules : Rules) (Is : List ℕ → P → Type 0) (Agree : W → W → Type 0) → AreAlike f g rules Is Agree → (v w : W) (ts : List (Topic P)) → AllTopics Is ts → Agree v w → Agree (topics_world f rules v ts) (topics_world g rules w ts)
topics_agree f g rules Is Agree alike v w [] all agree = agree
topics_agree f g rules Is Agree alike v w (t ∷ ts) all agree = topics_agree f g rules Is Agree alike (parts_world f rules v t.name t.partitions) (parts_world g rules w t.name t.partitions) ts all.1 (parts_agree f g rules Is Agree alike v w t.name t.partitions all.0 agree)

topics_same : {P A W : Type 0} (f g : PartRule P A W) (rules : Rules) (Is : List ℕ → P → Type 0) (Agree : W → W → Type 0) → AreAlike f g rules Is Agree → (v w : W) (ts : List (Topic P)) → AllTopics Is ts → Agree v w → topics_answers f rules v ts ≡ topics_answers g rules w ts
topics_same f g rules Is Agree alike v w [] all agree = refl
topics_same {P} {A} {W} f g rules Is Agree alike v w (t ∷ ts) all agree =
    ap (λ (l : List A). record { name = t.name; partitions = l } ∷ topics_answers f rules (parts_world f rules v t.name t.partitions) ts) (parts_same f g rules Is Agree alike v w t.name t.partitions all.0 agree)
    ∙ ap (λ l. record { name = t.name; partitions = parts_answers g rules w t.name t.partitions } ∷ l) (topics_same f g rules Is Agree alike (parts_world f rules v t.name t.partitions) (parts_world g rules w t.name t.partitions) ts all.1 (parts_agree f g rules Is Agree alike v w t.name t.partitions all.0 agree))

all_refused_same : {P A W : Type 0} (f g : PartRule P A W) (rules : Rules) (Is : List ℕ → P → Type 0) (Agree : W → W → Type 0) → AreAlike f g rules Is Agree → (ts : List (Topic P)) → refusals f rules ts ≡ refusals g rules ts
all_refused_same f g rules Is Agree alike [] = refl
all_refused_same f g rules Is Agree alike (t ∷ ts) =
    ap (λ l. l ++ refusals f rules ts) (refused_same f g rules Is Agree alike t.name t.partitions) ∙ ap (λ l. parts_refused g rules t.name t.partitions ++ l) (all_refused_same f g rules Is Agree alike ts)

pub answer_alike : {P A W : Type 0} (f g : PartRule P A W) (rules : Rules) (Is : List ℕ → P → Type 0) (Agree : W → W → Type 0) → AreAlike f g rules Is Agree → (v w : W) (ts : List (Topic P)) → AllTopics Is ts → Agree v w → AnswerAlike f g rules Agree v w ts
answer_alike f g rules Is Agree alike v w ts all agree =
    let a = woven f rules v ts in
    let b = woven g rules w ts in
    record {
      answers = sym a.answers ∙ topics_same f g rules Is Agree alike v w ts all agree ∙ b.answers;
      refusals = all_refused_same f g rules Is Agree alike ts;
      worlds = subst (λ x. Agree x (world_after g rules w ts)) a.world (subst (λ y. Agree (topics_world f rules v ts) y) b.world (topics_agree f g rules Is Agree alike v w ts all agree));
    }
