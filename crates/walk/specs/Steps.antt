-- The same walk, one part after the other: each is answered, refused or not, before the next is
-- looked at.
use Rattle.std.specs.Prelude.{ℕ, Bool, true, false, List, [], ◌∷◌, Option, Some, None}
use Rattle.acl_binding.specs.declared.question.Question.{Question}
use Rattle.authorizer.specs.declared.answer.Refusal.{Refusal}
use Rattle.authorizer.specs.Asking.{Rules}
use Rattle.authorizer.specs.Tally.{count_after}
use Rattle.wire_types.specs.declared.topic.Topic.{Topic}
use Rattle.walk.specs.declared.part.Part.{Part}
use Rattle.walk.specs.declared.part.PartResult.{PartResult}
use Rattle.walk.specs.declared.part.PartResult.TheVariants.{Served, Refused, Cut}
use Rattle.walk.specs.declared.walking.PartAnswer.{PartAnswer}
use Rattle.walk.specs.Codes.{refusal_code}
use Rattle.walk.specs.Rule.{PartRule, refusal_of}

-- ---- one part, by its refusal if it is refused

abbrev pub answer_by : {P A W : Type 0} → PartRule P A W → Option Refusal → W → List ℕ → P → A
answer_by api (Some r) w name p = api.refused (refusal_code r) name p
answer_by api None w name p = api.plain w name p

abbrev pub world_by : {P A W : Type 0} → PartRule P A W → Option Refusal → W → List ℕ → P → W
world_by api (Some r) w name p = w
world_by api None w name p = api.after w name p

-- how a part goes that asks these questions: granted, it is served and all of them are paid for, or
-- it is cut
abbrev pub ending_by : Bool → Option Refusal → List Question → PartResult
ending_by cuts (Some r) qs = Refused r
ending_by true None qs = Cut
ending_by false None qs = Served qs

-- the refusal in it
abbrev pub refusal_in : PartResult → Option Refusal
refusal_in (Served paid) = None
refusal_in (Refused r) = Some r
refusal_in Cut = None

-- what was spent for it
abbrev pub spent_in : PartResult → List Question
spent_in (Served paid) = paid
spent_in (Refused r) = []
spent_in Cut = []

abbrev pub part_done : {P A W : Type 0} → Bool → PartRule P A W → Rules → W → List ℕ → P → Part A
part_done cuts api rules w name p =
    record {
      answer = answer_by api (refusal_of api rules name p) w name p;
      ending = ending_by cuts (refusal_of api rules name p) (api.questions name p);
    }

-- what is told of it
abbrev pub part_answer : {P A W : Type 0} → PartRule P A W → Rules → W → List ℕ → P → PartAnswer A
part_answer api rules w name p =
    record {
      answer = answer_by api (refusal_of api rules name p) w name p;
      refusal = refusal_of api rules name p;
    }

-- how many permits are spent after it
abbrev pub part_spent : {P A W : Type 0} → Bool → PartRule P A W → Rules → ℕ → List ℕ → P → ℕ
part_spent cuts api rules n name p =
    count_after n (spent_in (ending_by cuts (refusal_of api rules name p) (api.questions name p)))

abbrev pub part_world : {P A W : Type 0} → PartRule P A W → Rules → W → List ℕ → P → W
part_world api rules w name p = world_by api (refusal_of api rules name p) w name p

-- ---- the parts of a topic

abbrev pub parts_world : {P A W : Type 0} → PartRule P A W → Rules → W → List ℕ → List P → W
parts_world api rules w name [] = w
parts_world api rules w name (p ∷ ps) =
    parts_world api rules (part_world api rules w name p) name ps

abbrev pub parts_answers : {P A W : Type 0} → PartRule P A W → Rules → W → List ℕ → List P → List A
parts_answers api rules w name [] = []
parts_answers api rules w name (p ∷ ps) =
    (part_answer api rules w name p).answer
    ∷ parts_answers api rules (part_world api rules w name p) name ps

abbrev pub parts_spent : {P A W : Type 0} → Bool → PartRule P A W → Rules → ℕ → List ℕ → List P → ℕ
parts_spent cuts api rules n name [] = n
parts_spent cuts api rules n name (p ∷ ps) =
    parts_spent cuts api rules (part_spent cuts api rules n name p) name ps

-- ---- the topics

abbrev pub topics_world : {P A W : Type 0} → PartRule P A W → Rules → W → List (Topic P) → W
topics_world api rules w [] = w
topics_world api rules w (t ∷ ts) =
    topics_world api rules (parts_world api rules w t.name t.partitions) ts

abbrev pub topics_answers : {P A W : Type 0} → PartRule P A W → Rules → W → List (Topic P)
    → List (Topic A)
topics_answers api rules w [] = []
topics_answers api rules w (t ∷ ts) =
    record { name = t.name; partitions = parts_answers api rules w t.name t.partitions }
    ∷ topics_answers api rules (parts_world api rules w t.name t.partitions) ts

abbrev pub topics_spent : {P A W : Type 0} → Bool → PartRule P A W → Rules → ℕ → List (Topic P) → ℕ
topics_spent cuts api rules n [] = n
topics_spent cuts api rules n (t ∷ ts) =
    topics_spent cuts api rules (parts_spent cuts api rules n t.name t.partitions) ts
