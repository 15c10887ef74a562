-- What a request's answer depends on: two walks whose parts are alike answer alike.
use Rattle.std.specs.Prelude.{◌≡◌, ℕ, List, [], ◌∷◌, None}
use Rattle.authorizer.specs.Asking.{Rules}
use Rattle.wire_types.specs.declared.error_code.ErrorCode.{ErrorCode}
use Rattle.wire_types.specs.declared.topic.Topic.{Topic}
use Rattle.walk.specs.Rule.{PartRule, refusal_of}
use Rattle.walk.specs.Walk.{world_after, answers, refusals}

-- each part of a topic is so
abbrev pub AllParts : {P : Type 0} → (List ℕ → P → Type 0) → List ℕ → List P → Type 0
AllParts Is name [] = Unit {0}
AllParts Is name (p ∷ ps) = Is name p × AllParts Is name ps

-- each part of the request is so
abbrev pub AllTopics : {P : Type 0} → (List ℕ → P → Type 0) → List (Topic P) → Type 0
AllTopics Is [] = Unit {0}
AllTopics Is (t ∷ ts) = AllParts Is t.name t.partitions × AllTopics Is ts

-- The two ask the same and refuse alike. Where a part is granted they answer it alike in worlds
-- that agree, and leave worlds that agree.
pub record AreAlike {P A W : Type 0} (f g : PartRule P A W) (rules : Rules)
    (Is : List ℕ → P → Type 0) (Agree : W → W → Type 0) : Type 0 where
  pub questions : (name : List ℕ) (p : P) → f.questions name p ≡ g.questions name p
  pub refused : (code : ErrorCode) (name : List ℕ) (p : P)
      → f.refused code name p ≡ g.refused code name p
  pub plain : (v w : W) (name : List ℕ) (p : P) → Is name p → Agree v w
      → refusal_of f rules name p ≡ None → f.plain v name p ≡ g.plain w name p
  pub after : (v w : W) (name : List ℕ) (p : P) → Is name p → Agree v w
      → refusal_of f rules name p ≡ None → Agree (f.after v name p) (g.after w name p)

-- they answer and refuse the same, and leave worlds that agree
pub record AnswerAlike {P A W : Type 0} (f g : PartRule P A W) (rules : Rules)
    (Agree : W → W → Type 0) (v w : W) (ts : List (Topic P)) : Type 0 where
  pub answers : answers f rules v ts ≡ answers g rules w ts
  pub refusals : refusals f rules ts ≡ refusals g rules ts
  pub worlds : Agree (world_after f rules v ts) (world_after g rules w ts)
