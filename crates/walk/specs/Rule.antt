-- What an api says of one partition of a topic, and what it is refused for.
use Rattle.std.specs.Prelude.{ℕ, ◌+◌, ◌≤◌, Bool, List, Option, is_none}
use Rattle.acl_binding.specs.declared.question.Question.{Question}
use Rattle.authorizer.specs.declared.answer.Refusal.{Refusal}
use Rattle.authorizer.specs.Asking.{Rules, part_refusal}
use Rattle.wire_types.specs.declared.error_code.ErrorCode.{ErrorCode}

-- An api over parts `P` of a topic and a world `W`, which is only what the api may change: so no
-- part edits the book.
pub record PartRule (P A W : Type 0) : Type 0 where
  -- what a part asks, in order
  pub questions : List ℕ → P → List Question
  -- what it is answered, permission aside, and the world after it
  pub plain : W → List ℕ → P → A
  pub after : W → List ℕ → P → W
  -- what it is answered with the code of a refusal
  pub refused : ErrorCode → List ℕ → P → A
  -- how much it may add to the world, how much more the world can take, and that the one is taken
  -- off the other at most
  pub weight : P → ℕ
  pub budget : W → ℕ
  pub takes : (w : W) (name : List ℕ) (p : P) → budget w ≤ weight p + budget (after w name p)

-- the part's refusal, if it is refused
abbrev pub refusal_of : {P A W : Type 0} → PartRule P A W → Rules → List ℕ → P → Option Refusal
refusal_of api rules name p = part_refusal rules (api.questions name p)

abbrev pub is_allowed : {P A W : Type 0} → PartRule P A W → Rules → List ℕ → P → Bool
is_allowed api rules name p = is_none (refusal_of api rules name p)
