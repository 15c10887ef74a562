-- The permits of a part that asks more than one question.
use Rattle.std.specs.Prelude.{Option, Some, None}
use Rattle.acl_binding.specs.declared.question.Question.{Question}
use Rattle.authorizer.specs.declared.permit.Permit.{Permit}
use Rattle.authorizer.specs.declared.asking.TwoPermits.{TwoPermits}
use Rattle.authorizer.specs.declared.asking.ThreePermits.{ThreePermits}
use Rattle.authorizer.specs.declared.asking.GivenPermits.{GivenPermits}
use Rattle.authorizer.specs.Policy.{PolicyValue, PermitValue, IsGood, IsGranted}

-- both may be spent
pub record AreBothGood (policy : PolicyValue) (permits : TwoPermits) : Type 0 where
  pub first : IsGood policy permits.first
  pub second : IsGood policy permits.second

-- they are granted for these questions
pub record AreBothGranted (policy : PolicyValue) (one two : Question) (permits : TwoPermits)
    : Type 0 where
  pub first : IsGranted policy one permits.first
  pub second : IsGranted policy two permits.second

-- all three may be spent
pub record AreThreeGood (policy : PolicyValue) (permits : ThreePermits) : Type 0 where
  pub first : IsGood policy permits.first
  pub second : IsGood policy permits.second
  pub third : IsGood policy permits.third

-- they are granted for these questions
pub record AreThreeGranted (policy : PolicyValue) (one two three : Question)
    (permits : ThreePermits) : Type 0 where
  pub first : IsGranted policy one permits.first
  pub second : IsGranted policy two permits.second
  pub third : IsGranted policy three permits.third

-- the question of a permit that may be absent
abbrev pub given_question : Option PermitValue → Option Question
given_question None = None
given_question (Some permit) = Some permit.question

-- a permit for the question, where there is one, and none where there is none
abbrev pub IsGrantedIfGiven : PolicyValue → Option Question → Option Permit → Type 0
IsGrantedIfGiven policy None None = Unit {0}
IsGrantedIfGiven policy (Some question) (Some permit) = IsGranted policy question permit
IsGrantedIfGiven policy _ _ = ⊥

-- the permit of a question that may be absent, and that of another
pub record AreGivenGranted (policy : PolicyValue) (one : Option Question) (two : Question)
    (permits : GivenPermits) : Type 0 where
  pub given : IsGrantedIfGiven policy one permits.given
  pub last : IsGranted policy two permits.last
