-- A question that all parts of a request ask: the policy is asked once, and each part has its
-- answer from that.
use Rattle.std.specs.Prelude.{◌≡◌, ℕ, Option, None, Some}
use Rattle.acl_binding.specs.declared.question.Question.{Question}
use Rattle.acl_binding.specs.declared.question.Verdict.{Verdict}
use Rattle.authorizer.specs.Policy.{PolicyValue, policy_verdict}

-- what a policy said to a question, with the number of changes at that moment
pub record SettledValue : Type 0 where
  pub edit : ℕ
  pub question : Question
  pub verdict : Verdict

abbrev pub settled_value : PolicyValue → Question → SettledValue
settled_value policy q =
    record { edit = policy.edit; question = q; verdict = policy_verdict policy q }

-- this policy said so
abbrev pub IsSettled : PolicyValue → SettledValue → Type 0
IsSettled policy s = s ≡ settled_value policy s.question

-- ---- of a question that may be absent

abbrev pub settled_value_if_given : PolicyValue → Option Question → Option SettledValue
settled_value_if_given policy None = None
settled_value_if_given policy (Some q) = Some (settled_value policy q)

abbrev pub settled_question : Option SettledValue → Option Question
settled_question None = None
settled_question (Some s) = Some s.question

abbrev pub IsSettledIfGiven : PolicyValue → Option SettledValue → Type 0
IsSettledIfGiven policy o = o ≡ settled_value_if_given policy (settled_question o)
