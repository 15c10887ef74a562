-- A question that may be absent, once it was settled.
use Rattle.std.proofs.Common.{◌≡◌, Option, None, Some, refl}
use Rattle.acl_binding.specs.declared.question.Question.{Question}
use Rattle.authorizer.specs.Policy.{PolicyValue}
use Rattle.authorizer.specs.Settled.{settled_value_if_given, settled_question}

pub question_is : (policy : PolicyValue) (o : Option Question) → settled_question (settled_value_if_given policy o) ≡ o
question_is policy None = refl
question_is policy (Some q) = refl
