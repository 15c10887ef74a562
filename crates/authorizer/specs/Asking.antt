-- What asking answers, and when the questions of a part of a request are refused.
use Rattle.std.specs.Prelude.{◌≡◌, ℕ, List, [], ◌∷◌, Option, Some, None}
use Rattle.acl_binding.specs.declared.question.Question.{Question}
use Rattle.acl_binding.specs.declared.question.Verdict.{Verdict}
use Rattle.acl_binding.specs.declared.question.Verdict.TheVariants.{Yes, Denied, Nothing}
use Rattle.acl_binding.specs.Book.{BookValue}
use Rattle.authorizer.specs.declared.answer.DenyReason.TheVariants as why
use Rattle.authorizer.specs.declared.answer.Refusal.{Refusal}
use Rattle.authorizer.specs.declared.answer.Answer.{Answer}
use Rattle.authorizer.specs.declared.answer.Answer.TheVariants.{Granted, Refused}
use Rattle.authorizer.specs.Policy.{PolicyValue, verdict, policy_verdict}

-- a permit exactly where the verdict is Yes, else a refusal with that verdict
abbrev pub answer_by : Verdict → ℕ → Question → Answer
answer_by Yes edit q = Granted (record { edit = edit; question = q })
answer_by (Denied n) edit q = Refused (record { question = q; why = why.Denied n })
answer_by Nothing edit q = Refused (record { question = q; why = why.Nothing })

abbrev pub asking_answer : PolicyValue → Question → Answer
asking_answer policy q = answer_by (policy_verdict policy q) policy.edit q

-- ---- several questions

-- what permissions are decided by
pub record Rules : Type 0 where
  pub book : BookValue
  pub supers : List (List ℕ)

abbrev pub policy_rules : PolicyValue → Rules
policy_rules policy = record { book = policy.book; supers = policy.supers }

-- the refusal that a verdict makes of a question, unless it is Yes
abbrev pub refusal_by : Verdict → Question → Option Refusal
refusal_by Yes q = None
refusal_by (Denied n) q = Some (record { question = q; why = why.Denied n })
refusal_by Nothing q = Some (record { question = q; why = why.Nothing })

abbrev pub question_refusal : Rules → Question → Option Refusal
question_refusal rules q = refusal_by (verdict rules.book rules.supers q) q

-- the first of two, where there is one
abbrev pub first_of : Option Refusal → Option Refusal → Option Refusal
first_of (Some r) rest = Some r
first_of None rest = rest

-- the questions of a part in order: the first that isn't granted refuses the part
abbrev pub part_refusal : Rules → List Question → Option Refusal
part_refusal rules [] = None
part_refusal rules (q ∷ qs) = first_of (question_refusal rules q) (part_refusal rules qs)

-- what is spent for the questions of a part, by its refusal if it is refused: a permit for each of
-- them, or none at all
abbrev pub paid_by : Option Refusal → List Question → List Question
paid_by None qs = qs
paid_by (Some r) qs = []

abbrev pub part_paid : Rules → List Question → List Question
part_paid rules qs = paid_by (part_refusal rules qs) qs

-- under this policy each of the questions is granted
abbrev pub AreYes : PolicyValue → List Question → Type 0
AreYes policy qs = part_refusal (policy_rules policy) qs ≡ None

-- under this policy the first of the questions that isn't granted has this refusal
abbrev pub IsRefusalOf : PolicyValue → List Question → Refusal → Type 0
IsRefusalOf policy qs r = part_refusal (policy_rules policy) qs ≡ Some r
