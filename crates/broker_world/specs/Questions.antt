-- What several apis ask (Kafka documentation, "Authorization and ACLs").
use Rattle.std.specs.Prelude.{ℕ, List, [], ◌∷◌, Option}
use Rattle.acl_binding.specs.declared.question.Caller.{Caller}
use Rattle.acl_binding.specs.declared.question.Question.{Question}
use Rattle.acl_binding.specs.declared.words.Kind.TheVariants as kinds
use Rattle.acl_binding.specs.declared.words.Operation.TheVariants as operations
use Rattle.acl_binding.specs.Verdict.{question_of}
use Rattle.authorizer.specs.declared.answer.Refusal.{Refusal}
use Rattle.authorizer.specs.Asking.{Rules, part_refusal}

-- to write with the transactional id
abbrev pub id_question : Caller → List ℕ → Question
id_question caller id = question_of caller operations.Write kinds.TransactionalId id

-- to read the group
abbrev pub read_question : Caller → List ℕ → Question
read_question caller group = question_of caller operations.Read kinds.Group group

-- a named topic is a part, which asks to describe it
abbrev pub topic_part : Caller → List ℕ → List Question
topic_part caller name = question_of caller operations.Describe kinds.Topic name ∷ []

abbrev pub topic_refusal : Rules → Caller → List ℕ → Option Refusal
topic_refusal rules caller name = part_refusal rules (topic_part caller name)
