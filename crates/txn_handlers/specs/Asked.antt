-- What all partitions of a request ask, and that a policy was asked it.
use Rattle.std.specs.Prelude.{◌≡◌, ℕ, List}
use Rattle.acl_binding.specs.declared.question.Caller.{Caller}
use Rattle.acl_binding.specs.declared.question.Question.{Question}
use Rattle.acl_binding.specs.declared.words.Kind.TheVariants.{TransactionalId}
use Rattle.acl_binding.specs.declared.words.Operation.TheVariants.{Write}
use Rattle.authorizer.specs.Policy.{PolicyValue}
use Rattle.authorizer.specs.Settled.{SettledValue, settled_value}
use Rattle.broker_world.specs.Questions.{id_question, read_question}

-- to write with this transactional id
pub record AsksForId (question : Question) (id : List ℕ) : Type 0 where
  pub op : question.op ≡ Write
  pub kind : question.kind ≡ TransactionalId
  pub name : question.name ≡ id

-- of a TxnOffsetCommit: to write with the transactional id, and to read the group
pub record AreAsked (policy : PolicyValue) (caller : Caller) (id group : List ℕ)
    (id_asked group_asked : SettledValue) : Type 0 where
  pub written : id_asked ≡ settled_value policy (id_question caller id)
  pub read : group_asked ≡ settled_value policy (read_question caller group)
