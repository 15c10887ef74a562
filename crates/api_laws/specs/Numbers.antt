-- The codes of refused parts by their numbers (Kafka protocol guide, "Error Codes").
use Rattle.std.specs.Prelude.{◌≡◌, pos}
use Rattle.acl_binding.specs.declared.words.Kind.TheVariants as kinds
use Rattle.authorizer.specs.declared.answer.Refusal.{Refusal}
use Rattle.wire_types.specs.ErrorCode.{number_of}
use Rattle.wire_types.specs.declared.error_code.ErrorCode.{ErrorCode}

-- the code of a part that is refused
abbrev pub CodeRule : Type 0
CodeRule = Refusal → ErrorCode

-- the code of a part that is refused for a question about a topic, a group, the cluster, a
-- transactional id
pub record RefusalsByNumber (refusal_code : CodeRule) : Type 0 where
  pub topic : (r : Refusal) → r.question.kind ≡ kinds.Topic → number_of (refusal_code r) ≡ pos 29
  pub group : (r : Refusal) → r.question.kind ≡ kinds.Group → number_of (refusal_code r) ≡ pos 30
  pub cluster : (r : Refusal) → r.question.kind ≡ kinds.Cluster
      → number_of (refusal_code r) ≡ pos 31
  pub transactional_id : (r : Refusal) → r.question.kind ≡ kinds.TransactionalId
      → number_of (refusal_code r) ≡ pos 53
