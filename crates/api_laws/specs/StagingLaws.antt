-- What holds of AddOffsetsToTxn and TxnOffsetCommit.
use Rattle.std.specs.Prelude.{◌≡◌, [], ◌∷◌, Some}
use Rattle.acl_binding.specs.declared.question.Caller.{Caller}
use Rattle.authorizer.specs.declared.answer.Refusal.{Refusal}
use Rattle.authorizer.specs.Asking.{part_refusal}
use Rattle.msg_txn.specs.declared.add_offsets.AddOffsetsToTxnRequest.{AddOffsetsToTxnRequest}
use Rattle.msg_txn.specs.declared.txn_offset_commit.TxnOffsetCommitRequest.{TxnOffsetCommitRequest}
use Rattle.broker_world.specs.World.{World, rules_of}
use Rattle.broker_world.specs.HandlerResult.{HandlerResult}
use Rattle.broker_world.specs.Questions.{id_question}
use Rattle.broker_world.specs.Questions.{read_question}
use Rattle.txn_handlers.specs.AddOffsets.{add_offsets_questions}
use Rattle.txn_handlers.specs.TxnOffsetCommit.{staging_rule}
use Rattle.api_laws.specs.Tenants.{SameBase, SameGranted}
use Rattle.api_laws.specs.DataTenants.{SameForParts, SameAnswer}
use Rattle.api_laws.specs.AclLaws.{IsRefusedWhole}
use Rattle.api_laws.specs.TxnLaws.{KeepsOtherIds}
use Rattle.api_laws.specs.GroupLaws.{KeepsOtherGroups}

-- what an AddOffsetsToTxn and a TxnOffsetCommit come to
abbrev pub AddOffsetsRule : Type 0
AddOffsetsRule = World → Caller → AddOffsetsToTxnRequest → HandlerResult

abbrev pub StageRule : Type 0
StageRule = World → Caller → TxnOffsetCommitRequest → HandlerResult

-- Worlds that agree on what is granted of a request, and on the producer ids given out, give the
-- same answer.
pub record StagingDependsOnGrants (add_offsets_outcome : AddOffsetsRule)
    (txn_offset_commit_outcome : StageRule) : Type 0 where
  pub adds : (v w : World) (caller : Caller) (r : AddOffsetsToTxnRequest) → SameBase v w
      → SameGranted v w (add_offsets_questions caller r.transactional_id r.group)
      → SameAnswer (add_offsets_outcome v caller r) (add_offsets_outcome w caller r)
  pub stages : (v w : World) (caller : Caller) (r : TxnOffsetCommitRequest) → SameBase v w
      → SameForParts v w (staging_rule w caller r) r.topics
      → SameAnswer (txn_offset_commit_outcome v caller r) (txn_offset_commit_outcome w caller r)

-- To add a group to a transaction changes the record of one transactional id, and no group; to
-- stage offsets changes one group, and no transactional id. No log is touched.
pub record StagingKeepsTheRest (add_offsets_outcome : AddOffsetsRule)
    (txn_offset_commit_outcome : StageRule) : Type 0 where
  pub adds : (w : World) (caller : Caller) (r : AddOffsetsToTxnRequest)
      → KeepsOtherIds w r.transactional_id (add_offsets_outcome w caller r)
  pub adds_groups : (w : World) (caller : Caller) (r : AddOffsetsToTxnRequest)
      → (add_offsets_outcome w caller r).world.groups ≡ w.groups
  pub stages : (w : World) (caller : Caller) (r : TxnOffsetCommitRequest)
      → KeepsOtherGroups w r.group (txn_offset_commit_outcome w caller r)
  -- and where the id may not be written, or the group not be read, nothing changes
  pub refused_add : (w : World) (caller : Caller) (q : AddOffsetsToTxnRequest) (r : Refusal)
      → part_refusal (rules_of w) (add_offsets_questions caller q.transactional_id q.group) ≡ Some r
      → IsRefusedWhole w r (add_offsets_outcome w caller q)
  pub refused_stage : (w : World) (caller : Caller) (q : TxnOffsetCommitRequest) (r : Refusal)
      → part_refusal (rules_of w)
      (id_question caller q.transactional_id ∷ read_question caller q.group ∷ [])
      ≡ Some r
      → (txn_offset_commit_outcome w caller q).world.groups ≡ w.groups
