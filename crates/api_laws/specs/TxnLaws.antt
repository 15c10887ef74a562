-- What holds of AddPartitionsToTxn and EndTxn, and of InitProducerId for a transactional id.
use Rattle.std.specs.Prelude.{◌≡◌, ℕ, ℤ, false, is_none, List, [], ◌∷◌, Some, None}
use Rattle.acl_binding.specs.declared.question.Caller.{Caller}
use Rattle.authorizer.specs.declared.answer.Refusal.{Refusal}
use Rattle.authorizer.specs.Asking.{part_refusal}
use Rattle.msg_txn.specs.declared.init_producer_id.InitProducerIdRequest.{InitProducerIdRequest}
use Rattle.msg_txn.specs.declared.add_partitions.AddPartitionsToTxnRequest.{AddPartitionsToTxnRequest}
use Rattle.msg_txn.specs.declared.end_txn.EndTxnRequest.{EndTxnRequest}
use Rattle.walk.specs.Walk.{plain_topics, answers, refusals}
use Rattle.walk.specs.Alike.{AllTopics}
use Rattle.txn_coordinator.specs.Coordinator.{id_record, apply_transition, transition_code}
use Rattle.broker_world.specs.World.{World, rules_of}
use Rattle.broker_world.specs.HandlerResult.{HandlerResult}
use Rattle.broker_world.specs.Logs.{log_at}
use Rattle.broker_world.specs.Questions.{id_question}
use Rattle.txn_handlers.specs.EndTxn.{end_questions, ending_id}
use Rattle.txn_handlers.specs.AddPartitions.{add_questions, cut_rule, code_rule, add_transition, add_reply}
use Rattle.api_laws.specs.Tenants.{SameBase, SameGranted}
use Rattle.api_laws.specs.DataTenants.{SameForParts, SameAnswer}
use Rattle.api_laws.specs.AclLaws.{IsRefusedWhole}
use Rattle.api_laws.specs.ProducerLaws.{InitRule}

-- ---- all partitions are added, or none

-- both questions of the partition are granted, and it is there
pub record IsAddable (w : World) (caller : Caller) (id name : List ℕ) (index : ℤ) : Type 0 where
  pub granted : part_refusal (rules_of w) (add_questions caller id name) ≡ None
  pub there : is_none (log_at w.topics name index) ≡ false

-- nothing is added: each partition that is refused is told so, each other one that it is missing,
-- or else that nothing was tried
pub record IsCut (w : World) (caller : Caller) (r : AddPartitionsToTxnRequest) (o : HandlerResult)
    : Type 0 where
  pub world : o.world ≡ w
  pub reply : o.reply
      ≡ add_reply (answers (cut_rule caller r.transactional_id w.topics) (rules_of w) tt r.topics)
  pub refusals : o.refusals
      ≡ refusals (cut_rule caller r.transactional_id w.topics) (rules_of w) r.topics

-- the coordinator decides, and all are told its code
pub record IsWhole (w : World) (r : AddPartitionsToTxnRequest) (o : HandlerResult) : Type 0 where
  pub coordinator : o.world.coordinator
      ≡ apply_transition w.coordinator (add_transition w.coordinator w.moment r)
  pub topics : o.world.topics ≡ w.topics
  pub reply : o.reply
      ≡ add_reply
      (plain_topics (code_rule (transition_code (add_transition w.coordinator w.moment r))) tt
      r.topics)
  pub refusals : o.refusals ≡ []

-- what an AddPartitionsToTxn and an EndTxn come to
abbrev pub AddRule : Type 0
AddRule = World → Caller → AddPartitionsToTxnRequest → HandlerResult

abbrev pub EndRule : Type 0
EndRule = World → Caller → EndTxnRequest → HandlerResult

-- where each partition may be added the coordinator decides for all, and where one may not be, none
-- is added
pub record AddsAllOrNone (add_partitions_outcome : AddRule) : Type 0 where
  pub all : (w : World) (caller : Caller) (r : AddPartitionsToTxnRequest)
      → AllTopics (IsAddable w caller r.transactional_id) r.topics
      → IsWhole w r (add_partitions_outcome w caller r)
  pub none : (w : World) (caller : Caller) (r : AddPartitionsToTxnRequest)
      → (AllTopics (IsAddable w caller r.transactional_id) r.topics → ⊥)
      → IsCut w caller r (add_partitions_outcome w caller r)

-- ---- what the answers depend on

-- Worlds that agree on what is granted of a request, and on the producer ids given out, give the
-- same answer.
pub record TransactionsDependOnGrants (end_txn_outcome : EndRule)
    (add_partitions_outcome : AddRule) : Type 0 where
  pub ends : (v w : World) (caller : Caller) (r : EndTxnRequest) → SameBase v w
      → SameGranted v w (end_questions caller r)
      → SameAnswer (end_txn_outcome v caller r) (end_txn_outcome w caller r)
  pub adds : (v w : World) (caller : Caller) (r : AddPartitionsToTxnRequest) → SameBase v w
      → SameForParts v w (cut_rule caller r.transactional_id w.topics) r.topics
      → SameAnswer (add_partitions_outcome v caller r) (add_partitions_outcome w caller r)

-- ---- what stays as it was

-- another transactional id has the record that it had, and no log is touched
pub record KeepsOtherIds (w : World) (id : List ℕ) (o : HandlerResult) : Type 0 where
  pub others : (other : List ℕ) → (other ≡ id → ⊥)
      → id_record o.world.coordinator.transactions other
      ≡ id_record w.coordinator.transactions other
  pub topics : o.world.topics ≡ w.topics

-- a request for one transactional id leaves each other one as it was
pub record TransactionsKeepTheRest (init_producer_id_outcome : InitRule)
    (add_partitions_outcome : AddRule) (end_txn_outcome : EndRule) : Type 0 where
  pub inits : (w : World) (caller : Caller) (r : InitProducerIdRequest) (id : List ℕ)
      → r.transactional_id ≡ Some id → KeepsOtherIds w id (init_producer_id_outcome w caller r)
  pub adds : (w : World) (caller : Caller) (r : AddPartitionsToTxnRequest)
      → KeepsOtherIds w r.transactional_id (add_partitions_outcome w caller r)
  pub ends : (w : World) (caller : Caller) (r : EndTxnRequest)
      → KeepsOtherIds w (ending_id r) (end_txn_outcome w caller r)
  -- and where writing with the id isn't granted, nothing changes
  pub refused_end : (w : World) (caller : Caller) (q : EndTxnRequest) (r : Refusal)
      → part_refusal (rules_of w) (end_questions caller q) ≡ Some r
      → IsRefusedWhole w r (end_txn_outcome w caller q)
  pub refused_add : (w : World) (caller : Caller) (q : AddPartitionsToTxnRequest) (r : Refusal)
      → part_refusal (rules_of w) (id_question caller q.transactional_id ∷ []) ≡ Some r
      → (add_partitions_outcome w caller q).world ≡ w
