-- EndTxn: a transaction is committed or aborted (Kafka protocol guide, "EndTxn API (Key: 26)";
-- KIP-98; KIP-890 for version 5).
use Rattle.std.specs.Prelude.{ℕ, pos, Bool, List, [], ◌∷◌, if◌then◌else◌}
use Rattle.acl_binding.specs.declared.question.Caller.{Caller}
use Rattle.acl_binding.specs.declared.question.Question.{Question}
use Rattle.wire_types.specs.declared.error_code.ErrorCode.{ErrorCode}
use Rattle.msg_txn.specs.declared.end_txn.EndTxnRequest.{EndTxnRequest}
use Rattle.msg_txn.specs.declared.end_txn.EndTxnRequest.TheVariants as versions
use Rattle.msg_txn.specs.declared.end_txn.EndTxnReply.{EndTxnReply}
use Rattle.msg_txn.specs.declared.end_txn.EndTxnReply.TheVariants as told
use Rattle.msg_txn.specs.EndTxn.{end_txn_of}
use Rattle.msg_admin.specs.declared.reply.Reply.TheVariants as replies
use Rattle.record_batch.specs.declared.transaction_result.TransactionResult.{TransactionResult}
use Rattle.record_batch.specs.declared.transaction_result.TransactionResult.TheVariants.{Commit, Abort}
use Rattle.txn_coordinator.specs.declared.ending.EndForm.{EndForm}
use Rattle.txn_coordinator.specs.declared.ending.EndForm.TheVariants.{Plain, Fencing, Raising}
use Rattle.txn_coordinator.specs.declared.producer_id.ProducerIdAndEpoch.{ProducerIdAndEpoch}
use Rattle.txn_coordinator.specs.declared.producer_id.ProducerIdAnswer.{ProducerIdAnswer}
use Rattle.txn_coordinator.specs.Transition.{Transition}
use Rattle.txn_coordinator.specs.Words.{no_producer}
use Rattle.txn_coordinator.specs.Coordinator.{CoordinatorValue, apply_transition, transition_answer}
use Rattle.txn_coordinator.specs.EndTxn.{end}
use Rattle.broker_world.specs.World.{World}
use Rattle.broker_world.specs.HandlerResult.{HandlerResult}
use Rattle.broker_world.specs.Whole.{Served, whole_outcome}
use Rattle.broker_world.specs.Questions.{id_question}

-- ---- what is asked

-- from version 2 on another epoch is told as fenced, and in version 5 each ending raises the epoch
abbrev pub form_of : EndTxnRequest → EndForm
form_of (versions.Version0 r) = Plain
form_of (versions.Version1 r) = Plain
form_of (versions.Version2 r) = Fencing
form_of (versions.Version3 r) = Fencing
form_of (versions.Version4 r) = Fencing
form_of (versions.Version5 r) = Raising

abbrev pub ending_id : EndTxnRequest → List ℕ
ending_id r = (end_txn_of r).transactional_id

abbrev pub ending_id_and_epoch : EndTxnRequest → ProducerIdAndEpoch
ending_id_and_epoch r = record { producer = (end_txn_of r).producer; epoch = (end_txn_of r).epoch }

abbrev pub ending_of : Bool → TransactionResult
ending_of committed = if committed then Commit else Abort

abbrev pub ending_outcome : EndTxnRequest → TransactionResult
ending_outcome r = ending_of (end_txn_of r).committed

-- to write with the transactional id
abbrev pub end_questions : Caller → EndTxnRequest → List Question
end_questions caller r = id_question caller (ending_id r) ∷ []

-- ---- what is answered

-- in the version of the request; version 5 tells the pair too
abbrev pub end_reply : EndTxnRequest → ProducerIdAnswer → EndTxnReply
end_reply (versions.Version0 r) a = told.Version0 (record { throttle = pos 0; error = a.code })
end_reply (versions.Version1 r) a = told.Version1 (record { throttle = pos 0; error = a.code })
end_reply (versions.Version2 r) a = told.Version2 (record { throttle = pos 0; error = a.code })
end_reply (versions.Version3 r) a = told.Version3 (record { throttle = pos 0; error = a.code })
end_reply (versions.Version4 r) a = told.Version4 (record { throttle = pos 0; error = a.code })
end_reply (versions.Version5 r) a =
    told.Version5
    (record
    { throttle = pos 0; error = a.code; producer = a.pair.producer; epoch = a.pair.epoch })

-- a code without a pair
abbrev pub end_error : EndTxnRequest → ErrorCode → EndTxnReply
end_error r code = end_reply r (record { code = code; pair = no_producer })

-- what the coordinator makes of it
abbrev pub end_transition : CoordinatorValue → EndTxnRequest → Transition
end_transition c r = end c (form_of r) (ending_id r) (ending_id_and_epoch r) (ending_outcome r)

abbrev pub served_end : World → EndTxnRequest → Served
served_end w r = record {
  world = record w
      { coordinator = apply_transition w.coordinator (end_transition w.coordinator r) };
  reply = replies.EndTxn
      (end_reply r
      (transition_answer w.coordinator (ending_id r) (end_transition w.coordinator r)));
}

abbrev pub end_txn_outcome : World → Caller → EndTxnRequest → HandlerResult
end_txn_outcome w caller r =
    whole_outcome w (end_questions caller r) (λ code. replies.EndTxn (end_error r code))
    (served_end w r)
