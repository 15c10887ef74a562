-- AddOffsetsToTxn: a group becomes part of a transaction (Kafka protocol guide, "AddOffsetsToTxn
-- API (Key: 25)"; KIP-98).
use Rattle.std.specs.Prelude.{ℕ, pos, List, [], ◌∷◌}
use Rattle.acl_binding.specs.declared.question.Caller.{Caller}
use Rattle.acl_binding.specs.declared.question.Question.{Question}
use Rattle.wire_types.specs.declared.error_code.ErrorCode.{ErrorCode}
use Rattle.msg_txn.specs.declared.add_offsets.AddOffsetsToTxnRequest.{AddOffsetsToTxnRequest}
use Rattle.msg_txn.specs.declared.add_offsets.AddOffsetsToTxnReply.{AddOffsetsToTxnReply}
use Rattle.msg_admin.specs.declared.reply.Reply.TheVariants as replies
use Rattle.txn_coordinator.specs.Transition.{Transition}
use Rattle.txn_coordinator.specs.Coordinator.{CoordinatorValue, apply_transition, transition_code}
use Rattle.txn_coordinator.specs.Adding.{add_group}
use Rattle.broker_world.specs.World.{World}
use Rattle.broker_world.specs.HandlerResult.{HandlerResult}
use Rattle.broker_world.specs.Whole.{Served, whole_outcome}
use Rattle.broker_world.specs.Questions.{id_question}
use Rattle.broker_world.specs.Questions.{read_question}

-- to write with the transactional id, and then to read the group
abbrev pub add_offsets_questions : Caller → List ℕ → List ℕ → List Question
add_offsets_questions caller id group = id_question caller id ∷ read_question caller group ∷ []

abbrev pub add_offsets_reply : ErrorCode → AddOffsetsToTxnReply
add_offsets_reply code = record { throttle = pos 0; error = code }

-- what the coordinator makes of it
abbrev pub add_offsets_transition : CoordinatorValue → ℕ → AddOffsetsToTxnRequest → Transition
add_offsets_transition c moment r =
    add_group c r.transactional_id (record { producer = r.producer; epoch = r.epoch }) moment
    r.group

abbrev pub served_add_offsets : World → AddOffsetsToTxnRequest → Served
served_add_offsets w r = record {
  world = record w {
    coordinator = apply_transition w.coordinator (add_offsets_transition w.coordinator w.moment r);
  };
  reply = replies.AddOffsetsToTxn
      (add_offsets_reply (transition_code (add_offsets_transition w.coordinator w.moment r)));
}

abbrev pub add_offsets_outcome : World → Caller → AddOffsetsToTxnRequest → HandlerResult
add_offsets_outcome w caller r =
    whole_outcome w (add_offsets_questions caller r.transactional_id r.group)
    (λ code. replies.AddOffsetsToTxn (add_offsets_reply code)) (served_add_offsets w r)
