-- InitProducerId: a producer, or a transactional id, is given a producer id with an epoch (Kafka
-- protocol guide, "InitProducerId API (Key: 22)"; KIP-98; KIP-679 for who may).
use Rattle.std.specs.Prelude.{ℕ, ℤ, pos, negsuc, Bool, ◌&&◌, List, [], ◌∷◌, if◌then◌else◌, Option, Some, None, is_some}
use Rattle.wire_types.specs.declared.error_code.ErrorCode.{ErrorCode}
use Rattle.wire_types.specs.declared.error_code.ErrorCode.TheVariants as codes
use Rattle.msg_txn.specs.declared.init_producer_id.InitProducerIdRequest.{InitProducerIdRequest}
use Rattle.msg_txn.specs.declared.init_producer_id.InitProducerIdReply.{InitProducerIdReply}
use Rattle.acl_binding.specs.declared.question.Caller.{Caller}
use Rattle.acl_binding.specs.declared.question.Question.{Question}
use Rattle.acl_binding.specs.declared.words.Kind.TheVariants as kinds
use Rattle.acl_binding.specs.declared.words.Operation.TheVariants as operations
use Rattle.acl_binding.specs.Creatable.{cluster_name}
use Rattle.acl_binding.specs.Verdict.{question_of}
use Rattle.msg_admin.specs.declared.reply.Reply.{Reply}
use Rattle.msg_admin.specs.declared.reply.Reply.TheVariants as replies
use Rattle.authorizer.specs.AnyTopic.{any_topic}
use Rattle.authorizer.specs.Asking.{Rules, question_refusal}
use Rattle.authorizer.specs.Policy.{PolicyValue, PermitValue, IsGood}
use Rattle.txn_coordinator.specs.Permission.{MayWrite}
use Rattle.txn_coordinator.specs.declared.producer_id.ProducerIdAnswer.{ProducerIdAnswer}
use Rattle.txn_coordinator.specs.Coordinator.{CoordinatorValue, fresh_producer_id, given_free, apply_transition, transition_answer}
use Rattle.txn_coordinator.specs.InitProducerId.{init}
use Rattle.broker_world.specs.World.{World, rules_of}
use Rattle.broker_world.specs.HandlerResult.{HandlerResult}
use Rattle.broker_world.specs.Whole.{Served, whole_outcome}

-- to write with the transactional id, if one is given, or else to write idempotently to the cluster
abbrev pub init_question : Caller → Option (List ℕ) → Question
init_question caller None = question_of caller operations.IdempotentWrite kinds.Cluster cluster_name
init_question caller (Some id) = question_of caller operations.Write kinds.TransactionalId id

-- who isn't granted that without an id but may write to some topic is asked nothing (KIP-679)
abbrev pub is_waived : Rules → Caller → Bool
is_waived rules caller =
    any_topic rules.book.entries caller.who caller.host
    && is_some (question_refusal rules (init_question caller None))

abbrev pub init_questions : Rules → Caller → Option (List ℕ) → List Question
init_questions rules caller None =
    if is_waived rules caller then [] else init_question caller None ∷ []
init_questions rules caller (Some id) = init_question caller (Some id) ∷ []

-- a producer id with its first epoch
abbrev pub init_given : ℤ → InitProducerIdReply
init_given producer =
    record { throttle = pos 0; error = codes.None; producer = producer; epoch = pos 0 }

abbrev pub init_error : ErrorCode → InitProducerIdReply
init_error code = record { throttle = pos 0; error = code; producer = negsuc 0; epoch = negsuc 0 }

-- the pair that a transactional id has from then on, or an error
abbrev pub init_answered : ProducerIdAnswer → InitProducerIdReply
init_answered a =
    record { throttle = pos 0; error = a.code; producer = a.pair.producer; epoch = a.pair.epoch }

-- Without a transactional id the producer is given the next producer id, whatever its timeout. With
-- one it is the coordinator's call.
abbrev pub coordinator_for : Option (List ℕ) → CoordinatorValue → ℤ → ℤ → CoordinatorValue
coordinator_for None c greatest timeout = given_free c
coordinator_for (Some id) c greatest timeout = apply_transition c (init c id timeout greatest)

abbrev pub reply_for : Option (List ℕ) → CoordinatorValue → ℤ → ℤ → InitProducerIdReply
reply_for None c greatest timeout = init_given (fresh_producer_id c)
reply_for (Some id) c greatest timeout =
    init_answered (transition_answer c id (init c id timeout greatest))

abbrev pub coordinator_after : CoordinatorValue → ℤ → InitProducerIdRequest → CoordinatorValue
coordinator_after c greatest r = coordinator_for r.transactional_id c greatest r.timeout

abbrev pub init_reply : CoordinatorValue → ℤ → InitProducerIdRequest → Reply
init_reply c greatest r = replies.InitProducerId (reply_for r.transactional_id c greatest r.timeout)

abbrev pub served_init : World → InitProducerIdRequest → Served
served_init w r =
    record {
      world = record w
          { coordinator = coordinator_after w.coordinator w.node.max_txn_timeout r };
      reply = init_reply w.coordinator w.node.max_txn_timeout r;
    }

abbrev pub init_producer_id_outcome : World → Caller → InitProducerIdRequest → HandlerResult
init_producer_id_outcome w caller r =
    whole_outcome w (init_questions (rules_of w) caller r.transactional_id)
    (λ code. replies.InitProducerId (init_error code)) (served_init w r)

-- ---- who may

-- a permit that may be spent, and for a transactional id one of writing with it
abbrev pub IsInitPermit : PolicyValue → PermitValue → Option (List ℕ) → Type 0
IsInitPermit policy permit None = IsGood policy permit
IsInitPermit policy permit (Some id) = MayWrite policy permit id
