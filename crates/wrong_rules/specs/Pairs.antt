-- Which producer id and epoch a client is told (KIP-98, 'InitProducerIdResponse'; KIP-890 for
-- EndTxn 5).
use Rattle.std.specs.Prelude.{◌≡◌, ℕ, pos, List, [], ◌∷◌, Option, Some}
use Rattle.std.specs.Option.{option_map}
use Rattle.wire_types.specs.declared.error_code.ErrorCode.TheVariants as codes
use Rattle.acl_binding.specs.declared.question.Caller.{Caller}
use Rattle.msg_txn.specs.declared.init_producer_id.InitProducerIdRequest.{InitProducerIdRequest}
use Rattle.msg_txn.specs.declared.init_producer_id.InitProducerIdReply.{InitProducerIdReply}
use Rattle.msg_txn.specs.declared.end_txn.EndTxnReply.{EndTxnReply}
use Rattle.msg_txn.specs.declared.end_txn.EndTxnReply.TheVariants as versions
use Rattle.msg_admin.specs.declared.request.Request.TheVariants as requests
use Rattle.msg_admin.specs.declared.reply.Reply.{Reply}
use Rattle.msg_admin.specs.declared.reply.Reply.TheVariants as replies
use Rattle.audit_trail.specs.declared.event.Event.TheVariants.{Ask}
use Rattle.txn_coordinator.specs.declared.producer_id.ProducerIdAndEpoch.{ProducerIdAndEpoch}
use Rattle.txn_coordinator.specs.declared.transaction.Transaction.{Transaction}
use Rattle.txn_coordinator.specs.Coordinator.{CoordinatorValue, id_record}
use Rattle.broker_world.specs.World.{World}
use Rattle.api_dispatch.specs.Step.{outcome}
use Rattle.wrong_rules.specs.Steps.{StepRule, reply_after, with_reply, cluster, inits, adds, commits_in_5}

-- the producer id and epoch of a transactional id, if it has a record
abbrev pub pair_of : CoordinatorValue → List ℕ → Option ProducerIdAndEpoch
pair_of c id = option_map (λ (t : Transaction). t.pair) (id_record c.transactions id)

-- an InitProducerId with a transactional id that is answered no error tells the producer id and the
-- epoch that the id has then
abbrev pub InitTellsThePair : StepRule → Type 0
InitTellsThePair rule =
    (w : World) (caller : Caller) (client : Option (List ℕ)) (r : InitProducerIdRequest)
    (id : List ℕ) (reply : InitProducerIdReply)
    → r.transactional_id ≡ Some id
    → (rule w (Ask caller client (requests.InitProducerId r))).reply ≡ replies.InitProducerId reply
    → reply.error ≡ codes.None
    → pair_of (rule w (Ask caller client (requests.InitProducerId r))).world.coordinator id
    ≡ Some (record { producer = reply.producer; epoch = reply.epoch })

-- an EndTxn 5 tells the next epoch
abbrev pub EndTellsTheNextEpoch : StepRule → Type 0
EndTellsTheNextEpoch rule =
    reply_after rule cluster (inits (pos 1000) ∷ adds (pos 0) (pos 0 ∷ []) ∷ [])
    (commits_in_5 (pos 0))
    ≡ replies.EndTxn
    (versions.Version5
    (record { throttle = pos 0; error = codes.None; producer = pos 0; epoch = pos 1 }))

-- ---- wrong

abbrev pub tell_epoch_0 : Reply → Reply
tell_epoch_0 (replies.InitProducerId reply) =
    replies.InitProducerId (record reply { epoch = pos 0 })
tell_epoch_0 reply = reply

-- each InitProducerId is told epoch 0
abbrev pub step_telling_epoch_0 : StepRule
step_telling_epoch_0 w e = with_reply tell_epoch_0 (outcome w e)

-- nothing is kept of an InitProducerId
abbrev pub step_keeping_no_init : StepRule
step_keeping_no_init w (Ask caller client (requests.InitProducerId r)) =
    record (outcome w (Ask caller client (requests.InitProducerId r))) { world = w }
step_keeping_no_init w e = outcome w e

abbrev pub with_old_epoch : EndTxnReply → EndTxnReply
with_old_epoch (versions.Version5 r) = versions.Version5 (record r { epoch = pos 0 })
with_old_epoch reply = reply

abbrev pub tell_old_epoch : Reply → Reply
tell_old_epoch (replies.EndTxn reply) = replies.EndTxn (with_old_epoch reply)
tell_old_epoch reply = reply

-- EndTxn 5 tells the epoch that ended
abbrev pub step_telling_old_epoch : StepRule
step_telling_old_epoch w e = with_reply tell_old_epoch (outcome w e)
