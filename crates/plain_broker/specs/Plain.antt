-- The plain broker, to which everything is allowed, and the headline in its own words: an event
-- comes to the plain broker's answer to the allowed part of the request, with each refused part's
-- code at its place.
use Rattle.std.specs.Prelude.{◌≡◌, ℕ, ℤ, pos, List, [], ◌∷◌, map, Option}
use Rattle.acl_binding.specs.declared.question.Caller.{Caller}
use Rattle.wire_types.specs.declared.topic.Topic.{Topic}
use Rattle.msg_txn.specs.declared.add_partitions.AddPartitionsToTxnRequest.{AddPartitionsToTxnRequest}
use Rattle.msg_txn.specs.declared.add_partitions.AddedPartition.{AddedPartition}
use Rattle.msg_admin.specs.declared.request.Request.{Request}
use Rattle.msg_admin.specs.declared.reply.Reply.{Reply}
use Rattle.msg_admin.specs.declared.reply.Reply.TheVariants as replies
use Rattle.audit_trail.specs.declared.event.Event.TheVariants.{Ask}
use Rattle.broker_world.specs.World.{World, TopicValue, rules_of}
use Rattle.broker_world.specs.Logs.{log_at}
use Rattle.broker_world.specs.HandlerResult.{HandlerResult}
use Rattle.broker_world.specs.Whole.{Served}
use Rattle.txn_handlers.specs.AddPartitions.{added_partition, cut_code}
use Rattle.api_dispatch.specs.Step.{request_outcome, with_event_counted, step, reply_to}
use Rattle.plain_broker.specs.Allowed.{Allowed, Rest, Cut, Nothing, allowed_part}
use Rattle.plain_broker.specs.PutBack.{reply_with_refused, refused_whole}

-- ---- the plain broker

-- the world in which everything is allowed to the caller
abbrev pub unrestricted_world : World → Caller → World
unrestricted_world w caller = record w { supers = caller.who ∷ [] }

abbrev pub plain_outcome : World → Caller → Request → HandlerResult
plain_outcome w caller request = request_outcome (unrestricted_world w caller) caller request

-- a cut AddPartitionsToTxn: a missing partition is told so, and another one that nothing was tried
abbrev pub plain_cut : List TopicValue → Topic ℤ → Topic AddedPartition
plain_cut topics t =
    record {
      name = t.name;
      partitions = map
          (λ (index : ℤ). added_partition (cut_code (log_at topics t.name index)) index)
          t.partitions;
    }

abbrev pub plain_cuts : World → AddPartitionsToTxnRequest → Reply
plain_cuts w r =
    replies.AddPartitionsToTxn
    (record { throttle = pos 0; topics = map (plain_cut w.topics) r.topics })

-- ---- what the allowed part comes to, with the refused ones put back

abbrev pub with_refusals : World → Caller → Request → Allowed → Served
with_refusals w caller request (Rest rest) =
    record {
      world = record (plain_outcome w caller rest).world { supers = w.supers };
      reply = reply_with_refused (rules_of w) caller request (plain_outcome w caller rest).reply;
    }
with_refusals w caller request (Cut cut) =
    record { world = w; reply = reply_with_refused (rules_of w) caller request (plain_cuts w cut) }
with_refusals w caller request (Nothing code) =
    record { world = w; reply = refused_whole code request }

-- ---- the law

-- the request comes to the plain broker's answer to its allowed part, with the refused parts'
-- answers put back
pub record IsPlainOfAllowed (w : World) (caller : Caller) (client : Option (List ℕ))
    (request : Request) : Type 0 where
  pub reply : reply_to w (Ask caller client request)
      ≡ (with_refusals w caller request (allowed_part (rules_of w) caller request)).reply
  pub world : step w (Ask caller client request)
      ≡ with_event_counted
      (with_refusals w caller request (allowed_part (rules_of w) caller request)).world

abbrev pub PlainOfAllowed : Type 0
PlainOfAllowed =
    (w : World) (caller : Caller) (client : Option (List ℕ)) (request : Request)
    → IsPlainOfAllowed w caller client request
