-- A broker's step, and the small cluster in which scripts of events are played to it.
use Rattle.std.specs.Prelude.{ℤ, pos, true, List, [], ◌∷◌, codes as bytes, Some, None}
use Rattle.acl_binding.specs.declared.question.Caller.{Caller}
use Rattle.acl_binding.specs.Book.{empty_book}
use Rattle.msg_txn.specs.declared.end_txn.EndTxnRequest.TheVariants as versions
use Rattle.msg_admin.specs.declared.request.Request.{Request}
use Rattle.msg_admin.specs.declared.request.Request.TheVariants as requests
use Rattle.msg_admin.specs.declared.reply.Reply.{Reply}
use Rattle.audit_trail.specs.declared.event.Event.{Event}
use Rattle.audit_trail.specs.declared.event.Event.TheVariants.{Ask}
use Rattle.txn_coordinator.specs.Coordinator.{CoordinatorValue, no_transactions}
use Rattle.broker_world.specs.World.{World, LogValue}
use Rattle.broker_world.specs.HandlerResult.{HandlerResult}

-- what an event comes to in a world
abbrev pub StepRule : Type 0
StepRule = World → Event → HandlerResult

-- the world after these events, one after the other
abbrev pub world_after : StepRule → World → List Event → World
world_after rule w [] = w
world_after rule w (e ∷ es) = world_after rule (rule w e).world es

-- what the last event is answered, after these others
abbrev pub reply_after : StepRule → World → List Event → Event → Reply
reply_after rule w before last = (rule (world_after rule w before) last).reply

-- ---- wrong steps are made of the right one: by another reply, or another world after it

abbrev pub with_reply : (Reply → Reply) → HandlerResult → HandlerResult
with_reply f o = record o { reply = f o.reply }

abbrev pub with_coordinator : (CoordinatorValue → CoordinatorValue) → HandlerResult → HandlerResult
with_coordinator f o = record o { world = record o.world { coordinator = f o.world.coordinator } }

-- ---- the cluster: a topic `a`, and `User:root` alone may do everything

abbrev pub cluster_with : List LogValue → World
cluster_with logs = record {
  node = record {
    node_id = pos 0;
    host = bytes "h";
    port = pos 9092;
    max_batch = pos 1048576;
    max_txn_timeout = pos 900000;
  };
  supers = bytes "User:root" ∷ [];
  book = empty_book;
  topics = record { name = bytes "a"; partitions = logs } ∷ [];
  coordinator = no_transactions;
  groups = [];
  moment = 0;
  events = 0;
}

-- with one partition, and with two
abbrev pub cluster : World
cluster = cluster_with ([] ∷ [])

abbrev pub cluster_of_two : World
cluster_of_two = cluster_with ([] ∷ [] ∷ [])

abbrev pub root : Caller
root = record { who = bytes "User:root"; host = bytes "h" }

abbrev pub asks : Request → Event
asks request = Ask root None request

-- ---- requests of the transactional id `t`

abbrev pub inits : ℤ → Event
inits timeout =
    asks
    (requests.InitProducerId
    (record { transactional_id = Some (bytes "t"); timeout = timeout }))

-- AddPartitionsToTxn of the topic `a`, by producer id 0
abbrev pub adds : ℤ → List ℤ → Event
adds epoch partitions =
    asks
    (requests.AddPartitionsToTxn
    (record {
      transactional_id = bytes "t";
      producer = pos 0;
      epoch = epoch;
      topics = record { name = bytes "a"; partitions = partitions } ∷ [];
    }))

-- EndTxn 1 and EndTxn 5, each to commit
abbrev pub commits : ℤ → Event
commits epoch =
    asks
    (requests.EndTxn
    (versions.Version1
    (record {
      transactional_id = bytes "t";
      producer = pos 0;
      epoch = epoch;
      committed = true;
    })))

abbrev pub commits_in_5 : ℤ → Event
commits_in_5 epoch =
    asks
    (requests.EndTxn
    (versions.Version5
    (record {
      asked = record {
        transactional_id = bytes "t";
        producer = pos 0;
        epoch = epoch;
        committed = true;
      };
    })))
