-- Offsets of a transaction, played through: what is fetched before its end, and after it.
use Rattle.std.specs.Prelude.{◌≡◌, ℤ, pos, negsuc, Bool, true, false, List, [], ◌∷◌, ◌++◌, codes as bytes, Some, None}
use Rattle.acl_binding.specs.Book.{empty_book}
use Rattle.wire_types.specs.declared.error_code.ErrorCode.TheVariants as codes
use Rattle.msg_txn.specs.declared.end_txn.EndTxnRequest.TheVariants as versions
use Rattle.msg_admin.specs.declared.request.Request.{Request}
use Rattle.msg_admin.specs.declared.request.Request.TheVariants.{InitProducerId, AddOffsetsToTxn, TxnOffsetCommit, EndTxn, OffsetFetch}
use Rattle.msg_admin.specs.declared.reply.Reply.{Reply}
use Rattle.msg_admin.specs.declared.reply.Reply.TheVariants as replies
use Rattle.audit_trail.specs.declared.event.Event.{Event}
use Rattle.audit_trail.specs.declared.event.Event.TheVariants.{Ask, Mark}
use Rattle.txn_coordinator.specs.Coordinator.{no_transactions}
use Rattle.broker_world.specs.World.{World}
use Rattle.broker_laws.specs.Rules.{WorldRule, ReplyRule, world_after}

-- a topic `a` with one partition, and `User:root` may do everything
abbrev pub cluster : World
cluster = record {
  node = record {
    node_id = pos 0;
    host = bytes "h";
    port = pos 9092;
    max_batch = pos 1048576;
    max_txn_timeout = pos 900000;
  };
  supers = bytes "User:root" ∷ [];
  book = empty_book;
  topics = record { name = bytes "a"; partitions = [] ∷ [] } ∷ [];
  coordinator = no_transactions;
  groups = [];
  moment = 0;
  events = 0;
}

abbrev pub asks : Request → Event
asks request = Ask (record { who = bytes "User:root"; host = bytes "h" }) None request

-- the transactional id `t` stages the offset 5 of the group `g` for partition 0 of `a`
abbrev pub stages : List Event
stages =
    asks (InitProducerId (record { transactional_id = Some (bytes "t"); timeout = pos 1000 }))
    ∷ asks
    (AddOffsetsToTxn
    (record {
      transactional_id = bytes "t";
      producer = pos 0;
      epoch = pos 0;
      group = bytes "g";
    }))
    ∷ asks
    (TxnOffsetCommit
    (record {
      transactional_id = bytes "t";
      group = bytes "g";
      producer = pos 0;
      epoch = pos 0;
      generation = negsuc 0;
      member = [];
      instance = None;
      topics = record {
        name = bytes "a";
        partitions = record {
          index = pos 0;
          offset = pos 5;
          leader_epoch = negsuc 0;
          metadata = None;
        }
            ∷ [];
      }
          ∷ [];
    }))
    ∷ []

-- and commits or aborts, and its marker is written
abbrev pub ends : Bool → List Event
ends committed =
    asks
    (EndTxn
    (versions.Version1
    (record {
      transactional_id = bytes "t";
      producer = pos 0;
      epoch = pos 0;
      committed = committed;
    })))
    ∷ Mark
    ∷ []

-- an OffsetFetch of that partition
abbrev pub fetches : Event
fetches =
    asks
    (OffsetFetch
    (record {
      group = bytes "g";
      topics = Some (record { name = bytes "a"; partitions = pos 0 ∷ [] } ∷ []);
      require_stable = false;
    }))

-- tells this offset, and no error
abbrev pub tells : ℤ → Reply
tells offset =
    replies.OffsetFetch
    (record {
      throttle = pos 0;
      topics = record {
        name = bytes "a";
        partitions = record {
          index = pos 0;
          offset = offset;
          leader_epoch = negsuc 0;
          metadata = Some [];
          error = codes.None;
        }
            ∷ [];
      }
          ∷ [];
      error = codes.None;
    })

-- a staged offset is fetched once its transaction is committed, neither before that nor where it is
-- aborted
pub record OffsetsFollowTheEnd (step : WorldRule) (reply_to : ReplyRule) : Type 0 where
  pub undecided : reply_to (world_after step cluster stages) fetches ≡ tells (negsuc 0)
  pub committed : reply_to (world_after step cluster (stages ++ ends true)) fetches ≡ tells (pos 5)
  pub aborted : reply_to (world_after step cluster (stages ++ ends false)) fetches
      ≡ tells (negsuc 0)
