-- The small world in which wrong rules are refuted: a topic `a` with one partition, and `User:root`, who may do everything.
use Rattle.std.proofs.Common.{pos, negsuc, [], ◌∷◌, Some, None, codes as bytes}
use Rattle.acl_binding.specs.declared.question.Caller.{Caller}
use Rattle.acl_binding.specs.Book.{empty_book}
use Rattle.record_batch.specs.Batch.{BatchData}
use Rattle.msg_txn.specs.declared.txn_offset_commit.TxnOffsetCommitRequest.{TxnOffsetCommitRequest}
use Rattle.msg_admin.specs.declared.request.Request.{Request}
use Rattle.audit_trail.specs.declared.event.Event.{Event}
use Rattle.audit_trail.specs.declared.event.Event.TheVariants.{Ask}
use Rattle.txn_coordinator.specs.declared.transaction.Transaction.{Transaction}
use Rattle.txn_coordinator.specs.declared.transaction.TransactionState.TheVariants.{Ongoing}
use Rattle.txn_coordinator.specs.Coordinator.{CoordinatorValue, no_transactions}
use Rattle.group_offsets.specs.declared.event.PartitionOffset.{PartitionOffset}
use Rattle.group_offsets.specs.declared.event.OffsetEvent.TheVariants.{Put}
use Rattle.group_offsets.specs.declared.group.Group.{Group}
use Rattle.group_offsets.specs.declared.member.Member.{Member}
use Rattle.broker_world.specs.World.{World}

abbrev pub w : World
w = record {
  node = record { node_id = pos 0; host = bytes "h"; port = pos 9092; max_batch = pos 1048576; max_txn_timeout = pos 900000 };
  supers = bytes "User:root" ∷ [];
  book = empty_book;
  topics = record { name = bytes "a"; partitions = [] ∷ [] } ∷ [];
  coordinator = no_transactions;
  groups = [];
  moment = 0;
  events = 0;
}

abbrev pub root : Caller
root = record { who = bytes "User:root"; host = bytes "h" }

abbrev pub asks : Request → Event
asks request = Ask root None request

-- ---- a batch

abbrev pub batch : BatchData
batch = record {
  header = record { base_offset = pos 0; batch_length = pos 49; partition_leader_epoch = pos 0; magic = pos 2; crc = 0; attributes = pos 0; last_offset_delta = pos 0; base_timestamp = pos 0; max_timestamp = pos 0; producer_id = negsuc 0; producer_epoch = negsuc 0; base_sequence = negsuc 0; record_count = pos 1 };
  records = [];
  marker = None;
  bytes = [];
}

abbrev pub with_batch : World
with_batch = record w { topics = record { name = bytes "a"; partitions = (batch ∷ []) ∷ [] } ∷ [] }

-- ---- the group `g`, whose member is `m`, in generation 1

abbrev pub five : PartitionOffset
five = record { topic = bytes "a"; index = pos 0; offset = pos 5; metadata = [] }

abbrev pub member : Member
member = record { id = bytes "m"; session_timeout = 10; heard = 0 }

abbrev pub group : Group
group = record { name = bytes "g"; member = Some member; generation = pos 1; assignment = Some []; offsets = Put five ∷ [] }

abbrev pub with_member : World
with_member = record w { groups = group ∷ [] }

-- ---- the open transaction `t` of producer 0, which takes in the group `h`, and began at 0 for 10 milliseconds

abbrev pub transaction : Transaction
transaction = record { id = bytes "t"; pair = record { producer = pos 0; epoch = pos 0 }; timeout = 10; start = 0; state = Ongoing; partitions = []; groups = bytes "h" ∷ []; kept = None }

abbrev pub open_at_t : CoordinatorValue
open_at_t = record { transactions = transaction ∷ []; given = Some (bytes "t") ∷ []; warrants = [] }

abbrev pub with_open : World
with_open = record w { coordinator = open_at_t }

-- its offset 5 in the group `h`
abbrev pub staging : TxnOffsetCommitRequest
staging = record { transactional_id = bytes "t"; group = bytes "h"; producer = pos 0; epoch = pos 0; generation = negsuc 0; member = []; instance = None; topics = record { name = bytes "a"; partitions = record { index = pos 0; offset = pos 5; leader_epoch = negsuc 0; metadata = None } ∷ [] } ∷ [] }
