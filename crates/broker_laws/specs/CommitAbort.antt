-- What an EndTxn comes to, from the client's word to what consumers are shown (Kafka protocol
-- guide, "EndTxn API (Key: 26)"; KIP-98, "Control Messages": the key of a marker's record has a
-- version, 0, and a type, 0 for an abort and 1 for a commit).
use Rattle.std.specs.Prelude.{◌≡◌, ◌≤ℤ◌, ◌<ℤ◌, Bool, true, false, ℕ, ℤ, ◌≤◌, List, [], ◌∷◌, ◌++◌, Option, Some, if◌then◌else◌}
use Rattle.acl_binding.specs.declared.question.Caller.{Caller}
use Rattle.wire_types.specs.declared.error_code.ErrorCode.TheVariants as codes
use Rattle.record_batch.specs.declared.record.Rec.{Rec}
use Rattle.record_batch.specs.declared.record.RecordAt.{RecordAt}
use Rattle.record_batch.specs.Batch.{BatchData, IsBatch}
use Rattle.record_batch.specs.BatchHeader.{is_control}
use Rattle.msg_data.specs.declared.isolation.Isolation.TheVariants.{ReadCommitted}
use Rattle.msg_txn.specs.declared.end_txn.EndTxnRequest.{EndTxnRequest}
use Rattle.msg_txn.specs.declared.end_txn.EndTxnReply.{EndTxnReply}
use Rattle.msg_txn.specs.EndTxn.{end_txn_of, error_of}
use Rattle.msg_admin.specs.declared.request.Request.TheVariants.{EndTxn}
use Rattle.msg_admin.specs.declared.reply.Reply.TheVariants as replies
use Rattle.audit_trail.specs.declared.event.Event.TheVariants.{Ask}
use Rattle.audit_trail.specs.declared.trail.Entry.{Entry}
use Rattle.partition_log.specs.declared.served.Served.{Served}
use Rattle.partition_log.specs.Log.{records_of, end_from}
use Rattle.partition_log.specs.Fetch.{served_of}
use Rattle.partition_log.specs.Filter.{filtered_records}
use Rattle.txn_coordinator.specs.declared.target.TopicPartition.{TopicPartition}
use Rattle.txn_coordinator.specs.declared.transaction.Transaction.{Transaction}
use Rattle.txn_coordinator.specs.declared.transaction.TransactionState.TheVariants.{Ongoing}
use Rattle.txn_coordinator.specs.Coordinator.{id_record}
use Rattle.group_offsets.specs.declared.event.OffsetEvent.{OffsetEvent}
use Rattle.group_offsets.specs.Offsets.{offset_of}
use Rattle.group_offsets.specs.Groups.{group_of}
use Rattle.group_offsets.specs.Laws.{or_else, pending_offset}
use Rattle.txn_laws.specs.Sound.{Each, IsAmong}
use Rattle.txn_laws.specs.Laws.{up_to_last}
use Rattle.broker_world.specs.World.{World, LogValue}
use Rattle.broker_world.specs.Logs.{log_at}
use Rattle.api_dispatch.specs.Step.{step}
use Rattle.request_handlers.specs.Core.{CoreValue, IsCore, events_of}
use Rattle.api_laws.specs.LastStable.{IsUnended}
use Rattle.broker_laws.specs.Moves.{count_of_mark_events}
use Rattle.broker_laws.specs.Trails.{world_after_entries}

-- ---- in a log

abbrev pub type_of : Bool → ℕ
type_of false = 0
type_of true = 1

-- a control batch of the producer, with one record, whose key is the version and the type: so its
-- bytes have them
pub record IsMarker (producer : ℤ) (committed : Bool) (m : BatchData) : Type 0 where
  pub by : m.header.producer_id ≡ producer
  pub control : is_control m.header ≡ true
  pub written : IsBatch m
  pub rec : Rec
  pub alone : m.records ≡ rec ∷ []
  pub key : rec.key ≡ Some (0 ∷ 0 ∷ 0 ∷ type_of committed ∷ [])

-- what a consumer makes of a fetch with read_committed, and where that ends
abbrev pub view : LogValue → ℤ → ℕ → Bool → List RecordAt
view log offset budget forced =
    let answer : Served = served_of log offset ReadCommitted budget forced in filtered_records
    answer.batches answer.aborted offset

abbrev pub view_end : LogValue → ℤ → ℕ → Bool → ℤ
view_end log offset budget forced =
    end_from offset (served_of log offset ReadCommitted budget forced).batches

-- each record of the batch that lies in what is served is shown
abbrev pub IsShown : LogValue → BatchData → Type 0
IsShown log b =
    (offset : ℤ) (budget : ℕ) (forced : Bool) (r : RecordAt) → IsAmong (records_of b) r
    → offset ≤ℤ r.offset → r.offset <ℤ view_end log offset budget forced
    → IsAmong (view log offset budget forced) r

-- nothing is shown at the offset of a record of the batch
abbrev pub IsNeverShown : LogValue → BatchData → Type 0
IsNeverShown log b =
    (offset : ℤ) (budget : ℕ) (forced : Bool) (r x : RecordAt) → IsAmong (records_of b) r
    → IsAmong (view log offset budget forced) x → x.offset ≡ r.offset → ⊥

abbrev pub IsShownIf : Bool → LogValue → BatchData → Type 0
IsShownIf true log b = IsShown log b
IsShownIf false log b = IsNeverShown log b

-- The log went on by the marker, which is the first that comes of the producer; and each of its
-- batches that stood unended is shown from then on, or never.
pub record EndsInLog (producer : ℤ) (committed : Bool) (old now : LogValue) : Type 0 where
  pub between : List BatchData
  pub marker : BatchData
  pub rest : List BatchData
  pub log : now ≡ old ++ (between ++ marker ∷ rest)
  pub first : Each (λ (b : BatchData). b.header.producer_id ≡ producer → ⊥) between
  pub is_marker : IsMarker producer committed marker
  pub batches : (before after : List BatchData) (b : BatchData) → old ≡ before ++ b ∷ after
      → b.header.producer_id ≡ producer → IsUnended b after → IsShownIf committed now b

-- ---- in a group

-- The group went on by a decision, and by it the offset that the producer had staged for a
-- partition is the committed one, or the committed one stays.
pub record EndsInGroup (producer : ℤ) (committed : Bool) (old now : List OffsetEvent) : Type 0 where
  pub between : List OffsetEvent
  pub decision : OffsetEvent
  pub rest : List OffsetEvent
  pub events : now ≡ (old ++ between) ++ decision ∷ rest
  pub offsets : (topic : List ℕ) (index : ℤ)
      → offset_of ((old ++ between) ++ decision ∷ []) topic index
      ≡ (if committed
      then or_else (pending_offset old producer topic index)
      (offset_of (old ++ between) topic index)
      else offset_of (old ++ between) topic index)

-- ---- over a trail

-- in the log of the partition, from the old world to the later one
pub record EndsAt (producer : ℤ) (committed : Bool) (old later : World) (p : TopicPartition)
    : Type 0 where
  pub log_before : LogValue
  pub log_after : LogValue
  pub before : log_at old.topics p.topic p.index ≡ Some log_before
  pub after : log_at later.topics p.topic p.index ≡ Some log_after
  pub ends : EndsInLog producer committed log_before log_after

pub record EndsThrough (old later : World) (committed : Bool) (t : Transaction) : Type 0 where
  pub logs : Each (EndsAt t.pair.producer committed old later) t.partitions
  pub groups : Each
      (λ g. EndsInGroup t.pair.producer committed (group_of old.groups g).offsets
      (group_of later.groups g).offsets)
      t.groups

-- Where the trail of a core holds an EndTxn of an open transaction that was answered no error, and
-- after it as many marker steps as markers were pending then up to and including its last one, the
-- transaction is ended as the client said.
abbrev pub CommitsAreShown : Type 0
CommitsAreShown =
    (core : CoreValue) → IsCore core → core.down ≡ false → (before later : List Entry) (x : Entry)
    → core.trail ≡ before ++ x ∷ later
    → (caller : Caller) (client : Option (List ℕ)) (r : EndTxnRequest) (reply : EndTxnReply)
    (t : Transaction)
    → x.event ≡ Ask caller client (EndTxn r) → x.reply ≡ replies.EndTxn reply
    → error_of reply ≡ codes.None
    → id_record (world_after_entries core before).coordinator.transactions
    (end_txn_of r).transactional_id
    ≡ Some t
    → t.state ≡ Ongoing
    → up_to_last (step (world_after_entries core before) x.event).coordinator.warrants
    (end_txn_of r).transactional_id
    ≤ count_of_mark_events (events_of later)
    → EndsThrough (world_after_entries core before) core.world (end_txn_of r).committed t
