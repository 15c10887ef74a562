-- Completion and fencing over a run, and over the trail that a core has so far: what was prepared
-- at some place is completed in the world that the events after it leave, and a pair that an id has
-- left at some place stays shut out.
use Rattle.std.specs.Prelude.{◌≡◌, ◌⊎◌, true, false, ℕ, ◌≤◌, List, [], ◌∷◌, ◌++◌, length, Option, Some}
use Rattle.acl_binding.specs.declared.question.Caller.{Caller}
use Rattle.wire_types.specs.declared.error_code.ErrorCode.TheVariants as codes
use Rattle.record_batch.specs.declared.transaction_result.TransactionResult.{TransactionResult}
use Rattle.record_batch.specs.declared.transaction_result.TransactionResult.TheVariants.{Abort}
use Rattle.msg_txn.specs.declared.init_producer_id.InitProducerIdRequest.{InitProducerIdRequest}
use Rattle.msg_txn.specs.declared.end_txn.EndTxnRequest.{EndTxnRequest}
use Rattle.msg_txn.specs.declared.end_txn.EndTxnReply.{EndTxnReply}
use Rattle.msg_txn.specs.EndTxn.{error_of}
use Rattle.msg_admin.specs.declared.request.Request.TheVariants.{InitProducerId, EndTxn}
use Rattle.msg_admin.specs.declared.reply.Reply.TheVariants as replies
use Rattle.audit_trail.specs.declared.event.Event.{Event}
use Rattle.audit_trail.specs.declared.event.Event.TheVariants.{Ask, Mark, Tick}
use Rattle.audit_trail.specs.declared.trail.Entry.{Entry}
use Rattle.request_handlers.specs.Receipt.{ReceiptValue}
use Rattle.txn_coordinator.specs.declared.producer_id.ProducerIdAndEpoch.{ProducerIdAndEpoch}
use Rattle.txn_coordinator.specs.declared.transaction.Transaction.{Transaction}
use Rattle.txn_coordinator.specs.declared.transaction.TransactionState.TheVariants.{Ongoing}
use Rattle.txn_coordinator.specs.Words.{targets}
use Rattle.txn_coordinator.specs.Coordinator.{id_record}
use Rattle.txn_coordinator.specs.Expiry.{is_due}
use Rattle.group_offsets.specs.Groups.{group_of}
use Rattle.txn_laws.specs.Sound.{Each}
use Rattle.txn_laws.specs.Laws.{IsEnded, up_to_last}
use Rattle.txn_laws.specs.Kept.{kept_id_and_epoch}
use Rattle.broker_world.specs.World.{World}
use Rattle.broker_world.specs.First.{first_world}
use Rattle.broker_world.specs.Clock.{moment_after}
use Rattle.txn_handlers.specs.InitProducerId.{init_error}
use Rattle.txn_handlers.specs.EndTxn.{ending_id, ending_outcome}
use Rattle.api_dispatch.specs.Step.{step, world_after_events}
use Rattle.request_handlers.specs.declared.stop.Stop.{Stop}
use Rattle.request_handlers.specs.Core.{CoreValue, IsCore, IsRun, NoMemoryForReceipts, events_of}
use Rattle.broker_laws.specs.Entries.{entries_in}
use Rattle.broker_laws.specs.Moves.{count_of_mark_events}
use Rattle.broker_laws.specs.Laws.{IsPreparedBy, marker_id_and_epoch, IsDecided, IsCompletedBy, HasIdAndEpoch, IsShutOut}
use Rattle.broker_laws.specs.LogEnds.{IsEndedAt}

-- ---- a completed transaction

-- the transaction, which stood open in the old world and which the event prepared, is completed in
-- the later one
pub record IsCompleted (old later : World) (e : Event) (t : Transaction)
    (outcome : TransactionResult) : Type 0 where
  -- each partition and group that was added has its marker of that outcome after what its producer
  -- wrote there
  pub markers : Each
      (λ target. IsEnded (kept_id_and_epoch target (marker_id_and_epoch e t.pair)) outcome
      (entries_in old target) (entries_in later target))
      (targets t)
  -- so what the producer had open in the log of a partition is ended: it is committed, or filtered
  pub logs : Each (IsEndedAt t.pair.producer outcome old later) t.partitions
  -- and what it had staged in a group is decided: it is shown, or dropped
  pub groups : Each
      (λ g. IsDecided t.pair.producer outcome (group_of old.groups g).offsets
      (group_of later.groups g).offsets)
      t.groups

-- a marker step's entry holds no refusal
abbrev pub IsUnrefusedMark : Entry → Type 0
IsUnrefusedMark x = x.event ≡ Mark → x.refusals ≡ []

-- what a core shows of a transaction that an event of the old world prepared, and after it enough
-- marker steps completed
pub record IsCompletedIn (core : CoreValue) (old : World) (e : Event) (later : List Event)
    (id : List ℕ) (t : Transaction) (outcome : TransactionResult) : Type 0 where
  -- in its world, unless it is down
  pub world : core.down ≡ false → IsCompleted old core.world e t outcome
  -- after some of the events the id's record was complete
  pub record_complete : IsCompletedBy (step old e) later id outcome
  -- and no marker step of the trail was refused
  pub unrefused : Each IsUnrefusedMark core.trail

-- ---- the trail

-- the world at some place of the core's trail: where the entries before that place lead
abbrev pub world_after_entries : CoreValue → List Entry → World
world_after_entries core before = world_after_events (first_world core.settings) (events_of before)

-- what an entry tells of a transaction that stood open in the world in which its event was taken
pub record TellsOf (w : World) (x : Entry) : Type 0 where
  -- an EndTxn that was answered no error prepared it, with the outcome that it names
  pub ended : (caller : Caller) (client : Option (List ℕ)) (r : EndTxnRequest) (reply : EndTxnReply)
      (t : Transaction)
      → x.event ≡ Ask caller client (EndTxn r) → x.reply ≡ replies.EndTxn reply
      → error_of reply ≡ codes.None
      → id_record w.coordinator.transactions (ending_id r) ≡ Some t → t.state ≡ Ongoing
      → IsPreparedBy step w x.event (ending_id r) t (ending_outcome r)
  -- an InitProducerId that was told to come again aborts it
  pub taken_over : (caller : Caller) (client : Option (List ℕ)) (r : InitProducerIdRequest)
      (id : List ℕ) (t : Transaction)
      → x.event ≡ Ask caller client (InitProducerId r) → r.transactional_id ≡ Some id
      → x.reply ≡ replies.InitProducerId (init_error codes.ConcurrentTransactions)
      → id_record w.coordinator.transactions id ≡ Some t → t.state ≡ Ongoing
      → IsPreparedBy step w x.event id t Abort
  -- and so does a tick after the end of its time
  pub timed_out : (told : ℕ) (id : List ℕ) (t : Transaction) → x.event ≡ Tick told
      → id_record w.coordinator.transactions id ≡ Some t
      → is_due (moment_after w.moment told) t ≡ true → IsPreparedBy step w x.event id t Abort

abbrev pub TrailTells : Type 0
TrailTells =
    (core : CoreValue) → IsCore core → (before later : List Entry) (x : Entry)
    → core.trail ≡ before ++ x ∷ later → TellsOf (world_after_entries core before) x

-- If the event of an entry prepared a transaction, and after it stand as many marker steps as
-- markers stood then up to and including its last one, it is completed.
abbrev pub CompletesOverATrail : Type 0
CompletesOverATrail =
    (core : CoreValue) → IsCore core → (before later : List Entry) (x : Entry)
    → core.trail ≡ before ++ x ∷ later
    → (id : List ℕ) (t : Transaction) (outcome : TransactionResult)
    → IsPreparedBy step (world_after_entries core before) x.event id t outcome
    → up_to_last (step (world_after_entries core before) x.event).coordinator.warrants id
    ≤ count_of_mark_events (events_of later)
    → IsCompletedIn core (world_after_entries core before) x.event (events_of later) id t outcome

-- There is no need to count where a marker step after it found nothing to write.
abbrev pub CompletesBeforeIdle : Type 0
CompletesBeforeIdle =
    (core : CoreValue) → IsCore core → (before between rest : List Entry) (x y : Entry)
    → core.trail ≡ before ++ x ∷ (between ++ y ∷ rest)
    → (id : List ℕ) (t : Transaction) (outcome : TransactionResult)
    → IsPreparedBy step (world_after_entries core before) x.event id t outcome
    → y.event ≡ Mark → y.reply ≡ replies.Idle
    → IsCompletedIn core (world_after_entries core before) x.event (events_of (between ++ y ∷ rest))
    id t outcome

-- ---- a run

-- So it is if a run took such an event and so many marker steps after it. It took those for which
-- there is a receipt: all but the rest.
abbrev pub CompletesOverARun : Type 0
CompletesOverARun =
    (old new : CoreValue) (es : List Event) (rs : List ReceiptValue) (stop : Option Stop)
    → IsCore old → IsRun old es rs stop new ⊎ NoMemoryForReceipts old rs stop new
    → (before later rest : List Event) (e : Event) → es ≡ before ++ e ∷ (later ++ rest)
    → length rs ≡ length (before ++ e ∷ later)
    → (id : List ℕ) (t : Transaction) (outcome : TransactionResult)
    → IsPreparedBy step (world_after_events old.world before) e id t outcome
    → up_to_last (step (world_after_events old.world before) e).coordinator.warrants id
    ≤ count_of_mark_events later
    → IsCompletedIn new (world_after_events old.world before) e later id t outcome

-- ---- fencing

-- If a transactional id had a pair at some place of the trail, and no longer at a later one, the
-- pair is shut out at each place after that: no log gets data of it and no group an offset, and its
-- requests fail.
abbrev pub FencedOverATrail : Type 0
FencedOverATrail =
    (core : CoreValue) → IsCore core → (before between after rest : List Entry)
    → core.trail ≡ before ++ (between ++ (after ++ rest))
    → (id : List ℕ) (pair : ProducerIdAndEpoch)
    → HasIdAndEpoch (world_after_entries core before) id pair
    → (HasIdAndEpoch (world_after_entries core (before ++ between)) id pair → ⊥)
    → IsShutOut pair (world_after_entries core (before ++ between))
    (world_after_entries core (before ++ (between ++ after)))

-- If a transactional id had a pair, and some events of a run made it leave it, the pair is shut out
-- in the world that the run left.
abbrev pub FencedOverARun : Type 0
FencedOverARun =
    (old new : CoreValue) (es : List Event) (rs : List ReceiptValue) (stop : Option Stop)
    → IsCore old → IsRun old es rs stop new ⊎ NoMemoryForReceipts old rs stop new
    → (before after rest : List Event) → es ≡ before ++ (after ++ rest)
    → length rs ≡ length (before ++ after) → old.down ≡ false
    → (id : List ℕ) (pair : ProducerIdAndEpoch) → HasIdAndEpoch old.world id pair
    → (HasIdAndEpoch (world_after_events old.world before) id pair → ⊥) → new.down ≡ false
    → IsShutOut pair (world_after_events old.world before) new.world
