-- What holds in each world that the broker's events reach: each transaction that is prepared is
-- completed, and what is fenced stays out, whatever is asked, granted and refused meanwhile
-- (KIP-98, 'Transaction Coordinator', 'Fencing').
use Rattle.std.specs.Prelude.{◌≡◌, true, false, ℕ, ℤ, ◌≤◌, List, [], ◌∷◌, ◌++◌, map, Option, Some, None, Ok}
use Rattle.std.specs.Option.{option_map}
use Rattle.wire_types.specs.declared.error_code.ErrorCode.TheVariants as codes
use Rattle.wire_types.specs.declared.topic.Topic.{Topic}
use Rattle.acl_binding.specs.declared.question.Caller.{Caller}
use Rattle.settings.specs.declared.settings.Settings.{Settings}
use Rattle.record_batch.specs.declared.header.BatchHeader.{BatchHeader}
use Rattle.record_batch.specs.Batch.{BatchData}
use Rattle.msg_data.specs.declared.produce.ProducedRecords.{ProducedRecords}
use Rattle.msg_group.specs.declared.offset_commit.OffsetCommitRequest.{OffsetCommitRequest}
use Rattle.msg_txn.specs.declared.init_producer_id.InitProducerIdRequest.{InitProducerIdRequest}
use Rattle.msg_txn.specs.declared.add_offsets.AddOffsetsToTxnRequest.{AddOffsetsToTxnRequest}
use Rattle.msg_txn.specs.declared.add_offsets.AddOffsetsToTxnReply.{AddOffsetsToTxnReply}
use Rattle.msg_txn.specs.declared.add_partitions.AddPartitionsToTxnRequest.{AddPartitionsToTxnRequest}
use Rattle.msg_txn.specs.declared.add_partitions.AddPartitionsToTxnReply.{AddPartitionsToTxnReply}
use Rattle.msg_txn.specs.declared.add_partitions.AddedPartition.{AddedPartition}
use Rattle.msg_txn.specs.declared.end_txn.FlexibleEndTxn.{FlexibleEndTxn}
use Rattle.msg_txn.specs.declared.end_txn.EndTxnRequest.{EndTxnRequest}
use Rattle.msg_txn.specs.declared.end_txn.EndTxnRequest.TheVariants as versions
use Rattle.msg_txn.specs.declared.end_txn.EndTxnReply.{EndTxnReply}
use Rattle.msg_txn.specs.EndTxn.{error_of}
use Rattle.msg_txn.specs.declared.txn_offset_commit.TxnOffsetCommitRequest.{TxnOffsetCommitRequest}
use Rattle.msg_txn.specs.declared.txn_offset_commit.TxnOffsetCommitReply.{TxnOffsetCommitReply}
use Rattle.msg_txn.specs.declared.txn_offset_commit.StagedOffset.{StagedOffset}
use Rattle.msg_admin.specs.declared.request.Request.TheVariants.{OffsetCommit, InitProducerId, AddPartitionsToTxn, AddOffsetsToTxn, EndTxn, TxnOffsetCommit}
use Rattle.msg_admin.specs.declared.reply.Reply.TheVariants as replies
use Rattle.audit_trail.specs.declared.event.Event.{Event}
use Rattle.audit_trail.specs.declared.event.Event.TheVariants.{Ask, Mark, Tick}
use Rattle.txn_coordinator.specs.declared.producer_id.ProducerIdAndEpoch.{ProducerIdAndEpoch}
use Rattle.txn_coordinator.specs.declared.target.TopicPartition.{TopicPartition}
use Rattle.txn_coordinator.specs.declared.target.Target.{Target}
use Rattle.txn_coordinator.specs.declared.target.Target.TheVariants.{Partition, Group}
use Rattle.txn_coordinator.specs.declared.transaction.Transaction.{Transaction}
use Rattle.txn_coordinator.specs.declared.transaction.TransactionState.TheVariants.{Ongoing}
use Rattle.record_batch.specs.declared.transaction_result.TransactionResult.{TransactionResult}
use Rattle.record_batch.specs.declared.transaction_result.TransactionResult.TheVariants.{Commit, Abort}
use Rattle.txn_coordinator.specs.declared.marker.PendingMarker.{PendingMarker}
use Rattle.txn_coordinator.specs.Transition.{Stays}
use Rattle.txn_coordinator.specs.declared.ending.EndForm.{EndForm}
use Rattle.txn_coordinator.specs.declared.ending.EndForm.TheVariants.{Raising}
use Rattle.txn_coordinator.specs.Words.{with_next_epoch, next_id_and_epoch, prepared_phase, completed_phase, targets}
use Rattle.txn_coordinator.specs.Coordinator.{CoordinatorValue, id_record, fresh_producer_id, transition_code}
use Rattle.txn_coordinator.specs.Preparing.{markers}
use Rattle.txn_coordinator.specs.Adding.{add_partitions, add_group}
use Rattle.txn_coordinator.specs.EndTxn.{is_kept, end}
use Rattle.txn_coordinator.specs.Expiry.{is_due}
use Rattle.txn_coordinator.specs.Warrants.{next_warrant}
use Rattle.group_offsets.specs.declared.event.PartitionOffset.{PartitionOffset}
use Rattle.group_offsets.specs.declared.event.OffsetEvent.{OffsetEvent}
use Rattle.group_offsets.specs.declared.event.OffsetEvent.TheVariants.{Put, Stage, Decide}
use Rattle.group_offsets.specs.declared.group.Group.{Group as GroupValue}
use Rattle.group_offsets.specs.Offsets.{first_decision, offset_of}
use Rattle.group_offsets.specs.Groups.{find_group, group_of}
use Rattle.group_offsets.specs.Laws.{or_else, pending_offset}
use Rattle.txn_laws.specs.Small.{Entry, first_world as first_small_world, world_after_moves}
use Rattle.txn_laws.specs.Sound.{Each, IsOrdered}
use Rattle.txn_laws.specs.Laws.{IsEnded, IsSilent, Refuses, up_to_last}
use Rattle.txn_laws.specs.Kept.{kept_id_and_epoch, kept_world, kept_world_after_moves}
use Rattle.broker_world.specs.World.{World, LogValue, TopicValue}
use Rattle.broker_world.specs.First.{first_world}
use Rattle.broker_world.specs.Logs.{log_at}
use Rattle.data_handlers.specs.Sent.{batch_or_fault}
use Rattle.data_handlers.specs.Judged.{id_and_epoch_of, partition_at, producer_code, batch_to_append}
use Rattle.data_handlers.specs.Produce.{produce_answer}
use Rattle.txn_handlers.specs.InitProducerId.{init_answered, init_error}
use Rattle.txn_handlers.specs.EndTxn.{ending_id, ending_id_and_epoch, ending_outcome}
use Rattle.txn_handlers.specs.TxnOffsetCommit.{Staging, staging_of, staging_refusal}
use Rattle.broker_world.specs.Clock.{moment_after}
use Rattle.api_dispatch.specs.Step.{step, reply_to, world_after_events}
use Rattle.request_handlers.specs.Core.{CoreValue, IsCore}
use Rattle.broker_laws.specs.Entries.{entry_of, event_entry, entries_in, small_world}
use Rattle.broker_laws.specs.Rules.{WorldRule, ReplyRule, RefusalsRule}
use Rattle.broker_laws.specs.Moves.{moves_of, moves_of_all, count_of_mark_events}

-- in each world that events reach from any settings
abbrev pub InReached : (World → Type 0) → Type 0
InReached Law = (s : Settings) (es : List Event) → Law (world_after_events (first_world s) es)

-- and so in the world of each core that isn't down
abbrev pub InCores : (World → Type 0) → Type 0
InCores Law = (core : CoreValue) → IsCore core → core.down ≡ false → Law core.world

-- ---- entries and moves

-- what the laws see of a partition is its log, batch by batch, and nothing of one that isn't there;
-- of a group they see its offset events, and nothing of one that hasn't begun
pub record EntriesAreTheLog (entries_in : World → Target → List Entry) : Type 0 where
  pub there : (w : World) (p : TopicPartition) (log : LogValue)
      → log_at w.topics p.topic p.index ≡ Some log → entries_in w (Partition p) ≡ map entry_of log
  pub missing : (w : World) (p : TopicPartition) → log_at w.topics p.topic p.index ≡ None
      → entries_in w (Partition p) ≡ []
  pub begun : (w : World) (name : List ℕ) (g : GroupValue) → find_group w.groups name ≡ Some g
      → entries_in w (Group name) ≡ map event_entry g.offsets
  pub fresh : (w : World) (name : List ℕ) → find_group w.groups name ≡ None
      → entries_in w (Group name) ≡ []

-- an event changes the coordinator, the moment and the entries as its moves do, but for the epochs
-- that groups don't keep
abbrev pub IsMoved : World → Type 0
IsMoved w =
    (e : Event) → small_world (step w e) ≡ kept_world_after_moves (small_world w) (moves_of w e)

-- so events lead where their moves lead from the beginning: what is kept of that is there
abbrev pub EventsAreMoves : Type 0
EventsAreMoves =
    (s : Settings) (es : List Event)
    → small_world (world_after_events (first_world s) es)
    ≡ kept_world (world_after_moves first_small_world (moves_of_all (first_world s) es))

-- ---- completion

-- the id's transaction t is open, and the event prepares it
pub record IsPreparedBy (step : WorldRule) (w : World) (e : Event) (id : List ℕ) (t : Transaction)
    (outcome : TransactionResult) : Type 0 where
  pub before : id_record w.coordinator.transactions id ≡ Some t
  pub ongoing : t.state ≡ Ongoing
  pub transaction : Transaction
  pub after : id_record (step w e).coordinator.transactions id ≡ Some transaction
  pub waits : transaction.state ≡ prepared_phase outcome

-- what prepares an open transaction
pub record PreparesOpen (step : WorldRule) (reply_to : ReplyRule) (w : World) : Type 0 where
  -- an EndTxn that is answered no error, with the outcome that it names
  pub ended : (caller : Caller) (client : Option (List ℕ)) (r : EndTxnRequest) (reply : EndTxnReply)
      (t : Transaction)
      → id_record w.coordinator.transactions (ending_id r) ≡ Some t → t.state ≡ Ongoing
      → reply_to w (Ask caller client (EndTxn r)) ≡ replies.EndTxn reply
      → error_of reply ≡ codes.None
      → IsPreparedBy step w (Ask caller client (EndTxn r)) (ending_id r) t (ending_outcome r)
  -- an InitProducerId of a producer that takes the id over, which is told to come again
  pub taken_over : (caller : Caller) (client : Option (List ℕ)) (r : InitProducerIdRequest)
      (id : List ℕ) (t : Transaction)
      → r.transactional_id ≡ Some id → id_record w.coordinator.transactions id ≡ Some t
      → t.state ≡ Ongoing
      → reply_to w (Ask caller client (InitProducerId r))
      ≡ replies.InitProducerId (init_error codes.ConcurrentTransactions)
      → IsPreparedBy step w (Ask caller client (InitProducerId r)) id t Abort
  -- a tick after the end of its time
  pub timed_out : (told : ℕ) (id : List ℕ) (t : Transaction)
      → id_record w.coordinator.transactions id ≡ Some t
      → is_due (moment_after w.moment told) t ≡ true → IsPreparedBy step w (Tick told) id t Abort

-- whatever the world is, an open transaction is prepared with the outcome that its EndTxn names,
-- and to be aborted by an InitProducerId that takes it over and at the end of its time
abbrev pub Prepares : WorldRule → ReplyRule → Type 0
Prepares step reply_to = (w : World) → PreparesOpen step reply_to w

-- the pair that the markers of a transaction carry: where an EndTxn up to version 4 ends it, its
-- producer's own; where an EndTxn of version 5 does, or an InitProducerId or a tick aborts it, the
-- producer's with the epoch raised by one, so that it is fenced
abbrev pub marker_id_and_epoch : Event → ProducerIdAndEpoch → ProducerIdAndEpoch
marker_id_and_epoch (Ask caller client (EndTxn (versions.Version5 r))) own = with_next_epoch own
marker_id_and_epoch (Ask caller client (EndTxn r)) own = own
marker_id_and_epoch e own = with_next_epoch own

-- the pair that the id's record has then: that of the markers, but after an EndTxn of version 5 the
-- pair that follows, which is a fresh producer id where the epochs are used up
abbrev pub id_and_epoch_left : World → Event → ProducerIdAndEpoch → ProducerIdAndEpoch
id_and_epoch_left w (Ask caller client (EndTxn (versions.Version5 r))) own =
    next_id_and_epoch own (fresh_producer_id w.coordinator)
id_and_epoch_left w e own = marker_id_and_epoch e own

-- An event that prepares a transaction changes no entry, and owes a marker of the outcome and of
-- that pair to each partition and group that was added, after the markers that were pending.
-- Besides them it owes those of other transactions, where a tick ends several.
pub record OwesEach (step : WorldRule) (w : World) (e : Event) (id : List ℕ) (t : Transaction)
    (outcome : TransactionResult) : Type 0 where
  pub front : List PendingMarker
  pub back : List PendingMarker
  pub owed : (step w e).coordinator.warrants
      ≡ w.coordinator.warrants
      ++ (front ++ (markers t (marker_id_and_epoch e t.pair) outcome ++ back))
  pub entries : (target : Target) → entries_in (step w e) target ≡ entries_in w target
  -- the id's record then has its pair
  pub pair : (u : Transaction) → id_record (step w e).coordinator.transactions id ≡ Some u
      → u.pair ≡ id_and_epoch_left w e t.pair

abbrev pub OwesPrepared : WorldRule → World → Type 0
OwesPrepared step w =
    (e : Event) (id : List ℕ) (t : Transaction) (outcome : TransactionResult)
    → IsPreparedBy step w e id t outcome → OwesEach step w e id t outcome

-- in each world that events reach, what is prepared owes a marker to each partition and group, and
-- has the next epoch where its producer didn't end it
abbrev pub OwesMarkers : WorldRule → Type 0
OwesMarkers step = InReached (OwesPrepared step)

-- Where an event prepares a transaction, as many marker steps as markers then stand up to and
-- including its last one write the outcome, with that pair, to each partition and group that was
-- added, after all that the transaction's producer wrote there, whatever other events come between
-- them. A group keeps of the pair the producer id alone.
abbrev pub CompletesPrepared : World → Type 0
CompletesPrepared w =
    (e : Event) (id : List ℕ) (t : Transaction) (outcome : TransactionResult) (after : List Event)
    → IsPreparedBy step w e id t outcome
    → up_to_last (step w e).coordinator.warrants id ≤ count_of_mark_events after
    → Each
    (λ target. IsEnded (kept_id_and_epoch target (marker_id_and_epoch e t.pair)) outcome
    (entries_in w target) (entries_in (world_after_events (step w e) after) target))
    (targets t)

-- where a transaction waits, so many marker steps write its outcome to each partition and group for
-- which it still owes a marker: to a partition with the marker's epoch, to a group without, since
-- it keeps of a producer its id alone
abbrev pub CompletesWaiting : World → Type 0
CompletesWaiting w =
    (id : List ℕ) (t : Transaction) (outcome : TransactionResult) (after : List Event)
    → id_record w.coordinator.transactions id ≡ Some t → t.state ≡ prepared_phase outcome
    → up_to_last w.coordinator.warrants id ≤ count_of_mark_events after
    → Each
    (λ (x : PendingMarker). x.id ≡ id
    → IsEnded (kept_id_and_epoch x.target x.pair) outcome (entries_in w x.target)
    (entries_in (world_after_events w after) x.target))
    w.coordinator.warrants

-- ---- completion, in the words of a group

-- neither an offset that the producer staged nor its decision
abbrev pub IsNotBy : ℤ → OffsetEvent → Type 0
IsNotBy producer (Put o) = Unit {0}
IsNotBy producer (Stage p o) = p ≡ producer → ⊥
IsNotBy producer (Decide p outcome) = p ≡ producer → ⊥

-- among new events, an offset that the producer staged between these has that outcome as its first
-- decision
pub record IsDecidedAs (producer : ℤ) (outcome : TransactionResult)
    (new before later : List OffsetEvent) (o : PartitionOffset) : Type 0 where
  pub more : List OffsetEvent
  pub events : new ≡ before ++ Stage producer o ∷ (later ++ more)
  pub first : option_map (λ d. d.outcome) (first_decision producer 0 (later ++ more)) ≡ Some outcome

-- the committed offset after a decision, given the offset that waited for it and the committed one
-- before it
abbrev pub committed_after : TransactionResult → Option PartitionOffset → Option PartitionOffset
    → Option PartitionOffset
committed_after Commit waiting committed = or_else waiting committed
committed_after Abort waiting committed = committed

-- a group's events went on so that what the producer had staged is decided
pub record IsDecided (producer : ℤ) (outcome : TransactionResult) (old new : List OffsetEvent)
    : Type 0 where
  -- after what stood there before, the first event of the producer is its decision of that outcome
  pub between : List OffsetEvent
  pub after : List OffsetEvent
  pub events : new ≡ (old ++ between) ++ Decide producer outcome ∷ after
  pub nothing : Each (IsNotBy producer) between
  -- so each offset that the producer had staged and that waited is decided so
  pub staged : (before later : List OffsetEvent) (o : PartitionOffset)
      → old ≡ before ++ Stage producer o ∷ later → first_decision producer 0 later ≡ None
      → IsDecidedAs producer outcome new before later o
  -- and the decision shows of each partition the offset that had waited, if it is a commit, and
  -- nothing else
  pub shown : (topic : List ℕ) (index : ℤ)
      → offset_of ((old ++ between) ++ Decide producer outcome ∷ []) topic index
      ≡ committed_after outcome (pending_offset old producer topic index)
      (offset_of (old ++ between) topic index)
  -- and leaves nothing of the producer waiting
  pub settled : (topic : List ℕ) (index : ℤ)
      → pending_offset ((old ++ between) ++ Decide producer outcome ∷ []) producer topic index
      ≡ None

-- Where an event prepares a transaction, so many marker steps decide what its producer had staged
-- in each group that was added.
abbrev pub DecidesPrepared : World → Type 0
DecidesPrepared w =
    (e : Event) (id : List ℕ) (t : Transaction) (outcome : TransactionResult) (after : List Event)
    → IsPreparedBy step w e id t outcome
    → up_to_last (step w e).coordinator.warrants id ≤ count_of_mark_events after
    → Each
    (λ g. IsDecided t.pair.producer outcome (group_of w.groups g).offsets
    (group_of (world_after_events (step w e) after).groups g).offsets)
    t.groups

-- where a transaction waits, so many decide it in each group for which it still owes a marker
abbrev pub DecidesWaiting : World → Type 0
DecidesWaiting w =
    (id : List ℕ) (t : Transaction) (outcome : TransactionResult) (after : List Event)
    → id_record w.coordinator.transactions id ≡ Some t → t.state ≡ prepared_phase outcome
    → up_to_last w.coordinator.warrants id ≤ count_of_mark_events after
    → Each
    (λ (x : PendingMarker). x.id ≡ id → (g : List ℕ) → x.target ≡ Group g
    → IsDecided x.pair.producer outcome (group_of w.groups g).offsets
    (group_of (world_after_events w after).groups g).offsets)
    w.coordinator.warrants

-- ---- what comes into a group

-- an OffsetCommit for the group
pub record IsCommitFor (e : Event) (g : List ℕ) : Type 0 where
  pub caller : Caller
  pub client : Option (List ℕ)
  pub request : OffsetCommitRequest
  pub event : e ≡ Ask caller client (OffsetCommit request)
  pub group : request.group ≡ g

-- a TxnOffsetCommit of the producer for the group, whose transaction takes the group in
pub record IsStagingFor (w : World) (e : Event) (g : List ℕ) (producer : ℤ) : Type 0 where
  pub caller : Caller
  pub client : Option (List ℕ)
  pub request : TxnOffsetCommitRequest
  pub event : e ≡ Ask caller client (TxnOffsetCommit request)
  pub group : request.group ≡ g
  pub by : request.producer ≡ producer
  pub held : staging_refusal w.coordinator (staging_of request) ≡ None

-- a marker step, where the front marker is owed to the group for the producer's transaction of that
-- outcome
pub record IsDecisionFor (w : World) (e : Event) (g : List ℕ) (producer : ℤ)
    (outcome : TransactionResult) : Type 0 where
  pub event : e ≡ Mark
  pub marker : PendingMarker
  pub front : next_warrant w.coordinator ≡ Some marker
  pub target : marker.target ≡ Group g
  pub by : marker.pair.producer ≡ producer
  pub ends : marker.outcome ≡ outcome

-- the ways in which an offset event comes into a group
abbrev pub ComesBy : World → Event → List ℕ → OffsetEvent → Type 0
ComesBy w e g (Put o) = IsCommitFor e g
ComesBy w e g (Stage producer o) = IsStagingFor w e g producer
ComesBy w e g (Decide producer outcome) = IsDecisionFor w e g producer outcome

-- what a group holds stays, and after it comes what comes in such a way
pub record GoesOn (step : WorldRule) (w : World) (e : Event) (g : List ℕ) : Type 0 where
  pub more : List OffsetEvent
  pub events : (group_of (step w e).groups g).offsets ≡ (group_of w.groups g).offsets ++ more
  pub ways : Each (ComesBy w e g) more

-- whatever the world and the event are, each group keeps what it holds, and goes on after it
abbrev pub GroupsGoOn : WorldRule → Type 0
GroupsGoOn step = (w : World) (e : Event) (g : List ℕ) → GoesOn step w e g

-- ---- the end of a transaction

-- events of which the first ones complete the transaction of the id
pub record IsCompletedBy (w : World) (events : List Event) (id : List ℕ)
    (outcome : TransactionResult) : Type 0 where
  pub first : List Event
  pub rest : List Event
  pub parts : events ≡ first ++ rest
  pub transaction : Transaction
  pub found : id_record (world_after_events w first).coordinator.transactions id ≡ Some transaction
  pub is_complete : transaction.state ≡ completed_phase outcome

-- and so many marker steps complete it
abbrev pub EndsComplete : World → Type 0
EndsComplete w = (id : List ℕ) (t : Transaction) (outcome : TransactionResult) (after : List Event)
    → id_record w.coordinator.transactions id ≡ Some t → t.state ≡ prepared_phase outcome
    → up_to_last w.coordinator.warrants id ≤ count_of_mark_events after
    → IsCompletedBy w after id outcome

-- no permission is asked for a marker step
abbrev pub MarksAreNotRefused : RefusalsRule → Type 0
MarksAreNotRefused refusals_of = (w : World) → refusals_of w Mark ≡ []

-- ---- fencing

-- the id's record has the pair
abbrev pub HasIdAndEpoch : World → List ℕ → ProducerIdAndEpoch → Type 0
HasIdAndEpoch w id pair =
    (t : Transaction) × (id_record w.coordinator.transactions id ≡ Some t) × (t.pair ≡ pair)

abbrev pub id_and_epoch : ℤ → ℤ → ProducerIdAndEpoch
id_and_epoch producer epoch = record { producer = producer; epoch = epoch }

-- an EndTxn of version 5 once more: the id's record keeps the pair with which it was ended, and the
-- call leaves it as it is
pub record IsRepeated (c : CoordinatorValue) (form : EndForm) (id : List ℕ)
    (pair : ProducerIdAndEpoch) (outcome : TransactionResult) : Type 0 where
  pub raises : form ≡ Raising
  pub transaction : Transaction
  pub found : id_record c.transactions id ≡ Some transaction
  pub keeps : is_kept transaction.kept pair ≡ true
  pub stays : end c form id pair outcome ≡ Stays codes.None

-- what makes an id's record leave its pair
pub record Fences (step : WorldRule) (reply_to : ReplyRule) (w : World) : Type 0 where
  -- an InitProducerId with the id that is answered a pair
  pub begun : (caller : Caller) (client : Option (List ℕ)) (r : InitProducerIdRequest) (id : List ℕ)
      (pair new : ProducerIdAndEpoch)
      → r.transactional_id ≡ Some id → HasIdAndEpoch w id pair
      → reply_to w (Ask caller client (InitProducerId r))
      ≡ replies.InitProducerId (init_answered (record { code = codes.None; pair = new }))
      → HasIdAndEpoch (step w (Ask caller client (InitProducerId r))) id pair → ⊥
  -- what aborts an open transaction that its producer didn't end: each event above but an EndTxn
  pub taken_over : (caller : Caller) (client : Option (List ℕ)) (r : InitProducerIdRequest)
      (id : List ℕ) (t : Transaction)
      → r.transactional_id ≡ Some id → id_record w.coordinator.transactions id ≡ Some t
      → t.state ≡ Ongoing
      → reply_to w (Ask caller client (InitProducerId r))
      ≡ replies.InitProducerId (init_error codes.ConcurrentTransactions)
      → HasIdAndEpoch (step w (Ask caller client (InitProducerId r))) id t.pair → ⊥
  pub timed_out : (told : ℕ) (id : List ℕ) (t : Transaction)
      → id_record w.coordinator.transactions id ≡ Some t
      → is_due (moment_after w.moment told) t ≡ true → HasIdAndEpoch (step w (Tick told)) id t.pair
      → ⊥
  -- an EndTxn of version 5 that is answered no error, and isn't one once more
  pub ended : (caller : Caller) (client : Option (List ℕ)) (body : FlexibleEndTxn)
      (reply : EndTxnReply) (t : Transaction)
      → id_record w.coordinator.transactions body.asked.transactional_id ≡ Some t
      → is_kept t.kept (id_and_epoch body.asked.producer body.asked.epoch) ≡ false
      → reply_to w (Ask caller client (EndTxn (versions.Version5 body))) ≡ replies.EndTxn reply
      → error_of reply ≡ codes.None
      → HasIdAndEpoch (step w (Ask caller client (EndTxn (versions.Version5 body))))
      body.asked.transactional_id (id_and_epoch body.asked.producer body.asked.epoch)
      → ⊥

-- in each world that events reach, a producer is fenced by a next one that is answered a pair, and
-- where its transaction is aborted unasked
abbrev pub FencesProducers : WorldRule → ReplyRule → Type 0
FencesProducers step reply_to = InReached (Fences step reply_to)

-- no batch of the pair passes Produce's check, no offset of it that of TxnOffsetCommit, and no call
-- that comes with the pair is told that there is no error, but for an EndTxn of version 5 once more
pub record TurnsAway (c : CoordinatorValue) (pair : ProducerIdAndEpoch) : Type 0 where
  pub batches : (id : Option (List ℕ)) (target : Target) (h : BatchHeader)
      → id_and_epoch_of h ≡ pair → producer_code c id target h ≡ None → ⊥
  pub additions : (id : List ℕ) (moment : ℕ) (p : TopicPartition) (ps : List TopicPartition)
      → transition_code (add_partitions c id pair moment (p ∷ ps)) ≡ codes.None → ⊥
  pub group_additions : (id : List ℕ) (moment : ℕ) (group : List ℕ)
      → transition_code (add_group c id pair moment group) ≡ codes.None → ⊥
  pub stagings : (s : Staging) → s.pair ≡ pair → staging_refusal c s ≡ None → ⊥
  pub endings : (form : EndForm) (id : List ℕ) (outcome : TransactionResult)
      → transition_code (end c form id pair outcome) ≡ codes.None
      → IsRepeated c form id pair outcome

-- a TxnOffsetCommit leaves each group as it is, and is answered an error for each partition
pub record StagesNothing (w : World) (e : Event) : Type 0 where
  pub groups : (step w e).groups ≡ w.groups
  pub fails : (reply : TxnOffsetCommitReply) → reply_to w e ≡ replies.TxnOffsetCommit reply
      → Each
      (λ (t : Topic StagedOffset). Each (λ (p : StagedOffset). p.error ≡ codes.None → ⊥)
      t.partitions)
      reply.topics

-- each request that comes with the pair is answered an error, for each partition where it names
-- partitions; and so is a partition of a Produce for which a batch of the pair was sent. An EndTxn
-- of version 5 once more changes nothing.
pub record RequestsFail (w : World) (pair : ProducerIdAndEpoch) : Type 0 where
  pub endings : (caller : Caller) (client : Option (List ℕ)) (r : EndTxnRequest)
      (reply : EndTxnReply)
      → ending_id_and_epoch r ≡ pair
      → reply_to w (Ask caller client (EndTxn r)) ≡ replies.EndTxn reply
      → error_of reply ≡ codes.None
      → (body : FlexibleEndTxn) × (r ≡ versions.Version5 body)
      × IsRepeated w.coordinator Raising (ending_id r) pair (ending_outcome r)
  pub group_additions : (caller : Caller) (client : Option (List ℕ)) (r : AddOffsetsToTxnRequest)
      (reply : AddOffsetsToTxnReply)
      → id_and_epoch r.producer r.epoch ≡ pair
      → reply_to w (Ask caller client (AddOffsetsToTxn r)) ≡ replies.AddOffsetsToTxn reply
      → reply.error ≡ codes.None → ⊥
  pub additions : (caller : Caller) (client : Option (List ℕ)) (r : AddPartitionsToTxnRequest)
      (reply : AddPartitionsToTxnReply)
      → id_and_epoch r.producer r.epoch ≡ pair
      → reply_to w (Ask caller client (AddPartitionsToTxn r)) ≡ replies.AddPartitionsToTxn reply
      → Each
      (λ (t : Topic AddedPartition). Each (λ (p : AddedPartition). p.error ≡ codes.None → ⊥)
      t.partitions)
      reply.topics
  pub batches : (most : ℕ) (id : Option (List ℕ)) (acks : ℤ) (topics : List TopicValue)
      (name : List ℕ) (p : ProducedRecords) (records : List ℕ) (b : BatchData)
      → p.records ≡ Some records → batch_or_fault most records ≡ Ok b
      → id_and_epoch_of b.header ≡ pair
      → (produce_answer
      (batch_to_append most w.coordinator id acks (partition_at name p.index) p.records)
      topics name p).error
      ≡ codes.None
      → ⊥

-- no log gets data of the pair and no group an offset, and it is refused for each partition and
-- each group, and by each request
pub record IsShutOut (pair : ProducerIdAndEpoch) (w later : World) : Type 0 where
  pub silent : (p : TopicPartition)
      → IsSilent pair (entries_in w (Partition p)) (entries_in later (Partition p))
  -- a group doesn't keep the epoch, so this is said of the requests that come with the pair
  pub stages_nothing : (caller : Caller) (client : Option (List ℕ)) (r : TxnOffsetCommitRequest)
      → (staging_of r).pair ≡ pair → StagesNothing later (Ask caller client (TxnOffsetCommit r))
  pub refused : Refuses (small_world later) pair
  pub turned_away : TurnsAway later.coordinator pair
  pub fails : RequestsFail later pair

-- once events have made an id's record leave a pair, it is shut out for good
abbrev pub FencedWriteNothing : World → Type 0
FencedWriteNothing w = (more after : List Event) (id : List ℕ) (pair : ProducerIdAndEpoch)
    → HasIdAndEpoch w id pair → (HasIdAndEpoch (world_after_events w more) id pair → ⊥)
    → IsShutOut pair (world_after_events w more)
    (world_after_events (world_after_events w more) after)

-- no data stands in a log after a marker of its producer id with a greater epoch
abbrev pub NoDataAfterAGreaterMarker : World → Type 0
NoDataAfterAGreaterMarker w = (p : TopicPartition) → IsOrdered (entries_in w (Partition p))
