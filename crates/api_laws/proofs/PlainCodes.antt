-- The codes that each api answers to what is allowed of a request: what holds of each of them holds of the answer's.
use Rattle.std.proofs.Common.{ℕ, zero, suc, ◌+◌, ℤ, pos, negsuc, Bool, true, false, cond, not, ◌&&◌, eqb, List, [], ◌∷◌, ◌++◌, length, Option, Some, None, IfSome, Result, Ok, Err}
use Rattle.std.specs.Prelude.{int_lt, is_some, is_none}
use Rattle.std.specs.List.{cons_option, AllByRecursion}
use Rattle.std.specs.Ordering.{int_eq}
use Rattle.wire_types.specs.declared.error_code.ErrorCode.{ErrorCode}
use Rattle.wire_types.specs.declared.error_code.ErrorCode.TheVariants as codes
use Rattle.acl_binding.specs.declared.words.Kind.{Kind}
use Rattle.acl_binding.specs.declared.binding.Binding.{Binding}
use Rattle.acl_binding.specs.declared.filter.Filter.{Filter}
use Rattle.acl_binding.specs.Book.{BookValue}
use Rattle.acl_binding.specs.declared.question.Caller.{Caller}
use Rattle.authorizer.specs.Asking.{Rules}
use Rattle.wire_types.specs.declared.topic.Topic.{Topic}
use Rattle.record_batch.specs.declared.header.BatchHeader.{BatchHeader}
use Rattle.record_batch.specs.declared.fault.BatchFault.{BatchFault}
use Rattle.record_batch.specs.declared.fault.BatchFault.TheVariants as faults
use Rattle.record_batch.specs.declared.transaction_result.TransactionResult.{TransactionResult}
use Rattle.record_batch.specs.declared.transaction_result.TransactionResult.TheVariants.{Commit, Abort}
use Rattle.record_batch.specs.BatchHeader.{is_transactional}
use Rattle.record_batch.specs.Batch.{BatchData}
use Rattle.record_batch.specs.Fault.{code_of}
use Rattle.producer_state.specs.declared.judgment.Judgment.{Judgment}
use Rattle.producer_state.specs.declared.judgment.Judgment.TheVariants.{Next, Repeat, Refused}
use Rattle.producer_state.specs.Sequences.{is_of_producer, first_judgment, judgment_by_repeat, Sequence, sequence, repeat, judgment_in, judgment_of as judged_by_log}
use Rattle.partition_log.specs.Fetch.{served_of, limit_of}
use Rattle.msg_data.specs.declared.isolation.Isolation.{Isolation}
use Rattle.msg_data.specs.declared.produce.ProducedRecords.{ProducedRecords}
use Rattle.msg_data.specs.declared.fetch.FetchPartition.{FetchPartition}
use Rattle.msg_data.specs.declared.list_offsets.WantedOffset.{WantedOffset}
use Rattle.msg_group.specs.declared.join_group.JoinGroupRequest.{JoinGroupRequest}
use Rattle.msg_group.specs.declared.join_group.OfferedProtocol.{OfferedProtocol}
use Rattle.msg_group.specs.declared.sync_group.SyncGroupRequest.{SyncGroupRequest}
use Rattle.msg_group.specs.declared.heartbeat.HeartbeatRequest.{HeartbeatRequest}
use Rattle.msg_group.specs.declared.leave_group.LeaveGroupRequest.{LeaveGroupRequest}
use Rattle.msg_group.specs.declared.offset_commit.OffsetToCommit.{OffsetToCommit}
use Rattle.msg_group.specs.declared.offset_fetch.FetchedOffset.{FetchedOffset}
use Rattle.txn_coordinator.specs.declared.ending.EndForm.{EndForm}
use Rattle.txn_coordinator.specs.declared.ending.EndForm.TheVariants.{Plain, Fencing, Raising}
use Rattle.txn_coordinator.specs.declared.producer_id.ProducerIdAndEpoch.{ProducerIdAndEpoch}
use Rattle.txn_coordinator.specs.declared.producer_id.ProducerIdOwner.{ProducerIdOwner}
use Rattle.txn_coordinator.specs.declared.producer_id.ProducerIdOwner.TheVariants.{Never, Free, Owned}
use Rattle.txn_coordinator.specs.declared.target.Target.{Target}
use Rattle.txn_coordinator.specs.declared.target.TopicPartition.{TopicPartition}
use Rattle.txn_coordinator.specs.declared.transaction.TransactionState.{TransactionState}
use Rattle.txn_coordinator.specs.declared.transaction.TransactionState.TheVariants.{Empty, Ongoing, PrepareCommit, PrepareAbort, CompleteCommit, CompleteAbort}
use Rattle.txn_coordinator.specs.declared.transaction.Transaction.{Transaction}
use Rattle.txn_coordinator.specs.Transition as calls
use Rattle.txn_coordinator.specs.Words.{is_empty, last_epoch, is_ongoing, has_target}
use Rattle.txn_coordinator.specs.Coordinator.{CoordinatorValue, id_record, fresh_producer_id, owner, given_by, transition_code}
use Rattle.txn_coordinator.specs.Holding.{is_usable, holding_code_of}
use Rattle.txn_coordinator.specs.Preparing.{producer_refusal}
use Rattle.txn_coordinator.specs.InitProducerId.{timeout_within, init_in, init_for, init}
use Rattle.txn_coordinator.specs.Adding.{open_in, open_by, open_found, open_transaction, growth_transition, with_partitions, with_group, add_partitions, add_group}
use Rattle.txn_coordinator.specs.EndTxn.{other_epoch, end_ongoing, end_closed, end_in, is_again, end_again, end_by, end_found, end}
use Rattle.group_offsets.specs.declared.event.OffsetEvent.{OffsetEvent}
use Rattle.group_offsets.specs.declared.event.OffsetEvent.TheVariants.{Put, Stage}
use Rattle.group_offsets.specs.declared.event.PartitionOffset.{PartitionOffset}
use Rattle.group_offsets.specs.declared.group.Group.{Group}
use Rattle.group_offsets.specs.GroupTransition.{GroupTransition, Stays, Puts, answer_of}
use Rattle.group_offsets.specs.Group.{is_empty as is_unnamed, is_member, member_refusal, sync_transition, sync_group, beat_transition, beat_group, without_member, leave_group, is_unmanaged, or_awaited, commit_refusal, event_transition, stage_refusal}
use Rattle.group_offsets.specs.Groups.{group_of}
use Rattle.group_offsets.specs.Joining.{session_timeout, chosen_protocol, entry_refusal, join_transition, join_under, join_within, join_group}
use Rattle.group_offsets.specs.Offsets.{offset_of, fetch_result, is_staged, is_listed}
use Rattle.broker_world.specs.declared.node.Node.{Node}
use Rattle.broker_world.specs.World.{TopicValue, LogValue}
use Rattle.broker_world.specs.Codes.{code_in, code_unless_none}
use Rattle.broker_world.specs.Logs.{offset_by}
use Rattle.broker_world.specs.Questions.{topic_refusal}
use Rattle.data_handlers.specs.declared.fetch_budget.FetchBudget.{FetchBudget}
use Rattle.data_handlers.specs.Sent.{batch_or_fault}
use Rattle.data_handlers.specs.Judged.{are_acks, id_and_epoch_of, held_code, given_code, producer_code, batch_or_error_by, batch_or_error, batch_in, batch_to_append}
use Rattle.data_handlers.specs.Produce.{produced_to, produce_answer_by}
use Rattle.data_handlers.specs.Fetch.{budget_for, is_outside, served_by, fetched_partition as fetched_records}
use Rattle.data_handlers.specs.ListOffsets.{listed_at, listed_error, listed_offset_by}
use Rattle.data_handlers.specs.Metadata.{topic_found}
use Rattle.group_handlers.specs.FindCoordinator.{find_reply}
use Rattle.group_handlers.specs.Members.{join_reply, sync_reply}
use Rattle.group_handlers.specs.OffsetCommit.{Committing, offset_of as offset_named, code_by}
use Rattle.group_handlers.specs.OffsetFetch.{fetched_offset, listed_offset_at, listed_offsets_from, listed_topic_of, listed_topic, listed_topics}
use Rattle.txn_handlers.specs.InitProducerId.{reply_for}
use Rattle.txn_handlers.specs.AddPartitions.{cut_code}
use Rattle.txn_handlers.specs.TxnOffsetCommit.{Staging, transition_by}
use Rattle.acl_handlers.specs.DescribeAcls.{describe_acls_reply}
use Rattle.acl_handlers.specs.CreateAcls.{creation_result_by}
use Rattle.acl_handlers.specs.DeleteAcls.{deletion_result}

-- ---- who holds a transaction

module _ (Q : ErrorCode → Type 0) (epoch : Q codes.InvalidProducerEpoch) (state : Q codes.InvalidTxnState) (mapping : Q codes.InvalidProducerIdMapping) where
  pub held : (found : Option Transaction) (pair : ProducerIdAndEpoch) (target : Target) → IfSome (code_unless_none (holding_code_of found pair target)) Q
  held None pair target = mapping
  held (Some t) pair target = by_tests (int_eq t.pair.producer pair.producer) (int_eq t.pair.epoch pair.epoch && is_usable target pair.epoch) (is_ongoing t.state && has_target t target) where
    by_tests : (a b c : Bool) → IfSome (code_unless_none (cond a (cond b (cond c codes.None codes.InvalidTxnState) codes.InvalidProducerEpoch) codes.InvalidProducerIdMapping)) Q
    by_tests false b c = mapping
    by_tests true false c = epoch
    by_tests true true false = state
    by_tests true true true = tt

-- ---- Produce

module _ (Q : ErrorCode → Type 0) (none : Q codes.None) (corrupt : Q codes.CorruptMessage) (missing : Q codes.UnknownTopicOrPartition) (large : Q codes.MessageTooLarge) (wrong_acks : Q codes.InvalidRequiredAcks) (time : Q codes.InvalidTimestamp) (gap : Q codes.OutOfOrderSequenceNumber) (epoch : Q codes.InvalidProducerEpoch) (state : Q codes.InvalidTxnState) (mapping : Q codes.InvalidProducerIdMapping) (packed : Q codes.UnsupportedCompressionType) (invalid : Q codes.InvalidRecord) where
  faulty : (f : BatchFault) → Q (code_of f)
  faulty faults.Length = corrupt
  faulty faults.Magic = invalid
  faulty faults.Crc = corrupt
  faulty faults.Compressed = packed
  faulty faults.Invalid = invalid
  faulty faults.Timestamp = time
  faulty faults.TooLarge = large

  given : (g : ProducerIdOwner) → IfSome (given_code g) Q
  given Never = mapping
  given Free = tt
  given Owned = state

  of_id : (c : CoordinatorValue) (id : Option (List ℕ)) (pair : ProducerIdAndEpoch) (target : Target) → IfSome (held_code c id pair target) Q
  of_id c None pair target = state
  of_id c (Some id) pair target = held Q epoch state mapping (id_record c.transactions id) pair target

  of_producer : (c : CoordinatorValue) (id : Option (List ℕ)) (target : Target) (h : BatchHeader) → IfSome (producer_code c id target h) Q
  of_producer c id target h = by_tests (is_transactional h) (int_lt h.producer_id (pos 0)) where
    by_tests : (a b : Bool) → IfSome (cond a (held_code c id (id_and_epoch_of h) target) (cond b None (given_code (given_by (owner c h.producer_id))))) Q
    by_tests true b = of_id c id (id_and_epoch_of h) target
    by_tests false true = tt
    by_tests false false = given (given_by (owner c h.producer_id))

  -- a batch, or a code of which it holds
  abbrev IsGood : Result BatchData ErrorCode → Type 0
  IsGood (Ok b) = Unit {0}
  IsGood (Err code) = Q code

  passing : (o : Option ErrorCode) (b : BatchData) → IfSome o Q → IsGood (batch_or_error_by o b)
  passing None b is = tt
  passing (Some code) b is = is

  of_batch : (c : CoordinatorValue) (id : Option (List ℕ)) (target : Target) (r : Result BatchData BatchFault) → IsGood (batch_or_error c id target r)
  of_batch c id target (Err fault) = faulty fault
  of_batch c id target (Ok b) = passing (producer_code c id target b.header) b (of_producer c id target b.header)

  of_records : (most : ℕ) (c : CoordinatorValue) (id : Option (List ℕ)) (target : Target) (records : Option (List ℕ)) → IsGood (batch_in most c id target records)
  of_records most c id target None = invalid
  of_records most c id target (Some bytes) = by_empty (eqb (length bytes) 0) where
    by_empty : (b : Bool) → IsGood (cond b (Err codes.InvalidRecord) (batch_or_error c id target (batch_or_fault most bytes)))
    by_empty true = invalid
    by_empty false = of_batch c id target (batch_or_fault most bytes)

  judged_good : (most : ℕ) (c : CoordinatorValue) (id : Option (List ℕ)) (acks : ℤ) (target : Target) (records : Option (List ℕ)) → IsGood (batch_to_append most c id acks target records)
  judged_good most c id acks target records = by_acks (are_acks acks) where
    by_acks : (b : Bool) → IsGood (cond b (batch_in most c id target records) (Err codes.InvalidRequiredAcks))
    by_acks true = of_records most c id target records
    by_acks false = wrong_acks

  -- a judgment, or a code of which it holds
  abbrev IsTaken : Judgment → Type 0
  IsTaken Next = Unit {0}
  IsTaken (Repeat offset) = Unit {0}
  IsTaken (Refused code) = Q code

  beginning : (b : BatchData) → IsTaken (first_judgment b)
  beginning b = by_test (int_eq b.header.base_sequence (pos 0)) where
    by_test : (t : Bool) → IsTaken (cond t Next (Refused codes.OutOfOrderSequenceNumber))
    by_test true = tt
    by_test false = gap

  going_on : (expected : ℤ) (b : BatchData) (old : Option BatchData) → IsTaken (judgment_by_repeat expected b old)
  going_on expected b (Some old) = tt
  going_on expected b None = by_test (int_eq b.header.base_sequence expected) where
    by_test : (t : Bool) → IsTaken (cond t Next (Refused codes.OutOfOrderSequenceNumber))
    by_test true = tt
    by_test false = gap

  in_sequence : (s : Option Sequence) (b : BatchData) (old : Option BatchData) → IsTaken (judgment_in s b old)
  in_sequence None b old = beginning b
  in_sequence (Some s) b old = by_epochs (int_lt b.header.producer_epoch s.epoch) (int_lt s.epoch b.header.producer_epoch) where
    by_epochs : (x y : Bool) → IsTaken (cond x (Refused codes.InvalidProducerEpoch) (cond y (first_judgment b) (judgment_by_repeat s.expected b old)))
    by_epochs true y = epoch
    by_epochs false true = beginning b
    by_epochs false false = going_on s.expected b old

  by_log : (log : LogValue) (b : BatchData) → IsTaken (judged_by_log log b)
  by_log log b = by_test (is_of_producer b) where
    by_test : (t : Bool) → IsTaken (cond t (judgment_in (sequence log b.header.producer_id) b (repeat log b)) Next)
    by_test true = in_sequence (sequence log b.header.producer_id) b (repeat log b)
    by_test false = tt

  standing : (p : ProducedRecords) (j : Judgment) (log : LogValue) → IsTaken j → Q (produced_to p (offset_by j log)).error
  standing p Next log is = none
  standing p (Repeat offset) log is = none
  standing p (Refused code) log is = is

  sent_to : (batch : Result BatchData ErrorCode) (p : ProducedRecords) (log : Option LogValue) → IsGood batch → Q (produce_answer_by batch p log).error
  sent_to (Ok b) p None is = missing
  sent_to (Ok b) p (Some log) is = standing p (judged_by_log log b) log (by_log log b)
  sent_to (Err code) p None is = missing
  sent_to (Err code) p (Some log) is = is

  pub produced_codes : (most : ℕ) (c : CoordinatorValue) (id : Option (List ℕ)) (acks : ℤ) (target : Target) (p : ProducedRecords) (log : Option LogValue) → Q (produce_answer_by (batch_to_append most c id acks target p.records) p log).error
  produced_codes most c id acks target p log = sent_to (batch_to_append most c id acks target p.records) p log (judged_good most c id acks target p.records)

-- ---- Fetch, ListOffsets and Metadata

module _ (Q : ErrorCode → Type 0) (none : Q codes.None) (range : Q codes.OffsetOutOfRange) (missing : Q codes.UnknownTopicOrPartition) where
  pub fetched_codes : (level : Isolation) (budget : FetchBudget) (p : FetchPartition) (log : Option LogValue) → Q (fetched_records level p (served_by level budget p log)).error
  fetched_codes level budget p None = missing
  fetched_codes level budget p (Some log) = by_place (is_outside log p.offset) where
    by_place : (b : Bool) → Q (fetched_records level p (cond b (Err codes.OffsetOutOfRange) (Ok (served_of log p.offset level (budget_for budget p) (not budget.given))))).error
    by_place true = range
    by_place false = none

module _ (Q : ErrorCode → Type 0) (none : Q codes.None) (missing : Q codes.UnknownTopicOrPartition) (request : Q codes.InvalidRequest) where
  pub listed_codes : (level : Isolation) (p : WantedOffset) (log : Option LogValue) → Q (listed_offset_by level p log).error
  listed_codes level p None = missing
  listed_codes level p (Some log) = by_time (int_eq p.timestamp (negsuc 0)) (int_eq p.timestamp (negsuc 1)) where
    by_time : (a b : Bool) → Q (cond a (listed_at (limit_of level log) p) (cond b (listed_at (pos 0) p) (listed_error codes.InvalidRequest p))).error
    by_time true b = none
    by_time false true = none
    by_time false false = request

module _ (Q : ErrorCode → Type 0) (none : Q codes.None) (missing : Q codes.UnknownTopicOrPartition) where
  pub described_codes : (node : ℤ) (name : List ℕ) (found : Option TopicValue) → Q (topic_found node name found).error
  described_codes node name None = missing
  described_codes node name (Some t) = none

-- ---- groups

module _ (Q : ErrorCode → Type 0) (generation : Q codes.IllegalGeneration) (member : Q codes.UnknownMemberId) where
  of_member : (g : Group) (n : ℤ) (id : List ℕ) → IfSome (member_refusal g n id) Q
  of_member g n id = by_tests (not (is_member g id)) (not (int_eq g.generation n)) where
    by_tests : (a b : Bool) → IfSome (cond a (Some codes.UnknownMemberId) (cond b (Some codes.IllegalGeneration) None)) Q
    by_tests true b = member
    by_tests false true = generation
    by_tests false false = tt

module _ (Q : ErrorCode → Type 0) (none : Q codes.None) where
  noting : (o : Option ErrorCode) (g : Group) (e : OffsetEvent) → IfSome o Q → Q (code_in (answer_of (event_transition o g e)))
  noting None g e is = none
  noting (Some code) g e is = is

module _ (Q : ErrorCode → Type 0) (none : Q codes.None) (missing : Q codes.UnknownTopicOrPartition) (generation : Q codes.IllegalGeneration) (member : Q codes.UnknownMemberId) (rebalance : Q codes.RebalanceInProgress) where
  awaiting : (o : Option ErrorCode) (assignment : Option (List ℕ)) → IfSome o Q → IfSome (or_awaited o assignment) Q
  awaiting (Some code) assignment is = is
  awaiting None None is = rebalance
  awaiting None (Some assignment) is = tt

  may_commit : (g : Group) (n : ℤ) (id : List ℕ) → IfSome (commit_refusal g n id) Q
  may_commit g n id = by_tests (is_unmanaged n id) (is_some g.member) where
    by_tests : (a b : Bool) → IfSome (cond a (cond b (Some codes.UnknownMemberId) None) (or_awaited (member_refusal g n id) g.assignment)) Q
    by_tests true true = member
    by_tests true false = tt
    by_tests false b = awaiting (member_refusal g n id) g.assignment (of_member Q generation member g n id)

  committed : (g : Group) (n : ℤ) (id : List ℕ) (e : OffsetEvent) → Q (code_in (answer_of (event_transition (commit_refusal g n id) g e)))
  committed g n id e = noting Q none (commit_refusal g n id) g e (may_commit g n id)

  pub committed_codes : (c : Committing) (gs : List Group) (name : List ℕ) (p : OffsetToCommit) (log : Option LogValue) → Q (code_by c gs name p log)
  committed_codes c gs name p None = missing
  committed_codes c gs name p (Some log) = committed (group_of gs c.group) c.generation c.member (Put (offset_named name p))

module _ (Q : ErrorCode → Type 0) (none : Q codes.None) (unnamed : Q codes.InvalidGroupId) (generation : Q codes.IllegalGeneration) (member : Q codes.UnknownMemberId) where
  synced_by : (o : Option ErrorCode) (g : Group) (r : SyncGroupRequest) (moment : ℕ) → IfSome o Q → Q (sync_reply (answer_of (sync_transition o g r moment))).error
  synced_by None g r moment is = none
  synced_by (Some code) g r moment is = is

  pub synced_codes : (g : Group) (r : SyncGroupRequest) (moment : ℕ) → Q (sync_reply (answer_of (sync_group g r moment))).error
  synced_codes g r moment = by_name (is_unnamed r.group) where
    by_name : (b : Bool) → Q (sync_reply (answer_of (cond b (Stays codes.InvalidGroupId) (sync_transition (member_refusal g r.generation r.member) g r moment)))).error
    by_name true = unnamed
    by_name false = synced_by (member_refusal g r.generation r.member) g r moment (of_member Q generation member g r.generation r.member)

  beaten_by : (o : Option ErrorCode) (g : Group) (moment : ℕ) → IfSome o Q → Q (code_in (answer_of (beat_transition o g moment)))
  beaten_by None g moment is = none
  beaten_by (Some code) g moment is = is

  pub beaten_codes : (g : Group) (r : HeartbeatRequest) (moment : ℕ) → Q (code_in (answer_of (beat_group g r moment)))
  beaten_codes g r moment = by_name (is_unnamed r.group) where
    by_name : (b : Bool) → Q (code_in (answer_of (cond b (Stays codes.InvalidGroupId) (beat_transition (member_refusal g r.generation r.member) g moment))))
    by_name true = unnamed
    by_name false = beaten_by (member_refusal g r.generation r.member) g moment (of_member Q generation member g r.generation r.member)

module _ (Q : ErrorCode → Type 0) (none : Q codes.None) (unnamed : Q codes.InvalidGroupId) (member : Q codes.UnknownMemberId) where
  pub left_codes : (g : Group) (r : LeaveGroupRequest) → Q (code_in (answer_of (leave_group g r)))
  left_codes g r = by_tests (is_unnamed r.group) (not (is_member g r.member)) (Puts tt (without_member g)) none where
    by_tests : (a b : Bool) (t : GroupTransition (Unit {0})) → Q (code_in (answer_of t)) → Q (code_in (answer_of (cond a (Stays codes.InvalidGroupId) (cond b (Stays codes.UnknownMemberId) t))))
    by_tests true b t is = unnamed
    by_tests false true t is = member
    by_tests false false t is = is

module _ (Q : ErrorCode → Type 0) (none : Q codes.None) (protocol : Q codes.InconsistentGroupProtocol) (unnamed : Q codes.InvalidGroupId) (member : Q codes.UnknownMemberId) (timeout : Q codes.InvalidSessionTimeout) (full : Q codes.GroupMaxSizeReached) where
  entering : (g : Group) (id : List ℕ) → IfSome (entry_refusal g id) Q
  entering g id = by_tests (is_unnamed id) (is_some g.member) (is_member g id) where
    by_tests : (a b c : Bool) → IfSome (cond a (cond b (Some codes.GroupMaxSizeReached) None) (cond c None (Some codes.UnknownMemberId))) Q
    by_tests true true c = full
    by_tests true false c = tt
    by_tests false b true = tt
    by_tests false b false = member

  let_in_by : (r : JoinGroupRequest) (o : Option ErrorCode) (g : Group) (id : List ℕ) (n place : ℕ) (p : OfferedProtocol) (moment : ℕ) → IfSome o Q → Q (join_reply (answer_of (join_transition o g id n place p moment)) r).error
  let_in_by r None g id n place p moment is = none
  let_in_by r (Some code) g id n place p moment is = is

  under : (r : JoinGroupRequest) (o : Option OfferedProtocol) (n : ℕ) (g : Group) (id : List ℕ) (place moment : ℕ) → Q (join_reply (answer_of (join_under o n g id place moment)) r).error
  under r None n g id place moment = protocol
  under r (Some p) n g id place moment = let_in_by r (entry_refusal g id) g id n place p moment (entering g id)

  within : (o : Option ℕ) (g : Group) (r : JoinGroupRequest) (place moment : ℕ) → Q (join_reply (answer_of (join_within o g r place moment)) r).error
  within None g r place moment = timeout
  within (Some n) g r place moment = under r (chosen_protocol r) n g r.member place moment

  pub joined_codes : (g : Group) (r : JoinGroupRequest) (place moment : ℕ) → Q (join_reply (answer_of (join_group g r place moment)) r).error
  joined_codes g r place moment = by_name (is_unnamed r.group) where
    by_name : (b : Bool) → Q (join_reply (answer_of (cond b (Stays codes.InvalidGroupId) (join_within (session_timeout r.session_timeout) g r place moment))) r).error
    by_name true = unnamed
    by_name false = within (session_timeout r.session_timeout) g r place moment

-- all of one list and all of another are all of both
pub all_append : {X : Type 0} (P : X → Type 0) (xs ys : List X) → AllByRecursion P xs → AllByRecursion P ys → AllByRecursion P (xs ++ ys)
all_append P [] ys all more = more
all_append P (x ∷ xs) ys all more = (all.0, all_append P xs ys all.1 more)

module _ (Q : ErrorCode → Type 0) (none : Q codes.None) (unstable : Q codes.UnstableOffsetCommit) where
  offset_told : (o : Option PartitionOffset) (index : ℤ) → Q (fetched_offset (Ok o) index).error
  offset_told None index = none
  offset_told (Some o) index = none

  pub offset_codes : (es : List OffsetEvent) (stable : Bool) (name : List ℕ) (index : ℤ) → Q (fetched_offset (fetch_result es stable name index) index).error
  offset_codes es stable name index = by_test (stable && is_staged es name index) where
    by_test : (b : Bool) → Q (fetched_offset (cond b (Err codes.UnstableOffsetCommit) (Ok (offset_of es name index))) index).error
    by_test true = unstable
    by_test false = offset_told (offset_of es name index) index

  -- where all are asked for
  abbrev AreTold : List FetchedOffset → Type 0
  AreTold ps = AllByRecursion (λ (p : FetchedOffset). Q p.error) ps

  told_part : (es : List OffsetEvent) (stable : Bool) (name : List ℕ) (index : ℤ) → AreTold (listed_offset_at es stable name index)
  told_part es stable name index = by_test (is_listed es stable name index) where
    by_test : (b : Bool) → AreTold (cond b (fetched_offset (fetch_result es stable name index) index ∷ []) [])
    by_test true = (offset_codes es stable name index, tt)
    by_test false = tt

  told_parts : (es : List OffsetEvent) (stable : Bool) (name : List ℕ) (index count : ℕ) → AreTold (listed_offsets_from es stable name index count)
  told_parts es stable name index zero = tt
  told_parts es stable name index (suc count) =
      all_append (λ (p : FetchedOffset). Q p.error) (listed_offset_at es stable name (pos index)) (listed_offsets_from es stable name (index + 1) count) (told_part es stable name (pos index)) (told_parts es stable name (index + 1) count)

  told_slot : (rules : Rules) (caller : Caller) (es : List OffsetEvent) (stable : Bool) (t : TopicValue) → IfSome (listed_topic rules caller es stable t) (λ (x : Topic FetchedOffset). AreTold x.partitions)
  told_slot rules caller es stable t = by_refusal (is_none (topic_refusal rules caller t.name)) where
    by_parts : (ps : List FetchedOffset) → AreTold ps → IfSome (listed_topic_of t.name ps) (λ (x : Topic FetchedOffset). AreTold x.partitions)
    by_parts [] all = tt
    by_parts (p ∷ ps) all = all

    by_refusal : (b : Bool) → IfSome (cond b (listed_topic_of t.name (listed_offsets_from es stable t.name 0 (length t.partitions))) None) (λ (x : Topic FetchedOffset). AreTold x.partitions)
    by_refusal true = by_parts (listed_offsets_from es stable t.name 0 (length t.partitions)) (told_parts es stable t.name 0 (length t.partitions))
    by_refusal false = tt

  pub told_slots : (rules : Rules) (caller : Caller) (es : List OffsetEvent) (stable : Bool) (topics : List TopicValue) → AllByRecursion (λ (x : Topic FetchedOffset). AllByRecursion (λ (p : FetchedOffset). Q p.error) x.partitions) (listed_topics rules caller es stable topics)
  told_slots rules caller es stable [] = tt
  told_slots rules caller es stable (t ∷ ts) = by_slot (listed_topic rules caller es stable t) (told_slot rules caller es stable t) (told_slots rules caller es stable ts) where
    by_slot : (o : Option (Topic FetchedOffset)) → IfSome o (λ (x : Topic FetchedOffset). AreTold x.partitions) → AllByRecursion (λ (x : Topic FetchedOffset). AreTold x.partitions) (listed_topics rules caller es stable ts) → AllByRecursion (λ (x : Topic FetchedOffset). AreTold x.partitions) (cons_option o (listed_topics rules caller es stable ts))
    by_slot None is rest = rest
    by_slot (Some x) is rest = (is, rest)

module _ (Q : ErrorCode → Type 0) (none : Q codes.None) (request : Q codes.InvalidRequest) where
  pub found_codes : (kind : Option Kind) (node : Node) → Q (find_reply kind node).error
  found_codes None node = request
  found_codes (Some kind) node = none

-- ---- transactions

module _ (Q : ErrorCode → Type 0) (none : Q codes.None) (request : Q codes.InvalidRequest) (timeout : Q codes.InvalidTransactionTimeout) (concurrent : Q codes.ConcurrentTransactions) where
  inited_in : (p : TransactionState) (t : Transaction) (next : ℤ) (n : ℕ) → Q (transition_code (init_in p t next n))
  inited_in Empty t next n = none
  inited_in CompleteCommit t next n = none
  inited_in CompleteAbort t next n = none
  inited_in Ongoing t next n = concurrent
  inited_in PrepareCommit t next n = concurrent
  inited_in PrepareAbort t next n = concurrent

  inited_for : (o : Option ℕ) (found : Option Transaction) (id : List ℕ) (next : ℤ) → Q (transition_code (init_for o found id next))
  inited_for None found id next = timeout
  inited_for (Some n) None id next = none
  inited_for (Some n) (Some t) id next = inited_in t.state t next n

  inited : (c : CoordinatorValue) (id : List ℕ) (asked greatest : ℤ) → Q (transition_code (init c id asked greatest))
  inited c id asked greatest = by_name (is_empty id) where
    by_name : (b : Bool) → Q (transition_code (cond b (calls.Stays codes.InvalidRequest) (init_for (timeout_within asked greatest) (id_record c.transactions id) id (fresh_producer_id c))))
    by_name true = request
    by_name false = inited_for (timeout_within asked greatest) (id_record c.transactions id) id (fresh_producer_id c)

  pub inited_codes : (id : Option (List ℕ)) (c : CoordinatorValue) (greatest asked : ℤ) → Q (reply_for id c greatest asked).error
  inited_codes None c greatest asked = none
  inited_codes (Some id) c greatest asked = inited c id asked greatest

module _ (Q : ErrorCode → Type 0) (other : ErrorCode) (of_other : Q other) (mapping : Q codes.InvalidProducerIdMapping) where
  of_pair : (t : Transaction) (p : ProducerIdAndEpoch) → IfSome (producer_refusal other t p) Q
  of_pair t p = by_tests (int_eq t.pair.producer p.producer) (int_eq t.pair.epoch p.epoch && int_lt p.epoch last_epoch) where
    by_tests : (a b : Bool) → IfSome (cond a (cond b None (Some other)) (Some codes.InvalidProducerIdMapping)) Q
    by_tests true true = tt
    by_tests true false = of_other
    by_tests false b = mapping

module _ (Q : ErrorCode → Type 0) (none : Q codes.None) (request : Q codes.InvalidRequest) (epoch : Q codes.InvalidProducerEpoch) (mapping : Q codes.InvalidProducerIdMapping) (concurrent : Q codes.ConcurrentTransactions) where
  -- a transaction, or a code of which it holds
  abbrev IsOpen : Result Transaction ErrorCode → Type 0
  IsOpen (Ok t) = Unit {0}
  IsOpen (Err code) = Q code

  opened_in : (p : TransactionState) (t : Transaction) (moment : ℕ) → IsOpen (open_in p t moment)
  opened_in Ongoing t moment = tt
  opened_in Empty t moment = tt
  opened_in CompleteCommit t moment = tt
  opened_in CompleteAbort t moment = tt
  opened_in PrepareCommit t moment = concurrent
  opened_in PrepareAbort t moment = concurrent

  opened_by : (o : Option ErrorCode) (t : Transaction) (moment : ℕ) → IfSome o Q → IsOpen (open_by o t moment)
  opened_by None t moment is = opened_in t.state t moment
  opened_by (Some code) t moment is = is

  opened_found : (found : Option Transaction) (pair : ProducerIdAndEpoch) (moment : ℕ) → IsOpen (open_found found pair moment)
  opened_found None pair moment = mapping
  opened_found (Some t) pair moment = opened_by (producer_refusal codes.InvalidProducerEpoch t pair) t moment (of_pair Q codes.InvalidProducerEpoch epoch mapping t pair)

  opened : (c : CoordinatorValue) (id : List ℕ) (pair : ProducerIdAndEpoch) (moment : ℕ) → IsOpen (open_transaction c id pair moment)
  opened c id pair moment = by_name (is_empty id) where
    by_name : (b : Bool) → IsOpen (cond b (Err codes.InvalidRequest) (open_found (id_record c.transactions id) pair moment))
    by_name true = request
    by_name false = opened_found (id_record c.transactions id) pair moment

  growing : (grow : Transaction → Transaction) (r : Result Transaction ErrorCode) → IsOpen r → Q (transition_code (growth_transition grow r))
  growing grow (Ok t) is = none
  growing grow (Err code) is = is

  pub added_codes : (c : CoordinatorValue) (id : List ℕ) (pair : ProducerIdAndEpoch) (moment : ℕ) (ps : List TopicPartition) → Q (transition_code (add_partitions c id pair moment ps))
  added_codes c id pair moment [] = none
  added_codes c id pair moment (p ∷ ps) = growing (with_partitions (p ∷ ps)) (open_transaction c id pair moment) (opened c id pair moment)

  pub grouped_codes : (c : CoordinatorValue) (id : List ℕ) (pair : ProducerIdAndEpoch) (moment : ℕ) (group : List ℕ) → Q (transition_code (add_group c id pair moment group))
  grouped_codes c id pair moment group = growing (with_group group) (open_transaction c id pair moment) (opened c id pair moment)

module _ (Q : ErrorCode → Type 0) (missing : Q codes.UnknownTopicOrPartition) (untried : Q codes.OperationNotAttempted) where
  pub cut_codes : (log : Option LogValue) → Q (cut_code log)
  cut_codes None = missing
  cut_codes (Some log) = untried

module _ (Q : ErrorCode → Type 0) (none : Q codes.None) (request : Q codes.InvalidRequest) (state : Q codes.InvalidTxnState) (mapping : Q codes.InvalidProducerIdMapping) (concurrent : Q codes.ConcurrentTransactions) where
  ended_ongoing : (form : EndForm) (t : Transaction) (next : ℤ) (o : TransactionResult) → Q (transition_code (end_ongoing form t next o))
  ended_ongoing Plain t next o = none
  ended_ongoing Fencing t next o = none
  ended_ongoing Raising t next o = none

  ended_closed : (form : EndForm) (t : Transaction) (next : ℤ) (o : TransactionResult) (code : ErrorCode) → Q code → Q (transition_code (end_closed form t next o code))
  ended_closed Plain t next o code is = is
  ended_closed Fencing t next o code is = is
  ended_closed Raising t next Commit code is = state
  ended_closed Raising t next Abort code is = none

  ended_in : (p : TransactionState) (form : EndForm) (t : Transaction) (next : ℤ) (o : TransactionResult) → Q (transition_code (end_in p form t next o))
  ended_in Ongoing form t next o = ended_ongoing form t next o
  ended_in PrepareCommit form t next Commit = concurrent
  ended_in PrepareCommit form t next Abort = state
  ended_in PrepareAbort form t next Commit = state
  ended_in PrepareAbort form t next Abort = concurrent
  ended_in Empty form t next o = ended_closed form t next o codes.InvalidTxnState state
  ended_in CompleteCommit form t next Commit = ended_closed form t next Commit codes.None none
  ended_in CompleteCommit form t next Abort = ended_closed form t next Abort codes.InvalidTxnState state
  ended_in CompleteAbort form t next Commit = ended_closed form t next Commit codes.InvalidTxnState state
  ended_in CompleteAbort form t next Abort = ended_closed form t next Abort codes.None none

  ended_again : (p : TransactionState) (o : TransactionResult) → Q (end_again p o)
  ended_again Empty Commit = state
  ended_again Empty Abort = state
  ended_again Ongoing Commit = state
  ended_again Ongoing Abort = state
  ended_again PrepareCommit Commit = concurrent
  ended_again PrepareCommit Abort = state
  ended_again PrepareAbort Commit = state
  ended_again PrepareAbort Abort = concurrent
  ended_again CompleteCommit Commit = none
  ended_again CompleteCommit Abort = state
  ended_again CompleteAbort Commit = state
  ended_again CompleteAbort Abort = none

  ended_by : (x : Option ErrorCode) (form : EndForm) (t : Transaction) (next : ℤ) (o : TransactionResult) → IfSome x Q → Q (transition_code (end_by x form t next o))
  ended_by None form t next o is = ended_in t.state form t next o
  ended_by (Some code) form t next o is = is

  ended_found : (found : Option Transaction) (form : EndForm) (next : ℤ) (pair : ProducerIdAndEpoch) (o : TransactionResult) → Q (other_epoch form) → Q (transition_code (end_found found form next pair o))
  ended_found None form next pair o of_other = mapping
  ended_found (Some t) form next pair o of_other = by_again (is_again form t pair) where
    by_again : (b : Bool) → Q (transition_code (cond b (calls.Stays (end_again t.state o)) (end_by (producer_refusal (other_epoch form) t pair) form t next o)))
    by_again true = ended_again t.state o
    by_again false = ended_by (producer_refusal (other_epoch form) t pair) form t next o (of_pair Q (other_epoch form) of_other mapping t pair)

  pub ended_codes : (c : CoordinatorValue) (form : EndForm) (id : List ℕ) (pair : ProducerIdAndEpoch) (o : TransactionResult) → Q (other_epoch form) → Q (transition_code (end c form id pair o))
  ended_codes c form id pair o of_other = by_name (is_empty id) where
    by_name : (b : Bool) → Q (transition_code (cond b (calls.Stays codes.InvalidRequest) (end_found (id_record c.transactions id) form (fresh_producer_id c) pair o)))
    by_name true = request
    by_name false = ended_found (id_record c.transactions id) form (fresh_producer_id c) pair o of_other

module _ (Q : ErrorCode → Type 0) (none : Q codes.None) (missing : Q codes.UnknownTopicOrPartition) (generation : Q codes.IllegalGeneration) (member : Q codes.UnknownMemberId) where
  may_stage : (g : Group) (n : ℤ) (id : List ℕ) → IfSome (stage_refusal g n id) Q
  may_stage g n id = by_test (is_unmanaged n id) where
    by_test : (b : Bool) → IfSome (cond b None (member_refusal g n id)) Q
    by_test true = tt
    by_test false = of_member Q generation member g n id

  staged : (g : Group) (n : ℤ) (id : List ℕ) (e : OffsetEvent) → Q (code_in (answer_of (event_transition (stage_refusal g n id) g e)))
  staged g n id e = noting Q none (stage_refusal g n id) g e (may_stage g n id)

  pub staged_codes : (o : Option ErrorCode) (s : Staging) (gs : List Group) (offset : PartitionOffset) (log : Option LogValue) → IfSome o Q → Q (code_in (answer_of (transition_by o s gs offset log)))
  staged_codes o s gs offset None is = missing
  staged_codes None s gs offset (Some log) is = staged (group_of gs s.group) s.generation s.member (Stage s.pair.producer offset)
  staged_codes (Some code) s gs offset (Some log) is = is

-- ---- bindings

module _ (Q : ErrorCode → Type 0) (none : Q codes.None) (request : Q codes.InvalidRequest) where
  pub bindings_codes : (book : BookValue) (f : Option Filter) → Q (describe_acls_reply book f).error
  bindings_codes book None = request
  bindings_codes book (Some f) = none

  pub created_codes : (b : Option Binding) → Q (creation_result_by b).error
  created_codes None = request
  created_codes (Some b) = none

  pub deleted_codes : (book : BookValue) (f : Option Filter) → Q (deletion_result book f).error
  deleted_codes book None = request
  deleted_codes book (Some f) = none
