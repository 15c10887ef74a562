-- The moves that an event is made of: what it changes of the coordinator, of the moment, of the
-- logs and of what groups hold of offsets.
use Rattle.std.specs.Prelude.{ℕ, ◌+◌, ℤ, pos, int_lt, List, [], ◌∷◌, ◌++◌, Option, Some, None, Result, Ok, Err, if◌then◌else◌}
use Rattle.acl_binding.specs.declared.question.Caller.{Caller}
use Rattle.authorizer.specs.declared.answer.Refusal.{Refusal}
use Rattle.authorizer.specs.Asking.{Rules, part_refusal}
use Rattle.wire_types.specs.declared.error_code.ErrorCode.{ErrorCode}
use Rattle.wire_types.specs.declared.topic.Topic.{Topic}
use Rattle.record_batch.specs.declared.header.BatchHeader.{BatchHeader}
use Rattle.record_batch.specs.BatchHeader.{is_transactional}
use Rattle.record_batch.specs.Batch.{BatchData}
use Rattle.producer_state.specs.declared.judgment.Judgment.{Judgment}
use Rattle.producer_state.specs.declared.judgment.Judgment.TheVariants.{Next, Repeat, Refused}
use Rattle.producer_state.specs.Sequences.{judgment_of as judged_by_log}
use Rattle.msg_data.specs.declared.produce.ProduceRequest.{ProduceRequest}
use Rattle.msg_data.specs.declared.produce.ProducedRecords.{ProducedRecords}
use Rattle.msg_txn.specs.declared.init_producer_id.InitProducerIdRequest.{InitProducerIdRequest}
use Rattle.msg_txn.specs.declared.add_partitions.AddPartitionsToTxnRequest.{AddPartitionsToTxnRequest}
use Rattle.msg_txn.specs.declared.add_offsets.AddOffsetsToTxnRequest.{AddOffsetsToTxnRequest}
use Rattle.msg_txn.specs.declared.end_txn.EndTxnRequest.{EndTxnRequest}
use Rattle.msg_txn.specs.declared.txn_offset_commit.TxnOffsetCommitRequest.{TxnOffsetCommitRequest}
use Rattle.msg_txn.specs.declared.txn_offset_commit.OffsetToStage.{OffsetToStage}
use Rattle.msg_group.specs.declared.offset_commit.OffsetCommitRequest.{OffsetCommitRequest}
use Rattle.msg_group.specs.declared.offset_commit.OffsetToCommit.{OffsetToCommit}
use Rattle.msg_admin.specs.declared.request.Request.{Request}
use Rattle.msg_admin.specs.declared.request.Request.TheVariants as requests
use Rattle.audit_trail.specs.declared.event.Event.{Event}
use Rattle.audit_trail.specs.declared.event.Event.TheVariants as events
use Rattle.walk.specs.Rule.{PartRule, refusal_of}
use Rattle.walk.specs.Steps.{part_world, parts_world}
use Rattle.txn_coordinator.specs.declared.producer_id.ProducerIdAndEpoch.{ProducerIdAndEpoch}
use Rattle.txn_coordinator.specs.declared.target.Target.{Target}
use Rattle.txn_coordinator.specs.declared.target.Target.TheVariants.{Group}
use Rattle.group_offsets.specs.declared.group.Group.{Group as GroupValue}
use Rattle.group_offsets.specs.GroupTransition.{GroupTransition, Stays, Puts}
use Rattle.group_offsets.specs.Groups.{commit}
use Rattle.txn_laws.specs.Small.{Move, Move as moves}
use Rattle.txn_laws.specs.Laws.{expiries}
use Rattle.broker_world.specs.World.{World, TopicValue, LogValue, rules_of}
use Rattle.broker_world.specs.First.{non_negative}
use Rattle.broker_world.specs.Logs.{log_at}
use Rattle.data_handlers.specs.Judged.{id_and_epoch_of, partition_at, batch_to_append}
use Rattle.data_handlers.specs.Produce.{producing_rule}
use Rattle.txn_handlers.specs.InitProducerId.{init_questions}
use Rattle.txn_handlers.specs.AddPartitions.{is_cut, partitions_of}
use Rattle.txn_handlers.specs.AddOffsets.{add_offsets_questions}
use Rattle.txn_handlers.specs.EndTxn.{end_questions, form_of, ending_id, ending_id_and_epoch, ending_outcome}
use Rattle.group_handlers.specs.OffsetCommit.{Committing, committing_of, offset_of, committing_rule}
use Rattle.txn_handlers.specs.TxnOffsetCommit.{staging_of, staging_refusal, stage_transition, staging_rule}
use Rattle.broker_world.specs.Clock.{moment_after}
use Rattle.api_dispatch.specs.Step.{step}

-- what is refused moves nothing
abbrev pub unless_refused : Option Refusal → List Move → List Move
unless_refused None ms = ms
unless_refused (Some r) ms = []

-- ---- a walk: the moves of each part that is allowed, in what the parts before it leave

abbrev pub part_moves : {P A W : Type 0} → PartRule P A W → Rules → (W → List ℕ → P → List Move) → W
    → List ℕ → P → List Move
part_moves api rules made w name p = unless_refused (refusal_of api rules name p) (made w name p)

abbrev pub parts_moves : {P A W : Type 0} → PartRule P A W → Rules → (W → List ℕ → P → List Move)
    → W → List ℕ → List P → List Move
parts_moves api rules made w name [] = []
parts_moves api rules made w name (p ∷ ps) =
    part_moves api rules made w name p
    ++ parts_moves api rules made (part_world api rules w name p) name ps

abbrev pub topics_moves : {P A W : Type 0} → PartRule P A W → Rules → (W → List ℕ → P → List Move)
    → W → List (Topic P) → List Move
topics_moves api rules made w [] = []
topics_moves api rules made w (t ∷ ts) =
    parts_moves api rules made w t.name t.partitions
    ++ topics_moves api rules made (parts_world api rules w t.name t.partitions) ts

-- ---- Produce: a move for each batch that is appended

-- a batch of a transaction names its transactional id
abbrev pub store_moves : Option (List ℕ) → ProducerIdAndEpoch → Target → List Move
store_moves None pair target = []
store_moves (Some id) pair target = moves.Store id pair target ∷ []

abbrev pub append_moves : Option (List ℕ) → Target → BatchHeader → List Move
append_moves id target h =
    if is_transactional h then store_moves id (id_and_epoch_of h) target
    else if int_lt h.producer_id (pos 0) then moves.Plain target ∷ []
    else moves.Send (id_and_epoch_of h) target ∷ []

-- the log goes on by the next batch of its producer, and by no other
abbrev pub moves_by : Judgment → List Move → List Move
moves_by Next ms = ms
moves_by (Repeat offset) ms = []
moves_by (Refused code) ms = []

abbrev pub log_moves : Option (List ℕ) → Target → BatchData → Option LogValue → List Move
log_moves id target b None = []
log_moves id target b (Some log) = moves_by (judged_by_log log b) (append_moves id target b.header)

abbrev pub batch_moves : Option (List ℕ) → Target → Result BatchData ErrorCode → Option LogValue
    → List Move
batch_moves id target (Err code) log = []
batch_moves id target (Ok b) log = log_moves id target b log

-- for a partition, in the topics as they then are
abbrev pub produced_moves : World → ProduceRequest → List TopicValue → List ℕ → ProducedRecords
    → List Move
produced_moves w r topics name p =
    batch_moves r.transactional_id (partition_at name p.index)
    (batch_to_append (non_negative w.node.max_batch) w.coordinator r.transactional_id r.acks
    (partition_at name p.index) p.records)
    (log_at topics name p.index)

-- ---- OffsetCommit and TxnOffsetCommit: a move for each offset that is committed or staged

abbrev pub transition_moves : {A : Type 0} → GroupTransition A → List Move → List Move
transition_moves (Stays code) ms = []
transition_moves (Puts answer g) ms = ms

abbrev pub commit_moves : Committing → List GroupValue → List ℕ → OffsetToCommit → Option LogValue
    → List Move
commit_moves c gs name p None = []
commit_moves c gs name p (Some log) =
    transition_moves (commit gs c.group c.generation c.member (offset_of name p))
    (moves.Plain (Group c.group) ∷ [])

-- for a partition, in the groups as they then are
abbrev pub committed_moves : World → OffsetCommitRequest → List GroupValue → List ℕ → OffsetToCommit
    → List Move
committed_moves w r gs name p =
    commit_moves (committing_of r) gs name p (log_at w.topics name p.index)

abbrev pub staged_moves : World → TxnOffsetCommitRequest → List GroupValue → List ℕ → OffsetToStage
    → List Move
staged_moves w r gs name p =
    transition_moves
    (stage_transition (staging_refusal w.coordinator (staging_of r)) w.topics (staging_of r) gs
    name p)
    (moves.Store r.transactional_id (staging_of r).pair (Group r.group) ∷ [])

-- ---- the calls of the coordinator

abbrev pub init_id_moves : Option (List ℕ) → ℤ → ℤ → List Move
init_id_moves None timeout greatest = moves.Give ∷ []
init_id_moves (Some id) timeout greatest = moves.Init id timeout greatest ∷ []

abbrev pub init_moves : World → Caller → InitProducerIdRequest → List Move
init_moves w caller r =
    unless_refused
    (part_refusal (rules_of w) (init_questions (rules_of w) caller r.transactional_id))
    (init_id_moves r.transactional_id r.timeout w.node.max_txn_timeout)

abbrev pub add_moves : World → Caller → AddPartitionsToTxnRequest → List Move
add_moves w caller r =
    if is_cut caller r.transactional_id w.topics (rules_of w) r.topics then []
    else moves.AddPartitions r.transactional_id (record { producer = r.producer; epoch = r.epoch })
    (partitions_of r.topics)
    ∷ []

abbrev pub add_group_moves : World → Caller → AddOffsetsToTxnRequest → List Move
add_group_moves w caller r =
    unless_refused
    (part_refusal (rules_of w) (add_offsets_questions caller r.transactional_id r.group))
    (moves.AddGroup r.transactional_id (record { producer = r.producer; epoch = r.epoch }) r.group
    ∷ [])

abbrev pub end_moves : World → Caller → EndTxnRequest → List Move
end_moves w caller r =
    unless_refused (part_refusal (rules_of w) (end_questions caller r))
    (moves.End (form_of r) (ending_id r) (ending_id_and_epoch r) (ending_outcome r) ∷ [])

-- ---- an event

abbrev pub request_moves : World → Caller → Request → List Move
request_moves w caller (requests.Produce r) =
    topics_moves (producing_rule w caller r) (rules_of w) (produced_moves w r) w.topics r.topics
request_moves w caller (requests.Fetch r) = []
request_moves w caller (requests.ListOffsets r) = []
request_moves w caller (requests.Metadata r) = []
request_moves w caller (requests.OffsetCommit r) =
    topics_moves (committing_rule w caller r) (rules_of w) (committed_moves w r) w.groups r.topics
request_moves w caller (requests.OffsetFetch r) = []
request_moves w caller (requests.FindCoordinator r) = []
request_moves w caller (requests.JoinGroup r) = []
request_moves w caller (requests.Heartbeat r) = []
request_moves w caller (requests.LeaveGroup r) = []
request_moves w caller (requests.SyncGroup r) = []
request_moves w caller (requests.InitProducerId r) = init_moves w caller r
request_moves w caller (requests.AddPartitionsToTxn r) = add_moves w caller r
request_moves w caller (requests.AddOffsetsToTxn r) = add_group_moves w caller r
request_moves w caller (requests.EndTxn r) = end_moves w caller r
request_moves w caller (requests.TxnOffsetCommit r) =
    topics_moves (staging_rule w caller r) (rules_of w) (staged_moves w r) w.groups r.topics
request_moves w caller (requests.SaslHandshake r) = []
request_moves w caller requests.ApiVersions = []
request_moves w caller (requests.SaslAuthenticate r) = []
request_moves w caller (requests.DescribeAcls r) = []
request_moves w caller (requests.CreateAcls r) = []
request_moves w caller (requests.DeleteAcls r) = []

-- at a tick the time of each id's transaction is looked at
abbrev pub moves_of : World → Event → List Move
moves_of w (events.Ask caller client request) = request_moves w caller request
moves_of w events.Mark = moves.Mark ∷ []
moves_of w (events.Tick told) =
    moves.Moment (moment_after w.moment told) ∷ expiries w.coordinator.transactions

-- those of the events, one after the other
abbrev pub moves_of_all : World → List Event → List Move
moves_of_all w [] = []
moves_of_all w (e ∷ es) = moves_of w e ++ moves_of_all (step w e) es

-- ---- marker steps

abbrev pub mark_count : Event → ℕ
mark_count (events.Ask caller client request) = 0
mark_count events.Mark = 1
mark_count (events.Tick told) = 0

-- how many of the events are marker steps
abbrev pub count_of_mark_events : List Event → ℕ
count_of_mark_events [] = 0
count_of_mark_events (e ∷ es) = mark_count e + count_of_mark_events es
