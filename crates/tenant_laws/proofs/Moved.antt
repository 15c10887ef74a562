-- The plain broker's reply depends neither on the moment nor on whose the producer ids are.
use Rattle.std.proofs.Common.{◌≡◌, ℕ, ℤ, pos, Bool, true, false, cond, eqb, List, [], ◌∷◌, map, length, Option, Some, None, Result, Ok, Err, refl, ap, ◌∙◌}
use Rattle.std.specs.Prelude.{int_lt, is_some}
use Rattle.acl_binding.specs.declared.question.Caller.{Caller}
use Rattle.acl_binding.specs.declared.question.Question.{Question}
use Rattle.authorizer.specs.declared.answer.Refusal.{Refusal}
use Rattle.authorizer.specs.Asking.{part_refusal}
use Rattle.wire_types.specs.declared.error_code.ErrorCode.{ErrorCode}
use Rattle.wire_types.specs.declared.error_code.ErrorCode.TheVariants as codes
use Rattle.wire_types.specs.declared.topic.Topic.{Topic}
use Rattle.record_batch.specs.declared.header.BatchHeader.{BatchHeader}
use Rattle.record_batch.specs.declared.fault.BatchFault.{BatchFault}
use Rattle.record_batch.specs.BatchHeader.{is_transactional}
use Rattle.record_batch.specs.Batch.{BatchData}
use Rattle.msg_data.specs.declared.produce.ProduceRequest.{ProduceRequest}
use Rattle.msg_data.specs.declared.produce.ProducedRecords.{ProducedRecords}
use Rattle.msg_group.specs.declared.join_group.JoinGroupRequest.{JoinGroupRequest}
use Rattle.msg_group.specs.declared.sync_group.SyncGroupRequest.{SyncGroupRequest}
use Rattle.msg_group.specs.declared.offset_fetch.OffsetFetchRequest.{OffsetFetchRequest}
use Rattle.msg_txn.specs.declared.end_txn.EndTxnRequest.{EndTxnRequest}
use Rattle.msg_txn.specs.declared.add_partitions.AddPartitionsToTxnRequest.{AddPartitionsToTxnRequest}
use Rattle.msg_admin.specs.declared.request.Request.{Request}
use Rattle.msg_admin.specs.declared.request.Request.TheVariants.{Produce, Fetch, ListOffsets, Metadata, OffsetCommit, OffsetFetch, FindCoordinator, JoinGroup, Heartbeat, LeaveGroup, SyncGroup, SaslHandshake, ApiVersions, InitProducerId, AddPartitionsToTxn, AddOffsetsToTxn, EndTxn, TxnOffsetCommit, DescribeAcls, CreateAcls, DeleteAcls, SaslAuthenticate}
use Rattle.msg_admin.specs.declared.reply.Reply.{Reply}
use Rattle.msg_admin.specs.declared.reply.Reply.TheVariants as replies
use Rattle.walk.specs.Walk.{plain_topics}
use Rattle.walk.specs.Alike.{AllParts, AllTopics, AreAlike}
use Rattle.walk.proofs.Alikeness.{answer_alike}
use Rattle.group_offsets.specs.declared.group.Group.{Group}
use Rattle.group_offsets.specs.declared.member.Joined.{Joined}
use Rattle.msg_group.specs.declared.join_group.OfferedProtocol.{OfferedProtocol}
use Rattle.group_offsets.specs.Group as group
use Rattle.group_offsets.specs.Groups.{group_of}
use Rattle.group_offsets.specs.GroupTransition.{GroupTransition, Stays as Stops, answer_of}
use Rattle.group_offsets.specs.Joining.{session_timeout, chosen_protocol, entry_refusal, join_transition, join_under, join_within}
use Rattle.txn_coordinator.specs.declared.producer_id.ProducerIdAndEpoch.{ProducerIdAndEpoch}
use Rattle.txn_coordinator.specs.declared.marker.PendingMarker.{PendingMarker}
use Rattle.txn_coordinator.specs.declared.producer_id.ProducerIdAnswer.{ProducerIdAnswer}
use Rattle.txn_coordinator.specs.declared.target.Target.{Target}
use Rattle.txn_coordinator.specs.declared.target.TopicPartition.{TopicPartition}
use Rattle.txn_coordinator.specs.Transition.{Transition, Stays, Puts}
use Rattle.txn_coordinator.specs.declared.transaction.Transaction.{Transaction}
use Rattle.txn_coordinator.specs.declared.transaction.TransactionState.{TransactionState}
use Rattle.txn_coordinator.specs.declared.transaction.TransactionState.TheVariants.{Empty, Ongoing, PrepareCommit, PrepareAbort, CompleteCommit, CompleteAbort}
use Rattle.txn_coordinator.specs.Words.{is_empty}
use Rattle.txn_coordinator.specs.Preparing.{producer_refusal}
use Rattle.txn_coordinator.specs.Coordinator.{CoordinatorValue, id_record, owner, given_by, fresh_producer_id, transition_code, transition_answer}
use Rattle.txn_coordinator.specs.InitProducerId.{init, init_for, timeout_within}
use Rattle.txn_coordinator.specs.Adding.{open_in, open_by, open_found, growth_transition, with_partitions, with_group, add_partitions}
use Rattle.txn_coordinator.specs.EndTxn.{end_found}
use Rattle.broker_world.specs.World.{World, TopicValue, rules_of}
use Rattle.broker_world.specs.First.{non_negative}
use Rattle.broker_world.specs.Whole.{Served, whole_outcome_by}
use Rattle.data_handlers.specs.Judged.{id_and_epoch_of, held_code, given_code, producer_code, batch_or_error_by, batch_or_error, batch_in, are_acks, batch_to_append, partition_at, topics_produced}
use Rattle.data_handlers.specs.Sent.{batch_or_fault}
use Rattle.data_handlers.specs.Produce.{produce_answer, producing_rule}
use Rattle.data_handlers.specs.Produce.{produce_reply}
use Rattle.group_handlers.specs.OffsetFetch.{group_question, fetched_outcome, offset_fetch_by, offsets_of}
use Rattle.group_handlers.specs.FindCoordinator.{kind_of, find_questions}
use Rattle.broker_world.specs.Questions.{read_question}
use Rattle.group_handlers.specs.Members.{served_join, served_sync, served_heartbeat, served_leave, join_reply, sync_reply, beat_reply}
use Rattle.broker_world.specs.Codes.{code_in}
use Rattle.txn_handlers.specs.InitProducerId.{init_questions, init_given, init_answered, reply_for, served_init}
use Rattle.txn_handlers.specs.AddPartitions.{is_cut, cut_outcome, added_outcome, code_rule, add_reply, partitions_of}
use Rattle.txn_handlers.specs.AddOffsets.{add_offsets_questions, served_add_offsets, add_offsets_reply}
use Rattle.txn_handlers.specs.EndTxn.{served_end, end_reply, end_questions, ending_id, ending_id_and_epoch, ending_outcome, form_of, end_transition}
use Rattle.acl_handlers.specs.DescribeAcls.{describe_acls_questions}
use Rattle.acl_handlers.specs.CreateAcls.{alter_questions}
use Rattle.api_laws.proofs.Recorded.{same_owner as owner_same, same_fresh as fresh_same}
use Rattle.plain_broker.specs.Plain.{unrestricted_world, plain_outcome}

-- the world at another moment, with other owners of the producer ids
abbrev pub moved : World → ℕ → List (Option (List ℕ)) → World
moved w moment given = record w { moment = moment; coordinator = record w.coordinator { given = given } }

-- ---- a coordinator with other owners

module _ (c : CoordinatorValue) (given : List (Option (List ℕ))) (same : map is_some given ≡ map is_some c.given) where
  abbrev pub with_given : CoordinatorValue
  with_given = record c { given = given }

  same_owner : (producer : ℤ) → given_by (owner with_given producer) ≡ given_by (owner c producer)
  same_owner producer = owner_same with_given c producer same

  same_code : (id : Option (List ℕ)) (target : Target) (h : BatchHeader) → producer_code with_given id target h ≡ producer_code c id target h
  same_code None target h = ap (λ g. cond (is_transactional h) (Some codes.InvalidTxnState) (cond (int_lt h.producer_id (pos 0)) None (given_code g))) (same_owner h.producer_id)
  same_code (Some id) target h = ap (λ g. cond (is_transactional h) (held_code c (Some id) (id_and_epoch_of h) target) (cond (int_lt h.producer_id (pos 0)) None (given_code g))) (same_owner h.producer_id)

  same_passed : (id : Option (List ℕ)) (target : Target) (r : Result BatchData BatchFault) → batch_or_error with_given id target r ≡ batch_or_error c id target r
  same_passed id target (Err fault) = refl
  same_passed id target (Ok b) = ap (λ (o : Option ErrorCode). batch_or_error_by o b) (same_code id target b.header)

  same_batch : (most : ℕ) (id : Option (List ℕ)) (target : Target) (records : Option (List ℕ)) → batch_in most with_given id target records ≡ batch_in most c id target records
  same_batch most id target None = refl
  same_batch most id target (Some records) = ap (λ r. cond (eqb (length records) 0) (Err codes.InvalidRecord) r) (same_passed id target (batch_or_fault most records))

  pub same_judged : (most : ℕ) (id : Option (List ℕ)) (acks : ℤ) (target : Target) (records : Option (List ℕ)) → batch_to_append most with_given id acks target records ≡ batch_to_append most c id acks target records
  same_judged most id acks target records = ap (λ r. cond (are_acks acks) r (Err codes.InvalidRequiredAcks)) (same_batch most id target records)

  pub same_fresh : fresh_producer_id with_given ≡ fresh_producer_id c
  same_fresh = fresh_same with_given c same

  same_transition : (id : List ℕ) (transition : Transition) → transition_answer with_given id transition ≡ transition_answer c id transition
  same_transition id (Stays code) = refl
  same_transition id (Puts code t out owed) = refl

  pub same_init : (id : Option (List ℕ)) (greatest timeout : ℤ) → reply_for id with_given greatest timeout ≡ reply_for id c greatest timeout
  same_init None greatest timeout = ap init_given same_fresh
  same_init (Some id) greatest timeout =
      ap (λ (a : ProducerIdAnswer). init_answered a)
      (ap (λ (next : ℤ). transition_answer with_given id (cond (is_empty id) (Stays codes.InvalidRequest) (init_for (timeout_within timeout greatest) (id_record c.transactions id) id next))) same_fresh
      ∙ same_transition id (init c id timeout greatest))

  pub same_end : (r : EndTxnRequest) → transition_answer with_given (ending_id r) (end_transition with_given r) ≡ transition_answer c (ending_id r) (end_transition c r)
  same_end r =
      ap (λ (next : ℤ). transition_answer with_given (ending_id r) (cond (is_empty (ending_id r)) (Stays codes.InvalidRequest) (end_found (id_record c.transactions (ending_id r)) (form_of r) next (ending_id_and_epoch r) (ending_outcome r)))) same_fresh
      ∙ same_transition (ending_id r) (end_transition c r)

-- ---- a moment

state_code : (grow : Transaction → Transaction) (state : TransactionState) (t : Transaction) (m n : ℕ) → transition_code (growth_transition grow (open_in state t m)) ≡ transition_code (growth_transition grow (open_in state t n))
state_code grow Empty t m n = refl
state_code grow Ongoing t m n = refl
state_code grow PrepareCommit t m n = refl
state_code grow PrepareAbort t m n = refl
state_code grow CompleteCommit t m n = refl
state_code grow CompleteAbort t m n = refl

open_code : (grow : Transaction → Transaction) (o : Option ErrorCode) (t : Transaction) (m n : ℕ) → transition_code (growth_transition grow (open_by o t m)) ≡ transition_code (growth_transition grow (open_by o t n))
open_code grow (Some code) t m n = refl
open_code grow None t m n = state_code grow t.state t m n

found_code : (grow : Transaction → Transaction) (o : Option Transaction) (pair : ProducerIdAndEpoch) (m n : ℕ) → transition_code (growth_transition grow (open_found o pair m)) ≡ transition_code (growth_transition grow (open_found o pair n))
found_code grow None pair m n = refl
found_code grow (Some t) pair m n = open_code grow (producer_refusal codes.InvalidProducerEpoch t pair) t m n

begun_code : (grow : Transaction → Transaction) (b : Bool) (o : Option Transaction) (pair : ProducerIdAndEpoch) (m n : ℕ) → transition_code (growth_transition grow (cond b (Err codes.InvalidRequest) (open_found o pair m))) ≡ transition_code (growth_transition grow (cond b (Err codes.InvalidRequest) (open_found o pair n)))
begun_code grow true o pair m n = refl
begun_code grow false o pair m n = found_code grow o pair m n

added_code : (ts : List Transaction) (a b : List (Option (List ℕ))) (owed : List PendingMarker) (id : List ℕ) (pair : ProducerIdAndEpoch) (m n : ℕ) (ps : List TopicPartition)
    → transition_code (add_partitions (record { transactions = ts; given = a; warrants = owed }) id pair m ps) ≡ transition_code (add_partitions (record { transactions = ts; given = b; warrants = owed }) id pair n ps)
added_code ts a b owed id pair m n [] = refl
added_code ts a b owed id pair m n (p ∷ ps) = begun_code (with_partitions (p ∷ ps)) (is_empty id) (id_record ts id) pair m n

let_in_code : (o : Option ErrorCode) (g : Group) (member : List ℕ) (timeout place : ℕ) (protocol : OfferedProtocol) (m n : ℕ) → answer_of (join_transition o g member timeout place protocol m) ≡ answer_of (join_transition o g member timeout place protocol n)
let_in_code (Some code) g member timeout place protocol m n = refl
let_in_code None g member timeout place protocol m n = refl

under_code : (o : Option OfferedProtocol) (timeout : ℕ) (g : Group) (member : List ℕ) (place m n : ℕ) → answer_of (join_under o timeout g member place m) ≡ answer_of (join_under o timeout g member place n)
under_code None timeout g member place m n = refl
under_code (Some protocol) timeout g member place m n = let_in_code (entry_refusal g member) g member timeout place protocol m n

within_code : (o : Option ℕ) (g : Group) (r : JoinGroupRequest) (place m n : ℕ) → answer_of (join_within o g r place m) ≡ answer_of (join_within o g r place n)
within_code None g r place m n = refl
within_code (Some timeout) g r place m n = under_code (chosen_protocol r) timeout g r.member place m n

abbrev join_by : Bool → Group → JoinGroupRequest → ℕ → ℕ → GroupTransition Joined
join_by b g r place moment = cond b (Stops codes.InvalidGroupId) (join_within (session_timeout r.session_timeout) g r place moment)

join_code : (b : Bool) (g : Group) (r : JoinGroupRequest) (place m n : ℕ) → answer_of (join_by b g r place m) ≡ answer_of (join_by b g r place n)
join_code true g r place m n = refl
join_code false g r place m n = within_code (session_timeout r.session_timeout) g r place m n

abbrev sync_by : Bool → Option ErrorCode → Group → SyncGroupRequest → ℕ → GroupTransition (List ℕ)
sync_by b o g r moment = cond b (Stops codes.InvalidGroupId) (group.sync_transition o g r moment)

sync_code : (b : Bool) (o : Option ErrorCode) (g : Group) (r : SyncGroupRequest) (m n : ℕ) → answer_of (sync_by b o g r m) ≡ answer_of (sync_by b o g r n)
sync_code true o g r m n = refl
sync_code false (Some code) g r m n = refl
sync_code false None g r m n = refl

abbrev beat_by : Bool → Option ErrorCode → Group → ℕ → GroupTransition (Unit {0})
beat_by b o g moment = cond b (Stops codes.InvalidGroupId) (group.beat_transition o g moment)

beat_code : (b : Bool) (o : Option ErrorCode) (g : Group) (m n : ℕ) → answer_of (beat_by b o g m) ≡ answer_of (beat_by b o g n)
beat_code true o g m n = refl
beat_code false (Some code) g m n = refl
beat_code false None g m n = refl

-- ---- the plain broker

any_parts : {P : Type 0} (name : List ℕ) (ps : List P) → AllParts (λ (n : List ℕ) (p : P). Unit {0}) name ps
any_parts name [] = tt
any_parts name (p ∷ ps) = (tt, any_parts name ps)

any_topics : {P : Type 0} (ts : List (Topic P)) → AllTopics (λ (n : List ℕ) (p : P). Unit {0}) ts
any_topics [] = tt
any_topics (t ∷ ts) = (any_parts t.name t.partitions, any_topics ts)

module _ (w : World) (caller : Caller) (moment : ℕ) (given : List (Option (List ℕ))) (same : map is_some given ≡ map is_some w.coordinator.given) where
  abbrev u : World
  u = unrestricted_world w caller

  abbrev x : World
  x = unrestricted_world (moved w moment given) caller

  whole_same : (qs : List Question) (refused : ErrorCode → Reply) (a b : Served) → a.reply ≡ b.reply → (whole_outcome_by (part_refusal (rules_of u) qs) x refused a).reply ≡ (whole_outcome_by (part_refusal (rules_of u) qs) u refused b).reply
  whole_same qs refused a b reply = by_refusal (part_refusal (rules_of u) qs) where
    by_refusal : (o : Option Refusal) → (whole_outcome_by o x refused a).reply ≡ (whole_outcome_by o u refused b).reply
    by_refusal None = reply
    by_refusal (Some r) = refl

  offsets_same : (r : OffsetFetchRequest) (o : Option Refusal) → (offset_fetch_by o x caller r).reply ≡ (offset_fetch_by o u caller r).reply
  offsets_same r (Some refusal) = refl
  offsets_same r None = by_topics r.topics where
    by_topics : (topics : Option (List (Topic ℤ))) → (fetched_outcome x caller (offsets_of w r.group) r.require_stable topics).reply ≡ (fetched_outcome u caller (offsets_of w r.group) r.require_stable topics).reply
    by_topics None = refl
    by_topics (Some ts) = refl

  judged_same : (r : ProduceRequest) (name : List ℕ) (p : ProducedRecords) → batch_to_append (non_negative w.node.max_batch) (with_given w.coordinator given same) r.transactional_id r.acks (partition_at name p.index) p.records ≡ batch_to_append (non_negative w.node.max_batch) w.coordinator r.transactional_id r.acks (partition_at name p.index) p.records
  judged_same r name p = same_judged w.coordinator given same (non_negative w.node.max_batch) r.transactional_id r.acks (partition_at name p.index) p.records

  produce_alike : (r : ProduceRequest) → AreAlike (producing_rule x caller r) (producing_rule u caller r) (rules_of u) (λ name p. Unit {0}) (λ a b. a ≡ b)
  produce_alike r = record {
    questions = λ name p. refl;
    refused = λ code name p. refl;
    plain = λ a b name p is agree none.
        ap (λ (batch : Result BatchData ErrorCode). produce_answer batch a name p) (judged_same r name p)
        ∙ ap (λ (topics : List TopicValue). produce_answer (batch_to_append (non_negative w.node.max_batch) w.coordinator r.transactional_id r.acks (partition_at name p.index) p.records) topics name p) agree;
    after = λ a b name p is agree none.
        ap (λ (batch : Result BatchData ErrorCode). topics_produced batch a name p.index) (judged_same r name p)
        ∙ ap (λ (topics : List TopicValue). topics_produced (batch_to_append (non_negative w.node.max_batch) w.coordinator r.transactional_id r.acks (partition_at name p.index) p.records) topics name p.index) agree;
  }

  produce_same : (r : ProduceRequest) → (plain_outcome (moved w moment given) caller (Produce r)).reply ≡ (plain_outcome w caller (Produce r)).reply
  produce_same r =
      ap (produce_reply r.acks)
      (answer_alike (producing_rule x caller r) (producing_rule u caller r) (rules_of u) (λ name p. Unit {0}) (λ a b. a ≡ b) (produce_alike r) w.topics w.topics r.topics (any_topics r.topics) refl).answers

  add_same : (r : AddPartitionsToTxnRequest) (b : Bool) → (cond b (cut_outcome x caller r) (added_outcome x r)).reply ≡ (cond b (cut_outcome u caller r) (added_outcome u r)).reply
  add_same r true = refl
  add_same r false = ap (λ (code : ErrorCode). add_reply (plain_topics (code_rule code) tt r.topics)) (added_code w.coordinator.transactions given w.coordinator.given w.coordinator.warrants r.transactional_id (record { producer = r.producer; epoch = r.epoch }) moment w.moment (partitions_of r.topics))

  pub moved_same : (request : Request) → (plain_outcome (moved w moment given) caller request).reply ≡ (plain_outcome w caller request).reply
  moved_same (Produce r) = produce_same r
  moved_same (Fetch r) = refl
  moved_same (ListOffsets r) = refl
  moved_same (Metadata r) = refl
  moved_same (OffsetCommit r) = refl
  moved_same (OffsetFetch r) = offsets_same r (part_refusal (rules_of u) (group_question caller r.group ∷ []))
  moved_same (FindCoordinator r) = whole_same (find_questions caller (kind_of r.key_type) r.key) _ _ _ refl
  moved_same (JoinGroup r) = whole_same (read_question caller r.group ∷ []) _ (served_join x r) (served_join u r) (ap (λ a. replies.JoinGroup (join_reply a r)) (join_code (group.is_empty r.group) (group_of w.groups r.group) r w.events moment w.moment))
  moved_same (Heartbeat r) = whole_same (read_question caller r.group ∷ []) _ (served_heartbeat x r) (served_heartbeat u r) (ap (λ a. replies.Heartbeat (beat_reply (code_in a))) (beat_code (group.is_empty r.group) (group.member_refusal (group_of w.groups r.group) r.generation r.member) (group_of w.groups r.group) moment w.moment))
  moved_same (LeaveGroup r) = whole_same (read_question caller r.group ∷ []) _ (served_leave x r) (served_leave u r) refl
  moved_same (SyncGroup r) = whole_same (read_question caller r.group ∷ []) _ (served_sync x r) (served_sync u r) (ap (λ a. replies.SyncGroup (sync_reply a)) (sync_code (group.is_empty r.group) (group.member_refusal (group_of w.groups r.group) r.generation r.member) (group_of w.groups r.group) r moment w.moment))
  moved_same (InitProducerId r) = whole_same (init_questions (rules_of u) caller r.transactional_id) _ (served_init x r) (served_init u r) (ap (λ a. replies.InitProducerId a) (same_init w.coordinator given same r.transactional_id w.node.max_txn_timeout r.timeout))
  moved_same (AddPartitionsToTxn r) = add_same r (is_cut caller r.transactional_id w.topics (rules_of u) r.topics)
  moved_same (AddOffsetsToTxn r) =
      whole_same (add_offsets_questions caller r.transactional_id r.group) _ (served_add_offsets x r) (served_add_offsets u r)
      (ap (λ (code : ErrorCode). replies.AddOffsetsToTxn (add_offsets_reply code)) (begun_code (with_group r.group) (is_empty r.transactional_id) (id_record w.coordinator.transactions r.transactional_id) (record { producer = r.producer; epoch = r.epoch }) moment w.moment))
  moved_same (EndTxn r) = whole_same (end_questions caller r) _ (served_end x r) (served_end u r) (ap (λ a. replies.EndTxn (end_reply r a)) (same_end w.coordinator given same r))
  moved_same (TxnOffsetCommit r) = refl
  moved_same (SaslHandshake r) = refl
  moved_same ApiVersions = refl
  moved_same (SaslAuthenticate r) = refl
  moved_same (DescribeAcls r) = whole_same (describe_acls_questions caller) _ _ _ refl
  moved_same (CreateAcls r) = whole_same (alter_questions caller) _ _ _ refl
  moved_same (DeleteAcls r) = whole_same (alter_questions caller) _ _ _ refl
