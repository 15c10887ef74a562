-- What each api asks, and what is told where it isn't granted.
use Rattle.std.proofs.Common.{◌≡◌, ℕ, zero, suc, ℤ, pos, Bool, true, false, cond, ◌||◌, List, [], ◌∷◌, map, length, replicate, Option, Some, None, IfSome, Err, refl, sym, ap, subst, ◌∙◌}
use Rattle.std.specs.Prelude.{◌&&◌, is_some, codes as codes_of}
use Rattle.std.specs.List.{AllByRecursion}
use Rattle.std.specs.Ordering.{int_eq}
use Rattle.acl_binding.specs.declared.question.Caller.{Caller}
use Rattle.acl_binding.specs.declared.question.Question.{Question}
use Rattle.acl_binding.specs.declared.question.Verdict.{Verdict}
use Rattle.acl_binding.specs.declared.question.Verdict.TheVariants.{Yes, Denied, Nothing}
use Rattle.acl_binding.specs.declared.words.Kind.{Kind}
use Rattle.acl_binding.specs.declared.words.Kind.TheVariants as kinds
use Rattle.acl_binding.specs.declared.words.Operation.TheVariants as operations
use Rattle.acl_binding.specs.declared.binding.Binding.{Binding}
use Rattle.acl_binding.specs.declared.filter.Filter.{Filter}
use Rattle.acl_binding.specs.Book.{BookValue}
use Rattle.acl_binding.specs.Entries.{binding_of, filter_of}
use Rattle.authorizer.specs.declared.answer.Refusal.{Refusal}
use Rattle.authorizer.specs.AnyTopic.{any_topic}
use Rattle.authorizer.specs.Policy.{verdict}
use Rattle.authorizer.specs.Asking.{Rules, refusal_by, first_of, question_refusal, part_refusal}
use Rattle.wire_types.specs.declared.error_code.ErrorCode.{ErrorCode}
use Rattle.wire_types.specs.declared.error_code.ErrorCode.TheVariants as codes
use Rattle.wire_types.specs.declared.topic.Topic.{Topic}
use Rattle.wire_types.specs.ErrorCode.{number_of}
use Rattle.msg_data.specs.declared.produce.ProduceRequest.{ProduceRequest}
use Rattle.msg_data.specs.declared.produce.ProducedRecords.{ProducedRecords}
use Rattle.msg_data.specs.declared.produce.ProducedOffset.{ProducedOffset}
use Rattle.msg_data.specs.declared.produce.ProduceReply.{ProduceReply}
use Rattle.msg_data.specs.declared.fetch.FetchPartition.{FetchPartition}
use Rattle.msg_data.specs.declared.fetch.FetchedRecords.{FetchedRecords}
use Rattle.msg_data.specs.declared.isolation.Isolation.{Isolation}
use Rattle.msg_data.specs.declared.list_offsets.FoundOffset.{FoundOffset}
use Rattle.msg_data.specs.declared.list_offsets.WantedOffset.{WantedOffset}
use Rattle.msg_data.specs.declared.metadata.MetadataRequest.{MetadataRequest}
use Rattle.msg_data.specs.declared.metadata.TopicInfo.{TopicInfo}
use Rattle.msg_group.specs.declared.join_group.JoinGroupRequest.{JoinGroupRequest}
use Rattle.msg_group.specs.declared.sync_group.SyncGroupRequest.{SyncGroupRequest}
use Rattle.msg_group.specs.declared.heartbeat.HeartbeatRequest.{HeartbeatRequest}
use Rattle.msg_group.specs.declared.leave_group.LeaveGroupRequest.{LeaveGroupRequest}
use Rattle.msg_group.specs.declared.offset_commit.CommittedOffset.{CommittedOffset}
use Rattle.msg_group.specs.declared.offset_commit.OffsetToCommit.{OffsetToCommit}
use Rattle.msg_group.specs.declared.offset_fetch.FetchedOffset.{FetchedOffset}
use Rattle.msg_group.specs.declared.offset_fetch.OffsetFetchRequest.{OffsetFetchRequest}
use Rattle.msg_txn.specs.declared.add_partitions.AddedPartition.{AddedPartition}
use Rattle.msg_txn.specs.declared.add_partitions.AddPartitionsToTxnRequest.{AddPartitionsToTxnRequest}
use Rattle.msg_txn.specs.declared.end_txn.EndTxnRequest.{EndTxnRequest}
use Rattle.msg_txn.specs.declared.end_txn.EndTxnRequest.TheVariants as versions
use Rattle.msg_txn.specs.declared.txn_offset_commit.OffsetToStage.{OffsetToStage}
use Rattle.msg_txn.specs.declared.txn_offset_commit.StagedOffset.{StagedOffset}
use Rattle.msg_txn.specs.EndTxn.{error_of}
use Rattle.msg_acl.specs.declared.entries.BindingEntry.{BindingEntry}
use Rattle.msg_acl.specs.declared.entries.FilterEntry.{FilterEntry}
use Rattle.msg_acl.specs.declared.create_acls.CreatedAcl.{CreatedAcl}
use Rattle.msg_acl.specs.declared.delete_acls.DeletedAcls.{DeletedAcls}
use Rattle.msg_admin.specs.declared.request.Request.{Request}
use Rattle.msg_admin.specs.declared.request.Request.TheVariants as requests
use Rattle.msg_admin.specs.declared.reply.Reply.{Reply}
use Rattle.msg_admin.specs.declared.reply.Reply.TheVariants as replies
use Rattle.txn_coordinator.specs.declared.ending.EndForm.{EndForm}
use Rattle.txn_coordinator.specs.declared.ending.EndForm.TheVariants.{Plain, Fencing, Raising}
use Rattle.txn_coordinator.specs.declared.producer_id.ProducerIdAndEpoch.{ProducerIdAndEpoch}
use Rattle.txn_coordinator.specs.declared.producer_id.ProducerIdAnswer.{ProducerIdAnswer}
use Rattle.txn_coordinator.specs.declared.target.Target.{Target}
use Rattle.txn_coordinator.specs.declared.target.Target.TheVariants.{Group as group_target}
use Rattle.txn_coordinator.specs.declared.target.TopicPartition.{TopicPartition}
use Rattle.txn_coordinator.specs.Words.{no_producer}
use Rattle.txn_coordinator.specs.Coordinator.{CoordinatorValue, id_record, transition_code, transition_answer}
use Rattle.txn_coordinator.specs.Adding.{add_partitions, add_group}
use Rattle.txn_coordinator.specs.EndTxn.{other_epoch, end}
use Rattle.record_batch.specs.declared.transaction_result.TransactionResult.{TransactionResult}
use Rattle.group_offsets.specs.declared.event.OffsetEvent.{OffsetEvent}
use Rattle.group_offsets.specs.declared.event.PartitionOffset.{PartitionOffset}
use Rattle.group_offsets.specs.declared.group.Group.{Group}
use Rattle.group_offsets.specs.GroupTransition.{answer_of}
use Rattle.group_offsets.specs.Group.{sync_group, beat_group, leave_group}
use Rattle.group_offsets.specs.Groups.{group_of}
use Rattle.group_offsets.specs.Joining.{join_group}
use Rattle.group_offsets.specs.Offsets.{fetch_result}
use Rattle.walk.specs.Codes.{permission_code, refusal_code}
use Rattle.walk.specs.Headline.{element_at}
use Rattle.walk.specs.Rule.{PartRule, refusal_of}
use Rattle.walk.specs.Steps.{answer_by, part_world, parts_world, parts_answers, topics_answers}
use Rattle.walk.specs.Walk.{plain_topics, answers, refusals}
use Rattle.walk.specs.Woven.{has_any}
use Rattle.walk.proofs.Weaving.{woven, granted}
use Rattle.broker_world.specs.declared.node.Node.{Node}
use Rattle.broker_world.specs.World.{World, TopicValue, LogValue, rules_of, find_topic, topic_names}
use Rattle.broker_world.specs.Codes.{code_in}
use Rattle.broker_world.specs.First.{non_negative}
use Rattle.broker_world.specs.Logs.{log_at}
use Rattle.broker_world.specs.Questions.{read_question, topic_refusal}
use Rattle.broker_world.specs.Whole.{Served, whole_outcome_by}
use Rattle.data_handlers.specs.declared.fetch_budget.FetchBudget.{FetchBudget}
use Rattle.data_handlers.specs.Judged.{partition_at, batch_to_append}
use Rattle.data_handlers.specs.Produce.{produce_questions, produce_answer_by, producing_rule, produce_reply}
use Rattle.data_handlers.specs.Fetch.{served_by, fetched_partition as fetched_records, fetch_rule, whole_budget}
use Rattle.data_handlers.specs.ListOffsets.{listed_offset_by, list_rule}
use Rattle.data_handlers.specs.Metadata.{topic_found, plain_topic, plain_topics as plain_infos, describable, metadata_topics, answer_by as topic_by, topic_answer}
use Rattle.group_handlers.specs.FindCoordinator.{kind_of, find_questions, find_error, find_reply}
use Rattle.group_handlers.specs.Members.{join_error, join_reply, served_join, sync_reply, served_sync, beat_reply, served_heartbeat, leave_reply, served_leave}
use Rattle.group_handlers.specs.OffsetCommit.{Committing, committing_of, code_by, committing_rule}
use Rattle.group_handlers.specs.OffsetFetch.{group_question, fetched_offset, offset_rule, listed_topics as told_offsets, offsets_of, fetched_outcome, offset_fetch_by}
use Rattle.txn_handlers.specs.InitProducerId.{init_question, init_questions, init_error, reply_for, served_init}
use Rattle.txn_handlers.specs.AddPartitions.{cut_code, cut_rule, code_rule, code_rule_for, is_missing, is_cut, partitions_of, add_transition, cut_outcome, added_outcome}
use Rattle.txn_handlers.specs.AddOffsets.{add_offsets_questions, add_offsets_reply, served_add_offsets}
use Rattle.txn_handlers.specs.EndTxn.{form_of, ending_id, ending_id_and_epoch, ending_outcome, end_questions, end_reply, end_error, end_transition, served_end}
use Rattle.txn_handlers.specs.TxnOffsetCommit.{Staging, staging_of, offset_staged, staging_refusal, transition_by, staging_rule}
use Rattle.txn_handlers.proofs.Added.{told_refused, told_topics}
use Rattle.acl_handlers.specs.DescribeAcls.{describe_acls_questions, describe_acls_error, describe_acls_reply}
use Rattle.acl_handlers.specs.CreateAcls.{alter_questions, book_created, creation_result_with, creation_result_by, creation_result, create_acls_reply}
use Rattle.acl_handlers.specs.DeleteAcls.{book_without, book_deleted, deletion_error, deletion_result, deletion_results, delete_acls_reply}
use Rattle.api_dispatch.specs.Questions.{asks_itself, asks_at}
use Rattle.api_dispatch.specs.Step.{request_outcome, reply_to}
use Rattle.api_laws.specs.Headline.{is_yes}
use Rattle.api_laws.specs.ToldErrors.{errors_itself, Place, TopicAt, PartitionAt, error_number, error_number_in, partition_error_at, topic_error_at, error_at}
use Rattle.api_laws.specs.AskedTable.{Row, row, row_question, coordinator_rows, producer_rows, request_rows, id_row, topic_rows, rows_for, rows_in, partition_rows, rows_of, name_rows, offset_rows, rows_at, first_refused, refusal_number, IsNoRefusal, TellsItself, TellsAt, result_count, AsksByTable}
use Rattle.api_laws.proofs.Headlines.{one_by_one}
use Rattle.api_laws.proofs.PlainCodes.{held, produced_codes, fetched_codes, listed_codes, described_codes, committed_codes, synced_codes, beaten_codes, left_codes, joined_codes, offset_codes, told_slots, found_codes, inited_codes, added_codes, grouped_codes, cut_codes, ended_codes, staged_codes, bindings_codes, created_codes, deleted_codes}

-- ---- the first row that isn't granted, and the refusal

-- both are about a resource of one kind, or there is neither
abbrev pub Agree : Option Refusal → Option Row → Type 0
Agree None None = Unit {0}
Agree None (Some x) = ⊥
Agree (Some r) None = ⊥
Agree (Some r) (Some x) = r.question.kind ≡ x.kind

pub agree : (w : World) (caller : Caller) (rows : List Row) → Agree (part_refusal (rules_of w) (map (row_question caller) rows)) (first_refused w caller rows)
agree w caller [] = tt
agree w caller (r ∷ rows) = by_verdict (verdict w.book w.supers (row_question caller r)) (agree w caller rows) where
  by_verdict : (x : Verdict) → Agree (part_refusal (rules_of w) (map (row_question caller) rows)) (first_refused w caller rows)
      → Agree (first_of (refusal_by x (row_question caller r)) (part_refusal (rules_of w) (map (row_question caller) rows))) (cond (is_yes x) (first_refused w caller rows) (Some r))
  by_verdict Yes h = h
  by_verdict (Denied n) h = refl
  by_verdict Nothing h = refl

kind_number : (k l : Kind) → k ≡ l → number_of (permission_code k) ≡ refusal_number l
unfolding number_of
kind_number k l same = ap (λ (x : Kind). number_of (permission_code x)) same ∙ by_kind l where
  by_kind : (x : Kind) → number_of (permission_code x) ≡ refusal_number x
  by_kind kinds.Topic = refl
  by_kind kinds.Group = refl
  by_kind kinds.Cluster = refl
  by_kind kinds.TransactionalId = refl

-- ---- what the apis ask is what the table lists

find_same : (caller : Caller) (key_type : ℤ) (key : List ℕ) → find_questions caller (kind_of key_type) key ≡ map (row_question caller) (coordinator_rows key_type key)
find_same caller key_type key = by_tests (int_eq key_type (pos 0)) (int_eq key_type (pos 1)) where
  by_tests : (a b : Bool) → find_questions caller (cond a (Some kinds.Group) (cond b (Some kinds.TransactionalId) None)) key
      ≡ map (row_question caller) (cond a (row operations.Describe kinds.Group key ∷ []) (cond b (row operations.Describe kinds.TransactionalId key ∷ []) []))
  by_tests true b = refl
  by_tests false true = refl
  by_tests false false = refl

-- who may write to some topic is asked nothing where it would be refused
waived : (rules : Rules) (q : Question) (o : Option Refusal) → question_refusal rules q ≡ o → part_refusal rules (cond (is_some o) [] (q ∷ [])) ≡ None
waived rules q None is = ap (λ (o : Option Refusal). first_of o None) is
waived rules q (Some r) is = refl

init_same : (w : World) (caller : Caller) (id : Option (List ℕ)) → part_refusal (rules_of w) (init_questions (rules_of w) caller id) ≡ part_refusal (rules_of w) (map (row_question caller) (producer_rows w caller id))
init_same w caller (Some id) = refl
init_same w caller None = by_some (any_topic w.book.entries caller.who caller.host) where
  by_some : (b : Bool) → part_refusal (rules_of w) (cond (b && is_some (question_refusal (rules_of w) (init_question caller None))) [] (init_question caller None ∷ []))
      ≡ part_refusal (rules_of w) (map (row_question caller) (cond b [] (row operations.IdempotentWrite kinds.Cluster (codes_of "kafka-cluster") ∷ [])))
  by_some true = waived (rules_of w) (init_question caller None) (question_refusal (rules_of w) (init_question caller None)) refl
  by_some false = refl

pub produce_asks : (caller : Caller) (id : Option (List ℕ)) (name : List ℕ) → produce_questions caller id name ≡ map (row_question caller) (id_row id (row operations.Write kinds.Topic name ∷ []))
produce_asks caller None name = refl
produce_asks caller (Some id) name = refl

pub same_itself : (w : World) (caller : Caller) (request : Request) → part_refusal (rules_of w) (asks_itself (rules_of w) caller request) ≡ part_refusal (rules_of w) (map (row_question caller) (request_rows w caller request))
same_itself w caller (requests.Produce r) = refl
same_itself w caller (requests.Fetch r) = refl
same_itself w caller (requests.ListOffsets r) = refl
same_itself w caller (requests.Metadata r) = refl
same_itself w caller (requests.OffsetCommit r) = refl
same_itself w caller (requests.OffsetFetch r) = refl
same_itself w caller (requests.FindCoordinator r) = ap (part_refusal (rules_of w)) (find_same caller r.key_type r.key)
same_itself w caller (requests.JoinGroup r) = refl
same_itself w caller (requests.Heartbeat r) = refl
same_itself w caller (requests.LeaveGroup r) = refl
same_itself w caller (requests.SyncGroup r) = refl
same_itself w caller (requests.SaslHandshake r) = refl
same_itself w caller requests.ApiVersions = refl
same_itself w caller (requests.InitProducerId r) = init_same w caller r.transactional_id
same_itself w caller (requests.AddPartitionsToTxn r) = refl
same_itself w caller (requests.AddOffsetsToTxn r) = refl
same_itself w caller (requests.EndTxn r) = refl
same_itself w caller (requests.TxnOffsetCommit r) = refl
same_itself w caller (requests.DescribeAcls r) = refl
same_itself w caller (requests.CreateAcls r) = refl
same_itself w caller (requests.DeleteAcls r) = refl
same_itself w caller (requests.SaslAuthenticate r) = refl

pub same_of_topic : (caller : Caller) (request : Request) (name : List ℕ) → asks_at caller request name ≡ map (row_question caller) (topic_rows request name)
same_of_topic caller (requests.Produce r) name = produce_asks caller r.transactional_id name
same_of_topic caller (requests.Fetch r) name = refl
same_of_topic caller (requests.ListOffsets r) name = refl
same_of_topic caller (requests.Metadata r) name = refl
same_of_topic caller (requests.OffsetCommit r) name = refl
same_of_topic caller (requests.OffsetFetch r) name = refl
same_of_topic caller (requests.FindCoordinator r) name = refl
same_of_topic caller (requests.JoinGroup r) name = refl
same_of_topic caller (requests.Heartbeat r) name = refl
same_of_topic caller (requests.LeaveGroup r) name = refl
same_of_topic caller (requests.SyncGroup r) name = refl
same_of_topic caller (requests.SaslHandshake r) name = refl
same_of_topic caller requests.ApiVersions name = refl
same_of_topic caller (requests.InitProducerId r) name = refl
same_of_topic caller (requests.AddPartitionsToTxn r) name = refl
same_of_topic caller (requests.AddOffsetsToTxn r) name = refl
same_of_topic caller (requests.EndTxn r) name = refl
same_of_topic caller (requests.TxnOffsetCommit r) name = refl
same_of_topic caller (requests.DescribeAcls r) name = refl
same_of_topic caller (requests.CreateAcls r) name = refl
same_of_topic caller (requests.DeleteAcls r) name = refl
same_of_topic caller (requests.SaslAuthenticate r) name = refl

-- ---- what is allowed is told no error of authorization

abbrev Clean : ErrorCode → Type 0
Clean code = IsNoRefusal (number_of code)

none_clean : Clean codes.None
unfolding number_of
none_clean = refl

sasl_clean : Clean codes.IllegalSaslState
unfolding number_of
sasl_clean = refl

produced_clean : (most : ℕ) (c : CoordinatorValue) (id : Option (List ℕ)) (acks : ℤ) (target : Target) (p : ProducedRecords) (log : Option LogValue) → Clean (produce_answer_by (batch_to_append most c id acks target p.records) p log).error
unfolding number_of
produced_clean = produced_codes Clean refl refl refl refl refl refl refl refl refl refl refl refl

fetched_clean : (level : Isolation) (budget : FetchBudget) (p : FetchPartition) (log : Option LogValue) → Clean (fetched_records level p (served_by level budget p log)).error
unfolding number_of
fetched_clean = fetched_codes Clean refl refl refl

listed_clean : (level : Isolation) (p : WantedOffset) (log : Option LogValue) → Clean (listed_offset_by level p log).error
unfolding number_of
listed_clean = listed_codes Clean refl refl refl

described_clean : (node : ℤ) (name : List ℕ) (found : Option TopicValue) → Clean (topic_found node name found).error
unfolding number_of
described_clean = described_codes Clean refl refl

committed_clean : (c : Committing) (gs : List Group) (name : List ℕ) (p : OffsetToCommit) (log : Option LogValue) → Clean (code_by c gs name p log)
unfolding number_of
committed_clean = committed_codes Clean refl refl refl refl refl

synced_clean : (g : Group) (r : SyncGroupRequest) (moment : ℕ) → Clean (sync_reply (answer_of (sync_group g r moment))).error
unfolding number_of
synced_clean = synced_codes Clean refl refl refl refl

beaten_clean : (g : Group) (r : HeartbeatRequest) (moment : ℕ) → Clean (code_in (answer_of (beat_group g r moment)))
unfolding number_of
beaten_clean = beaten_codes Clean refl refl refl refl

left_clean : (g : Group) (r : LeaveGroupRequest) → Clean (code_in (answer_of (leave_group g r)))
unfolding number_of
left_clean = left_codes Clean refl refl refl

joined_clean : (g : Group) (r : JoinGroupRequest) (place moment : ℕ) → Clean (join_reply (answer_of (join_group g r place moment)) r).error
unfolding number_of
joined_clean = joined_codes Clean refl refl refl refl refl refl

offset_clean : (es : List OffsetEvent) (stable : Bool) (name : List ℕ) (index : ℤ) → Clean (fetched_offset (fetch_result es stable name index) index).error
unfolding number_of
offset_clean = offset_codes Clean refl refl

offsets_clean : (rules : Rules) (caller : Caller) (es : List OffsetEvent) (stable : Bool) (topics : List TopicValue) → AllByRecursion (λ (x : Topic FetchedOffset). AllByRecursion (λ (p : FetchedOffset). Clean p.error) x.partitions) (told_offsets rules caller es stable topics)
unfolding number_of
offsets_clean = told_slots Clean refl refl

found_clean : (kind : Option Kind) (node : Node) → Clean (find_reply kind node).error
unfolding number_of
found_clean = found_codes Clean refl refl

inited_clean : (id : Option (List ℕ)) (c : CoordinatorValue) (greatest asked : ℤ) → Clean (reply_for id c greatest asked).error
unfolding number_of
inited_clean = inited_codes Clean refl refl refl refl

added_clean : (c : CoordinatorValue) (id : List ℕ) (pair : ProducerIdAndEpoch) (moment : ℕ) (ps : List TopicPartition) → Clean (transition_code (add_partitions c id pair moment ps))
unfolding number_of
added_clean = added_codes Clean refl refl refl refl refl

grouped_clean : (c : CoordinatorValue) (id : List ℕ) (pair : ProducerIdAndEpoch) (moment : ℕ) (group : List ℕ) → Clean (transition_code (add_group c id pair moment group))
unfolding number_of
grouped_clean = grouped_codes Clean refl refl refl refl refl

cut_clean : (log : Option LogValue) → Clean (cut_code log)
unfolding number_of
cut_clean = cut_codes Clean refl refl

ended_clean : (c : CoordinatorValue) (form : EndForm) (id : List ℕ) (pair : ProducerIdAndEpoch) (o : TransactionResult) → Clean (transition_code (end c form id pair o))
unfolding number_of
ended_clean c form id pair o = ended_codes Clean refl refl refl refl refl c form id pair o (by_form form) where
  by_form : (f : EndForm) → Clean (other_epoch f)
  by_form Plain = refl
  by_form Fencing = refl
  by_form Raising = refl

held_clean : (c : CoordinatorValue) (s : Staging) → IfSome (staging_refusal c s) Clean
unfolding number_of
held_clean c s = held Clean refl refl refl (id_record c.transactions s.id) s.pair (group_target s.group)

staged_clean : (o : Option ErrorCode) (s : Staging) (gs : List Group) (offset : PartitionOffset) (log : Option LogValue) → IfSome o Clean → Clean (code_in (answer_of (transition_by o s gs offset log)))
unfolding number_of
staged_clean = staged_codes Clean refl refl refl refl

bindings_clean : (book : BookValue) (f : Option Filter) → Clean (describe_acls_reply book f).error
unfolding number_of
bindings_clean = bindings_codes Clean refl refl

created_clean : (b : Option Binding) → Clean (creation_result_by b).error
unfolding number_of
created_clean = created_codes Clean refl refl

deleted_clean : (book : BookValue) (f : Option Filter) → Clean (deletion_result book f).error
unfolding number_of
deleted_clean = deleted_codes Clean refl refl

-- ---- the request itself

-- it is answered whole
whole_tells : (o : Option Refusal) (x : Option Row) (w : World) (refused : ErrorCode → Reply) (served : Served) (times : ℕ) → Agree o x
    → ((code : ErrorCode) → errors_itself (refused code) ≡ replicate times (number_of code)) → AllByRecursion IsNoRefusal (errors_itself served.reply)
    → TellsItself x times (errors_itself (whole_outcome_by o w refused served).reply)
whole_tells None None w refused served times h as_told plain = plain
whole_tells (Some r) (Some x) w refused served times h as_told plain = as_told (refusal_code r) ∙ ap (λ (n : ℤ). replicate times n) (kind_number r.question.kind x.kind h)
whole_tells None (Some x) w refused served times h as_told plain = absurd h
whole_tells (Some r) None w refused served times h as_told plain = absurd h

created_told : (es : List BindingEntry) (code : ErrorCode) → map (λ (c : CreatedAcl). number_of c.error) (map (λ (e : BindingEntry). creation_result_with code) es) ≡ replicate (length es) (number_of code)
created_told [] code = refl
created_told (e ∷ es) code = ap (λ (l : List ℤ). number_of code ∷ l) (created_told es code)

created_all : (es : List BindingEntry) → AllByRecursion IsNoRefusal (map (λ (c : CreatedAcl). number_of c.error) (map creation_result es))
created_all [] = tt
created_all (e ∷ es) = (created_clean (binding_of e), created_all es)

deleted_told : (es : List FilterEntry) (code : ErrorCode) → map (λ (d : DeletedAcls). number_of d.error) (map (λ (e : FilterEntry). deletion_error code) es) ≡ replicate (length es) (number_of code)
deleted_told [] code = refl
deleted_told (e ∷ es) code = ap (λ (l : List ℤ). number_of code ∷ l) (deleted_told es code)

deleted_all : (book : BookValue) (es : List FilterEntry) → AllByRecursion IsNoRefusal (map (λ (d : DeletedAcls). number_of d.error) (deletion_results book es))
deleted_all book [] = tt
deleted_all book (e ∷ es) = (deleted_clean book (filter_of e), deleted_all (book_without book (filter_of e)) es)

-- an EndTxn is answered in its version
pub end_told : (r : EndTxnRequest) (a : ProducerIdAnswer) → error_of (end_reply r a) ≡ a.code
end_told (versions.Version0 r) a = refl
end_told (versions.Version1 r) a = refl
end_told (versions.Version2 r) a = refl
end_told (versions.Version3 r) a = refl
end_told (versions.Version4 r) a = refl
end_told (versions.Version5 r) a = refl

no_error : (b : Bool) (a : ProduceReply) → AllByRecursion IsNoRefusal (errors_itself (cond b (replies.SilentProduce a) (replies.Produce a)))
no_error true a = tt
no_error false a = tt

module _ (w : World) (caller : Caller) where
  offsets_itself : (r : OffsetFetchRequest) (topics : Option (List (Topic ℤ))) → AllByRecursion IsNoRefusal (errors_itself (fetched_outcome w caller (offsets_of w r.group) r.require_stable topics).reply)
  offsets_itself r None = (none_clean, tt)
  offsets_itself r (Some ts) = (none_clean, tt)

  fetch_itself : (r : OffsetFetchRequest) (o : Option Refusal) (x : Option Row) → Agree o x → TellsItself x 1 (errors_itself (offset_fetch_by o w caller r).reply)
  fetch_itself r None None h = offsets_itself r r.topics
  fetch_itself r (Some refusal) (Some x) h = ap (λ (n : ℤ). n ∷ []) (kind_number refusal.question.kind x.kind h)
  fetch_itself r None (Some x) h = absurd h
  fetch_itself r (Some refusal) None h = absurd h

  add_itself : (r : AddPartitionsToTxnRequest) (b : Bool) → AllByRecursion IsNoRefusal (errors_itself (cond b (cut_outcome w caller r) (added_outcome w r)).reply)
  add_itself r true = tt
  add_itself r false = tt

  -- what a question of reading a group is told
  of_group : (group : List ℕ) (refused : ErrorCode → Reply) (served : Served) → ((code : ErrorCode) → errors_itself (refused code) ≡ replicate 1 (number_of code)) → AllByRecursion IsNoRefusal (errors_itself served.reply)
      → TellsItself (first_refused w caller (row operations.Read kinds.Group group ∷ [])) 1 (errors_itself (whole_outcome_by (part_refusal (rules_of w) (read_question caller group ∷ [])) w refused served).reply)
  of_group group refused served as_told plain =
      whole_tells (part_refusal (rules_of w) (read_question caller group ∷ [])) (first_refused w caller (row operations.Read kinds.Group group ∷ [])) w refused served 1 (agree w caller (row operations.Read kinds.Group group ∷ [])) as_told plain

  pub find_agree : (key_type : ℤ) (key : List ℕ) → Agree (part_refusal (rules_of w) (find_questions caller (kind_of key_type) key)) (first_refused w caller (coordinator_rows key_type key))
  find_agree key_type key = subst (λ (qs : List Question). Agree (part_refusal (rules_of w) qs) (first_refused w caller (coordinator_rows key_type key))) (sym (find_same caller key_type key)) (agree w caller (coordinator_rows key_type key))

  pub init_agree : (id : Option (List ℕ)) → Agree (part_refusal (rules_of w) (init_questions (rules_of w) caller id)) (first_refused w caller (producer_rows w caller id))
  init_agree id = subst (λ (o : Option Refusal). Agree o (first_refused w caller (producer_rows w caller id))) (sym (init_same w caller id)) (agree w caller (producer_rows w caller id))

  end_itself : (r : EndTxnRequest) → AllByRecursion IsNoRefusal (errors_itself (served_end w r).reply)
  end_itself r = (subst Clean (sym (end_told r (transition_answer w.coordinator (ending_id r) (end_transition w.coordinator r)))) (ended_clean w.coordinator (form_of r) (ending_id r) (ending_id_and_epoch r) (ending_outcome r)), tt)

  tells_itself : (request : Request) → TellsItself (first_refused w caller (request_rows w caller request)) (result_count request) (errors_itself (request_outcome w caller request).reply)
  tells_itself (requests.Produce r) = no_error (int_eq r.acks (pos 0)) (record { topics = answers (producing_rule w caller r) (rules_of w) w.topics r.topics; throttle = pos 0 })
  tells_itself (requests.Fetch r) = tt
  tells_itself (requests.ListOffsets r) = tt
  tells_itself (requests.Metadata r) = tt
  tells_itself (requests.OffsetCommit r) = tt
  tells_itself (requests.OffsetFetch r) = fetch_itself r (part_refusal (rules_of w) (group_question caller r.group ∷ [])) (first_refused w caller (row operations.Describe kinds.Group r.group ∷ [])) (agree w caller (row operations.Describe kinds.Group r.group ∷ []))
  tells_itself (requests.FindCoordinator r) =
      whole_tells (part_refusal (rules_of w) (find_questions caller (kind_of r.key_type) r.key)) (first_refused w caller (coordinator_rows r.key_type r.key)) w (λ code. replies.FindCoordinator (find_error code))
      (record { world = w; reply = replies.FindCoordinator (find_reply (kind_of r.key_type) w.node) }) 1 (find_agree r.key_type r.key) (λ code. refl) (found_clean (kind_of r.key_type) w.node, tt)
  tells_itself (requests.JoinGroup r) = of_group r.group (λ code. replies.JoinGroup (join_error code r)) (served_join w r) (λ code. refl) (joined_clean (group_of w.groups r.group) r w.events w.moment, tt)
  tells_itself (requests.Heartbeat r) = of_group r.group (λ code. replies.Heartbeat (beat_reply code)) (served_heartbeat w r) (λ code. refl) (beaten_clean (group_of w.groups r.group) r w.moment, tt)
  tells_itself (requests.LeaveGroup r) = of_group r.group (λ code. replies.LeaveGroup (leave_reply code)) (served_leave w r) (λ code. refl) (left_clean (group_of w.groups r.group) r, tt)
  tells_itself (requests.SyncGroup r) = of_group r.group (λ code. replies.SyncGroup (sync_reply (Err code))) (served_sync w r) (λ code. refl) (synced_clean (group_of w.groups r.group) r w.moment, tt)
  tells_itself (requests.SaslHandshake r) = (sasl_clean, tt)
  tells_itself requests.ApiVersions = (none_clean, tt)
  tells_itself (requests.InitProducerId r) =
      whole_tells (part_refusal (rules_of w) (init_questions (rules_of w) caller r.transactional_id)) (first_refused w caller (producer_rows w caller r.transactional_id)) w (λ code. replies.InitProducerId (init_error code)) (served_init w r) 1
      (init_agree r.transactional_id) (λ code. refl) (inited_clean r.transactional_id w.coordinator w.node.max_txn_timeout r.timeout, tt)
  tells_itself (requests.AddPartitionsToTxn r) = add_itself r (is_cut caller r.transactional_id w.topics (rules_of w) r.topics)
  tells_itself (requests.AddOffsetsToTxn r) =
      let rows : List Row = row operations.Write kinds.TransactionalId r.transactional_id ∷ row operations.Read kinds.Group r.group ∷ [] in
      whole_tells (part_refusal (rules_of w) (add_offsets_questions caller r.transactional_id r.group)) (first_refused w caller rows) w (λ code. replies.AddOffsetsToTxn (add_offsets_reply code)) (served_add_offsets w r) 1
      (agree w caller rows) (λ code. refl) (grouped_clean w.coordinator r.transactional_id (record { producer = r.producer; epoch = r.epoch }) w.moment r.group, tt)
  tells_itself (requests.EndTxn r) =
      let rows : List Row = row operations.Write kinds.TransactionalId (ending_id r) ∷ [] in
      whole_tells (part_refusal (rules_of w) (end_questions caller r)) (first_refused w caller rows) w (λ code. replies.EndTxn (end_error r code)) (served_end w r) 1
      (agree w caller rows) (λ code. ap (λ (c : ErrorCode). number_of c ∷ []) (end_told r (record { code = code; pair = no_producer }))) (end_itself r)
  tells_itself (requests.TxnOffsetCommit r) = tt
  tells_itself (requests.DescribeAcls r) =
      let rows : List Row = row operations.Describe kinds.Cluster (codes_of "kafka-cluster") ∷ [] in
      whole_tells (part_refusal (rules_of w) (describe_acls_questions caller)) (first_refused w caller rows) w (λ code. replies.DescribeAcls (describe_acls_error code))
      (record { world = w; reply = replies.DescribeAcls (describe_acls_reply w.book (filter_of r.filter)) }) 1 (agree w caller rows) (λ code. refl) (bindings_clean w.book (filter_of r.filter), tt)
  tells_itself (requests.CreateAcls r) =
      let rows : List Row = row operations.Alter kinds.Cluster (codes_of "kafka-cluster") ∷ [] in
      whole_tells (part_refusal (rules_of w) (alter_questions caller)) (first_refused w caller rows) w (λ code. replies.CreateAcls (create_acls_reply (map (λ (e : BindingEntry). creation_result_with code) r.creations)))
      (record { world = record w { book = book_created w.book r.creations }; reply = replies.CreateAcls (create_acls_reply (map creation_result r.creations)) }) (length r.creations) (agree w caller rows) (created_told r.creations) (created_all r.creations)
  tells_itself (requests.DeleteAcls r) =
      let rows : List Row = row operations.Alter kinds.Cluster (codes_of "kafka-cluster") ∷ [] in
      whole_tells (part_refusal (rules_of w) (alter_questions caller)) (first_refused w caller rows) w (λ code. replies.DeleteAcls (delete_acls_reply (map (λ (e : FilterEntry). deletion_error code) r.filters)))
      (record { world = record w { book = book_deleted w.book r.filters }; reply = replies.DeleteAcls (delete_acls_reply (deletion_results w.book r.filters)) }) (length r.filters) (agree w caller rows) (deleted_told r.filters) (deleted_all w.book r.filters)
  tells_itself (requests.SaslAuthenticate r) = (sasl_clean, tt)

-- ---- a walk

module _ (P A W : Type 0) (api : PartRule P A W) (error : A → ErrorCode) (w : World) (caller : Caller) (rows : List ℕ → List Row)
    (asks : (name : List ℕ) (p : P) → api.questions name p ≡ map (row_question caller) (rows name))
    (refused : (code : ErrorCode) (name : List ℕ) (p : P) → error (api.refused code name p) ≡ code)
    (plain : (v : W) (name : List ℕ) (p : P) → Clean (error (api.plain v name p))) where
  part_tells : (o : Option Refusal) (x : Option Row) (v : W) (name : List ℕ) (p : P) → Agree o x → TellsAt x (Some (number_of (error (answer_by api o v name p))))
  part_tells None None v name p h = plain v name p
  part_tells (Some r) (Some x) v name p h = ap (λ (c : ErrorCode). Some (number_of c)) (refused (refusal_code r) name p) ∙ ap (λ (n : ℤ). Some n) (kind_number r.question.kind x.kind h)
  part_tells None (Some x) v name p h = absurd h
  part_tells (Some r) None v name p h = absurd h

  here_tells : (v : W) (name : List ℕ) (p : P) → TellsAt (first_refused w caller (rows name)) (Some (number_of (error (answer_by api (refusal_of api (rules_of w) name p) v name p))))
  here_tells v name p =
      part_tells (refusal_of api (rules_of w) name p) (first_refused w caller (rows name)) v name p
      (subst (λ (qs : List Question). Agree (part_refusal (rules_of w) qs) (first_refused w caller (rows name))) (sym (asks name p)) (agree w caller (rows name)))

  parts_tell : (v : W) (name : List ℕ) (ps : List P) (j : ℕ) → TellsAt (first_refused w caller (rows_for rows name (element_at ps j))) (error_number error (element_at (parts_answers api (rules_of w) v name ps) j))
  parts_tell v name [] j = tt
  parts_tell v name (p ∷ ps) zero = here_tells v name p
  parts_tell v name (p ∷ ps) (suc j) = parts_tell (part_world api (rules_of w) v name p) name ps j

  topics_tell : (v : W) (ts : List (Topic P)) (i j : ℕ) → TellsAt (first_refused w caller (rows_in rows (element_at ts i) j)) (error_number_in error (element_at (topics_answers api (rules_of w) v ts) i) j)
  topics_tell v [] i j = tt
  topics_tell v (t ∷ ts) zero j = parts_tell v t.name t.partitions j
  topics_tell v (t ∷ ts) (suc i) j = topics_tell (parts_world api (rules_of w) v t.name t.partitions) ts i j

  walk_tells : (v : W) (ts : List (Topic P)) (place : Place) → TellsAt (first_refused w caller (partition_rows rows ts place)) (partition_error_at error (answers api (rules_of w) v ts) place)
  walk_tells v ts (TopicAt i) = tt
  walk_tells v ts (PartitionAt i j) = subst (λ (l : List (Topic A)). TellsAt (first_refused w caller (rows_in rows (element_at ts i) j)) (error_number_in error (element_at l i) j)) (woven api (rules_of w) v ts).answers (topics_tell v ts i j)

-- each part is told something
module _ (P A W : Type 0) (api : PartRule P A W) (error : A → ErrorCode) (rules : Rules) (rows : List ℕ → List Row) where
  parts_answered : (v : W) (name : List ℕ) (ps : List P) (j : ℕ) → has_any (rows_for rows name (element_at ps j)) ≡ true → is_some (error_number error (element_at (parts_answers api rules v name ps) j)) ≡ true
  parts_answered v name [] j some = absurd (let clash : false ≡ true = some in cc)
  parts_answered v name (p ∷ ps) zero some = refl
  parts_answered v name (p ∷ ps) (suc j) some = parts_answered (part_world api rules v name p) name ps j some

  topics_answered : (v : W) (ts : List (Topic P)) (i j : ℕ) → has_any (rows_in rows (element_at ts i) j) ≡ true → is_some (error_number_in error (element_at (topics_answers api rules v ts) i) j) ≡ true
  topics_answered v [] i j some = absurd (let clash : false ≡ true = some in cc)
  topics_answered v (t ∷ ts) zero j some = parts_answered v t.name t.partitions j some
  topics_answered v (t ∷ ts) (suc i) j some = topics_answered (parts_world api rules v t.name t.partitions) ts i j some

  walk_answered : (v : W) (ts : List (Topic P)) (place : Place) → has_any (partition_rows rows ts place) ≡ true → is_some (partition_error_at error (answers api rules v ts) place) ≡ true
  walk_answered v ts (TopicAt i) some = absurd (let clash : false ≡ true = some in cc)
  walk_answered v ts (PartitionAt i j) some = subst (λ (l : List (Topic A)). is_some (error_number_in error (element_at l i) j) ≡ true) (woven api rules v ts).answers (topics_answered v ts i j some)

-- ---- the parts of each api

-- of a request that is answered whole none is told
no_part : (o : Option Refusal) (w : World) (refused : ErrorCode → Reply) (served : Served) (place : Place) → ((code : ErrorCode) → error_at (refused code) place ≡ None) → error_at served.reply place ≡ None
    → TellsAt None (error_at (whole_outcome_by o w refused served).reply place)
no_part None w refused served place nowhere none = subst (λ (e : Option ℤ). TellsAt None e) (sym none) tt
no_part (Some r) w refused served place nowhere none = subst (λ (e : Option ℤ). TellsAt None e) (sym (nowhere (refusal_code r))) tt

-- whether it is sent or not
acks_same : (b : Bool) (topics : List (Topic ProducedOffset)) (place : Place) → error_at (cond b (replies.SilentProduce (record { topics = topics; throttle = pos 0 })) (replies.Produce (record { topics = topics; throttle = pos 0 }))) place
    ≡ partition_error_at (λ (p : ProducedOffset). p.error) topics place
acks_same true topics place = refl
acks_same false topics place = refl

-- each of these is clean, so what stands at a place is
clean_part : (ps : List FetchedOffset) (j : ℕ) → AllByRecursion (λ (p : FetchedOffset). Clean p.error) ps → IfSome (error_number (λ (p : FetchedOffset). p.error) (element_at ps j)) IsNoRefusal
clean_part [] j all = tt
clean_part (p ∷ ps) zero all = all.0
clean_part (p ∷ ps) (suc j) all = clean_part ps j all.1

clean_at : (ts : List (Topic FetchedOffset)) (i j : ℕ) → AllByRecursion (λ (x : Topic FetchedOffset). AllByRecursion (λ (p : FetchedOffset). Clean p.error) x.partitions) ts → IfSome (error_number_in (λ (p : FetchedOffset). p.error) (element_at ts i) j) IsNoRefusal
clean_at [] i j all = tt
clean_at (t ∷ ts) zero j all = clean_part t.partitions j all.0
clean_at (t ∷ ts) (suc i) j all = clean_at ts i j all.1

-- where nothing is refused, the coordinator's code is told for each
pub none_of : (rs : List Refusal) (b : Bool) → (has_any rs || b) ≡ false → rs ≡ []
none_of [] b h = refl
none_of (r ∷ rs) b h = absurd (let clash : true ≡ false = h in cc)

pub told_all : (caller : Caller) (id : List ℕ) (code : ErrorCode) (topics : List TopicValue) (rules : Rules) (ts : List (Topic ℤ)) → is_cut caller id topics rules ts ≡ false → answers (code_rule_for caller id code) rules tt ts ≡ plain_topics (code_rule code) tt ts
told_all caller id code topics rules ts uncut =
    sym (woven (code_rule_for caller id code) rules tt ts).answers
    ∙ (granted (code_rule_for caller id code) rules tt ts (told_refused caller id code topics rules ts ∙ none_of (refusals (cut_rule caller id topics) rules ts) (is_missing topics ts) uncut)).answers
    ∙ told_topics caller id code tt tt ts

module _ (w : World) (caller : Caller) where
  produce_tells : (r : ProduceRequest) (place : Place) → TellsAt (first_refused w caller (rows_at (requests.Produce r) place)) (error_at (produce_reply r.acks (answers (producing_rule w caller r) (rules_of w) w.topics r.topics)) place)
  produce_tells r place =
      subst (λ (e : Option ℤ). TellsAt (first_refused w caller (rows_at (requests.Produce r) place)) e) (sym (acks_same (int_eq r.acks (pos 0)) (answers (producing_rule w caller r) (rules_of w) w.topics r.topics) place))
      (walk_tells ProducedRecords ProducedOffset (List TopicValue) (producing_rule w caller r) (λ (p : ProducedOffset). p.error) w caller (topic_rows (requests.Produce r)) (λ name p. produce_asks caller r.transactional_id name) (λ code name p. refl)
      (λ topics name p. produced_clean (non_negative w.node.max_batch) w.coordinator r.transactional_id r.acks (partition_at name p.index) p (log_at topics name p.index)) w.topics r.topics place)

  name_tells : (o : Option Refusal) (x : Option Row) (name : List ℕ) → Agree o x → TellsAt x (Some (number_of (topic_by o name (plain_topic w name)).error))
  name_tells None None name h = described_clean w.node.node_id name (find_topic w.topics name)
  name_tells (Some r) (Some x) name h = ap (λ (n : ℤ). Some n) (kind_number r.question.kind x.kind h)
  name_tells None (Some x) name h = absurd h
  name_tells (Some r) None name h = absurd h

  names_tell : (r : MetadataRequest) (names : List (List ℕ)) (i : ℕ) → TellsAt (first_refused w caller (rows_of (topic_rows (requests.Metadata r)) (element_at names i))) (error_number (λ (t : TopicInfo). t.error) (element_at (map (topic_answer w caller) names) i))
  names_tell r [] i = tt
  names_tell r (name ∷ names) zero =
      name_tells (topic_refusal (rules_of w) caller name) (first_refused w caller (row operations.Describe kinds.Topic name ∷ [])) name (agree w caller (row operations.Describe kinds.Topic name ∷ []))
  names_tell r (name ∷ names) (suc i) = names_tell r names i

  plain_tells : (names : List (List ℕ)) (i : ℕ) → IfSome (error_number (λ (t : TopicInfo). t.error) (element_at (plain_infos w names) i)) IsNoRefusal
  plain_tells [] i = tt
  plain_tells (name ∷ names) zero = described_clean w.node.node_id name (find_topic w.topics name)
  plain_tells (name ∷ names) (suc i) = plain_tells names i

  metadata_tells : (r : MetadataRequest) (topics : Option (List (List ℕ))) (place : Place) → TellsAt (first_refused w caller (name_rows (topic_rows (requests.Metadata r)) topics place)) (topic_error_at (metadata_topics w caller topics) place)
  metadata_tells r None (TopicAt i) = plain_tells (describable (rules_of w) caller (topic_names w.topics)) i
  metadata_tells r None (PartitionAt i j) = tt
  metadata_tells r (Some names) (TopicAt i) =
      subst (λ (l : List TopicInfo). TellsAt (first_refused w caller (rows_of (topic_rows (requests.Metadata r)) (element_at names i))) (error_number (λ (t : TopicInfo). t.error) (element_at l i))) (sym (one_by_one w caller names)) (names_tell r names i)
  metadata_tells r (Some names) (PartitionAt i j) = tt

  offsets_tell : (r : OffsetFetchRequest) (topics : Option (List (Topic ℤ))) (place : Place)
      → TellsAt (first_refused w caller (offset_rows (topic_rows (requests.OffsetFetch r)) topics place)) (error_at (fetched_outcome w caller (offsets_of w r.group) r.require_stable topics).reply place)
  offsets_tell r None (TopicAt i) = tt
  offsets_tell r None (PartitionAt i j) = clean_at (told_offsets (rules_of w) caller (offsets_of w r.group) r.require_stable w.topics) i j (offsets_clean (rules_of w) caller (offsets_of w r.group) r.require_stable w.topics)
  offsets_tell r (Some ts) place =
      walk_tells ℤ FetchedOffset (Unit {0}) (offset_rule caller (offsets_of w r.group) r.require_stable) (λ (p : FetchedOffset). p.error) w caller (topic_rows (requests.OffsetFetch r)) (λ name index. refl) (λ code name index. refl)
      (λ v name index. offset_clean (offsets_of w r.group) r.require_stable name index) tt ts place

  fetch_tells : (r : OffsetFetchRequest) (place : Place) (o : Option Refusal) (x : Option Row) → Agree o x → x ≡ None → TellsAt (first_refused w caller (rows_at (requests.OffsetFetch r) place)) (error_at (offset_fetch_by o w caller r).reply place)
  fetch_tells r place None x h none = offsets_tell r r.topics place
  fetch_tells r place (Some refusal) (Some y) h none = absurd (let clash : Some y ≡ None = none in cc)
  fetch_tells r place (Some refusal) None h none = absurd h

  adds_tell : (r : AddPartitionsToTxnRequest) (place : Place) (b : Bool) → is_cut caller r.transactional_id w.topics (rules_of w) r.topics ≡ b
      → TellsAt (first_refused w caller (rows_at (requests.AddPartitionsToTxn r) place)) (error_at (cond b (cut_outcome w caller r) (added_outcome w r)).reply place)
  adds_tell r place true is =
      walk_tells ℤ AddedPartition (Unit {0}) (cut_rule caller r.transactional_id w.topics) (λ (p : AddedPartition). p.error) w caller (topic_rows (requests.AddPartitionsToTxn r)) (λ name index. refl) (λ code name index. refl)
      (λ v name index. cut_clean (log_at w.topics name index)) tt r.topics place
  adds_tell r place false is =
      let code : ErrorCode = transition_code (add_transition w.coordinator w.moment r) in
      subst (λ (l : List (Topic AddedPartition)). TellsAt (first_refused w caller (rows_at (requests.AddPartitionsToTxn r) place)) (partition_error_at (λ (p : AddedPartition). p.error) l place)) (told_all caller r.transactional_id code w.topics (rules_of w) r.topics is)
      (walk_tells ℤ AddedPartition (Unit {0}) (code_rule_for caller r.transactional_id code) (λ (p : AddedPartition). p.error) w caller (topic_rows (requests.AddPartitionsToTxn r)) (λ name index. refl) (λ c name index. refl)
      (λ v name index. added_clean w.coordinator r.transactional_id (record { producer = r.producer; epoch = r.epoch }) w.moment (partitions_of r.topics)) tt r.topics place)

  tells_parts : (request : Request) (place : Place) → first_refused w caller (request_rows w caller request) ≡ None → TellsAt (first_refused w caller (rows_at request place)) (error_at (request_outcome w caller request).reply place)
  tells_parts (requests.Produce r) place h = produce_tells r place
  tells_parts (requests.Fetch r) place h =
      walk_tells FetchPartition FetchedRecords FetchBudget (fetch_rule caller r.isolation w.topics) (λ (p : FetchedRecords). p.error) w caller (topic_rows (requests.Fetch r)) (λ name p. refl) (λ code name p. refl)
      (λ budget name p. fetched_clean r.isolation budget p (log_at w.topics name p.index)) (whole_budget r) r.topics place
  tells_parts (requests.ListOffsets r) place h =
      walk_tells WantedOffset FoundOffset (Unit {0}) (list_rule caller r.isolation w.topics) (λ (p : FoundOffset). p.error) w caller (topic_rows (requests.ListOffsets r)) (λ name p. refl) (λ code name p. refl)
      (λ v name p. listed_clean r.isolation p (log_at w.topics name p.index)) tt r.topics place
  tells_parts (requests.Metadata r) place h = metadata_tells r r.topics place
  tells_parts (requests.OffsetCommit r) place h =
      walk_tells OffsetToCommit CommittedOffset (List Group) (committing_rule w caller r) (λ (p : CommittedOffset). p.error) w caller (topic_rows (requests.OffsetCommit r)) (λ name p. refl) (λ code name p. refl)
      (λ gs name p. committed_clean (committing_of r) gs name p (log_at w.topics name p.index)) w.groups r.topics place
  tells_parts (requests.OffsetFetch r) place h =
      fetch_tells r place (part_refusal (rules_of w) (group_question caller r.group ∷ [])) (first_refused w caller (row operations.Describe kinds.Group r.group ∷ [])) (agree w caller (row operations.Describe kinds.Group r.group ∷ [])) h
  tells_parts (requests.FindCoordinator r) place h = no_part (part_refusal (rules_of w) (find_questions caller (kind_of r.key_type) r.key)) w (λ code. replies.FindCoordinator (find_error code)) (record { world = w; reply = replies.FindCoordinator (find_reply (kind_of r.key_type) w.node) }) place (λ code. refl) refl
  tells_parts (requests.JoinGroup r) place h = no_part (part_refusal (rules_of w) (read_question caller r.group ∷ [])) w (λ code. replies.JoinGroup (join_error code r)) (served_join w r) place (λ code. refl) refl
  tells_parts (requests.Heartbeat r) place h = no_part (part_refusal (rules_of w) (read_question caller r.group ∷ [])) w (λ code. replies.Heartbeat (beat_reply code)) (served_heartbeat w r) place (λ code. refl) refl
  tells_parts (requests.LeaveGroup r) place h = no_part (part_refusal (rules_of w) (read_question caller r.group ∷ [])) w (λ code. replies.LeaveGroup (leave_reply code)) (served_leave w r) place (λ code. refl) refl
  tells_parts (requests.SyncGroup r) place h = no_part (part_refusal (rules_of w) (read_question caller r.group ∷ [])) w (λ code. replies.SyncGroup (sync_reply (Err code))) (served_sync w r) place (λ code. refl) refl
  tells_parts (requests.SaslHandshake r) place h = tt
  tells_parts requests.ApiVersions place h = tt
  tells_parts (requests.InitProducerId r) place h = no_part (part_refusal (rules_of w) (init_questions (rules_of w) caller r.transactional_id)) w (λ code. replies.InitProducerId (init_error code)) (served_init w r) place (λ code. refl) refl
  tells_parts (requests.AddPartitionsToTxn r) place h = adds_tell r place (is_cut caller r.transactional_id w.topics (rules_of w) r.topics) refl
  tells_parts (requests.AddOffsetsToTxn r) place h = no_part (part_refusal (rules_of w) (add_offsets_questions caller r.transactional_id r.group)) w (λ code. replies.AddOffsetsToTxn (add_offsets_reply code)) (served_add_offsets w r) place (λ code. refl) refl
  tells_parts (requests.EndTxn r) place h = no_part (part_refusal (rules_of w) (end_questions caller r)) w (λ code. replies.EndTxn (end_error r code)) (served_end w r) place (λ code. refl) refl
  tells_parts (requests.TxnOffsetCommit r) place h =
      walk_tells OffsetToStage StagedOffset (List Group) (staging_rule w caller r) (λ (p : StagedOffset). p.error) w caller (topic_rows (requests.TxnOffsetCommit r)) (λ name p. refl) (λ code name p. refl)
      (λ gs name p. staged_clean (staging_refusal w.coordinator (staging_of r)) (staging_of r) gs (offset_staged name p) (log_at w.topics name p.index) (held_clean w.coordinator (staging_of r))) w.groups r.topics place
  tells_parts (requests.DescribeAcls r) place h = no_part (part_refusal (rules_of w) (describe_acls_questions caller)) w (λ code. replies.DescribeAcls (describe_acls_error code)) (record { world = w; reply = replies.DescribeAcls (describe_acls_reply w.book (filter_of r.filter)) }) place (λ code. refl) refl
  tells_parts (requests.CreateAcls r) place h =
      no_part (part_refusal (rules_of w) (alter_questions caller)) w (λ code. replies.CreateAcls (create_acls_reply (map (λ (e : BindingEntry). creation_result_with code) r.creations)))
      (record { world = record w { book = book_created w.book r.creations }; reply = replies.CreateAcls (create_acls_reply (map creation_result r.creations)) }) place (λ code. refl) refl
  tells_parts (requests.DeleteAcls r) place h =
      no_part (part_refusal (rules_of w) (alter_questions caller)) w (λ code. replies.DeleteAcls (delete_acls_reply (map (λ (e : FilterEntry). deletion_error code) r.filters)))
      (record { world = record w { book = book_deleted w.book r.filters }; reply = replies.DeleteAcls (delete_acls_reply (deletion_results w.book r.filters)) }) place (λ code. refl) refl
  tells_parts (requests.SaslAuthenticate r) place h = tt

-- ---- each part is told something

-- a request without parts
no_row : {X : Type 0} → false ≡ true → X
no_row clash = absurd (let h : false ≡ true = clash in cc)

module _ (w : World) (caller : Caller) where
  abbrev IsTold : Option ℤ → Type 0
  IsTold error = is_some error ≡ true

  names_answered : (r : MetadataRequest) (names : List (List ℕ)) (i : ℕ) → has_any (rows_of (topic_rows (requests.Metadata r)) (element_at names i)) ≡ true → IsTold (error_number (λ (t : TopicInfo). t.error) (element_at (map (topic_answer w caller) names) i))
  names_answered r [] i some = absurd (let clash : false ≡ true = some in cc)
  names_answered r (name ∷ names) zero some = refl
  names_answered r (name ∷ names) (suc i) some = names_answered r names i some

  metadata_answered : (r : MetadataRequest) (topics : Option (List (List ℕ))) (place : Place) → has_any (name_rows (topic_rows (requests.Metadata r)) topics place) ≡ true → IsTold (topic_error_at (metadata_topics w caller topics) place)
  metadata_answered r None place some = absurd (let clash : false ≡ true = some in cc)
  metadata_answered r (Some names) (TopicAt i) some = subst (λ (l : List TopicInfo). IsTold (error_number (λ (t : TopicInfo). t.error) (element_at l i))) (sym (one_by_one w caller names)) (names_answered r names i some)
  metadata_answered r (Some names) (PartitionAt i j) some = absurd (let clash : false ≡ true = some in cc)

  offsets_answered : (r : OffsetFetchRequest) (topics : Option (List (Topic ℤ))) (place : Place) → has_any (offset_rows (topic_rows (requests.OffsetFetch r)) topics place) ≡ true
      → IsTold (error_at (fetched_outcome w caller (offsets_of w r.group) r.require_stable topics).reply place)
  offsets_answered r None place some = absurd (let clash : false ≡ true = some in cc)
  offsets_answered r (Some ts) place some = walk_answered ℤ FetchedOffset (Unit {0}) (offset_rule caller (offsets_of w r.group) r.require_stable) (λ (p : FetchedOffset). p.error) (rules_of w) (topic_rows (requests.OffsetFetch r)) tt ts place some

  fetch_answered : (r : OffsetFetchRequest) (place : Place) (o : Option Refusal) (x : Option Row) → Agree o x → x ≡ None → has_any (rows_at (requests.OffsetFetch r) place) ≡ true → IsTold (error_at (offset_fetch_by o w caller r).reply place)
  fetch_answered r place None x h none some = offsets_answered r r.topics place some
  fetch_answered r place (Some refusal) (Some y) h none some = absurd (let clash : Some y ≡ None = none in cc)
  fetch_answered r place (Some refusal) None h none some = absurd h

  adds_answered : (r : AddPartitionsToTxnRequest) (place : Place) (b : Bool) → is_cut caller r.transactional_id w.topics (rules_of w) r.topics ≡ b → has_any (rows_at (requests.AddPartitionsToTxn r) place) ≡ true
      → IsTold (error_at (cond b (cut_outcome w caller r) (added_outcome w r)).reply place)
  adds_answered r place true is some = walk_answered ℤ AddedPartition (Unit {0}) (cut_rule caller r.transactional_id w.topics) (λ (p : AddedPartition). p.error) (rules_of w) (topic_rows (requests.AddPartitionsToTxn r)) tt r.topics place some
  adds_answered r place false is some =
      let code : ErrorCode = transition_code (add_transition w.coordinator w.moment r) in
      subst (λ (l : List (Topic AddedPartition)). IsTold (partition_error_at (λ (p : AddedPartition). p.error) l place)) (told_all caller r.transactional_id code w.topics (rules_of w) r.topics is)
      (walk_answered ℤ AddedPartition (Unit {0}) (code_rule_for caller r.transactional_id code) (λ (p : AddedPartition). p.error) (rules_of w) (topic_rows (requests.AddPartitionsToTxn r)) tt r.topics place some)

  produce_answered : (r : ProduceRequest) (place : Place) → has_any (rows_at (requests.Produce r) place) ≡ true → IsTold (error_at (produce_reply r.acks (answers (producing_rule w caller r) (rules_of w) w.topics r.topics)) place)
  produce_answered r place some =
      subst IsTold (sym (acks_same (int_eq r.acks (pos 0)) (answers (producing_rule w caller r) (rules_of w) w.topics r.topics) place))
      (walk_answered ProducedRecords ProducedOffset (List TopicValue) (producing_rule w caller r) (λ (p : ProducedOffset). p.error) (rules_of w) (topic_rows (requests.Produce r)) w.topics r.topics place some)

  parts_are_told : (request : Request) (place : Place) → first_refused w caller (request_rows w caller request) ≡ None → has_any (rows_at request place) ≡ true → IsTold (error_at (request_outcome w caller request).reply place)
  parts_are_told (requests.Produce r) place h some = produce_answered r place some
  parts_are_told (requests.Fetch r) place h some = walk_answered FetchPartition FetchedRecords FetchBudget (fetch_rule caller r.isolation w.topics) (λ (p : FetchedRecords). p.error) (rules_of w) (topic_rows (requests.Fetch r)) (whole_budget r) r.topics place some
  parts_are_told (requests.ListOffsets r) place h some = walk_answered WantedOffset FoundOffset (Unit {0}) (list_rule caller r.isolation w.topics) (λ (p : FoundOffset). p.error) (rules_of w) (topic_rows (requests.ListOffsets r)) tt r.topics place some
  parts_are_told (requests.Metadata r) place h some = metadata_answered r r.topics place some
  parts_are_told (requests.OffsetCommit r) place h some = walk_answered OffsetToCommit CommittedOffset (List Group) (committing_rule w caller r) (λ (p : CommittedOffset). p.error) (rules_of w) (topic_rows (requests.OffsetCommit r)) w.groups r.topics place some
  parts_are_told (requests.OffsetFetch r) place h some =
      fetch_answered r place (part_refusal (rules_of w) (group_question caller r.group ∷ [])) (first_refused w caller (row operations.Describe kinds.Group r.group ∷ [])) (agree w caller (row operations.Describe kinds.Group r.group ∷ [])) h some
  parts_are_told (requests.FindCoordinator r) place h some = no_row some
  parts_are_told (requests.JoinGroup r) place h some = no_row some
  parts_are_told (requests.Heartbeat r) place h some = no_row some
  parts_are_told (requests.LeaveGroup r) place h some = no_row some
  parts_are_told (requests.SyncGroup r) place h some = no_row some
  parts_are_told (requests.SaslHandshake r) place h some = no_row some
  parts_are_told requests.ApiVersions place h some = no_row some
  parts_are_told (requests.InitProducerId r) place h some = no_row some
  parts_are_told (requests.AddPartitionsToTxn r) place h some = adds_answered r place (is_cut caller r.transactional_id w.topics (rules_of w) r.topics) refl some
  parts_are_told (requests.AddOffsetsToTxn r) place h some = no_row some
  parts_are_told (requests.EndTxn r) place h some = no_row some
  parts_are_told (requests.TxnOffsetCommit r) place h some = walk_answered OffsetToStage StagedOffset (List Group) (staging_rule w caller r) (λ (p : StagedOffset). p.error) (rules_of w) (topic_rows (requests.TxnOffsetCommit r)) w.groups r.topics place some
  parts_are_told (requests.DescribeAcls r) place h some = no_row some
  parts_are_told (requests.CreateAcls r) place h some = no_row some
  parts_are_told (requests.DeleteAcls r) place h some = no_row some
  parts_are_told (requests.SaslAuthenticate r) place h some = no_row some

pub asks_by_table : AsksByTable reply_to
asks_by_table = record {
  itself = λ w caller client request. tells_itself w caller request;
  parts = λ w caller client request place h. tells_parts w caller request place h;
  answered = λ w caller client request place h some. parts_are_told w caller request place h some;
  refused_itself = same_itself;
  asked_of_topic = same_of_topic;
}
