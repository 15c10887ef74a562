-- The errors that each api may answer.
use Rattle.std.proofs.Common.{◌≡◌, ℕ, zero, suc, ◌+◌, ℤ, pos, Bool, true, false, cond, List, [], ◌∷◌, map, length, Option, Some, None, IfSome, Err, refl, sym, subst}
use Rattle.std.specs.Prelude.{◌&&◌, is_some, is_none}
use Rattle.std.specs.Str.{bytes_eq}
use Rattle.std.specs.List.{AllByRecursion}
use Rattle.std.specs.Ordering.{int_eq}
use Rattle.acl_binding.specs.declared.question.Caller.{Caller}
use Rattle.acl_binding.specs.declared.question.Question.{Question}
use Rattle.acl_binding.specs.declared.question.Verdict.{Verdict}
use Rattle.acl_binding.specs.declared.question.Verdict.TheVariants.{Yes, Denied, Nothing}
use Rattle.acl_binding.specs.declared.words.Kind.{Kind}
use Rattle.acl_binding.specs.declared.words.Kind.TheVariants as kinds
use Rattle.acl_binding.specs.declared.binding.Binding.{Binding}
use Rattle.acl_binding.specs.declared.filter.Filter.{Filter}
use Rattle.acl_binding.specs.Book.{BookValue}
use Rattle.acl_binding.specs.Entries.{binding_of, filter_of}
use Rattle.acl_binding.specs.Filter.{matching_bindings}
use Rattle.authorizer.specs.declared.answer.Refusal.{Refusal}
use Rattle.authorizer.specs.AnyTopic.{any_topic}
use Rattle.authorizer.specs.Policy.{verdict}
use Rattle.authorizer.specs.Asking.{Rules, refusal_by, first_of, part_refusal, question_refusal}
use Rattle.wire_types.specs.declared.error_code.ErrorCode.{ErrorCode}
use Rattle.wire_types.specs.declared.error_code.ErrorCode.TheVariants as codes
use Rattle.wire_types.specs.declared.topic.Topic.{Topic}
use Rattle.wire_types.specs.ErrorCode.{number_of}
use Rattle.msg_data.specs.declared.produce.ProduceRequest.{ProduceRequest}
use Rattle.msg_data.specs.declared.produce.ProducedRecords.{ProducedRecords}
use Rattle.msg_data.specs.declared.produce.ProducedOffset.{ProducedOffset}
use Rattle.msg_data.specs.declared.produce.ProduceReply.{ProduceReply}
use Rattle.msg_data.specs.declared.fetch.FetchRequest.{FetchRequest}
use Rattle.msg_data.specs.declared.fetch.FetchPartition.{FetchPartition}
use Rattle.msg_data.specs.declared.fetch.FetchedRecords.{FetchedRecords}
use Rattle.msg_data.specs.declared.list_offsets.ListOffsetsRequest.{ListOffsetsRequest}
use Rattle.msg_data.specs.declared.list_offsets.FoundOffset.{FoundOffset}
use Rattle.msg_data.specs.declared.list_offsets.WantedOffset.{WantedOffset}
use Rattle.msg_data.specs.declared.metadata.MetadataRequest.{MetadataRequest}
use Rattle.msg_data.specs.declared.metadata.PartitionInfo.{PartitionInfo}
use Rattle.msg_data.specs.declared.metadata.TopicInfo.{TopicInfo}
use Rattle.msg_group.specs.declared.offset_commit.CommittedOffset.{CommittedOffset}
use Rattle.msg_group.specs.declared.offset_commit.OffsetCommitRequest.{OffsetCommitRequest}
use Rattle.msg_group.specs.declared.offset_commit.OffsetToCommit.{OffsetToCommit}
use Rattle.msg_group.specs.declared.offset_fetch.FetchedOffset.{FetchedOffset}
use Rattle.msg_group.specs.declared.offset_fetch.OffsetFetchRequest.{OffsetFetchRequest}
use Rattle.msg_txn.specs.declared.add_partitions.AddedPartition.{AddedPartition}
use Rattle.msg_txn.specs.declared.add_partitions.AddPartitionsToTxnRequest.{AddPartitionsToTxnRequest}
use Rattle.msg_txn.specs.declared.end_txn.EndTxnRequest.{EndTxnRequest}
use Rattle.msg_txn.specs.declared.end_txn.EndTxnRequest.TheVariants as versions
use Rattle.msg_txn.specs.declared.find_coordinator.FindCoordinatorRequest.{FindCoordinatorRequest}
use Rattle.msg_txn.specs.declared.init_producer_id.InitProducerIdRequest.{InitProducerIdRequest}
use Rattle.msg_txn.specs.declared.txn_offset_commit.OffsetToStage.{OffsetToStage}
use Rattle.msg_txn.specs.declared.txn_offset_commit.StagedOffset.{StagedOffset}
use Rattle.msg_txn.specs.declared.txn_offset_commit.TxnOffsetCommitRequest.{TxnOffsetCommitRequest}
use Rattle.msg_acl.specs.declared.entries.BindingEntry.{BindingEntry}
use Rattle.msg_acl.specs.declared.entries.FilterEntry.{FilterEntry}
use Rattle.msg_acl.specs.declared.create_acls.CreatedAcl.{CreatedAcl}
use Rattle.msg_acl.specs.declared.create_acls.CreateAclsRequest.{CreateAclsRequest}
use Rattle.msg_acl.specs.declared.delete_acls.DeleteAclsRequest.{DeleteAclsRequest}
use Rattle.msg_acl.specs.declared.delete_acls.DeletedAcl.{DeletedAcl}
use Rattle.msg_acl.specs.declared.delete_acls.DeletedAcls.{DeletedAcls}
use Rattle.msg_admin.specs.declared.request.Request.{Request}
use Rattle.msg_admin.specs.declared.request.Request.TheVariants as requests
use Rattle.msg_admin.specs.declared.reply.Reply.{Reply}
use Rattle.msg_admin.specs.declared.reply.Reply.TheVariants as replies
use Rattle.txn_coordinator.specs.declared.producer_id.ProducerIdAnswer.{ProducerIdAnswer}
use Rattle.txn_coordinator.specs.declared.target.Target.TheVariants.{Group as group_target}
use Rattle.txn_coordinator.specs.Words.{no_producer}
use Rattle.txn_coordinator.specs.Coordinator.{CoordinatorValue, id_record, transition_code, transition_answer}
use Rattle.txn_coordinator.specs.EndTxn.{other_epoch}
use Rattle.group_offsets.specs.declared.group.Group.{Group}
use Rattle.group_offsets.specs.Groups.{group_of}
use Rattle.walk.specs.Codes.{permission_code, refusal_code}
use Rattle.walk.specs.Rule.{PartRule, refusal_of}
use Rattle.walk.specs.Steps.{answer_by, part_world, parts_world, parts_answers, topics_answers}
use Rattle.walk.specs.Walk.{answers}
use Rattle.walk.proofs.Weaving.{woven}
use Rattle.broker_world.specs.World.{World, TopicValue, rules_of, find_topic, topic_names}
use Rattle.broker_world.specs.First.{non_negative}
use Rattle.broker_world.specs.Logs.{log_at}
use Rattle.broker_world.specs.Partitions.{partitions_from}
use Rattle.broker_world.specs.Questions.{read_question, topic_part, topic_refusal}
use Rattle.broker_world.specs.Whole.{Served, whole_outcome_by, whole_outcome}
use Rattle.data_handlers.specs.declared.fetch_budget.FetchBudget.{FetchBudget}
use Rattle.data_handlers.specs.Judged.{partition_at}
use Rattle.data_handlers.specs.Produce.{produce_questions, producing_rule, produce_outcome}
use Rattle.data_handlers.specs.Fetch.{fetch_rule, whole_budget}
use Rattle.data_handlers.specs.ListOffsets.{list_rule}
use Rattle.data_handlers.specs.Metadata.{topic_found, plain_topic, plain_topics as plain_infos, describable, metadata_topics, answer_by as topic_by, topic_answer}
use Rattle.group_handlers.specs.FindCoordinator.{find_questions, find_error, find_reply}
use Rattle.group_handlers.specs.Members.{join_error, served_join, sync_reply, served_sync, beat_reply, served_heartbeat, leave_reply, served_leave}
use Rattle.group_handlers.specs.OffsetCommit.{committing_of, committing_rule}
use Rattle.group_handlers.specs.OffsetFetch.{group_question, offset_rule, listed_topics, offsets_of, fetched_outcome, offset_fetch_by}
use Rattle.txn_handlers.specs.InitProducerId.{init_question, init_questions, init_error, reply_for, served_init}
use Rattle.txn_handlers.specs.AddPartitions.{cut_rule, code_rule_for, is_cut, partitions_of, add_transition, cut_outcome, added_outcome}
use Rattle.txn_handlers.specs.AddOffsets.{add_offsets_questions, add_offsets_reply, served_add_offsets}
use Rattle.txn_handlers.specs.EndTxn.{form_of, ending_id, ending_id_and_epoch, ending_outcome, end_questions, end_reply, end_error, end_transition, served_end}
use Rattle.txn_handlers.specs.TxnOffsetCommit.{staging_of, offset_staged, staging_refusal, staging_rule}
use Rattle.acl_handlers.specs.DescribeAcls.{describe_acls_questions, describe_acls_error, describe_acls_reply}
use Rattle.acl_handlers.specs.CreateAcls.{alter_questions, book_created, creation_result_with, creation_result_by, creation_result, create_acls_reply}
use Rattle.acl_handlers.specs.DeleteAcls.{book_without, book_deleted, deleted_acl, deletion_error, deletion_result, deletion_results, delete_acls_reply}
use Rattle.api_dispatch.specs.Step.{request_outcome, reply_to}
use Rattle.api_laws.specs.ToldErrors.{partition_errors, info_errors, deleted_errors, all_errors}
use Rattle.api_laws.specs.ErrorTable.{id_errors, metadata_errors, named_errors, init_errors, errors_of, IsAmong, ErrorsByTable}
use Rattle.api_laws.proofs.Grouped.{own_name}
use Rattle.api_laws.proofs.Headlines.{one_by_one}
use Rattle.api_laws.proofs.PlainCodes.{held, all_append, produced_codes, fetched_codes, listed_codes, committed_codes, synced_codes, beaten_codes, left_codes, joined_codes, offset_codes, told_slots, inited_codes, added_codes, grouped_codes, cut_codes, ended_codes, staged_codes, bindings_codes, created_codes}
use Rattle.api_laws.proofs.AskedTable.{end_told, told_all}

-- the number of the code is 0, or one of these
abbrev Among : List ℕ → ErrorCode → Type 0
Among numbers code = IsAmong numbers (number_of code)

abbrev AreAmong : List ℕ → Reply → Type 0
AreAmong numbers reply = AllByRecursion (IsAmong numbers) (all_errors reply)

-- ---- what is refused

-- what holds of the code of each question holds of a refusal's
refused_by_kind : (Q : ErrorCode → Type 0) (rules : Rules) (qs : List Question) → AllByRecursion (λ (q : Question). Q (permission_code q.kind)) qs → IfSome (part_refusal rules qs) (λ (r : Refusal). Q (refusal_code r))
refused_by_kind Q rules [] all = tt
refused_by_kind Q rules (q ∷ qs) all = by_verdict (verdict rules.book rules.supers q) (refused_by_kind Q rules qs all.1) where
  by_verdict : (x : Verdict) → IfSome (part_refusal rules qs) (λ (r : Refusal). Q (refusal_code r)) → IfSome (first_of (refusal_by x q) (part_refusal rules qs)) (λ (r : Refusal). Q (refusal_code r))
  by_verdict Yes rest = rest
  by_verdict (Denied n) rest = all.0
  by_verdict Nothing rest = all.0

-- ---- a request that is answered whole

whole_by_refusal : (numbers : List ℕ) (o : Option Refusal) (w : World) (refused : ErrorCode → Reply) (served : Served) → IfSome o (λ (r : Refusal). AreAmong numbers (refused (refusal_code r))) → AreAmong numbers served.reply → AreAmong numbers (whole_outcome_by o w refused served).reply
whole_by_refusal numbers None w refused served is plain = plain
whole_by_refusal numbers (Some r) w refused served is plain = is

whole_among : (numbers : List ℕ) (w : World) (qs : List Question) (refused : ErrorCode → Reply) (served : Served) → AllByRecursion (λ (q : Question). AreAmong numbers (refused (permission_code q.kind))) qs → AreAmong numbers served.reply → AreAmong numbers (whole_outcome w qs refused served).reply
whole_among numbers w qs refused served asks plain =
    whole_by_refusal numbers (part_refusal (rules_of w) qs) w refused served (refused_by_kind (λ (code : ErrorCode). AreAmong numbers (refused code)) (rules_of w) qs asks) plain

-- ---- a walk

module _ (P A W : Type 0) (api : PartRule P A W) (error : A → ErrorCode) (Q : ErrorCode → Type 0) (rules : Rules)
    (refused : (code : ErrorCode) (name : List ℕ) (p : P) → error (api.refused code name p) ≡ code)
    (asks : (name : List ℕ) (p : P) → AllByRecursion (λ (q : Question). Q (permission_code q.kind)) (api.questions name p))
    (plain : (v : W) (name : List ℕ) (p : P) → Q (error (api.plain v name p))) where
  abbrev AreParts : List A → Type 0
  AreParts answered = AllByRecursion (λ (a : A). Q (error a)) answered

  part_among : (o : Option Refusal) (v : W) (name : List ℕ) (p : P) → IfSome o (λ (r : Refusal). Q (refusal_code r)) → Q (error (answer_by api o v name p))
  part_among None v name p is = plain v name p
  part_among (Some r) v name p is = subst Q (sym (refused (refusal_code r) name p)) is

  parts_among : (v : W) (name : List ℕ) (ps : List P) → AreParts (parts_answers api rules v name ps)
  parts_among v name [] = tt
  parts_among v name (p ∷ ps) = (part_among (refusal_of api rules name p) v name p (refused_by_kind Q rules (api.questions name p) (asks name p)), parts_among (part_world api rules v name p) name ps)

  topics_among : (v : W) (ts : List (Topic P)) → AllByRecursion (λ (t : Topic A). AreParts t.partitions) (topics_answers api rules v ts)
  topics_among v [] = tt
  topics_among v (t ∷ ts) = (parts_among v t.name t.partitions, topics_among (parts_world api rules v t.name t.partitions) ts)

  walk_by : (v : W) (ts : List (Topic P)) → AllByRecursion (λ (t : Topic A). AllByRecursion (λ (a : A). Q (error a)) t.partitions) (answers api rules v ts)
  walk_by v ts = subst (λ (l : List (Topic A)). AllByRecursion (λ (t : Topic A). AreParts t.partitions) l) (woven api rules v ts).answers (topics_among v ts)

module _ (A : Type 0) (error : A → ErrorCode) (numbers : List ℕ) where
  flat_parts : (ps : List A) → AllByRecursion (λ (a : A). Among numbers (error a)) ps → AllByRecursion (IsAmong numbers) (map (λ (a : A). number_of (error a)) ps)
  flat_parts [] all = tt
  flat_parts (p ∷ ps) all = (all.0, flat_parts ps all.1)

  flat : (ts : List (Topic A)) → AllByRecursion (λ (t : Topic A). AllByRecursion (λ (a : A). Among numbers (error a)) t.partitions) ts → AllByRecursion (IsAmong numbers) (partition_errors error ts)
  flat [] all = tt
  flat (t ∷ ts) all = all_append (IsAmong numbers) (map (λ (a : A). number_of (error a)) t.partitions) (partition_errors error ts) (flat_parts t.partitions all.0) (flat ts all.1)

walk_among : (P A W : Type 0) (api : PartRule P A W) (error : A → ErrorCode) (numbers : List ℕ) (rules : Rules) → ((code : ErrorCode) (name : List ℕ) (p : P) → error (api.refused code name p) ≡ code)
    → ((name : List ℕ) (p : P) → AllByRecursion (λ (q : Question). Among numbers (permission_code q.kind)) (api.questions name p)) → ((v : W) (name : List ℕ) (p : P) → Among numbers (error (api.plain v name p)))
    → (v : W) (ts : List (Topic P)) → AllByRecursion (IsAmong numbers) (partition_errors error (answers api rules v ts))
walk_among P A W api error numbers rules refused asks plain v ts = flat A error numbers (answers api rules v ts) (walk_by P A W api error (Among numbers) rules refused asks plain v ts)

-- ---- each api

module _ (w : World) (caller : Caller) where
  -- ---- Produce, Fetch and ListOffsets

  produce_asked : (id : Option (List ℕ)) (name : List ℕ) → AllByRecursion (λ (q : Question). Among (2 ∷ 3 ∷ 10 ∷ 21 ∷ 29 ∷ 32 ∷ 45 ∷ 47 ∷ 48 ∷ 49 ∷ 76 ∷ 87 ∷ id_errors id) (permission_code q.kind)) (produce_questions caller id name)
  unfolding number_of
  produce_asked None name = (refl, tt)
  produce_asked (Some id) name = (refl, (refl, tt))

  sent_or_not : (numbers : List ℕ) (b : Bool) (a : ProduceReply) → AllByRecursion (IsAmong numbers) (partition_errors (λ (p : ProducedOffset). p.error) a.topics) → AreAmong numbers (cond b (replies.SilentProduce a) (replies.Produce a))
  sent_or_not numbers true a all = all
  sent_or_not numbers false a all = all

  produce_among : (r : ProduceRequest) → AreAmong (errors_of (requests.Produce r)) (produce_outcome w caller r).reply
  unfolding number_of
  produce_among r =
      let numbers : List ℕ = errors_of (requests.Produce r) in
      sent_or_not numbers (int_eq r.acks (pos 0)) (record { topics = answers (producing_rule w caller r) (rules_of w) w.topics r.topics; throttle = pos 0 })
      (walk_among ProducedRecords ProducedOffset (List TopicValue) (producing_rule w caller r) (λ (p : ProducedOffset). p.error) numbers (rules_of w) (λ code name p. refl) (λ name p. produce_asked r.transactional_id name)
      (λ topics name p. produced_codes (Among numbers) refl refl refl refl refl refl refl refl refl refl refl refl (non_negative w.node.max_batch) w.coordinator r.transactional_id r.acks (partition_at name p.index) p (log_at topics name p.index)) w.topics r.topics)

  fetch_among : (r : FetchRequest) → AreAmong (errors_of (requests.Fetch r)) (request_outcome w caller (requests.Fetch r)).reply
  unfolding number_of
  fetch_among r =
      let numbers : List ℕ = errors_of (requests.Fetch r) in
      walk_among FetchPartition FetchedRecords FetchBudget (fetch_rule caller r.isolation w.topics) (λ (p : FetchedRecords). p.error) numbers (rules_of w) (λ code name p. refl) (λ name p. (refl, tt))
      (λ budget name p. fetched_codes (Among numbers) refl refl refl r.isolation budget p (log_at w.topics name p.index)) (whole_budget r) r.topics

  list_among : (r : ListOffsetsRequest) → AreAmong (errors_of (requests.ListOffsets r)) (request_outcome w caller (requests.ListOffsets r)).reply
  unfolding number_of
  list_among r =
      let numbers : List ℕ = errors_of (requests.ListOffsets r) in
      walk_among WantedOffset FoundOffset (Unit {0}) (list_rule caller r.isolation w.topics) (λ (p : FoundOffset). p.error) numbers (rules_of w) (λ code name p. refl) (λ name p. (refl, tt))
      (λ v name p. listed_codes (Among numbers) refl refl refl r.isolation p (log_at w.topics name p.index)) tt r.topics

  -- ---- Metadata

  abbrev IsInfo : List ℕ → TopicInfo → Type 0
  IsInfo numbers t = Among numbers t.error × AllByRecursion (λ (p : PartitionInfo). Among numbers p.error) t.partitions

  no_errors : (numbers : List ℕ) → Among numbers codes.None → (node : ℤ) (index count : ℕ) → AllByRecursion (λ (p : PartitionInfo). Among numbers p.error) (partitions_from node index count)
  no_errors numbers none node index zero = tt
  no_errors numbers none node index (suc count) = (none, no_errors numbers none node (index + 1) count)

  found_info : (numbers : List ℕ) → Among numbers codes.None → Among numbers codes.UnknownTopicOrPartition → (node : ℤ) (name : List ℕ) (found : Option TopicValue) → IsInfo numbers (topic_found node name found)
  found_info numbers none missing node name None = (missing, tt)
  found_info numbers none missing node name (Some t) = (none, no_errors numbers none node 0 (length t.partitions))

  info_by : (numbers : List ℕ) (o : Option Refusal) (name : List ℕ) (plain : TopicInfo) → IfSome o (λ (r : Refusal). Among numbers (refusal_code r)) → IsInfo numbers plain → IsInfo numbers (topic_by o name plain)
  info_by numbers None name plain is all = all
  info_by numbers (Some r) name plain is all = (is, tt)

  infos_of : (numbers : List ℕ) → Among numbers codes.None → Among numbers codes.UnknownTopicOrPartition → Among numbers codes.TopicAuthorizationFailed → (names : List (List ℕ)) → AllByRecursion (IsInfo numbers) (map (topic_answer w caller) names)
  infos_of numbers none missing refused [] = tt
  infos_of numbers none missing refused (name ∷ names) = (
    info_by numbers (topic_refusal (rules_of w) caller name) name (plain_topic w name) (refused_by_kind (Among numbers) (rules_of w) (topic_part caller name) (refused, tt)) (found_info numbers none missing w.node.node_id name (find_topic w.topics name)),
    infos_of numbers none missing refused names,
  )

  -- each topic that there is is found under its name
  found_each : (topics : List TopicValue) → AllByRecursion (λ (name : List ℕ). is_some (find_topic topics name) ≡ true) (topic_names topics)
  found_each [] = tt
  found_each (t ∷ ts) = (by_first (bytes_eq t.name t.name) (own_name t.name), also (topic_names ts) (found_each ts)) where
    by_first : (b : Bool) → b ≡ true → is_some (cond b (Some t) (find_topic ts t.name)) ≡ true
    by_first true is = refl
    by_first false is = absurd (let clash : false ≡ true = is in cc)

    by_name : (b : Bool) (name : List ℕ) → is_some (find_topic ts name) ≡ true → is_some (cond b (Some t) (find_topic ts name)) ≡ true
    by_name true name is = refl
    by_name false name is = is

    also : (names : List (List ℕ)) → AllByRecursion (λ (name : List ℕ). is_some (find_topic ts name) ≡ true) names → AllByRecursion (λ (name : List ℕ). is_some (find_topic (t ∷ ts) name) ≡ true) names
    also [] all = tt
    also (name ∷ names) all = (by_name (bytes_eq t.name name) name all.0, also names all.1)

  -- also of those that may be described
  found_described : (names : List (List ℕ)) → AllByRecursion (λ (name : List ℕ). is_some (find_topic w.topics name) ≡ true) names → AllByRecursion (λ (name : List ℕ). is_some (find_topic w.topics name) ≡ true) (describable (rules_of w) caller names)
  found_described [] all = tt
  found_described (name ∷ names) all = by_refusal (is_none (topic_refusal (rules_of w) caller name)) (found_described names all.1) where
    by_refusal : (b : Bool) → AllByRecursion (λ (n : List ℕ). is_some (find_topic w.topics n) ≡ true) (describable (rules_of w) caller names)
        → AllByRecursion (λ (n : List ℕ). is_some (find_topic w.topics n) ≡ true) (cond b (name ∷ describable (rules_of w) caller names) (describable (rules_of w) caller names))
    by_refusal true rest = (all.0, rest)
    by_refusal false rest = rest

  there_info : (numbers : List ℕ) → Among numbers codes.None → (node : ℤ) (name : List ℕ) (found : Option TopicValue) → is_some found ≡ true → IsInfo numbers (topic_found node name found)
  there_info numbers none node name None is = absurd (let clash : false ≡ true = is in cc)
  there_info numbers none node name (Some t) is = (none, no_errors numbers none node 0 (length t.partitions))

  infos_plain : (numbers : List ℕ) → Among numbers codes.None → (names : List (List ℕ)) → AllByRecursion (λ (name : List ℕ). is_some (find_topic w.topics name) ≡ true) names → AllByRecursion (IsInfo numbers) (plain_infos w names)
  infos_plain numbers none [] all = tt
  infos_plain numbers none (name ∷ names) all = (there_info numbers none w.node.node_id name (find_topic w.topics name) all.0, infos_plain numbers none names all.1)

  infos_all : (topics : Option (List (List ℕ))) → AllByRecursion (IsInfo (metadata_errors topics)) (metadata_topics w caller topics)
  unfolding number_of
  infos_all None = infos_plain [] refl (describable (rules_of w) caller (topic_names w.topics)) (found_described (topic_names w.topics) (found_each w.topics))
  infos_all (Some names) = subst (λ (l : List TopicInfo). AllByRecursion (IsInfo (3 ∷ 29 ∷ [])) l) (sym (one_by_one w caller names)) (infos_of (3 ∷ 29 ∷ []) refl refl refl names)

  flat_infos : (numbers : List ℕ) (l : List TopicInfo) → AllByRecursion (IsInfo numbers) l → AllByRecursion (IsAmong numbers) (info_errors l)
  flat_infos numbers [] all = tt
  flat_infos numbers (t ∷ ts) all =
      all_append (IsAmong numbers) (number_of t.error ∷ map (λ (p : PartitionInfo). number_of p.error) t.partitions) (info_errors ts) (all.0.0, flat_parts PartitionInfo (λ (p : PartitionInfo). p.error) numbers t.partitions all.0.1) (flat_infos numbers ts all.1)

  metadata_among : (r : MetadataRequest) → AreAmong (errors_of (requests.Metadata r)) (request_outcome w caller (requests.Metadata r)).reply
  metadata_among r = flat_infos (metadata_errors r.topics) (metadata_topics w caller r.topics) (infos_all r.topics)

  -- ---- groups

  commit_among : (r : OffsetCommitRequest) → AreAmong (errors_of (requests.OffsetCommit r)) (request_outcome w caller (requests.OffsetCommit r)).reply
  unfolding number_of
  commit_among r =
      let numbers : List ℕ = errors_of (requests.OffsetCommit r) in
      walk_among OffsetToCommit CommittedOffset (List Group) (committing_rule w caller r) (λ (p : CommittedOffset). p.error) numbers (rules_of w) (λ code name p. refl) (λ name p. (refl, (refl, tt)))
      (λ gs name p. committed_codes (Among numbers) refl refl refl refl refl (committing_of r) gs name p (log_at w.topics name p.index)) w.groups r.topics

  offsets_among : (r : OffsetFetchRequest) (topics : Option (List (Topic ℤ))) → AreAmong (30 ∷ 88 ∷ named_errors topics) (fetched_outcome w caller (offsets_of w r.group) r.require_stable topics).reply
  unfolding number_of
  offsets_among r None =
      let numbers : List ℕ = 30 ∷ 88 ∷ [] in
      let es = offsets_of w r.group in
      (refl, flat FetchedOffset (λ (p : FetchedOffset). p.error) numbers (listed_topics (rules_of w) caller es r.require_stable w.topics) (told_slots (Among numbers) refl refl (rules_of w) caller es r.require_stable w.topics))
  offsets_among r (Some ts) =
      let numbers : List ℕ = 30 ∷ 88 ∷ 29 ∷ [] in
      let es = offsets_of w r.group in (
        refl,
        walk_among ℤ FetchedOffset (Unit {0}) (offset_rule caller es r.require_stable) (λ (p : FetchedOffset). p.error) numbers (rules_of w) (λ code name index. refl) (λ name index. (refl, tt))
            (λ v name index. offset_codes (Among numbers) refl refl es r.require_stable name index) tt ts,
      )

  fetch_offsets_by : (r : OffsetFetchRequest) (o : Option Refusal) → IfSome o (λ (x : Refusal). Among (errors_of (requests.OffsetFetch r)) (refusal_code x)) → AreAmong (errors_of (requests.OffsetFetch r)) (offset_fetch_by o w caller r).reply
  fetch_offsets_by r None is = offsets_among r r.topics
  fetch_offsets_by r (Some x) is = (is, tt)

  fetch_offsets_among : (r : OffsetFetchRequest) → AreAmong (errors_of (requests.OffsetFetch r)) (request_outcome w caller (requests.OffsetFetch r)).reply
  unfolding number_of
  fetch_offsets_among r = fetch_offsets_by r (part_refusal (rules_of w) (group_question caller r.group ∷ [])) (refused_by_kind (Among (errors_of (requests.OffsetFetch r))) (rules_of w) (group_question caller r.group ∷ []) (refl, tt))

  find_among : (r : FindCoordinatorRequest) → AreAmong (errors_of (requests.FindCoordinator r)) (request_outcome w caller (requests.FindCoordinator r)).reply
  unfolding number_of
  find_among r = by_tests (int_eq r.key_type (pos 0)) (int_eq r.key_type (pos 1)) where
    by_kind : (numbers : List ℕ) (kind : Option Kind) → AllByRecursion (λ (q : Question). AreAmong numbers (replies.FindCoordinator (find_error (permission_code q.kind)))) (find_questions caller kind r.key) → Among numbers (find_reply kind w.node).error
        → AreAmong numbers (whole_outcome w (find_questions caller kind r.key) (λ code. replies.FindCoordinator (find_error code)) (record { world = w; reply = replies.FindCoordinator (find_reply kind w.node) })).reply
    by_kind numbers kind asks plain = whole_among numbers w (find_questions caller kind r.key) (λ code. replies.FindCoordinator (find_error code)) (record { world = w; reply = replies.FindCoordinator (find_reply kind w.node) }) asks (plain, tt)

    by_tests : (a b : Bool) → AreAmong (cond a (30 ∷ []) (cond b (53 ∷ []) (42 ∷ [])))
        (whole_outcome w (find_questions caller (cond a (Some kinds.Group) (cond b (Some kinds.TransactionalId) None)) r.key) (λ code. replies.FindCoordinator (find_error code))
        (record { world = w; reply = replies.FindCoordinator (find_reply (cond a (Some kinds.Group) (cond b (Some kinds.TransactionalId) None)) w.node) })).reply
    by_tests true b = by_kind (30 ∷ []) (Some kinds.Group) ((refl, tt), tt) refl
    by_tests false true = by_kind (53 ∷ []) (Some kinds.TransactionalId) ((refl, tt), tt) refl
    by_tests false false = by_kind (42 ∷ []) None tt refl

  -- ---- transactions

  init_asked : (id : Option (List ℕ)) → AllByRecursion (λ (q : Question). AreAmong (init_errors id) (replies.InitProducerId (init_error (permission_code q.kind)))) (init_questions (rules_of w) caller id)
  unfolding number_of
  init_asked (Some id) = ((refl, tt), tt)
  init_asked None = by_waiver (any_topic w.book.entries caller.who caller.host && is_some (question_refusal (rules_of w) (init_question caller None))) where
    by_waiver : (b : Bool) → AllByRecursion (λ (q : Question). AreAmong (31 ∷ []) (replies.InitProducerId (init_error (permission_code q.kind)))) (cond b [] (init_question caller None ∷ []))
    by_waiver true = tt
    by_waiver false = ((refl, tt), tt)

  init_answered : (id : Option (List ℕ)) (c : CoordinatorValue) (greatest asked : ℤ) → Among (init_errors id) (reply_for id c greatest asked).error
  unfolding number_of
  init_answered None c greatest asked = refl
  init_answered (Some id) c greatest asked = inited_codes (Among (42 ∷ 50 ∷ 51 ∷ 53 ∷ [])) refl refl refl refl (Some id) c greatest asked

  init_among : (r : InitProducerIdRequest) → AreAmong (errors_of (requests.InitProducerId r)) (request_outcome w caller (requests.InitProducerId r)).reply
  init_among r =
      whole_among (init_errors r.transactional_id) w (init_questions (rules_of w) caller r.transactional_id) (λ code. replies.InitProducerId (init_error code)) (served_init w r) (init_asked r.transactional_id)
      (init_answered r.transactional_id w.coordinator w.node.max_txn_timeout r.timeout, tt)

  adds_by : (r : AddPartitionsToTxnRequest) (b : Bool) → is_cut caller r.transactional_id w.topics (rules_of w) r.topics ≡ b → AreAmong (errors_of (requests.AddPartitionsToTxn r)) (cond b (cut_outcome w caller r) (added_outcome w r)).reply
  unfolding number_of
  adds_by r true is =
      let numbers : List ℕ = errors_of (requests.AddPartitionsToTxn r) in
      walk_among ℤ AddedPartition (Unit {0}) (cut_rule caller r.transactional_id w.topics) (λ (p : AddedPartition). p.error) numbers (rules_of w) (λ code name index. refl) (λ name index. (refl, (refl, tt)))
      (λ v name index. cut_codes (Among numbers) refl refl (log_at w.topics name index)) tt r.topics
  adds_by r false is =
      let numbers : List ℕ = errors_of (requests.AddPartitionsToTxn r) in
      let code : ErrorCode = transition_code (add_transition w.coordinator w.moment r) in
      subst (λ (l : List (Topic AddedPartition)). AllByRecursion (IsAmong numbers) (partition_errors (λ (p : AddedPartition). p.error) l)) (told_all caller r.transactional_id code w.topics (rules_of w) r.topics is)
      (walk_among ℤ AddedPartition (Unit {0}) (code_rule_for caller r.transactional_id code) (λ (p : AddedPartition). p.error) numbers (rules_of w) (λ c name index. refl) (λ name index. (refl, (refl, tt)))
      (λ v name index. added_codes (Among numbers) refl refl refl refl refl w.coordinator r.transactional_id (record { producer = r.producer; epoch = r.epoch }) w.moment (partitions_of r.topics)) tt r.topics)

  -- in its version
  other_among : (r : EndTxnRequest) → Among (errors_of (requests.EndTxn r)) (other_epoch (form_of r))
  unfolding number_of
  other_among (versions.Version0 r) = refl
  other_among (versions.Version1 r) = refl
  other_among (versions.Version2 r) = refl
  other_among (versions.Version3 r) = refl
  other_among (versions.Version4 r) = refl
  other_among (versions.Version5 r) = refl

  end_reply_among : (r : EndTxnRequest) (a : ProducerIdAnswer) → Among (errors_of (requests.EndTxn r)) a.code → AreAmong (errors_of (requests.EndTxn r)) (replies.EndTxn (end_reply r a))
  end_reply_among r a is = (subst (Among (errors_of (requests.EndTxn r))) (sym (end_told r a)) is, tt)

  end_among : (r : EndTxnRequest) → AreAmong (errors_of (requests.EndTxn r)) (request_outcome w caller (requests.EndTxn r)).reply
  unfolding number_of
  end_among r =
      let numbers : List ℕ = errors_of (requests.EndTxn r) in
      whole_among numbers w (end_questions caller r) (λ code. replies.EndTxn (end_error r code)) (served_end w r) (end_reply_among r (record { code = codes.TransactionalIdAuthorizationFailed; pair = no_producer }) refl, tt)
      (end_reply_among r (transition_answer w.coordinator (ending_id r) (end_transition w.coordinator r)) (ended_codes (Among numbers) refl refl refl refl refl w.coordinator (form_of r) (ending_id r) (ending_id_and_epoch r) (ending_outcome r) (other_among r)))

  stage_among : (r : TxnOffsetCommitRequest) → AreAmong (errors_of (requests.TxnOffsetCommit r)) (request_outcome w caller (requests.TxnOffsetCommit r)).reply
  unfolding number_of
  stage_among r =
      let numbers : List ℕ = errors_of (requests.TxnOffsetCommit r) in
      walk_among OffsetToStage StagedOffset (List Group) (staging_rule w caller r) (λ (p : StagedOffset). p.error) numbers (rules_of w) (λ code name p. refl) (λ name p. (refl, (refl, (refl, tt))))
      (λ gs name p. staged_codes (Among numbers) refl refl refl refl (staging_refusal w.coordinator (staging_of r)) (staging_of r) gs (offset_staged name p) (log_at w.topics name p.index)
      (held (Among numbers) refl refl refl (id_record w.coordinator.transactions r.transactional_id) (staging_of r).pair (group_target r.group))) w.groups r.topics

  -- ---- bindings

  created_refused : (numbers : List ℕ) (es : List BindingEntry) (code : ErrorCode) → Among numbers code → AllByRecursion (IsAmong numbers) (map (λ (c : CreatedAcl). number_of c.error) (map (λ (e : BindingEntry). creation_result_with code) es))
  created_refused numbers [] code is = tt
  created_refused numbers (e ∷ es) code is = (is, created_refused numbers es code is)

  created_each : (numbers : List ℕ) → ((b : Option Binding) → Among numbers (creation_result_by b).error) → (es : List BindingEntry) → AllByRecursion (IsAmong numbers) (map (λ (c : CreatedAcl). number_of c.error) (map creation_result es))
  created_each numbers is [] = tt
  created_each numbers is (e ∷ es) = (is (binding_of e), created_each numbers is es)

  create_among : (r : CreateAclsRequest) → AreAmong (errors_of (requests.CreateAcls r)) (request_outcome w caller (requests.CreateAcls r)).reply
  unfolding number_of
  create_among r =
      let numbers : List ℕ = errors_of (requests.CreateAcls r) in
      whole_among numbers w (alter_questions caller) (λ code. replies.CreateAcls (create_acls_reply (map (λ (e : BindingEntry). creation_result_with code) r.creations)))
      (record { world = record w { book = book_created w.book r.creations }; reply = replies.CreateAcls (create_acls_reply (map creation_result r.creations)) })
      (created_refused numbers r.creations codes.ClusterAuthorizationFailed refl, tt) (created_each numbers (created_codes (Among numbers) refl refl) r.creations)

  deleted_refused : (numbers : List ℕ) (es : List FilterEntry) (code : ErrorCode) → Among numbers code → AllByRecursion (IsAmong numbers) (deleted_errors (map (λ (e : FilterEntry). deletion_error code) es))
  deleted_refused numbers [] code is = tt
  deleted_refused numbers (e ∷ es) code is = (is, deleted_refused numbers es code is)

  taken_out : (numbers : List ℕ) → Among numbers codes.None → (bs : List Binding) → AllByRecursion (λ (m : DeletedAcl). Among numbers m.error) (map deleted_acl bs)
  taken_out numbers none [] = tt
  taken_out numbers none (b ∷ bs) = (none, taken_out numbers none bs)

  deleted_one : (numbers : List ℕ) → Among numbers codes.None → Among numbers codes.InvalidRequest → (book : BookValue) (f : Option Filter) → Among numbers (deletion_result book f).error × AllByRecursion (λ (m : DeletedAcl). Among numbers m.error) (deletion_result book f).matches
  deleted_one numbers none request book None = (request, tt)
  deleted_one numbers none request book (Some f) = (none, taken_out numbers none (matching_bindings book.entries f))

  deleted_each : (numbers : List ℕ) → Among numbers codes.None → Among numbers codes.InvalidRequest → (book : BookValue) (es : List FilterEntry) → AllByRecursion (IsAmong numbers) (deleted_errors (deletion_results book es))
  deleted_each numbers none request book [] = tt
  deleted_each numbers none request book (e ∷ es) =
      let d : DeletedAcls = deletion_result book (filter_of e) in
      let one = deleted_one numbers none request book (filter_of e) in
      all_append (IsAmong numbers) (number_of d.error ∷ map (λ (m : DeletedAcl). number_of m.error) d.matches) (deleted_errors (deletion_results (book_without book (filter_of e)) es))
      (one.0, flat_parts DeletedAcl (λ (m : DeletedAcl). m.error) numbers d.matches one.1) (deleted_each numbers none request (book_without book (filter_of e)) es)

  delete_among : (r : DeleteAclsRequest) → AreAmong (errors_of (requests.DeleteAcls r)) (request_outcome w caller (requests.DeleteAcls r)).reply
  unfolding number_of
  delete_among r =
      let numbers : List ℕ = errors_of (requests.DeleteAcls r) in
      whole_among numbers w (alter_questions caller) (λ code. replies.DeleteAcls (delete_acls_reply (map (λ (e : FilterEntry). deletion_error code) r.filters)))
      (record { world = record w { book = book_deleted w.book r.filters }; reply = replies.DeleteAcls (delete_acls_reply (deletion_results w.book r.filters)) })
      (deleted_refused numbers r.filters codes.ClusterAuthorizationFailed refl, tt) (deleted_each numbers refl refl w.book r.filters)

  -- ---- any request

  answers_among : (request : Request) → AreAmong (errors_of request) (request_outcome w caller request).reply
  unfolding number_of
  answers_among (requests.Produce r) = produce_among r
  answers_among (requests.Fetch r) = fetch_among r
  answers_among (requests.ListOffsets r) = list_among r
  answers_among (requests.Metadata r) = metadata_among r
  answers_among (requests.OffsetCommit r) = commit_among r
  answers_among (requests.OffsetFetch r) = fetch_offsets_among r
  answers_among (requests.FindCoordinator r) = find_among r
  answers_among (requests.JoinGroup r) =
      let numbers : List ℕ = errors_of (requests.JoinGroup r) in
      whole_among numbers w (read_question caller r.group ∷ []) (λ code. replies.JoinGroup (join_error code r)) (served_join w r) ((refl, tt), tt) (joined_codes (Among numbers) refl refl refl refl refl refl (group_of w.groups r.group) r w.events w.moment, tt)
  answers_among (requests.Heartbeat r) =
      let numbers : List ℕ = errors_of (requests.Heartbeat r) in
      whole_among numbers w (read_question caller r.group ∷ []) (λ code. replies.Heartbeat (beat_reply code)) (served_heartbeat w r) ((refl, tt), tt) (beaten_codes (Among numbers) refl refl refl refl (group_of w.groups r.group) r w.moment, tt)
  answers_among (requests.LeaveGroup r) =
      let numbers : List ℕ = errors_of (requests.LeaveGroup r) in
      whole_among numbers w (read_question caller r.group ∷ []) (λ code. replies.LeaveGroup (leave_reply code)) (served_leave w r) ((refl, tt), tt) (left_codes (Among numbers) refl refl refl (group_of w.groups r.group) r, tt)
  answers_among (requests.SyncGroup r) =
      let numbers : List ℕ = errors_of (requests.SyncGroup r) in
      whole_among numbers w (read_question caller r.group ∷ []) (λ code. replies.SyncGroup (sync_reply (Err code))) (served_sync w r) ((refl, tt), tt) (synced_codes (Among numbers) refl refl refl refl (group_of w.groups r.group) r w.moment, tt)
  answers_among (requests.SaslHandshake r) = (refl, tt)
  answers_among requests.ApiVersions = (refl, tt)
  answers_among (requests.InitProducerId r) = init_among r
  answers_among (requests.AddPartitionsToTxn r) = adds_by r (is_cut caller r.transactional_id w.topics (rules_of w) r.topics) refl
  answers_among (requests.AddOffsetsToTxn r) =
      let numbers : List ℕ = errors_of (requests.AddOffsetsToTxn r) in
      whole_among numbers w (add_offsets_questions caller r.transactional_id r.group) (λ code. replies.AddOffsetsToTxn (add_offsets_reply code)) (served_add_offsets w r) ((refl, tt), ((refl, tt), tt))
      (grouped_codes (Among numbers) refl refl refl refl refl w.coordinator r.transactional_id (record { producer = r.producer; epoch = r.epoch }) w.moment r.group, tt)
  answers_among (requests.EndTxn r) = end_among r
  answers_among (requests.TxnOffsetCommit r) = stage_among r
  answers_among (requests.DescribeAcls r) =
      let numbers : List ℕ = errors_of (requests.DescribeAcls r) in
      whole_among numbers w (describe_acls_questions caller) (λ code. replies.DescribeAcls (describe_acls_error code)) (record { world = w; reply = replies.DescribeAcls (describe_acls_reply w.book (filter_of r.filter)) }) ((refl, tt), tt)
      (bindings_codes (Among numbers) refl refl w.book (filter_of r.filter), tt)
  answers_among (requests.CreateAcls r) = create_among r
  answers_among (requests.DeleteAcls r) = delete_among r
  answers_among (requests.SaslAuthenticate r) = (refl, tt)

pub errors_by_table : ErrorsByTable reply_to
errors_by_table w caller client request = answers_among w caller request
