-- What a refused part is told beside its error: nothing.
use Rattle.std.proofs.Common.{◌≡◌, ℕ, zero, suc, ℤ, pos, Bool, true, false, cond, List, [], ◌∷◌, map, Option, Some, None, Err, refl, sym, ap, subst, ◌∙◌}
use Rattle.std.specs.Ordering.{int_eq}
use Rattle.acl_binding.specs.declared.question.Caller.{Caller}
use Rattle.acl_binding.specs.declared.question.Question.{Question}
use Rattle.acl_binding.specs.declared.words.Kind.{Kind}
use Rattle.acl_binding.specs.declared.words.Kind.TheVariants as kinds
use Rattle.acl_binding.specs.Entries.{filter_of}
use Rattle.authorizer.specs.declared.answer.Refusal.{Refusal}
use Rattle.authorizer.specs.Asking.{part_refusal}
use Rattle.wire_types.specs.declared.error_code.ErrorCode.{ErrorCode}
use Rattle.wire_types.specs.declared.topic.Topic.{Topic}
use Rattle.msg_data.specs.declared.produce.ProduceRequest.{ProduceRequest}
use Rattle.msg_data.specs.declared.produce.ProducedRecords.{ProducedRecords}
use Rattle.msg_data.specs.declared.produce.ProducedOffset.{ProducedOffset}
use Rattle.msg_data.specs.declared.fetch.FetchPartition.{FetchPartition}
use Rattle.msg_data.specs.declared.fetch.FetchedRecords.{FetchedRecords}
use Rattle.msg_data.specs.declared.list_offsets.WantedOffset.{WantedOffset}
use Rattle.msg_data.specs.declared.list_offsets.FoundOffset.{FoundOffset}
use Rattle.msg_data.specs.declared.metadata.MetadataRequest.{MetadataRequest}
use Rattle.msg_data.specs.declared.metadata.TopicInfo.{TopicInfo}
use Rattle.msg_group.specs.declared.offset_commit.OffsetToCommit.{OffsetToCommit}
use Rattle.msg_group.specs.declared.offset_commit.CommittedOffset.{CommittedOffset}
use Rattle.msg_group.specs.declared.offset_fetch.OffsetFetchRequest.{OffsetFetchRequest}
use Rattle.msg_group.specs.declared.offset_fetch.FetchedOffset.{FetchedOffset}
use Rattle.msg_txn.specs.declared.add_partitions.AddPartitionsToTxnRequest.{AddPartitionsToTxnRequest}
use Rattle.msg_txn.specs.declared.add_partitions.AddedPartition.{AddedPartition}
use Rattle.msg_txn.specs.declared.end_txn.EndTxnRequest.{EndTxnRequest}
use Rattle.msg_txn.specs.declared.end_txn.EndTxnRequest.TheVariants as versions
use Rattle.msg_txn.specs.declared.end_txn.EndTxnReply.{EndTxnReply}
use Rattle.msg_txn.specs.declared.txn_offset_commit.OffsetToStage.{OffsetToStage}
use Rattle.msg_txn.specs.declared.txn_offset_commit.StagedOffset.{StagedOffset}
use Rattle.msg_acl.specs.declared.entries.BindingEntry.{BindingEntry}
use Rattle.msg_acl.specs.declared.entries.FilterEntry.{FilterEntry}
use Rattle.msg_admin.specs.declared.request.Request.{Request}
use Rattle.msg_admin.specs.declared.request.Request.TheVariants as requests
use Rattle.msg_admin.specs.declared.reply.Reply.{Reply}
use Rattle.msg_admin.specs.declared.reply.Reply.TheVariants as replies
use Rattle.txn_coordinator.specs.Coordinator.{transition_code}
use Rattle.group_offsets.specs.declared.group.Group.{Group}
use Rattle.walk.specs.Codes.{permission_code, refusal_code}
use Rattle.walk.specs.Headline.{element_at}
use Rattle.walk.specs.Rule.{PartRule, refusal_of}
use Rattle.walk.specs.Steps.{answer_by, part_world, parts_world, parts_answers, topics_answers}
use Rattle.walk.specs.Walk.{answers}
use Rattle.walk.proofs.Weaving.{woven}
use Rattle.broker_world.specs.World.{World, TopicValue, rules_of}
use Rattle.broker_world.specs.Questions.{read_question, topic_refusal}
use Rattle.broker_world.specs.Whole.{Served, whole_outcome_by}
use Rattle.data_handlers.specs.declared.fetch_budget.FetchBudget.{FetchBudget}
use Rattle.data_handlers.specs.Produce.{producing_rule, produce_outcome}
use Rattle.data_handlers.specs.Fetch.{fetch_rule, whole_budget}
use Rattle.data_handlers.specs.ListOffsets.{list_rule}
use Rattle.data_handlers.specs.Metadata.{plain_topic, metadata_topics, answer_by as topic_by, topic_answer}
use Rattle.group_handlers.specs.FindCoordinator.{kind_of, find_questions, find_error, find_reply}
use Rattle.group_handlers.specs.Members.{join_error, served_join, sync_reply, served_sync, beat_reply, served_heartbeat, leave_reply, served_leave}
use Rattle.group_handlers.specs.OffsetCommit.{committing_rule}
use Rattle.group_handlers.specs.OffsetFetch.{group_question, offset_rule, offsets_of, fetched_outcome, offset_fetch_by}
use Rattle.txn_handlers.specs.InitProducerId.{init_questions, init_error, served_init}
use Rattle.txn_handlers.specs.AddPartitions.{cut_rule, code_rule_for, is_cut, add_transition, cut_outcome, added_outcome}
use Rattle.txn_handlers.specs.AddOffsets.{add_offsets_questions, add_offsets_reply, served_add_offsets}
use Rattle.txn_handlers.specs.EndTxn.{end_questions, end_error, served_end}
use Rattle.txn_handlers.specs.TxnOffsetCommit.{staging_rule}
use Rattle.acl_handlers.specs.DescribeAcls.{describe_acls_questions, describe_acls_error, describe_acls_reply}
use Rattle.acl_handlers.specs.CreateAcls.{alter_questions, book_created, creation_result_with, creation_result, create_acls_reply}
use Rattle.acl_handlers.specs.DeleteAcls.{book_deleted, deletion_error, deletion_results, delete_acls_reply}
use Rattle.api_dispatch.specs.Step.{request_outcome, reply_to}
use Rattle.api_laws.specs.AskedTable.{Row, row_question, request_rows, topic_rows, first_refused}
use Rattle.api_laws.specs.BareAnswers.{refusal_error, bare_produced, bare_fetched, bare_listed, bare_info, bare_committed, bare_offset, bare_added, bare_staged, bare_ended, bare_reply, produced_in, added_in, offsets_in, RefusesBarely, RefusalsTellNothing}
use Rattle.api_laws.proofs.Headlines.{one_by_one}
use Rattle.api_laws.proofs.AskedTable.{Agree, agree, find_agree, init_agree, produce_asks, told_all}

same_element : {X : Type 0} (x y : X) → Some x ≡ Some y → x ≡ y
same_element x y h = cc

error_same : (k : Kind) → permission_code k ≡ refusal_error k
error_same kinds.Topic = refl
error_same kinds.Group = refl
error_same kinds.Cluster = refl
error_same kinds.TransactionalId = refl

-- what is told by a refusal, where its row is this one
code_same : (r : Refusal) (z x : Row) → r.question.kind ≡ z.kind → Some z ≡ Some x → refusal_code r ≡ refusal_error x.kind
code_same r z x h is = ap (λ (k : Kind). permission_code k) (h ∙ ap (λ (y : Row). y.kind) (same_element z x is)) ∙ error_same x.kind

-- ---- the request itself

whole_bare : (o : Option Refusal) (y : Option Row) (x : Row) (w : World) (refused : ErrorCode → Reply) (served : Served) → Agree o y → y ≡ Some x → (whole_outcome_by o w refused served).reply ≡ refused (refusal_error x.kind)
whole_bare None None x w refused served h is = absurd (let clash : None ≡ Some x = is in cc)
whole_bare None (Some z) x w refused served h is = absurd h
whole_bare (Some r) None x w refused served h is = absurd h
whole_bare (Some r) (Some z) x w refused served h is = ap refused (code_same r z x h is)

ended_same : (r : EndTxnRequest) (error : ErrorCode) → end_error r error ≡ bare_ended error r
ended_same (versions.Version0 r) error = refl
ended_same (versions.Version1 r) error = refl
ended_same (versions.Version2 r) error = refl
ended_same (versions.Version3 r) error = refl
ended_same (versions.Version4 r) error = refl
ended_same (versions.Version5 r) error = refl

module _ (w : World) (caller : Caller) where
  fetch_bare : (r : OffsetFetchRequest) (o : Option Refusal) (y : Option Row) (x : Row) → Agree o y → y ≡ Some x → (offset_fetch_by o w caller r).reply ≡ bare_reply (refusal_error x.kind) (requests.OffsetFetch r)
  fetch_bare r None None x h is = absurd (let clash : None ≡ Some x = is in cc)
  fetch_bare r None (Some z) x h is = absurd h
  fetch_bare r (Some refusal) None x h is = absurd h
  fetch_bare r (Some refusal) (Some z) x h is = ap (λ (code : ErrorCode). bare_reply code (requests.OffsetFetch r)) (code_same refusal z x h is)

  no_row : (x : Row) (reply other : Reply) → None ≡ Some x → reply ≡ other
  no_row x reply other is = absurd (let clash : None ≡ Some x = is in cc)

  itself : (request : Request) (x : Row) → first_refused w caller (request_rows w caller request) ≡ Some x → (request_outcome w caller request).reply ≡ bare_reply (refusal_error x.kind) request
  itself (requests.Produce r) x is = no_row x _ _ is
  itself (requests.Fetch r) x is = no_row x _ _ is
  itself (requests.ListOffsets r) x is = no_row x _ _ is
  itself (requests.Metadata r) x is = no_row x _ _ is
  itself (requests.OffsetCommit r) x is = no_row x _ _ is
  itself (requests.OffsetFetch r) x is =
      fetch_bare r (part_refusal (rules_of w) (group_question caller r.group ∷ [])) (first_refused w caller (request_rows w caller (requests.OffsetFetch r))) x (agree w caller (request_rows w caller (requests.OffsetFetch r))) is
  itself (requests.FindCoordinator r) x is =
      whole_bare (part_refusal (rules_of w) (find_questions caller (kind_of r.key_type) r.key)) (first_refused w caller (request_rows w caller (requests.FindCoordinator r))) x w (λ code. replies.FindCoordinator (find_error code))
      (record { world = w; reply = replies.FindCoordinator (find_reply (kind_of r.key_type) w.node) }) (find_agree w caller r.key_type r.key) is
  itself (requests.JoinGroup r) x is =
      whole_bare (part_refusal (rules_of w) (read_question caller r.group ∷ [])) (first_refused w caller (request_rows w caller (requests.JoinGroup r))) x w (λ code. replies.JoinGroup (join_error code r)) (served_join w r) (agree w caller (request_rows w caller (requests.JoinGroup r))) is
  itself (requests.Heartbeat r) x is =
      whole_bare (part_refusal (rules_of w) (read_question caller r.group ∷ [])) (first_refused w caller (request_rows w caller (requests.Heartbeat r))) x w (λ code. replies.Heartbeat (beat_reply code)) (served_heartbeat w r) (agree w caller (request_rows w caller (requests.Heartbeat r))) is
  itself (requests.LeaveGroup r) x is =
      whole_bare (part_refusal (rules_of w) (read_question caller r.group ∷ [])) (first_refused w caller (request_rows w caller (requests.LeaveGroup r))) x w (λ code. replies.LeaveGroup (leave_reply code)) (served_leave w r) (agree w caller (request_rows w caller (requests.LeaveGroup r))) is
  itself (requests.SyncGroup r) x is =
      whole_bare (part_refusal (rules_of w) (read_question caller r.group ∷ [])) (first_refused w caller (request_rows w caller (requests.SyncGroup r))) x w (λ code. replies.SyncGroup (sync_reply (Err code))) (served_sync w r) (agree w caller (request_rows w caller (requests.SyncGroup r))) is
  itself (requests.SaslHandshake r) x is = no_row x _ _ is
  itself requests.ApiVersions x is = no_row x _ _ is
  itself (requests.InitProducerId r) x is =
      whole_bare (part_refusal (rules_of w) (init_questions (rules_of w) caller r.transactional_id)) (first_refused w caller (request_rows w caller (requests.InitProducerId r))) x w (λ code. replies.InitProducerId (init_error code)) (served_init w r) (init_agree w caller r.transactional_id) is
  itself (requests.AddPartitionsToTxn r) x is = no_row x _ _ is
  itself (requests.AddOffsetsToTxn r) x is =
      whole_bare (part_refusal (rules_of w) (add_offsets_questions caller r.transactional_id r.group)) (first_refused w caller (request_rows w caller (requests.AddOffsetsToTxn r))) x w (λ code. replies.AddOffsetsToTxn (add_offsets_reply code)) (served_add_offsets w r)
      (agree w caller (request_rows w caller (requests.AddOffsetsToTxn r))) is
  itself (requests.EndTxn r) x is =
      whole_bare (part_refusal (rules_of w) (end_questions caller r)) (first_refused w caller (request_rows w caller (requests.EndTxn r))) x w (λ code. replies.EndTxn (end_error r code)) (served_end w r) (agree w caller (request_rows w caller (requests.EndTxn r))) is
      ∙ ap (λ (a : EndTxnReply). replies.EndTxn a) (ended_same r (refusal_error x.kind))
  itself (requests.TxnOffsetCommit r) x is = no_row x _ _ is
  itself (requests.DescribeAcls r) x is =
      whole_bare (part_refusal (rules_of w) (describe_acls_questions caller)) (first_refused w caller (request_rows w caller (requests.DescribeAcls r))) x w (λ code. replies.DescribeAcls (describe_acls_error code))
      (record { world = w; reply = replies.DescribeAcls (describe_acls_reply w.book (filter_of r.filter)) }) (agree w caller (request_rows w caller (requests.DescribeAcls r))) is
  itself (requests.CreateAcls r) x is =
      whole_bare (part_refusal (rules_of w) (alter_questions caller)) (first_refused w caller (request_rows w caller (requests.CreateAcls r))) x w (λ code. replies.CreateAcls (create_acls_reply (map (λ (e : BindingEntry). creation_result_with code) r.creations)))
      (record { world = record w { book = book_created w.book r.creations }; reply = replies.CreateAcls (create_acls_reply (map creation_result r.creations)) }) (agree w caller (request_rows w caller (requests.CreateAcls r))) is
  itself (requests.DeleteAcls r) x is =
      whole_bare (part_refusal (rules_of w) (alter_questions caller)) (first_refused w caller (request_rows w caller (requests.DeleteAcls r))) x w (λ code. replies.DeleteAcls (delete_acls_reply (map (λ (e : FilterEntry). deletion_error code) r.filters)))
      (record { world = record w { book = book_deleted w.book r.filters }; reply = replies.DeleteAcls (delete_acls_reply (deletion_results w.book r.filters)) }) (agree w caller (request_rows w caller (requests.DeleteAcls r))) is
  itself (requests.SaslAuthenticate r) x is = no_row x _ _ is

-- ---- a walk

module _ (P A W : Type 0) (api : PartRule P A W) (bare : ErrorCode → P → A) (w : World) (caller : Caller) (rows : List ℕ → List Row)
    (asks : (name : List ℕ) (p : P) → api.questions name p ≡ map (row_question caller) (rows name))
    (refused : (code : ErrorCode) (name : List ℕ) (p : P) → api.refused code name p ≡ bare code p) where
  part_bare : (o : Option Refusal) (y : Option Row) (x : Row) (v : W) (name : List ℕ) (p : P) → Agree o y → y ≡ Some x → answer_by api o v name p ≡ bare (refusal_error x.kind) p
  part_bare None None x v name p h is = absurd (let clash : None ≡ Some x = is in cc)
  part_bare None (Some z) x v name p h is = absurd h
  part_bare (Some r) None x v name p h is = absurd h
  part_bare (Some r) (Some z) x v name p h is = refused (refusal_code r) name p ∙ ap (λ (code : ErrorCode). bare code p) (code_same r z x h is)

  parts_bare : (v : W) (name : List ℕ) (ps : List P) (j : ℕ) (p : P) (x : Row) → element_at ps j ≡ Some p → first_refused w caller (rows name) ≡ Some x → element_at (parts_answers api (rules_of w) v name ps) j ≡ Some (bare (refusal_error x.kind) p)
  parts_bare v name [] j p x h is = absurd (let clash : None ≡ Some p = h in cc)
  parts_bare v name (q ∷ qs) zero p x h is =
      ap (λ (a : A). Some a)
      (part_bare (refusal_of api (rules_of w) name q) (first_refused w caller (rows name)) x v name q
      (subst (λ (l : List Question). Agree (part_refusal (rules_of w) l) (first_refused w caller (rows name))) (sym (asks name q)) (agree w caller (rows name))) is)
      ∙ ap (λ (z : P). Some (bare (refusal_error x.kind) z)) (same_element q p h)
  parts_bare v name (q ∷ qs) (suc j) p x h is = parts_bare (part_world api (rules_of w) v name q) name qs j p x h is

  topics_bare : (v : W) (ts : List (Topic P)) → RefusesBarely w caller rows bare ts (topics_answers api (rules_of w) v ts)
  topics_bare v [] i j t p x here there is = absurd (let clash : None ≡ Some t = here in cc)
  topics_bare v (u ∷ us) zero j t p x here there is =
      ap (λ (y : Topic P). element_at (parts_answers api (rules_of w) v y.name y.partitions) j) (same_element u t here) ∙ parts_bare v t.name t.partitions j p x there is
  topics_bare v (u ∷ us) (suc i) j t p x here there is = topics_bare (parts_world api (rules_of w) v u.name u.partitions) us i j t p x here there is

  walk_bare : (v : W) (ts : List (Topic P)) → RefusesBarely w caller rows bare ts (answers api (rules_of w) v ts)
  walk_bare v ts = subst (λ (l : List (Topic A)). RefusesBarely w caller rows bare ts l) (woven api (rules_of w) v ts).answers (topics_bare v ts)

-- ---- each api

sent_same : (b : Bool) (topics : List (Topic ProducedOffset)) → produced_in (cond b (replies.SilentProduce (record { topics = topics; throttle = pos 0 })) (replies.Produce (record { topics = topics; throttle = pos 0 }))) ≡ topics
sent_same true topics = refl
sent_same false topics = refl

module _ (w : World) (caller : Caller) where
  produce_bare : (r : ProduceRequest) → RefusesBarely w caller (topic_rows (requests.Produce r)) bare_produced r.topics (produced_in (produce_outcome w caller r).reply)
  produce_bare r =
      subst (λ (l : List (Topic ProducedOffset)). RefusesBarely w caller (topic_rows (requests.Produce r)) bare_produced r.topics l) (sym (sent_same (int_eq r.acks (pos 0)) (answers (producing_rule w caller r) (rules_of w) w.topics r.topics)))
      (walk_bare ProducedRecords ProducedOffset (List TopicValue) (producing_rule w caller r) bare_produced w caller (topic_rows (requests.Produce r)) (λ name p. produce_asks caller r.transactional_id name) (λ code name p. refl) w.topics r.topics)

  name_bare : (o : Option Refusal) (y : Option Row) (x : Row) (name : List ℕ) → Agree o y → y ≡ Some x → topic_by o name (plain_topic w name) ≡ bare_info (refusal_error x.kind) name
  name_bare None None x name h is = absurd (let clash : None ≡ Some x = is in cc)
  name_bare None (Some z) x name h is = absurd h
  name_bare (Some r) None x name h is = absurd h
  name_bare (Some r) (Some z) x name h is = ap (λ (code : ErrorCode). bare_info code name) (code_same r z x h is)

  names_bare : (r : MetadataRequest) (names : List (List ℕ)) (i : ℕ) (name : List ℕ) (x : Row) → element_at names i ≡ Some name → first_refused w caller (topic_rows (requests.Metadata r) name) ≡ Some x → element_at (map (topic_answer w caller) names) i ≡ Some (bare_info (refusal_error x.kind) name)
  names_bare r [] i name x h is = absurd (let clash : None ≡ Some name = h in cc)
  names_bare r (n ∷ ns) zero name x h is =
      ap (λ (z : List ℕ). Some (topic_answer w caller z)) (same_element n name h)
      ∙ ap (λ (a : TopicInfo). Some a) (name_bare (topic_refusal (rules_of w) caller name) (first_refused w caller (topic_rows (requests.Metadata r) name)) x name (agree w caller (topic_rows (requests.Metadata r) name)) is)
  names_bare r (n ∷ ns) (suc i) name x h is = names_bare r ns i name x h is

  metadata_bare : (r : MetadataRequest) (names : List (List ℕ)) (i : ℕ) (name : List ℕ) (x : Row) → r.topics ≡ Some names → element_at names i ≡ Some name → first_refused w caller (topic_rows (requests.Metadata r) name) ≡ Some x
      → element_at (metadata_topics w caller r.topics) i ≡ Some (bare_info (refusal_error x.kind) name)
  metadata_bare r names i name x named here is =
      ap (λ (o : Option (List (List ℕ))). element_at (metadata_topics w caller o) i) named ∙ ap (λ (l : List TopicInfo). element_at l i) (one_by_one w caller names) ∙ names_bare r names i name x here is

  offsets_bare : (r : OffsetFetchRequest) (ts : List (Topic ℤ)) (o : Option Refusal) (y : Option Row) → Agree o y → y ≡ None → r.topics ≡ Some ts → RefusesBarely w caller (topic_rows (requests.OffsetFetch r)) bare_offset ts (offsets_in (offset_fetch_by o w caller r).reply)
  offsets_bare r ts (Some refusal) (Some z) h none named = absurd (let clash : Some z ≡ None = none in cc)
  offsets_bare r ts (Some refusal) None h none named = absurd h
  offsets_bare r ts None y h none named =
      subst (λ (o : Option (List (Topic ℤ))). RefusesBarely w caller (topic_rows (requests.OffsetFetch r)) bare_offset ts (offsets_in (fetched_outcome w caller (offsets_of w r.group) r.require_stable o).reply)) (sym named)
      (walk_bare ℤ FetchedOffset (Unit {0}) (offset_rule caller (offsets_of w r.group) r.require_stable) bare_offset w caller (topic_rows (requests.OffsetFetch r)) (λ name index. refl) (λ code name index. refl) tt ts)

  adds_bare : (r : AddPartitionsToTxnRequest) (b : Bool) → is_cut caller r.transactional_id w.topics (rules_of w) r.topics ≡ b → RefusesBarely w caller (topic_rows (requests.AddPartitionsToTxn r)) bare_added r.topics (added_in (cond b (cut_outcome w caller r) (added_outcome w r)).reply)
  adds_bare r true is = walk_bare ℤ AddedPartition (Unit {0}) (cut_rule caller r.transactional_id w.topics) bare_added w caller (topic_rows (requests.AddPartitionsToTxn r)) (λ name index. refl) (λ code name index. refl) tt r.topics
  adds_bare r false is =
      let code : ErrorCode = transition_code (add_transition w.coordinator w.moment r) in
      subst (λ (l : List (Topic AddedPartition)). RefusesBarely w caller (topic_rows (requests.AddPartitionsToTxn r)) bare_added r.topics l) (told_all caller r.transactional_id code w.topics (rules_of w) r.topics is)
      (walk_bare ℤ AddedPartition (Unit {0}) (code_rule_for caller r.transactional_id code) bare_added w caller (topic_rows (requests.AddPartitionsToTxn r)) (λ name index. refl) (λ c name index. refl) tt r.topics)

pub refusals_tell_nothing : RefusalsTellNothing reply_to
refusals_tell_nothing = record {
  itself = λ w caller client request x is. itself w caller request x is;
  produce = λ w caller client r. produce_bare w caller r;
  fetch = λ w caller client r. walk_bare FetchPartition FetchedRecords FetchBudget (fetch_rule caller r.isolation w.topics) bare_fetched w caller (topic_rows (requests.Fetch r)) (λ name p. refl) (λ code name p. refl) (whole_budget r) r.topics;
  list = λ w caller client r. walk_bare WantedOffset FoundOffset (Unit {0}) (list_rule caller r.isolation w.topics) bare_listed w caller (topic_rows (requests.ListOffsets r)) (λ name p. refl) (λ code name p. refl) tt r.topics;
  metadata = λ w caller client r names i name x named here is. metadata_bare w caller r names i name x named here is;
  commit = λ w caller client r. walk_bare OffsetToCommit CommittedOffset (List Group) (committing_rule w caller r) bare_committed w caller (topic_rows (requests.OffsetCommit r)) (λ name p. refl) (λ code name p. refl) w.groups r.topics;
  offsets = λ w caller client r ts named none.
      offsets_bare w caller r ts (part_refusal (rules_of w) (group_question caller r.group ∷ [])) (first_refused w caller (request_rows w caller (requests.OffsetFetch r))) (agree w caller (request_rows w caller (requests.OffsetFetch r))) none named;
  adds = λ w caller client r. adds_bare w caller r (is_cut caller r.transactional_id w.topics (rules_of w) r.topics) refl;
  stages = λ w caller client r. walk_bare OffsetToStage StagedOffset (List Group) (staging_rule w caller r) bare_staged w caller (topic_rows (requests.TxnOffsetCommit r)) (λ name p. refl) (λ code name p. refl) w.groups r.topics;
}
