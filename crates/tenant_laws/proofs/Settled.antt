-- What no request changes, whatever it is granted.
use Rattle.std.proofs.Common.{◌≡◌, ℕ, ℤ, Bool, true, false, cond, List, [], ◌∷◌, Option, Some, None, Result, Ok, Err, refl, ap}
use Rattle.std.specs.Str.{bytes_eq}
use Rattle.acl_binding.specs.declared.question.Caller.{Caller}
use Rattle.acl_binding.specs.declared.question.Question.{Question}
use Rattle.acl_binding.specs.Book.{BookValue}
use Rattle.authorizer.specs.declared.answer.Refusal.{Refusal}
use Rattle.authorizer.specs.Asking.{part_refusal}
use Rattle.wire_types.specs.declared.error_code.ErrorCode.{ErrorCode}
use Rattle.wire_types.specs.declared.topic.Topic.{Topic}
use Rattle.record_batch.specs.Batch.{BatchData}
use Rattle.msg_data.specs.declared.produce.ProduceRequest.{ProduceRequest}
use Rattle.msg_admin.specs.declared.request.Request.{Request}
use Rattle.msg_admin.specs.declared.request.Request.TheVariants.{Produce, Fetch, ListOffsets, Metadata, OffsetCommit, OffsetFetch, FindCoordinator, JoinGroup, Heartbeat, LeaveGroup, SyncGroup, SaslHandshake, ApiVersions, InitProducerId, AddPartitionsToTxn, AddOffsetsToTxn, EndTxn, TxnOffsetCommit, DescribeAcls, CreateAcls, DeleteAcls, SaslAuthenticate}
use Rattle.msg_admin.specs.declared.reply.Reply.{Reply}
use Rattle.txn_coordinator.specs.Coordinator.{CoordinatorValue}
use Rattle.group_offsets.specs.declared.group.Group.{Group}
use Rattle.walk.specs.Alike.{AllParts, AllTopics}
use Rattle.broker_world.specs.World.{World, TopicValue, LogValue, rules_of, topic_names}
use Rattle.broker_world.specs.First.{non_negative}
use Rattle.broker_world.specs.Logs.{log_at, log_after, logs_with, with_log, topics_with_batch_by}
use Rattle.data_handlers.specs.Judged.{partition_at, batch_to_append, topics_produced}
use Rattle.broker_world.specs.Whole.{Served, whole_outcome_by}
use Rattle.data_handlers.specs.Produce.{producing_rule, produce_outcome}
use Rattle.group_handlers.specs.OffsetCommit.{offset_commit_outcome}
use Rattle.broker_world.specs.Questions.{read_question}
use Rattle.group_handlers.specs.Members.{served_join, served_sync, served_heartbeat, served_leave}
use Rattle.txn_handlers.specs.InitProducerId.{init_questions, served_init}
use Rattle.txn_handlers.specs.AddOffsets.{add_offsets_questions, served_add_offsets}
use Rattle.txn_handlers.specs.EndTxn.{served_end, end_questions}
use Rattle.txn_handlers.specs.TxnOffsetCommit.{txn_offset_commit_outcome}
use Rattle.acl_handlers.specs.CreateAcls.{alter_questions, book_created}
use Rattle.acl_handlers.specs.DeleteAcls.{book_deleted}
use Rattle.api_dispatch.specs.Step.{request_outcome}
use Rattle.txn_handlers.proofs.Adds.{add_keeps}
use Rattle.api_dispatch.proofs.Wholes.{describe_keeps, find_keeps, offsets_keep}
use Rattle.tenant_laws.specs.Laws.{KeepsSettings}
use Rattle.tenant_laws.proofs.Walks.{Leaves, walk_leaves}

pub whole_keeps : {X : Type 0} (of : World → X) (o : Option Refusal) (w : World) (refused : ErrorCode → Reply) (served : Served) → of served.world ≡ of w → of (whole_outcome_by o w refused served).world ≡ of w
whole_keeps of None w refused served same = same
whole_keeps of (Some r) w refused served same = refl

-- what depends on neither the book, the coordinator nor the groups, and what a Produce leaves
module _ (X : Type 0) (of : World → X) (same : (w : World) (book : BookValue) (c : CoordinatorValue) (groups : List Group) → of (record w { book = book; coordinator = c; groups = groups }) ≡ of w) (w : World) (caller : Caller) where
  asked : (qs : List Question) (refused : ErrorCode → Reply) (served : Served) → of served.world ≡ of w → of (whole_outcome_by (part_refusal (rules_of w) qs) w refused served).world ≡ of w
  asked qs refused served kept = whole_keeps of (part_refusal (rules_of w) qs) w refused served kept

  settled : ((r : ProduceRequest) → of (produce_outcome w caller r).world ≡ of w) → (request : Request) → of (request_outcome w caller request).world ≡ of w
  settled produced (Produce r) = produced r
  settled produced (Fetch r) = refl
  settled produced (ListOffsets r) = refl
  settled produced (Metadata r) = refl
  settled produced (OffsetCommit r) = same w w.book w.coordinator (offset_commit_outcome w caller r).world.groups
  settled produced (OffsetFetch r) = ap of (offsets_keep w caller r)
  settled produced (FindCoordinator r) = ap of (find_keeps w caller r)
  settled produced (JoinGroup r) = asked (read_question caller r.group ∷ []) _ (served_join w r) (same w w.book w.coordinator (served_join w r).world.groups)
  settled produced (Heartbeat r) = asked (read_question caller r.group ∷ []) _ (served_heartbeat w r) (same w w.book w.coordinator (served_heartbeat w r).world.groups)
  settled produced (LeaveGroup r) = asked (read_question caller r.group ∷ []) _ (served_leave w r) (same w w.book w.coordinator (served_leave w r).world.groups)
  settled produced (SyncGroup r) = asked (read_question caller r.group ∷ []) _ (served_sync w r) (same w w.book w.coordinator (served_sync w r).world.groups)
  settled produced (InitProducerId r) = asked (init_questions (rules_of w) caller r.transactional_id) _ (served_init w r) (same w w.book (served_init w r).world.coordinator w.groups)
  settled produced (AddPartitionsToTxn r) = add_keeps of (λ u c. same u u.book c u.groups) w caller r
  settled produced (AddOffsetsToTxn r) = asked (add_offsets_questions caller r.transactional_id r.group) _ (served_add_offsets w r) (same w w.book (served_add_offsets w r).world.coordinator w.groups)
  settled produced (EndTxn r) = asked (end_questions caller r) _ (served_end w r) (same w w.book (served_end w r).world.coordinator w.groups)
  settled produced (TxnOffsetCommit r) = same w w.book w.coordinator (txn_offset_commit_outcome w caller r).world.groups
  settled produced (SaslHandshake r) = refl
  settled produced ApiVersions = refl
  settled produced (SaslAuthenticate r) = refl
  settled produced (DescribeAcls r) = ap of (describe_keeps w caller r)
  settled produced (CreateAcls r) = asked (alter_questions caller) _ _ (same w (book_created w.book r.creations) w.coordinator w.groups)
  settled produced (DeleteAcls r) = asked (alter_questions caller) _ _ (same w (book_deleted w.book r.filters) w.coordinator w.groups)

-- ---- the names of the topics

names_with : (topics : List TopicValue) (name : List ℕ) (index : ℤ) (log : LogValue) → topic_names (with_log topics name index log) ≡ topic_names topics
names_with [] name index log = refl
names_with (t ∷ ts) name index log = by_name (bytes_eq t.name name) (names_with ts name index log) where
  here : TopicValue
  here = record { name = t.name; partitions = logs_with t.partitions index log }

  by_name : (b : Bool) → topic_names (with_log ts name index log) ≡ topic_names ts → topic_names (cond b (here ∷ ts) (t ∷ with_log ts name index log)) ≡ topic_names (t ∷ ts)
  by_name true rest = refl
  by_name false rest = ap (λ (names : List (List ℕ)). t.name ∷ names) rest

names_produced : (batch : Result BatchData ErrorCode) (topics : List TopicValue) (name : List ℕ) (index : ℤ) → topic_names (topics_produced batch topics name index) ≡ topic_names topics
names_produced (Err code) topics name index = refl
names_produced (Ok b) topics name index = by_log (log_at topics name index) where
  by_log : (o : Option LogValue) → topic_names (topics_with_batch_by topics name index b o) ≡ topic_names topics
  by_log None = refl
  by_log (Some log) = names_with topics name index (log_after log b)

-- what holds of each partition
all_parts : {P : Type 0} (Is : List ℕ → P → Type 0) → ((name : List ℕ) (p : P) → Is name p) → (name : List ℕ) (ps : List P) → AllParts Is name ps
all_parts Is is name [] = tt
all_parts Is is name (p ∷ ps) = (is name p, all_parts Is is name ps)

all_topics : {P : Type 0} (Is : List ℕ → P → Type 0) → ((name : List ℕ) (p : P) → Is name p) → (ts : List (Topic P)) → AllTopics Is ts
all_topics Is is [] = tt
all_topics Is is (t ∷ ts) = (all_parts Is is t.name t.partitions, all_topics Is is ts)

module _ (w : World) (caller : Caller) where
  names_after : (r : ProduceRequest) → topic_names (produce_outcome w caller r).world.topics ≡ topic_names w.topics
  names_after r =
      walk_leaves (producing_rule w caller r) (rules_of w) topic_names w.topics r.topics
      (all_topics (Leaves (producing_rule w caller r) (rules_of w) topic_names) (λ name p granted topics. names_produced (batch_to_append (non_negative w.node.max_batch) w.coordinator r.transactional_id r.acks (partition_at name p.index) p.records) topics name p.index) r.topics)

  pub settings_kept : (request : Request) → KeepsSettings w (request_outcome w caller request).world
  settings_kept request = record {
    node = settled _ (λ (u : World). u.node) (λ u book c groups. refl) w caller (λ r. refl) request;
    supers = settled _ (λ (u : World). u.supers) (λ u book c groups. refl) w caller (λ r. refl) request;
    moment = settled _ (λ (u : World). u.moment) (λ u book c groups. refl) w caller (λ r. refl) request;
    names = settled _ (λ (u : World). topic_names u.topics) (λ u book c groups. refl) w caller names_after request;
  }
