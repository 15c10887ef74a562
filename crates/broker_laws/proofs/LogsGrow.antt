-- What a partition's log holds stays, whatever events come.
use Rattle.std.proofs.Common.{◌≡◌, ℤ, ℕ, List, [], ◌∷◌, ◌++◌, Option, Some, None, Result, Ok, Err, Bool, true, false, cond, refl, sym, ap, subst, ◌∙◌, append-nil, append_assoc}
use Rattle.std.specs.Prelude.{◌&&◌, slice_get, is_some}
use Rattle.std.specs.Ordering.{int_eq}
use Rattle.std.specs.Str.{bytes_eq}
use Rattle.authorizer.specs.declared.answer.Refusal.{Refusal}
use Rattle.authorizer.specs.Asking.{part_refusal}
use Rattle.acl_binding.specs.declared.question.Caller.{Caller}
use Rattle.wire_types.specs.declared.error_code.ErrorCode.{ErrorCode}
use Rattle.record_batch.specs.Batch.{BatchData}
use Rattle.producer_state.specs.declared.judgment.Judgment.{Judgment}
use Rattle.producer_state.specs.declared.judgment.Judgment.TheVariants.{Next, Repeat, Refused}
use Rattle.producer_state.specs.Sequences.{judgment_of as judged_by_log}
use Rattle.partition_log.specs.Log.{at_end}
use Rattle.msg_data.specs.declared.produce.ProduceRequest.{ProduceRequest}
use Rattle.msg_data.specs.declared.produce.ProducedRecords.{ProducedRecords}
use Rattle.msg_admin.specs.declared.reply.Reply.{Reply}
use Rattle.msg_admin.specs.declared.request.Request.TheVariants.{Produce, Fetch, ListOffsets, Metadata, OffsetCommit, OffsetFetch, FindCoordinator, JoinGroup, Heartbeat, LeaveGroup, SyncGroup, SaslHandshake, ApiVersions, InitProducerId, AddPartitionsToTxn, AddOffsetsToTxn, EndTxn, TxnOffsetCommit, DescribeAcls, CreateAcls, DeleteAcls, SaslAuthenticate}
use Rattle.audit_trail.specs.declared.event.Event.{Event}
use Rattle.audit_trail.specs.declared.event.Event.TheVariants.{Ask, Mark, Tick}
use Rattle.walk.specs.Steps.{topics_world}
use Rattle.walk.proofs.Weaving.{woven}
use Rattle.txn_coordinator.specs.declared.target.TopicPartition.{TopicPartition}
use Rattle.txn_coordinator.specs.declared.target.Target.{Target}
use Rattle.txn_coordinator.specs.declared.target.Target.TheVariants.{Partition, Group}
use Rattle.txn_coordinator.specs.declared.marker.PendingMarker.{PendingMarker}
use Rattle.broker_world.specs.World.{World, TopicValue, LogValue, rules_of}
use Rattle.broker_world.specs.First.{non_negative}
use Rattle.broker_world.specs.Logs.{log_at, with_log, log_by, topics_with_batch_by}
use Rattle.broker_world.specs.Markers.{marker_batch, topics_with_marker_by}
use Rattle.broker_world.specs.Whole.{Served, whole_outcome_by}
use Rattle.broker_world.specs.Questions.{read_question}
use Rattle.data_handlers.specs.Judged.{partition_at, batch_to_append, topics_produced}
use Rattle.data_handlers.specs.Produce.{producing_rule}
use Rattle.group_handlers.specs.Members.{served_join, served_sync, served_heartbeat, served_leave}
use Rattle.group_handlers.specs.FindCoordinator.{kind_of, find_questions}
use Rattle.txn_handlers.specs.InitProducerId.{init_questions, served_init}
use Rattle.txn_handlers.specs.AddPartitions.{is_cut, cut_outcome, added_outcome}
use Rattle.txn_handlers.specs.AddOffsets.{add_offsets_questions, served_add_offsets}
use Rattle.txn_handlers.specs.EndTxn.{served_end, end_questions}
use Rattle.acl_handlers.specs.DescribeAcls.{describe_acls_questions}
use Rattle.acl_handlers.specs.CreateAcls.{alter_questions}
use Rattle.txn_handlers.specs.Marks.{topics_with_marker_at, mark_by}
use Rattle.api_dispatch.specs.Step.{step, world_after_events}
use Rattle.api_dispatch.proofs.Wholes.{offsets_keep}
use Rattle.broker_laws.specs.LogEnds.{IsLonger, LogsGoOn}
use Rattle.broker_laws.proofs.Logs.{at_with, same_partition}
use Rattle.broker_laws.proofs.Walks.{walk_goes}

-- each log that is there stays, and has more after it
abbrev pub Grow : List TopicValue → List TopicValue → Type 0
Grow old new = (p : TopicPartition) (log : LogValue) → log_at old p.topic p.index ≡ Some log → IsLonger log (log_at new p.topic p.index)

grow_same : (topics : List TopicValue) → Grow topics topics
grow_same topics p log there = record { more = []; log = there ∙ ap (λ l. Some l) (sym (append-nil log)) }

grow_joined : (us vs ws : List TopicValue) → Grow us vs → Grow vs ws → Grow us ws
grow_joined us vs ws first second p log there =
    let a = first p log there in
    let b = second p (log ++ a.more) a.log in
    record { more = a.more ++ b.more; log = b.log ∙ ap (λ l. Some l) (append_assoc log a.more b.more) }

-- ---- a log that goes on

grow_with : (topics : List TopicValue) (name : List ℕ) (i : ℤ) (log : LogValue) (more : List BatchData) → log_at topics name i ≡ Some log → Grow topics (with_log topics name i (log ++ more))
grow_with topics name i log more at p old there = by_same (bytes_eq name p.topic && int_eq i p.index) refl (at_with topics name i (log ++ more) (ap is_some at) p.topic p.index) where
  by_same : (b : Bool) → (bytes_eq name p.topic && int_eq i p.index) ≡ b → log_at (with_log topics name i (log ++ more)) p.topic p.index ≡ cond b (Some (log ++ more)) (log_at topics p.topic p.index) → IsLonger old (log_at (with_log topics name i (log ++ more)) p.topic p.index)
  by_same true e is =
      let same = same_partition name p.topic i p.index e in
      let here : log_at topics p.topic p.index ≡ Some log = ap (λ n. log_at topics n p.index) (sym same.0) ∙ ap (log_at topics name) (sym same.1) ∙ at in
      let twice : Some log ≡ Some old = sym here ∙ there in
      let one : log ≡ old = cc in
      record { more = more; log = is ∙ ap (λ l. Some (l ++ more)) one }
  by_same false e is = record { more = []; log = is ∙ there ∙ ap (λ l. Some l) (sym (append-nil old)) }

grow_again : (topics : List TopicValue) (name : List ℕ) (i : ℤ) (log : LogValue) → log_at topics name i ≡ Some log → Grow topics (with_log topics name i log)
grow_again topics name i log at = subst (λ l. Grow topics (with_log topics name i l)) (append-nil log) (grow_with topics name i log [] at)

-- ---- Produce

grow_judged : (topics : List TopicValue) (name : List ℕ) (i : ℤ) (log : LogValue) (b : BatchData) → log_at topics name i ≡ Some log → (j : Judgment) → Grow topics (with_log topics name i (log_by j log b))
grow_judged topics name i log b at Next = grow_with topics name i log (at_end log b ∷ []) at
grow_judged topics name i log b at (Repeat offset) = grow_again topics name i log at
grow_judged topics name i log b at (Refused code) = grow_again topics name i log at

grow_produced : (topics : List TopicValue) (name : List ℕ) (i : ℤ) (r : Result BatchData ErrorCode) → Grow topics (topics_produced r topics name i)
grow_produced topics name i (Err code) = grow_same topics
grow_produced topics name i (Ok b) = by_log (log_at topics name i) refl where
  by_log : (o : Option LogValue) → log_at topics name i ≡ o → Grow topics (topics_with_batch_by topics name i b o)
  by_log None e = grow_same topics
  by_log (Some log) e = grow_judged topics name i log b e (judged_by_log log b)

grow_walk : (w : World) (caller : Caller) (r : ProduceRequest) → Grow w.topics (topics_world (producing_rule w caller r) (rules_of w) w.topics r.topics)
grow_walk w caller r = walk_goes (producing_rule w caller r) (rules_of w) Grow grow_same grow_joined part w.topics r.topics where
  part : (topics : List TopicValue) (name : List ℕ) (p : ProducedRecords) → Grow topics ((producing_rule w caller r).after topics name p)
  part topics name p = grow_produced topics name p.index (batch_to_append (non_negative w.node.max_batch) w.coordinator r.transactional_id r.acks (partition_at name p.index) p.records)

-- ---- a marker step

grow_marked : (topics : List TopicValue) (target : Target) (b : BatchData) → Grow topics (topics_with_marker_at topics target b)
grow_marked topics (Group g) b = grow_same topics
grow_marked topics (Partition p) b = by_log (log_at topics p.topic p.index) refl where
  by_log : (o : Option LogValue) → log_at topics p.topic p.index ≡ o → Grow topics (topics_with_marker_by topics p.topic p.index b o)
  by_log None e = grow_same topics
  by_log (Some log) e = grow_with topics p.topic p.index log (at_end log b ∷ []) e

grow_by_front : (w : World) (front : Option PendingMarker) → Grow w.topics (mark_by w front).world.topics
grow_by_front w None = grow_same w.topics
grow_by_front w (Some m) = grow_marked w.topics m.target (marker_batch m w.moment)

-- ---- an event

unless_refused : (o : Option Refusal) (w : World) (refused : ErrorCode → Reply) (served : Served) → Grow w.topics served.world.topics → Grow w.topics (whole_outcome_by o w refused served).world.topics
unless_refused None w refused served h = h
unless_refused (Some x) w refused served h = grow_same w.topics

pub step_grows : (w : World) (e : Event) → Grow w.topics (step w e).topics
step_grows w (Ask caller client (Produce r)) = subst (Grow w.topics) (woven (producing_rule w caller r) (rules_of w) w.topics r.topics).world (grow_walk w caller r)
step_grows w (Ask caller client (Fetch r)) = grow_same w.topics
step_grows w (Ask caller client (ListOffsets r)) = grow_same w.topics
step_grows w (Ask caller client (Metadata r)) = grow_same w.topics
step_grows w (Ask caller client (OffsetCommit r)) = grow_same w.topics
step_grows w (Ask caller client (OffsetFetch r)) = subst (λ (v : World). Grow w.topics v.topics) (sym (offsets_keep w caller r)) (grow_same w.topics)
step_grows w (Ask caller client (FindCoordinator r)) = unless_refused (part_refusal (rules_of w) (find_questions caller (kind_of r.key_type) r.key)) w _ _ (grow_same w.topics)
step_grows w (Ask caller client (JoinGroup r)) = unless_refused (part_refusal (rules_of w) (read_question caller r.group ∷ [])) w _ (served_join w r) (grow_same w.topics)
step_grows w (Ask caller client (Heartbeat r)) = unless_refused (part_refusal (rules_of w) (read_question caller r.group ∷ [])) w _ (served_heartbeat w r) (grow_same w.topics)
step_grows w (Ask caller client (LeaveGroup r)) = unless_refused (part_refusal (rules_of w) (read_question caller r.group ∷ [])) w _ (served_leave w r) (grow_same w.topics)
step_grows w (Ask caller client (SyncGroup r)) = unless_refused (part_refusal (rules_of w) (read_question caller r.group ∷ [])) w _ (served_sync w r) (grow_same w.topics)
step_grows w (Ask caller client (InitProducerId r)) = unless_refused (part_refusal (rules_of w) (init_questions (rules_of w) caller r.transactional_id)) w _ (served_init w r) (grow_same w.topics)
step_grows w (Ask caller client (AddPartitionsToTxn r)) = by_cut (is_cut caller r.transactional_id w.topics (rules_of w) r.topics) where
  by_cut : (b : Bool) → Grow w.topics (cond b (cut_outcome w caller r) (added_outcome w r)).world.topics
  by_cut true = grow_same w.topics
  by_cut false = grow_same w.topics
step_grows w (Ask caller client (AddOffsetsToTxn r)) = unless_refused (part_refusal (rules_of w) (add_offsets_questions caller r.transactional_id r.group)) w _ (served_add_offsets w r) (grow_same w.topics)
step_grows w (Ask caller client (EndTxn r)) = unless_refused (part_refusal (rules_of w) (end_questions caller r)) w _ (served_end w r) (grow_same w.topics)
step_grows w (Ask caller client (TxnOffsetCommit r)) = grow_same w.topics
step_grows w (Ask caller client (SaslHandshake r)) = grow_same w.topics
step_grows w (Ask caller client ApiVersions) = grow_same w.topics
step_grows w (Ask caller client (SaslAuthenticate r)) = grow_same w.topics
step_grows w (Ask caller client (DescribeAcls r)) = unless_refused (part_refusal (rules_of w) (describe_acls_questions caller)) w _ _ (grow_same w.topics)
step_grows w (Ask caller client (CreateAcls r)) = unless_refused (part_refusal (rules_of w) (alter_questions caller)) w _ _ (grow_same w.topics)
step_grows w (Ask caller client (DeleteAcls r)) = unless_refused (part_refusal (rules_of w) (alter_questions caller)) w _ _ (grow_same w.topics)
step_grows w Mark = grow_by_front w (slice_get w.coordinator.warrants 0)
step_grows w (Tick told) = grow_same w.topics

pub logs_go_on : LogsGoOn step
logs_go_on w e = step_grows w e

pub reached_grows : (w : World) (es : List Event) → Grow w.topics (world_after_events w es).topics
reached_grows w [] = grow_same w.topics
reached_grows w (e ∷ es) = grow_joined w.topics (step w e).topics (world_after_events (step w e) es).topics (step_grows w e) (reached_grows (step w e) es)
