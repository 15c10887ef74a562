-- Each log that events reach took in only what was the next batch of its producer.
use Rattle.std.proofs.Common.{◌≡◌, ℕ, zero, suc, ℤ, pos, negsuc, Bool, true, false, cond, List, [], ◌∷◌, Option, Some, None, Result, Ok, Err, refl, sym, ap, subst}
use Rattle.std.specs.Prelude.{slice_get, slice_set}
use Rattle.std.specs.Option.{option_and_then}
use Rattle.std.specs.Str.{bytes_eq}
use Rattle.acl_binding.specs.declared.question.Caller.{Caller}
use Rattle.authorizer.specs.declared.answer.Refusal.{Refusal}
use Rattle.authorizer.specs.Asking.{Rules, part_refusal}
use Rattle.wire_types.specs.declared.error_code.ErrorCode.{ErrorCode}
use Rattle.wire_types.specs.declared.topic.Topic.{Topic}
use Rattle.settings.specs.declared.settings.TopicSetting.{TopicSetting}
use Rattle.record_batch.specs.Batch.{BatchData}
use Rattle.producer_state.specs.declared.judgment.Judgment.{Judgment}
use Rattle.producer_state.specs.declared.judgment.Judgment.TheVariants.{Next, Repeat, Refused}
use Rattle.producer_state.specs.Sequences.{judgment_of as judged_by_log}
use Rattle.producer_state.specs.Laws.{IsAccepted}
use Rattle.producer_state.proofs.Accepting.{accepted_once}
use Rattle.partition_log.specs.Log.{end_of, at_end}
use Rattle.partition_log.proofs.Accepted.{accepted_none, accepted_push, follows_written}
use Rattle.msg_data.specs.declared.produce.ProducedRecords.{ProducedRecords}
use Rattle.msg_admin.specs.declared.request.Request.TheVariants.{Produce, Fetch, ListOffsets, Metadata, OffsetCommit, OffsetFetch, FindCoordinator, JoinGroup, Heartbeat, LeaveGroup, SyncGroup, SaslHandshake, ApiVersions, InitProducerId, AddPartitionsToTxn, AddOffsetsToTxn, EndTxn, TxnOffsetCommit, DescribeAcls, CreateAcls, DeleteAcls, SaslAuthenticate}
use Rattle.audit_trail.specs.declared.event.Event.{Event}
use Rattle.audit_trail.specs.declared.event.Event.TheVariants.{Ask, Mark, Tick}
use Rattle.walk.specs.Steps.{world_by, part_world, parts_world, topics_world}
use Rattle.walk.proofs.Weaving.{woven}
use Rattle.broker_world.specs.World.{World, TopicValue, LogValue, rules_of, find_topic}
use Rattle.broker_world.specs.First.{non_negative, empty_logs, first_topics, first_world}
use Rattle.broker_world.specs.Logs.{log_in, log_of, log_at, logs_with, with_log, log_by, log_after, topics_with_batch_by}
use Rattle.txn_coordinator.specs.Coordinator.{CoordinatorValue}
use Rattle.data_handlers.specs.Judged.{partition_at, batch_to_append, topics_produced}
use Rattle.data_handlers.specs.Produce.{produce_questions, produce_rule, producing_rule}
use Rattle.acl_handlers.specs.DescribeAcls.{describe_acls_questions}
use Rattle.acl_handlers.specs.CreateAcls.{alter_questions}
use Rattle.txn_handlers.specs.EndTxn.{end_questions}
use Rattle.txn_handlers.specs.InitProducerId.{init_questions}
use Rattle.api_dispatch.specs.Step.{outcome, step, world_after_events}
use Rattle.api_laws.specs.ProducerLaws.{HoldsOnce}
use Rattle.acl_handlers.proofs.BookBounds.{whole_topics}
use Rattle.txn_coordinator.specs.declared.marker.PendingMarker.{PendingMarker}
use Rattle.txn_coordinator.specs.declared.target.Target.{Target}
use Rattle.txn_coordinator.specs.declared.target.Target.TheVariants.{Partition, Group}
use Rattle.txn_coordinator.specs.Warrants.{next_warrant}
use Rattle.txn_handlers.specs.AddOffsets.{add_offsets_questions}
use Rattle.broker_world.specs.Markers.{marker_batch, log_with_marker, topics_with_marker_by}
use Rattle.txn_handlers.specs.Marks.{topics_with_marker_at, mark_by}
use Rattle.api_dispatch.proofs.Wholes.{offsets_keep}
use Rattle.broker_world.specs.Questions.{read_question}
use Rattle.group_handlers.specs.FindCoordinator.{kind_of, find_questions}
use Rattle.txn_handlers.proofs.Adds.{add_keeps}

-- ---- logs that took in nothing else

AllIn : List LogValue → Type 0
AllIn [] = Unit {0}
AllIn (log ∷ logs) = IsAccepted log × AllIn logs

AllLogs : List TopicValue → Type 0
AllLogs [] = Unit {0}
AllLogs (t ∷ ts) = AllIn t.partitions × AllLogs ts

-- ---- one of them

in_at : (logs : List LogValue) (n : ℕ) (log : LogValue) → AllIn logs → slice_get logs n ≡ Some log → IsAccepted log
unfolding AllIn
in_at [] n log all h = absurd (let clash : None ≡ Some log = h in cc)
in_at (x ∷ xs) zero log all h = subst IsAccepted (let same : x ≡ log = cc in same) all.0
in_at (x ∷ xs) (suc n) log all h = in_at xs n log all.1 h

in_index : (logs : List LogValue) (index : ℤ) (log : LogValue) → AllIn logs → log_in index logs ≡ Some log → IsAccepted log
in_index logs (pos n) log all h = in_at logs n log all h
in_index logs (negsuc n) log all h = absurd (let clash : None ≡ Some log = h in cc)

log_accepted : (topics : List TopicValue) (name : List ℕ) (index : ℤ) (log : LogValue) → AllLogs topics → log_at topics name index ≡ Some log → IsAccepted log
unfolding AllLogs
log_accepted [] name index log all h = absurd (let clash : None ≡ Some log = h in cc)
log_accepted (t ∷ ts) name index log all h = by_test (bytes_eq t.name name) (log_accepted ts name index log all.1) h where
  by_test : (b : Bool) → (log_at ts name index ≡ Some log → IsAccepted log) → option_and_then (log_of index) (cond b (Some t) (find_topic ts name)) ≡ Some log → IsAccepted log
  by_test true rest there = in_index t.partitions index log all.0 there
  by_test false rest there = rest there

-- ---- one of them changed

in_set : (logs : List LogValue) (n : ℕ) (log : LogValue) → AllIn logs → IsAccepted log → AllIn (slice_set logs n log)
unfolding AllIn
in_set [] n log all is = tt
in_set (x ∷ xs) zero log all is = (is, all.1)
in_set (x ∷ xs) (suc n) log all is = (all.0, in_set xs n log all.1 is)

in_with : (logs : List LogValue) (index : ℤ) (log : LogValue) → AllIn logs → IsAccepted log → AllIn (logs_with logs index log)
in_with logs (pos n) log all is = in_set logs n log all is
in_with logs (negsuc n) log all is = all

all_with : (topics : List TopicValue) (name : List ℕ) (index : ℤ) (log : LogValue) → AllLogs topics → IsAccepted log → AllLogs (with_log topics name index log)
unfolding AllLogs
all_with [] name index log all is = tt
all_with (t ∷ ts) name index log all is = by_test (bytes_eq t.name name) (all_with ts name index log all.1 is) where
  by_test : (b : Bool) → AllLogs (with_log ts name index log) → AllLogs (cond b (record { name = t.name; partitions = logs_with t.partitions index log } ∷ ts) (t ∷ with_log ts name index log))
  by_test true rest = (in_with t.partitions index log all.0 is, all.1)
  by_test false rest = (all.0, rest)

-- ---- a batch more

goes_on : (log : LogValue) (b : BatchData) (j : Judgment) → IsAccepted log → judged_by_log log b ≡ j → IsAccepted (log_by j log b)
goes_on log b Next all is = accepted_push log (at_end log b) all (follows_written log b (end_of log) (λ told. is))
goes_on log b (Repeat offset) all is = all
goes_on log b (Refused code) all is = all

appended_all : (topics : List TopicValue) (name : List ℕ) (index : ℤ) (b : BatchData) (o : Option LogValue) → AllLogs topics → log_at topics name index ≡ o → AllLogs (topics_with_batch_by topics name index b o)
appended_all topics name index b None all there = all
appended_all topics name index b (Some log) all there =
    all_with topics name index (log_after log b) all (goes_on log b (judged_by_log log b) (log_accepted topics name index log all there) refl)

marker_all : (log : LogValue) (m : PendingMarker) (moment : ℕ) → IsAccepted log → IsAccepted (log_with_marker log (marker_batch m moment))
marker_all log m moment all =
    accepted_push log (at_end log (marker_batch m moment)) all (follows_written log (marker_batch m moment) (end_of log) (λ told. absurd (let clash : false ≡ true = told in cc)))

marked_all : (topics : List TopicValue) (name : List ℕ) (index : ℤ) (m : PendingMarker) (moment : ℕ) (o : Option LogValue) → AllLogs topics → log_at topics name index ≡ o → AllLogs (topics_with_marker_by topics name index (marker_batch m moment) o)
marked_all topics name index m moment None all there = all
marked_all topics name index m moment (Some log) all there =
    all_with topics name index (log_with_marker log (marker_batch m moment)) all (marker_all log m moment (log_accepted topics name index log all there))

produced_all : (batch : Result BatchData ErrorCode) (topics : List TopicValue) (name : List ℕ) (index : ℤ) → AllLogs topics → AllLogs (topics_produced batch topics name index)
produced_all (Err code) topics name index all = all
produced_all (Ok b) topics name index all = appended_all topics name index b (log_at topics name index) all refl

-- ---- a Produce

module _ (rules : Rules) (caller : Caller) (most : ℕ) (c : CoordinatorValue) (id : Option (List ℕ)) (acks : ℤ) where
  part_all : (topics : List TopicValue) (n : List ℕ) (p : ProducedRecords) → AllLogs topics → AllLogs (part_world (produce_rule caller most c id acks) rules topics n p)
  part_all topics n p all = by_refusal (part_refusal rules (produce_questions caller id n)) where
    by_refusal : (r : Option Refusal) → AllLogs (world_by (produce_rule caller most c id acks) r topics n p)
    by_refusal (Some r) = all
    by_refusal None = produced_all (batch_to_append most c id acks (partition_at n p.index) p.records) topics n p.index all

  parts_all : (topics : List TopicValue) (n : List ℕ) (ps : List ProducedRecords) → AllLogs topics → AllLogs (parts_world (produce_rule caller most c id acks) rules topics n ps)
  parts_all topics n [] all = all
  parts_all topics n (p ∷ ps) all = parts_all (part_world (produce_rule caller most c id acks) rules topics n p) n ps (part_all topics n p all)

  topics_all : (topics : List TopicValue) (ts : List (Topic ProducedRecords)) → AllLogs topics → AllLogs (topics_world (produce_rule caller most c id acks) rules topics ts)
  topics_all topics [] all = all
  topics_all topics (t ∷ ts) all =
      topics_all (parts_world (produce_rule caller most c id acks) rules topics t.name t.partitions) ts (parts_all topics t.name t.partitions all)

-- ---- an event

outcome_all : (w : World) (e : Event) → AllLogs w.topics → AllLogs (outcome w e).world.topics
outcome_all w (Ask caller client (Produce r)) all =
    subst AllLogs (woven (producing_rule w caller r) (rules_of w) w.topics r.topics).world (topics_all (rules_of w) caller (non_negative w.node.max_batch) w.coordinator r.transactional_id r.acks w.topics r.topics all)
outcome_all w (Ask caller client (Fetch r)) all = all
outcome_all w (Ask caller client (ListOffsets r)) all = all
outcome_all w (Ask caller client (Metadata r)) all = all
outcome_all w (Ask caller client (OffsetCommit r)) all = all
outcome_all w (Ask caller client (OffsetFetch r)) all = subst AllLogs (sym (ap (λ (v : World). v.topics) (offsets_keep w caller r))) all
outcome_all w (Ask caller client (JoinGroup r)) all = subst AllLogs (sym (whole_topics (part_refusal (rules_of w) (read_question caller r.group ∷ [])) w _ _ refl)) all
outcome_all w (Ask caller client (Heartbeat r)) all = subst AllLogs (sym (whole_topics (part_refusal (rules_of w) (read_question caller r.group ∷ [])) w _ _ refl)) all
outcome_all w (Ask caller client (LeaveGroup r)) all = subst AllLogs (sym (whole_topics (part_refusal (rules_of w) (read_question caller r.group ∷ [])) w _ _ refl)) all
outcome_all w (Ask caller client (SyncGroup r)) all = subst AllLogs (sym (whole_topics (part_refusal (rules_of w) (read_question caller r.group ∷ [])) w _ _ refl)) all
outcome_all w (Ask caller client (FindCoordinator r)) all = subst AllLogs (sym (whole_topics (part_refusal (rules_of w) (find_questions caller (kind_of r.key_type) r.key)) w _ _ refl)) all
outcome_all w (Ask caller client (InitProducerId r)) all = subst AllLogs (sym (whole_topics (part_refusal (rules_of w) (init_questions (rules_of w) caller r.transactional_id)) w _ _ refl)) all
outcome_all w (Ask caller client (AddPartitionsToTxn r)) all = subst AllLogs (sym (add_keeps (λ v. v.topics) (λ v c. refl) w caller r)) all
outcome_all w (Ask caller client (AddOffsetsToTxn r)) all = subst AllLogs (sym (whole_topics (part_refusal (rules_of w) (add_offsets_questions caller r.transactional_id r.group)) w _ _ refl)) all
outcome_all w (Ask caller client (EndTxn r)) all = subst AllLogs (sym (whole_topics (part_refusal (rules_of w) (end_questions caller r)) w _ _ refl)) all
outcome_all w (Ask caller client (TxnOffsetCommit r)) all = all
outcome_all w (Ask caller client (SaslHandshake r)) all = all
outcome_all w (Ask caller client ApiVersions) all = all
outcome_all w (Ask caller client (SaslAuthenticate r)) all = all
outcome_all w (Ask caller client (DescribeAcls r)) all = subst AllLogs (sym (whole_topics (part_refusal (rules_of w) (describe_acls_questions caller)) w _ _ refl)) all
outcome_all w (Ask caller client (CreateAcls r)) all = subst AllLogs (sym (whole_topics (part_refusal (rules_of w) (alter_questions caller)) w _ _ refl)) all
outcome_all w (Ask caller client (DeleteAcls r)) all = subst AllLogs (sym (whole_topics (part_refusal (rules_of w) (alter_questions caller)) w _ _ refl)) all
outcome_all w Mark all = by_front (next_warrant w.coordinator) where
  by_target : (m : PendingMarker) (t : Target) → AllLogs (topics_with_marker_at w.topics t (marker_batch m w.moment))
  by_target m (Partition p) = marked_all w.topics p.topic p.index m w.moment (log_at w.topics p.topic p.index) all refl
  by_target m (Group g) = all

  by_front : (o : Option PendingMarker) → AllLogs (mark_by w o).world.topics
  by_front None = all
  by_front (Some m) = by_target m m.target
outcome_all w (Tick told) all = all

reached_all : (w : World) (es : List Event) → AllLogs w.topics → AllLogs (world_after_events w es).topics
reached_all w [] all = all
reached_all w (e ∷ es) all = reached_all (step w e) es (outcome_all w e all)

-- ---- the first logs are empty

none_in : (n : ℕ) → AllIn (empty_logs n)
unfolding AllIn
none_in zero = tt
none_in (suc n) = (accepted_none, none_in n)

none_of : (topics : List TopicSetting) → AllLogs (first_topics topics)
unfolding AllLogs
none_of [] = tt
none_of (t ∷ ts) = (none_in (non_negative t.partitions), none_of ts)

pub holds_once : HoldsOnce world_after_events
holds_once s es name index log id epoch there low =
    accepted_once log (log_accepted (world_after_events (first_world s) es).topics name index log (reached_all (first_world s) es (none_of s.topics)) there) id epoch low
