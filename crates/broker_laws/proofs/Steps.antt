-- Each event is its moves, and what transactions take in exists after it.
use Rattle.std.proofs.Common.{◌≡◌, ℕ, ℤ, List, [], ◌∷◌, ◌++◌, map, Option, Some, None, Result, Ok, Err, Bool, true, false, cond, refl, sym, ap, subst, ◌∙◌}
use Rattle.std.specs.Prelude.{◌||◌, slice_get, is_some, is_none}
use Rattle.std.proofs.lemmas.List.{map-append}
use Rattle.acl_binding.specs.declared.question.Caller.{Caller}
use Rattle.authorizer.specs.declared.answer.Refusal.{Refusal}
use Rattle.authorizer.specs.Asking.{part_refusal}
use Rattle.wire_types.specs.declared.error_code.ErrorCode.{ErrorCode}
use Rattle.wire_types.specs.declared.topic.Topic.{Topic}
use Rattle.record_batch.specs.Batch.{BatchData}
use Rattle.partition_log.specs.Log.{at_end}
use Rattle.msg_data.specs.declared.produce.ProduceRequest.{ProduceRequest}
use Rattle.msg_data.specs.declared.produce.ProducedRecords.{ProducedRecords}
use Rattle.msg_admin.specs.declared.reply.Reply.{Reply}
use Rattle.msg_admin.specs.declared.request.Request.TheVariants.{Produce, Fetch, ListOffsets, Metadata, OffsetCommit, OffsetFetch, FindCoordinator, JoinGroup, Heartbeat, LeaveGroup, SyncGroup, SaslHandshake, ApiVersions, InitProducerId, AddPartitionsToTxn, AddOffsetsToTxn, EndTxn, TxnOffsetCommit, DescribeAcls, CreateAcls, DeleteAcls, SaslAuthenticate}
use Rattle.audit_trail.specs.declared.event.Event.{Event}
use Rattle.audit_trail.specs.declared.event.Event.TheVariants.{Ask, Mark, Tick}
use Rattle.walk.specs.Rule.{refusal_of}
use Rattle.walk.specs.Walk.{refusals}
use Rattle.walk.specs.Woven.{has_any}
use Rattle.walk.specs.Steps.{world_by, part_world, parts_world, topics_world}
use Rattle.walk.proofs.Weaving.{woven}
use Rattle.txn_coordinator.specs.declared.target.Target.{Target}
use Rattle.txn_coordinator.specs.declared.target.Target.TheVariants.{Partition, Group}
use Rattle.txn_coordinator.specs.declared.marker.PendingMarker.{PendingMarker}
use Rattle.txn_coordinator.specs.Coordinator.{CoordinatorValue}
use Rattle.txn_coordinator.specs.Expiry.{expire}
use Rattle.txn_coordinator.specs.Warrants.{with_first_written}
use Rattle.txn_laws.specs.Small.{Move, with_entry}
use Rattle.txn_laws.specs.Small.Entry.{Marker}
use Rattle.txn_laws.specs.Small.Move.{AddPartitions}
use Rattle.txn_laws.specs.Sound.{Each, HaveOwnIds}
use Rattle.txn_laws.proofs.Base.{each_weaker, each_append}
use Rattle.txn_laws.specs.Kept.{kept_entry, kept_world_after_mark, kept_world_after_moves}
use Rattle.txn_laws.proofs.GroupsKeep.{kept_tick}
use Rattle.group_offsets.specs.declared.event.OffsetEvent.TheVariants.{Decide}
use Rattle.group_offsets.specs.declared.group.Group.{Group as GroupValue}
use Rattle.group_offsets.specs.Group.{without_lapsed}
use Rattle.broker_world.specs.Questions.{read_question}
use Rattle.group_handlers.specs.Members.{served_join, served_sync, served_heartbeat, served_leave}
use Rattle.group_handlers.specs.FindCoordinator.{kind_of, find_questions}
use Rattle.api_dispatch.proofs.Wholes.{offsets_keep}
use Rattle.broker_world.specs.World.{World, TopicValue, LogValue, rules_of}
use Rattle.broker_world.specs.First.{non_negative}
use Rattle.broker_world.specs.Logs.{log_at, log_after, topics_with_batch_by}
use Rattle.data_handlers.specs.Judged.{partition_at, batch_to_append, topics_produced}
use Rattle.data_handlers.specs.Produce.{producing_rule}
use Rattle.broker_world.specs.Whole.{Served, whole_outcome_by}
use Rattle.txn_handlers.specs.InitProducerId.{init_questions, coordinator_for, served_init}
use Rattle.txn_handlers.specs.AddPartitions.{cut_rule, is_missing_in, is_missing, is_cut, partitions_in, partitions_of, cut_outcome, added_outcome, add_transition}
use Rattle.txn_handlers.specs.AddOffsets.{add_offsets_questions, add_offsets_transition, served_add_offsets}
use Rattle.txn_handlers.specs.EndTxn.{served_end, end_transition, end_questions, form_of, ending_id, ending_outcome}
use Rattle.group_handlers.specs.OffsetCommit.{committing_rule}
use Rattle.txn_handlers.specs.TxnOffsetCommit.{staging_rule}
use Rattle.acl_handlers.specs.DescribeAcls.{describe_acls_questions}
use Rattle.acl_handlers.specs.CreateAcls.{alter_questions}
use Rattle.broker_world.specs.Markers.{marker_batch, log_with_marker, topics_with_marker_by}
use Rattle.txn_handlers.specs.Marks.{topics_with_marker_at, groups_with_decision_at, mark_by}
use Rattle.broker_world.specs.Clock.{moment_after}
use Rattle.api_dispatch.specs.Step.{step}
use Rattle.broker_laws.specs.Entries.{entry_of, entries_at, small_world}
use Rattle.broker_laws.specs.Moves.{unless_refused, init_id_moves, moves_of}
use Rattle.broker_laws.specs.Targets.{is_there, IsThere, TakesInExisting, IsPendingToExisting, AllExist, HasTargets}
use Rattle.broker_laws.proofs.Logs.{entries_with, places_kept}
use Rattle.broker_laws.proofs.Produced.{produce_moved}
use Rattle.broker_laws.proofs.Offsets.{noted_entries, SameOffsets, same_entries, join_keeps, sync_keeps, beat_keeps, leave_keeps, expiry_keeps}
use Rattle.broker_laws.proofs.Noted.{commits_moved, stages_moved}
use Rattle.broker_laws.proofs.Turns.{turned_exist, init_exists, add_exists, add_group_exists, end_exists, written_exist, expire_exist}

-- ---- a marker step

marker_log : (log : LogValue) (m : PendingMarker) (moment : ℕ) → map entry_of (log_with_marker log (marker_batch m moment)) ≡ map entry_of log ++ Marker m.pair m.outcome ∷ []
marker_log log m moment =
    map-append entry_of log (at_end log (marker_batch m moment) ∷ [])

pub log_found : (o : Option LogValue) → is_some o ≡ true → (log : LogValue) × (o ≡ Some log)
log_found None h = absurd (let clash : false ≡ true = h in cc)
log_found (Some log) h = (log, refl)

-- to a log comes the marker, and to a group the decision
marker_entries : (topics : List TopicValue) (gs : List GroupValue) (m : PendingMarker) (moment : ℕ) (target : Target) → IsThere topics target → (t : Target)
    → entries_at (topics_with_marker_at topics target (marker_batch m moment)) (groups_with_decision_at gs target m) t ≡ with_entry (entries_at topics gs) target (kept_entry target (Marker m.pair m.outcome)) t
marker_entries topics gs m moment (Group g) there t =
    noted_entries topics gs g (Decide m.pair.producer m.outcome) t
marker_entries topics gs m moment (Partition p) there t =
    let found = log_found (log_at topics p.topic p.index) there in
    ap (λ o. entries_at (topics_with_marker_by topics p.topic p.index (marker_batch m moment) o) gs t) found.1
    ∙ entries_with topics gs p.topic p.index found.0 (log_with_marker found.0 (marker_batch m moment)) (Marker m.pair m.outcome) found.1 (marker_log found.0 m moment) t

marked_moved : (w : World) (ws : List PendingMarker) → w.coordinator.warrants ≡ ws → Each (IsPendingToExisting w.topics) ws → small_world (mark_by w (slice_get ws 0)).world ≡ kept_world_after_mark ws (small_world w)
marked_moved w [] e owed = refl
marked_moved w (m ∷ rest) e owed = λ k. record {
  coordinator = with_first_written w.coordinator (e k);
  entries = λ t. marker_entries w.topics w.groups m w.moment m.target owed.0 t k;
  moment = w.moment;
}

mark_moved : (w : World) → HasTargets w → small_world (step w Mark) ≡ kept_world_after_mark w.coordinator.warrants (small_world w)
mark_moved w all = marked_moved w w.coordinator.warrants refl all.owed

-- ---- the calls

init_moved : (w : World) (id : Option (List ℕ)) (timeout greatest : ℤ) → small_world (record w { coordinator = coordinator_for id w.coordinator greatest timeout }) ≡ kept_world_after_moves (small_world w) (init_id_moves id timeout greatest)
init_moved w None timeout greatest = refl
init_moved w (Some id) timeout greatest = refl

granted_moved : (o : Option Refusal) (w : World) (refused : ErrorCode → Reply) (served : Served) (ms : List Move) → small_world served.world ≡ kept_world_after_moves (small_world w) ms → small_world (whole_outcome_by o w refused served).world ≡ kept_world_after_moves (small_world w) (unless_refused o ms)
granted_moved None w refused served ms same = same
granted_moved (Some x) w refused served ms same = refl

unmoved : (o : Option Refusal) (w : World) (refused : ErrorCode → Reply) (served : Served) → small_world served.world ≡ small_world w → small_world (whole_outcome_by o w refused served).world ≡ small_world w
unmoved None w refused served same = same
unmoved (Some x) w refused served same = refl

-- groups of which each has the offsets that it had
grouped : (w : World) (gs : List GroupValue) → SameOffsets w.groups gs → small_world (record w { groups = gs }) ≡ small_world w
grouped w gs same = λ k. record { coordinator = w.coordinator; entries = λ t. same_entries w.topics w.groups gs same t k; moment = w.moment }

-- ---- an event

pub step_moved : (w : World) (e : Event) → HasTargets w → HaveOwnIds w.coordinator.transactions → small_world (step w e) ≡ kept_world_after_moves (small_world w) (moves_of w e)
step_moved w (Ask caller client (Produce r)) all own =
    ap (λ topics. small_world (record w { topics = topics })) (sym (woven (producing_rule w caller r) (rules_of w) w.topics r.topics).world)
    ∙ produce_moved w caller r
step_moved w (Ask caller client (Fetch r)) all own = refl
step_moved w (Ask caller client (ListOffsets r)) all own = refl
step_moved w (Ask caller client (Metadata r)) all own = refl
step_moved w (Ask caller client (OffsetCommit r)) all own =
    ap (λ gs. small_world (record w { groups = gs })) (sym (woven (committing_rule w caller r) (rules_of w) w.groups r.topics).world)
    ∙ commits_moved w caller r
step_moved w (Ask caller client (OffsetFetch r)) all own = ap small_world (offsets_keep w caller r)
step_moved w (Ask caller client (FindCoordinator r)) all own = unmoved (part_refusal (rules_of w) (find_questions caller (kind_of r.key_type) r.key)) w _ _ refl
step_moved w (Ask caller client (JoinGroup r)) all own =
    unmoved (part_refusal (rules_of w) (read_question caller r.group ∷ [])) w _ (served_join w r) (grouped w (served_join w r).world.groups (join_keeps w.groups r w.events w.moment))
step_moved w (Ask caller client (Heartbeat r)) all own =
    unmoved (part_refusal (rules_of w) (read_question caller r.group ∷ [])) w _ (served_heartbeat w r) (grouped w (served_heartbeat w r).world.groups (beat_keeps w.groups r w.moment))
step_moved w (Ask caller client (LeaveGroup r)) all own =
    unmoved (part_refusal (rules_of w) (read_question caller r.group ∷ [])) w _ (served_leave w r) (grouped w (served_leave w r).world.groups (leave_keeps w.groups r))
step_moved w (Ask caller client (SyncGroup r)) all own =
    unmoved (part_refusal (rules_of w) (read_question caller r.group ∷ [])) w _ (served_sync w r) (grouped w (served_sync w r).world.groups (sync_keeps w.groups r w.moment))
step_moved w (Ask caller client (InitProducerId r)) all own =
    granted_moved (part_refusal (rules_of w) (init_questions (rules_of w) caller r.transactional_id)) w _ (served_init w r) (init_id_moves r.transactional_id r.timeout w.node.max_txn_timeout) (init_moved w r.transactional_id r.timeout w.node.max_txn_timeout)
step_moved w (Ask caller client (AddPartitionsToTxn r)) all own = by_cut (is_cut caller r.transactional_id w.topics (rules_of w) r.topics) where
  by_cut : (b : Bool) → small_world (cond b (cut_outcome w caller r) (added_outcome w r)).world ≡ kept_world_after_moves (small_world w) (cond b [] (AddPartitions r.transactional_id (record { producer = r.producer; epoch = r.epoch }) (partitions_of r.topics) ∷ []))
  by_cut true = refl
  by_cut false = refl
step_moved w (Ask caller client (AddOffsetsToTxn r)) all own =
    granted_moved (part_refusal (rules_of w) (add_offsets_questions caller r.transactional_id r.group)) w _ (served_add_offsets w r) _ refl
step_moved w (Ask caller client (EndTxn r)) all own = granted_moved (part_refusal (rules_of w) (end_questions caller r)) w _ (served_end w r) _ refl
step_moved w (Ask caller client (TxnOffsetCommit r)) all own =
    ap (λ gs. small_world (record w { groups = gs })) (sym (woven (staging_rule w caller r) (rules_of w) w.groups r.topics).world)
    ∙ stages_moved w caller r
step_moved w (Ask caller client (SaslHandshake r)) all own = refl
step_moved w (Ask caller client ApiVersions) all own = refl
step_moved w (Ask caller client (SaslAuthenticate r)) all own = refl
step_moved w (Ask caller client (DescribeAcls r)) all own = unmoved (part_refusal (rules_of w) (describe_acls_questions caller)) w _ _ refl
step_moved w (Ask caller client (CreateAcls r)) all own = unmoved (part_refusal (rules_of w) (alter_questions caller)) w _ _ refl
step_moved w (Ask caller client (DeleteAcls r)) all own = unmoved (part_refusal (rules_of w) (alter_questions caller)) w _ _ refl
step_moved w Mark all own = mark_moved w all
step_moved w (Tick told) all own =
    let moment = moment_after w.moment told in
    (λ k. record { coordinator = expire w.coordinator moment; entries = λ t. same_entries w.topics w.groups (map (without_lapsed moment) w.groups) (expiry_keeps w.groups moment) t k; moment = moment })
    ∙ sym (kept_tick (small_world w) moment own)

-- ---- what transactions take in exists

places_all : (old new : List TopicValue) (c : CoordinatorValue) → ((target : Target) → is_there new target ≡ is_there old target) → AllExist old c → AllExist new c
places_all old new c same all = record {
  added = each_weaker (TakesInExisting old) (TakesInExisting new) (λ t h. each_weaker (IsThere old) (IsThere new) (λ target there. same target ∙ there) _ h) c.transactions all.added;
  owed = each_weaker (IsPendingToExisting old) (IsPendingToExisting new) (λ m there. same m.target ∙ there) c.warrants all.owed;
}

batch_places : (topics : List TopicValue) (name : List ℕ) (i : ℤ) (r : Result BatchData ErrorCode) (target : Target) → is_there (topics_produced r topics name i) target ≡ is_there topics target
batch_places topics name i (Err code) target = refl
batch_places topics name i (Ok b) target = by_log (log_at topics name i) refl where
  by_log : (o : Option LogValue) → log_at topics name i ≡ o → is_there (topics_with_batch_by topics name i b o) target ≡ is_there topics target
  by_log None e = refl
  by_log (Some log) e = places_kept topics name i (log_after log b) (ap is_some e) target

module _ (w : World) (caller : Caller) (r : ProduceRequest) (target : Target) where
  part_places : (topics : List TopicValue) (name : List ℕ) (p : ProducedRecords) → is_there (part_world (producing_rule w caller r) (rules_of w) topics name p) target ≡ is_there topics target
  part_places topics name p = by_refusal (refusal_of (producing_rule w caller r) (rules_of w) name p) where
    by_refusal : (o : Option Refusal) → is_there (world_by (producing_rule w caller r) o topics name p) target ≡ is_there topics target
    by_refusal (Some x) = refl
    by_refusal None = batch_places topics name p.index (batch_to_append (non_negative w.node.max_batch) w.coordinator r.transactional_id r.acks (partition_at name p.index) p.records) target

  parts_places : (topics : List TopicValue) (name : List ℕ) (ps : List ProducedRecords) → is_there (parts_world (producing_rule w caller r) (rules_of w) topics name ps) target ≡ is_there topics target
  parts_places topics name [] = refl
  parts_places topics name (p ∷ ps) = parts_places (part_world (producing_rule w caller r) (rules_of w) topics name p) name ps ∙ part_places topics name p

  topics_places : (topics : List TopicValue) (ts : List (Topic ProducedRecords)) → is_there (topics_world (producing_rule w caller r) (rules_of w) topics ts) target ≡ is_there topics target
  topics_places topics [] = refl
  topics_places topics (t ∷ ts) = topics_places (parts_world (producing_rule w caller r) (rules_of w) topics t.name t.partitions) ts ∙ parts_places topics t.name t.partitions

-- what a request names that misses nothing
or_false : (a b : Bool) → (a || b) ≡ false → (a ≡ false) × (b ≡ false)
or_false true b h = absurd (let clash : true ≡ false = h in cc)
or_false false b h = (refl, h)

found_there : (o : Option LogValue) → is_none o ≡ false → is_some o ≡ true
found_there None h = absurd (let clash : true ≡ false = h in cc)
found_there (Some log) h = refl

named_in : (topics : List TopicValue) (name : List ℕ) (indices : List ℤ) → is_missing_in topics name indices ≡ false → Each (λ p. IsThere topics (Partition p)) (partitions_in name indices)
named_in topics name [] h = tt
named_in topics name (i ∷ is) h =
    let parts = or_false (is_none (log_at topics name i)) (is_missing_in topics name is) h in
    (found_there (log_at topics name i) parts.0, named_in topics name is parts.1)

named_there : (topics : List TopicValue) (ts : List (Topic ℤ)) → is_missing topics ts ≡ false → Each (λ p. IsThere topics (Partition p)) (partitions_of ts)
named_there topics [] h = tt
named_there topics (t ∷ ts) h =
    let parts = or_false (is_missing_in topics t.name t.partitions) (is_missing topics ts) h in
    each_append (λ p. IsThere topics (Partition p)) (partitions_in t.name t.partitions) (partitions_of ts) (named_in topics t.name t.partitions parts.0) (named_there topics ts parts.1)

mark_places : (topics : List TopicValue) (b : BatchData) (front t : Target) → is_there (topics_with_marker_at topics front b) t ≡ is_there topics t
mark_places topics b (Group g) t = refl
mark_places topics b (Partition p) t = by_log (log_at topics p.topic p.index) refl where
  by_log : (o : Option LogValue) → log_at topics p.topic p.index ≡ o → is_there (topics_with_marker_by topics p.topic p.index b o) t ≡ is_there topics t
  by_log None e = refl
  by_log (Some log) e = places_kept topics p.topic p.index (log_with_marker log b) (ap is_some e) t

init_all : (w : World) (id : Option (List ℕ)) (timeout greatest : ℤ) → HasTargets w → AllExist w.topics (coordinator_for id w.coordinator greatest timeout)
init_all w None timeout greatest all = record { added = all.added; owed = all.owed }
init_all w (Some id) timeout greatest all = turned_exist w.topics w.coordinator _ all (init_exists w.topics w.coordinator id timeout greatest all)

granted_all : (o : Option Refusal) (w : World) (refused : ErrorCode → Reply) (served : Served) → HasTargets w → HasTargets served.world → HasTargets (whole_outcome_by o w refused served).world
granted_all None w refused served all h = h
granted_all (Some x) w refused served all h = all

marked_all : (w : World) (ws : List PendingMarker) → w.coordinator.warrants ≡ ws → HasTargets w → HasTargets (mark_by w (slice_get ws 0)).world
marked_all w [] e all = all
marked_all w (m ∷ rest) e all =
    places_all w.topics (topics_with_marker_at w.topics m.target (marker_batch m w.moment)) (with_first_written w.coordinator w.coordinator.warrants) (mark_places w.topics (marker_batch m w.moment) m.target)
    (written_exist w.topics w.coordinator w.coordinator.warrants refl all)

pub step_targets : (w : World) (e : Event) → HasTargets w → HasTargets (step w e)
step_targets w (Ask caller client (Produce r)) all =
    subst (λ topics. AllExist topics w.coordinator) (woven (producing_rule w caller r) (rules_of w) w.topics r.topics).world
    (places_all w.topics (topics_world (producing_rule w caller r) (rules_of w) w.topics r.topics) w.coordinator (λ target. topics_places w caller r target w.topics r.topics) all)
step_targets w (Ask caller client (Fetch r)) all = all
step_targets w (Ask caller client (ListOffsets r)) all = all
step_targets w (Ask caller client (Metadata r)) all = all
step_targets w (Ask caller client (OffsetCommit r)) all = all
step_targets w (Ask caller client (OffsetFetch r)) all = subst HasTargets (sym (offsets_keep w caller r)) all
step_targets w (Ask caller client (FindCoordinator r)) all = granted_all (part_refusal (rules_of w) (find_questions caller (kind_of r.key_type) r.key)) w _ _ all all
step_targets w (Ask caller client (JoinGroup r)) all = granted_all (part_refusal (rules_of w) (read_question caller r.group ∷ [])) w _ _ all all
step_targets w (Ask caller client (Heartbeat r)) all = granted_all (part_refusal (rules_of w) (read_question caller r.group ∷ [])) w _ _ all all
step_targets w (Ask caller client (LeaveGroup r)) all = granted_all (part_refusal (rules_of w) (read_question caller r.group ∷ [])) w _ _ all all
step_targets w (Ask caller client (SyncGroup r)) all = granted_all (part_refusal (rules_of w) (read_question caller r.group ∷ [])) w _ _ all all
step_targets w (Ask caller client (InitProducerId r)) all =
    granted_all (part_refusal (rules_of w) (init_questions (rules_of w) caller r.transactional_id)) w _ (served_init w r) all (init_all w r.transactional_id r.timeout w.node.max_txn_timeout all)
step_targets w (Ask caller client (AddPartitionsToTxn r)) all = by_cut (is_cut caller r.transactional_id w.topics (rules_of w) r.topics) refl where
  by_cut : (b : Bool) → is_cut caller r.transactional_id w.topics (rules_of w) r.topics ≡ b → HasTargets (cond b (cut_outcome w caller r) (added_outcome w r)).world
  by_cut true e = all
  by_cut false e =
      let parts = or_false (has_any (refusals (cut_rule caller r.transactional_id w.topics) (rules_of w) r.topics)) (is_missing w.topics r.topics) e in
      turned_exist w.topics w.coordinator (add_transition w.coordinator w.moment r) all (add_exists w.topics w.coordinator r.transactional_id _ w.moment (partitions_of r.topics) all (named_there w.topics r.topics parts.1))
step_targets w (Ask caller client (AddOffsetsToTxn r)) all =
    granted_all (part_refusal (rules_of w) (add_offsets_questions caller r.transactional_id r.group)) w _ (served_add_offsets w r) all
    (turned_exist w.topics w.coordinator (add_offsets_transition w.coordinator w.moment r) all (add_group_exists w.topics w.coordinator r.transactional_id _ w.moment r.group all))
step_targets w (Ask caller client (EndTxn r)) all =
    granted_all (part_refusal (rules_of w) (end_questions caller r)) w _ (served_end w r) all
    (turned_exist w.topics w.coordinator (end_transition w.coordinator r) all (end_exists w.topics w.coordinator (form_of r) (ending_id r) _ (ending_outcome r) all))
step_targets w (Ask caller client (TxnOffsetCommit r)) all = all
step_targets w (Ask caller client (SaslHandshake r)) all = all
step_targets w (Ask caller client ApiVersions) all = all
step_targets w (Ask caller client (SaslAuthenticate r)) all = all
step_targets w (Ask caller client (DescribeAcls r)) all = granted_all (part_refusal (rules_of w) (describe_acls_questions caller)) w _ _ all all
step_targets w (Ask caller client (CreateAcls r)) all = granted_all (part_refusal (rules_of w) (alter_questions caller)) w _ _ all all
step_targets w (Ask caller client (DeleteAcls r)) all = granted_all (part_refusal (rules_of w) (alter_questions caller)) w _ _ all all
step_targets w Mark all = marked_all w w.coordinator.warrants refl all
step_targets w (Tick told) all = expire_exist w.topics w.coordinator (moment_after w.moment told) all
