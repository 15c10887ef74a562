-- An event begins one generation of a group at most.
use Rattle.std.proofs.Common.{◌≡◌, ℕ, ℤ, pos, ◌+◌, ◌≤◌, Bool, true, false, cond, List, [], ◌∷◌, map, Option, Some, None, refl, sym, subst, ap, arith}
use Rattle.std.specs.Prelude.{◌≤ℤ◌, unwrap_or, not}
use Rattle.std.specs.Str.{bytes_eq}
use Rattle.std.proofs.lemmas.Int.{ints}
use Rattle.acl_binding.specs.declared.question.Caller.{Caller}
use Rattle.authorizer.specs.declared.answer.Refusal.{Refusal}
use Rattle.authorizer.specs.Asking.{Rules, part_refusal}
use Rattle.wire_types.specs.declared.error_code.ErrorCode.{ErrorCode}
use Rattle.wire_types.specs.declared.error_code.ErrorCode.TheVariants as codes
use Rattle.wire_types.specs.declared.topic.Topic.{Topic}
use Rattle.settings.specs.declared.settings.Settings.{Settings}
use Rattle.msg_group.specs.declared.join_group.JoinGroupRequest.{JoinGroupRequest}
use Rattle.msg_group.specs.declared.join_group.OfferedProtocol.{OfferedProtocol}
use Rattle.msg_group.specs.declared.sync_group.SyncGroupRequest.{SyncGroupRequest}
use Rattle.msg_group.specs.declared.heartbeat.HeartbeatRequest.{HeartbeatRequest}
use Rattle.msg_group.specs.declared.leave_group.LeaveGroupRequest.{LeaveGroupRequest}
use Rattle.msg_group.specs.declared.offset_commit.OffsetToCommit.{OffsetToCommit}
use Rattle.msg_admin.specs.declared.reply.Reply.{Reply}
use Rattle.msg_admin.specs.declared.request.Request.TheVariants.{Produce, Fetch, ListOffsets, Metadata, OffsetCommit, OffsetFetch, FindCoordinator, JoinGroup, Heartbeat, LeaveGroup, SyncGroup, SaslHandshake, ApiVersions, InitProducerId, AddPartitionsToTxn, AddOffsetsToTxn, EndTxn, TxnOffsetCommit, DescribeAcls, CreateAcls, DeleteAcls, SaslAuthenticate}
use Rattle.audit_trail.specs.declared.event.Event.{Event}
use Rattle.audit_trail.specs.declared.event.Event.TheVariants.{Ask, Mark, Tick}
use Rattle.walk.specs.Steps.{world_by, part_world, parts_world, topics_world}
use Rattle.walk.proofs.Weaving.{woven}
use Rattle.msg_txn.specs.declared.txn_offset_commit.OffsetToStage.{OffsetToStage}
use Rattle.txn_coordinator.specs.declared.target.Target.{Target}
use Rattle.txn_coordinator.specs.declared.target.Target.TheVariants as targets
use Rattle.txn_coordinator.specs.declared.marker.PendingMarker.{PendingMarker}
use Rattle.txn_coordinator.specs.Warrants.{next_warrant}
use Rattle.group_offsets.specs.declared.event.PartitionOffset.{PartitionOffset}
use Rattle.group_offsets.specs.declared.event.OffsetEvent.TheVariants.{Put, Stage, Decide}
use Rattle.group_offsets.specs.declared.group.Group.{Group}
use Rattle.group_offsets.specs.GroupTransition.{GroupTransition, Stays, Puts}
use Rattle.group_offsets.specs.Group.{is_empty, is_member, member_refusal, sync_transition, sync_group, beat_transition, beat_group, leave_group, is_lapsed, without_member, without_lapsed, commit_refusal, with_event, event_transition, commit_group, stage_refusal, stage_group}
use Rattle.group_offsets.specs.Joining.{session_timeout, chosen_protocol, entry_refusal, join_transition, join_under, join_within, join_group}
use Rattle.group_offsets.specs.Groups.{find_group, group_of, groups_with, groups_after, join, sync, beat, leave, commit}
use Rattle.broker_world.specs.World.{World, TopicValue, LogValue, rules_of}
use Rattle.broker_world.specs.First.{first_world}
use Rattle.broker_world.specs.Logs.{log_at}
use Rattle.broker_world.specs.Whole.{Served, whole_outcome_by}
use Rattle.acl_handlers.specs.DescribeAcls.{describe_acls_questions}
use Rattle.acl_handlers.specs.CreateAcls.{alter_questions}
use Rattle.txn_handlers.specs.EndTxn.{end_questions}
use Rattle.txn_handlers.specs.InitProducerId.{init_questions}
use Rattle.txn_handlers.specs.AddOffsets.{add_offsets_questions}
use Rattle.broker_world.specs.Questions.{read_question}
use Rattle.group_handlers.specs.FindCoordinator.{kind_of, find_questions}
use Rattle.group_handlers.specs.OffsetCommit.{Committing, committing_of, commit_questions, groups_by, commit_rule, committing_rule}
use Rattle.txn_handlers.specs.TxnOffsetCommit.{Staging, staging_of, stage_questions, offset_staged, transition_by, staging_refusal, stage_transition, stage_rule, staging_rule}
use Rattle.txn_handlers.specs.Marks.{groups_with_decision_at, mark_by, mark_outcome}
use Rattle.broker_world.specs.Clock.{moment_after}
use Rattle.api_dispatch.specs.Step.{outcome}
use Rattle.api_dispatch.specs.Bounds.{GenerationsWithin}
use Rattle.txn_handlers.proofs.Adds.{add_keeps}
use Rattle.api_dispatch.proofs.Wholes.{offsets_keep}

pub generations_weaker : (m n : ℕ) (gs : List Group) → m ≤ n → GenerationsWithin m gs → GenerationsWithin n gs
generations_weaker m n [] less all = tt
generations_weaker m n (g ∷ gs) less all = (omega (arith, ints, less, all.0), generations_weaker m n gs less all.1)

-- ---- one group

pub found_within : (n : ℕ) (gs : List Group) (name : List ℕ) → GenerationsWithin n gs → (group_of gs name).generation ≤ℤ pos n
found_within n [] name all = omega (arith, ints)
found_within n (g ∷ gs) name all = by_name (bytes_eq g.name name) (found_within n gs name all.1) where
  by_name : (b : Bool) → (group_of gs name).generation ≤ℤ pos n → (unwrap_or (cond b (Some g) (find_group gs name)) (record { name = name; member = None; generation = pos 0; assignment = None; offsets = [] })).generation ≤ℤ pos n
  by_name true rest = all.0
  by_name false rest = rest

put_within : (n : ℕ) (gs : List Group) (new : Group) → GenerationsWithin n gs → new.generation ≤ℤ pos n → GenerationsWithin n (groups_with gs new)
put_within n [] new all is = (is, tt)
put_within n (g ∷ gs) new all is = by_name (bytes_eq g.name new.name) (put_within n gs new all.1 is) where
  by_name : (b : Bool) → GenerationsWithin n (groups_with gs new) → GenerationsWithin n (cond b (new ∷ gs) (g ∷ groups_with gs new))
  by_name true rest = (is, all.1)
  by_name false rest = (all.0, rest)

-- ---- a call

TransitionWithin : {A : Type 0} → ℕ → GroupTransition A → Type 0
TransitionWithin n (Stays code) = Unit {0}
TransitionWithin n (Puts answer g) = g.generation ≤ℤ pos n

turned_within : {A : Type 0} (n : ℕ) (gs : List Group) (transition : GroupTransition A) → GenerationsWithin n gs → TransitionWithin n transition → GenerationsWithin n (groups_after gs transition)
unfolding TransitionWithin
turned_within n gs (Stays code) all is = all
turned_within n gs (Puts answer g) all is = put_within n gs g all is

join_stays_within : (n : ℕ) (g : Group) (r : JoinGroupRequest) (place moment : ℕ) → g.generation ≤ℤ pos n → TransitionWithin (n + 1) (join_group g r place moment)
unfolding TransitionWithin
join_stays_within n g r place moment is = by_empty (is_empty r.group) where
  by_entry : (o : Option ErrorCode) (timeout : ℕ) (p : OfferedProtocol) → TransitionWithin (n + 1) (join_transition o g r.member timeout place p moment)
  by_entry (Some code) timeout p = tt
  by_entry None timeout p = omega (arith, ints, is)

  by_protocol : (o : Option OfferedProtocol) (timeout : ℕ) → TransitionWithin (n + 1) (join_under o timeout g r.member place moment)
  by_protocol None timeout = tt
  by_protocol (Some p) timeout = by_entry (entry_refusal g r.member) timeout p

  by_timeout : (o : Option ℕ) → TransitionWithin (n + 1) (join_within o g r place moment)
  by_timeout None = tt
  by_timeout (Some timeout) = by_protocol (chosen_protocol r) timeout

  by_empty : (b : Bool) → TransitionWithin (n + 1) (cond b (Stays codes.InvalidGroupId) (join_within (session_timeout r.session_timeout) g r place moment))
  by_empty true = tt
  by_empty false = by_timeout (session_timeout r.session_timeout)

sync_stays_within : (n : ℕ) (g : Group) (r : SyncGroupRequest) (moment : ℕ) → g.generation ≤ℤ pos n → TransitionWithin n (sync_group g r moment)
unfolding TransitionWithin
sync_stays_within n g r moment is = by_empty (is_empty r.group) where
  by_refusal : (o : Option ErrorCode) → TransitionWithin n (sync_transition o g r moment)
  by_refusal (Some code) = tt
  by_refusal None = is

  by_empty : (b : Bool) → TransitionWithin n (cond b (Stays codes.InvalidGroupId) (sync_transition (member_refusal g r.generation r.member) g r moment))
  by_empty true = tt
  by_empty false = by_refusal (member_refusal g r.generation r.member)

beat_stays_within : (n : ℕ) (g : Group) (r : HeartbeatRequest) (moment : ℕ) → g.generation ≤ℤ pos n → TransitionWithin n (beat_group g r moment)
unfolding TransitionWithin
beat_stays_within n g r moment is = by_empty (is_empty r.group) where
  by_refusal : (o : Option ErrorCode) → TransitionWithin n (beat_transition o g moment)
  by_refusal (Some code) = tt
  by_refusal None = is

  by_empty : (b : Bool) → TransitionWithin n (cond b (Stays codes.InvalidGroupId) (beat_transition (member_refusal g r.generation r.member) g moment))
  by_empty true = tt
  by_empty false = by_refusal (member_refusal g r.generation r.member)

left_transition : Group → GroupTransition (Unit {0})
left_transition g = Puts tt (without_member g)

leave_stays_within : (n : ℕ) (g : Group) (r : LeaveGroupRequest) → g.generation ≤ℤ pos n → TransitionWithin n (leave_group g r)
unfolding TransitionWithin left_transition
leave_stays_within n g r is = by_empty (is_empty r.group) where
  by_member : (b : Bool) → TransitionWithin n (cond b (Stays codes.UnknownMemberId) (left_transition g))
  by_member true = tt
  by_member false = is

  by_empty : (b : Bool) → TransitionWithin n (cond b (Stays codes.InvalidGroupId) (cond (not (is_member g r.member)) (Stays codes.UnknownMemberId) (left_transition g)))
  by_empty true = tt
  by_empty false = by_member (not (is_member g r.member))

commit_transition : (n : ℕ) (g : Group) (generation : ℤ) (member : List ℕ) (o : PartitionOffset) → g.generation ≤ℤ pos n → TransitionWithin n (commit_group g generation member o)
unfolding TransitionWithin
commit_transition n g generation member o is = by_refusal (commit_refusal g generation member) where
  by_refusal : (x : Option ErrorCode) → TransitionWithin n (event_transition x g (Put o))
  by_refusal (Some code) = tt
  by_refusal None = is

stage_transition_within : (n : ℕ) (g : Group) (producer generation : ℤ) (member : List ℕ) (o : PartitionOffset) → g.generation ≤ℤ pos n → TransitionWithin n (stage_group g producer generation member o)
unfolding TransitionWithin
stage_transition_within n g producer generation member o is = by_refusal (stage_refusal g generation member) where
  by_refusal : (x : Option ErrorCode) → TransitionWithin n (event_transition x g (Stage producer o))
  by_refusal (Some code) = tt
  by_refusal None = is

expired_within : (n moment : ℕ) (gs : List Group) → GenerationsWithin n gs → GenerationsWithin n (map (without_lapsed moment) gs)
expired_within n moment [] all = tt
expired_within n moment (g ∷ gs) all = (by_lapse (is_lapsed moment g.member), expired_within n moment gs all.1) where
  by_lapse : (b : Bool) → (cond b (without_member g) g).generation ≤ℤ pos n
  by_lapse true = all.0
  by_lapse false = all.0

-- ---- an OffsetCommit

module _ (rules : Rules) (caller : Caller) (c : Committing) (topics : List TopicValue) (n : ℕ) where
  committed_within : (gs : List Group) (name : List ℕ) (p : OffsetToCommit) (o : Option LogValue) → GenerationsWithin n gs → GenerationsWithin n (groups_by c gs name p o)
  committed_within gs name p None all = all
  committed_within gs name p (Some log) all = turned_within n gs (commit gs c.group c.generation c.member _) all (commit_transition n (group_of gs c.group) c.generation c.member _ (found_within n gs c.group all))

  part_within : (gs : List Group) (name : List ℕ) (p : OffsetToCommit) → GenerationsWithin n gs → GenerationsWithin n (part_world (commit_rule caller c topics) rules gs name p)
  part_within gs name p all = by_refusal (part_refusal rules (commit_questions caller c.group name)) where
    by_refusal : (r : Option Refusal) → GenerationsWithin n (world_by (commit_rule caller c topics) r gs name p)
    by_refusal (Some r) = all
    by_refusal None = committed_within gs name p (log_at topics name p.index) all

  parts_within : (gs : List Group) (name : List ℕ) (ps : List OffsetToCommit) → GenerationsWithin n gs → GenerationsWithin n (parts_world (commit_rule caller c topics) rules gs name ps)
  parts_within gs name [] all = all
  parts_within gs name (p ∷ ps) all = parts_within (part_world (commit_rule caller c topics) rules gs name p) name ps (part_within gs name p all)

  topics_within : (gs : List Group) (ts : List (Topic OffsetToCommit)) → GenerationsWithin n gs → GenerationsWithin n (topics_world (commit_rule caller c topics) rules gs ts)
  topics_within gs [] all = all
  topics_within gs (t ∷ ts) all = topics_within (parts_world (commit_rule caller c topics) rules gs t.name t.partitions) ts (parts_within gs t.name t.partitions all)

-- ---- a TxnOffsetCommit

module _ (rules : Rules) (caller : Caller) (s : Staging) (refusal : Option ErrorCode) (topics : List TopicValue) (n : ℕ) where
  staged_transition_within : (gs : List Group) (o : PartitionOffset) (x : Option ErrorCode) (log : Option LogValue) → GenerationsWithin n gs → TransitionWithin n (transition_by x s gs o log)
  unfolding TransitionWithin
  staged_transition_within gs o x None all = tt
  staged_transition_within gs o (Some code) (Some log) all = tt
  staged_transition_within gs o None (Some log) all = stage_transition_within n (group_of gs s.group) s.pair.producer s.generation s.member o (found_within n gs s.group all)

  staged_part_within : (gs : List Group) (name : List ℕ) (p : OffsetToStage) → GenerationsWithin n gs → GenerationsWithin n (part_world (stage_rule caller s refusal topics) rules gs name p)
  staged_part_within gs name p all = by_refusal (part_refusal rules (stage_questions caller s name)) where
    by_refusal : (r : Option Refusal) → GenerationsWithin n (world_by (stage_rule caller s refusal topics) r gs name p)
    by_refusal (Some r) = all
    by_refusal None = turned_within n gs (stage_transition refusal topics s gs name p) all (staged_transition_within gs (offset_staged name p) refusal (log_at topics name p.index) all)

  staged_parts_within : (gs : List Group) (name : List ℕ) (ps : List OffsetToStage) → GenerationsWithin n gs → GenerationsWithin n (parts_world (stage_rule caller s refusal topics) rules gs name ps)
  staged_parts_within gs name [] all = all
  staged_parts_within gs name (p ∷ ps) all = staged_parts_within (part_world (stage_rule caller s refusal topics) rules gs name p) name ps (staged_part_within gs name p all)

  staged_topics_within : (gs : List Group) (ts : List (Topic OffsetToStage)) → GenerationsWithin n gs → GenerationsWithin n (topics_world (stage_rule caller s refusal topics) rules gs ts)
  staged_topics_within gs [] all = all
  staged_topics_within gs (t ∷ ts) all = staged_topics_within (parts_world (stage_rule caller s refusal topics) rules gs t.name t.partitions) ts (staged_parts_within gs t.name t.partitions all)

-- ---- a marker step

decided_within : (n : ℕ) (gs : List Group) (t : Target) (m : PendingMarker) → GenerationsWithin n gs → GenerationsWithin n (groups_with_decision_at gs t m)
unfolding TransitionWithin
decided_within n gs (targets.Partition p) m all = all
decided_within n gs (targets.Group g) m all = put_within n gs (with_event (Decide m.pair.producer m.outcome) (group_of gs g)) all (found_within n gs g all)

mark_within : (w : World) (n : ℕ) → GenerationsWithin n w.groups → GenerationsWithin n (mark_outcome w).world.groups
mark_within w n all = by_front (next_warrant w.coordinator) where
  by_front : (o : Option PendingMarker) → GenerationsWithin n (mark_by w o).world.groups
  by_front None = all
  by_front (Some m) = decided_within n w.groups m.target m all

-- ---- an event

whole_within : (o : Option Refusal) (w : World) (refused : ErrorCode → Reply) (served : Served) (n : ℕ) → GenerationsWithin n served.world.groups → GenerationsWithin n w.groups → GenerationsWithin n (whole_outcome_by o w refused served).world.groups
whole_within None w refused served n after before = after
whole_within (Some r) w refused served n after before = before

kept_within : (v w : World) (n : ℕ) → v.groups ≡ w.groups → GenerationsWithin n w.groups → GenerationsWithin n v.groups
kept_within v w n same all = subst (GenerationsWithin n) (sym same) all

pub generations_outcome : (w : World) (e : Event) (n : ℕ) → GenerationsWithin n w.groups → GenerationsWithin (n + 1) (outcome w e).world.groups
generations_outcome w e n all = by_event e (generations_weaker n (n + 1) w.groups (omega arith) all) where
  by_event : (e : Event) → GenerationsWithin (n + 1) w.groups → GenerationsWithin (n + 1) (outcome w e).world.groups
  by_event (Ask caller client (Produce r)) more = more
  by_event (Ask caller client (Fetch r)) more = more
  by_event (Ask caller client (ListOffsets r)) more = more
  by_event (Ask caller client (Metadata r)) more = more
  by_event (Ask caller client (OffsetCommit r)) more =
      subst (GenerationsWithin (n + 1)) (woven (committing_rule w caller r) (rules_of w) w.groups r.topics).world (topics_within (rules_of w) caller (committing_of r) w.topics (n + 1) w.groups r.topics more)
  by_event (Ask caller client (OffsetFetch r)) more = kept_within (outcome w (Ask caller client (OffsetFetch r))).world w (n + 1) (ap (λ (v : World). v.groups) (offsets_keep w caller r)) more
  by_event (Ask caller client (FindCoordinator r)) more = whole_within (part_refusal (rules_of w) (find_questions caller (kind_of r.key_type) r.key)) w _ _ (n + 1) more more
  by_event (Ask caller client (JoinGroup r)) more =
      whole_within (part_refusal (rules_of w) (read_question caller r.group ∷ [])) w _ _ (n + 1)
      (turned_within (n + 1) w.groups (join w.groups r w.events w.moment) more (join_stays_within n (group_of w.groups r.group) r w.events w.moment (found_within n w.groups r.group all))) more
  by_event (Ask caller client (Heartbeat r)) more =
      whole_within (part_refusal (rules_of w) (read_question caller r.group ∷ [])) w _ _ (n + 1)
      (turned_within (n + 1) w.groups (beat w.groups r w.moment) more (beat_stays_within (n + 1) (group_of w.groups r.group) r w.moment (found_within (n + 1) w.groups r.group more))) more
  by_event (Ask caller client (LeaveGroup r)) more =
      whole_within (part_refusal (rules_of w) (read_question caller r.group ∷ [])) w _ _ (n + 1)
      (turned_within (n + 1) w.groups (leave w.groups r) more (leave_stays_within (n + 1) (group_of w.groups r.group) r (found_within (n + 1) w.groups r.group more))) more
  by_event (Ask caller client (SyncGroup r)) more =
      whole_within (part_refusal (rules_of w) (read_question caller r.group ∷ [])) w _ _ (n + 1)
      (turned_within (n + 1) w.groups (sync w.groups r w.moment) more (sync_stays_within (n + 1) (group_of w.groups r.group) r w.moment (found_within (n + 1) w.groups r.group more))) more
  by_event (Ask caller client (InitProducerId r)) more = whole_within (part_refusal (rules_of w) (init_questions (rules_of w) caller r.transactional_id)) w _ _ (n + 1) more more
  by_event (Ask caller client (AddPartitionsToTxn r)) more = kept_within (outcome w (Ask caller client (AddPartitionsToTxn r))).world w (n + 1) (add_keeps (λ v. v.groups) (λ v c. refl) w caller r) more
  by_event (Ask caller client (AddOffsetsToTxn r)) more = whole_within (part_refusal (rules_of w) (add_offsets_questions caller r.transactional_id r.group)) w _ _ (n + 1) more more
  by_event (Ask caller client (EndTxn r)) more = whole_within (part_refusal (rules_of w) (end_questions caller r)) w _ _ (n + 1) more more
  by_event (Ask caller client (TxnOffsetCommit r)) more =
      subst (GenerationsWithin (n + 1)) (woven (staging_rule w caller r) (rules_of w) w.groups r.topics).world (staged_topics_within (rules_of w) caller (staging_of r) (staging_refusal w.coordinator (staging_of r)) w.topics (n + 1) w.groups r.topics more)
  by_event (Ask caller client (SaslHandshake r)) more = more
  by_event (Ask caller client ApiVersions) more = more
  by_event (Ask caller client (SaslAuthenticate r)) more = more
  by_event (Ask caller client (DescribeAcls r)) more = whole_within (part_refusal (rules_of w) (describe_acls_questions caller)) w _ _ (n + 1) more more
  by_event (Ask caller client (CreateAcls r)) more = whole_within (part_refusal (rules_of w) (alter_questions caller)) w _ _ (n + 1) more more
  by_event (Ask caller client (DeleteAcls r)) more = whole_within (part_refusal (rules_of w) (alter_questions caller)) w _ _ (n + 1) more more
  by_event Mark more = mark_within w (n + 1) more
  by_event (Tick told) more = expired_within (n + 1) (moment_after w.moment told) w.groups more

pub no_groups : (w : World) (s : Settings) → w ≡ first_world s → GenerationsWithin 0 w.groups
no_groups w s is = subst (λ (v : World). GenerationsWithin 0 v.groups) (sym is) tt
