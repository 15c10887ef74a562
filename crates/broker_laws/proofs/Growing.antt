-- What a group holds stays, and what comes after it comes in one of three ways.
use Rattle.std.proofs.Common.{◌≡◌, ℕ, List, [], ◌∷◌, map, Option, Some, None, Bool, true, false, cond, refl, sym, subst}
use Rattle.std.specs.Prelude.{slice_get}
use Rattle.authorizer.specs.declared.answer.Refusal.{Refusal}
use Rattle.authorizer.specs.Asking.{part_refusal}
use Rattle.wire_types.specs.declared.error_code.ErrorCode.{ErrorCode}
use Rattle.msg_admin.specs.declared.reply.Reply.{Reply}
use Rattle.msg_admin.specs.declared.request.Request.TheVariants.{Produce, Fetch, ListOffsets, Metadata, OffsetCommit, OffsetFetch, FindCoordinator, JoinGroup, Heartbeat, LeaveGroup, SyncGroup, SaslHandshake, ApiVersions, InitProducerId, AddPartitionsToTxn, AddOffsetsToTxn, EndTxn, TxnOffsetCommit, DescribeAcls, CreateAcls, DeleteAcls, SaslAuthenticate}
use Rattle.audit_trail.specs.declared.event.Event.{Event}
use Rattle.audit_trail.specs.declared.event.Event.TheVariants.{Ask, Mark, Tick}
use Rattle.walk.proofs.Weaving.{woven}
use Rattle.txn_coordinator.specs.declared.target.Target.{Target}
use Rattle.txn_coordinator.specs.declared.target.Target.TheVariants.{Partition, Group}
use Rattle.txn_coordinator.specs.declared.marker.PendingMarker.{PendingMarker}
use Rattle.group_offsets.specs.declared.event.OffsetEvent.{OffsetEvent}
use Rattle.group_offsets.specs.declared.event.OffsetEvent.TheVariants.{Decide}
use Rattle.group_offsets.specs.Group.{without_lapsed}
use Rattle.txn_laws.specs.Sound.{Each}
use Rattle.broker_world.specs.World.{World, rules_of}
use Rattle.broker_world.specs.Whole.{Served, whole_outcome_by}
use Rattle.broker_world.specs.Questions.{read_question}
use Rattle.group_handlers.specs.Members.{served_join, served_sync, served_heartbeat, served_leave}
use Rattle.group_handlers.specs.FindCoordinator.{kind_of, find_questions}
use Rattle.txn_handlers.specs.InitProducerId.{init_questions, served_init}
use Rattle.txn_handlers.specs.AddPartitions.{is_cut, cut_outcome, added_outcome}
use Rattle.txn_handlers.specs.AddOffsets.{add_offsets_questions, served_add_offsets}
use Rattle.txn_handlers.specs.EndTxn.{served_end, end_questions}
use Rattle.group_handlers.specs.OffsetCommit.{committing_rule}
use Rattle.txn_handlers.specs.TxnOffsetCommit.{staging_rule}
use Rattle.acl_handlers.specs.DescribeAcls.{describe_acls_questions}
use Rattle.acl_handlers.specs.CreateAcls.{alter_questions}
use Rattle.txn_handlers.specs.Marks.{groups_with_decision_at, mark_by}
use Rattle.broker_world.specs.Clock.{moment_after}
use Rattle.api_dispatch.specs.Step.{step, world_after_events}
use Rattle.api_dispatch.proofs.Wholes.{offsets_keep}
use Rattle.broker_laws.specs.Laws.{ComesBy, GroupsGoOn}
use Rattle.broker_laws.proofs.Offsets.{join_keeps, sync_keeps, beat_keeps, leave_keeps, expiry_keeps}
use Rattle.broker_laws.proofs.Noted.{GoOn, go_same, go_kept, go_joined, go_noted, go_commits, go_stages}

-- ---- an event

-- each group goes on by what comes by the event
abbrev Goes : World → Event → World → Type 0
Goes w e v = GoOn (ComesBy w e) w.groups v.groups

unchanged : (w : World) (e : Event) → Goes w e w
unchanged w e = go_same (ComesBy w e) w.groups

unless_refused : (o : Option Refusal) (w : World) (e : Event) (refused : ErrorCode → Reply) (served : Served) → Goes w e served.world → Goes w e (whole_outcome_by o w refused served).world
unless_refused None w e refused served h = h
unless_refused (Some x) w e refused served h = unchanged w e

decides : (w : World) (target : Target) (m : PendingMarker) → m.target ≡ target → slice_get w.coordinator.warrants 0 ≡ Some m → GoOn (ComesBy w Mark) w.groups (groups_with_decision_at w.groups target m)
decides w (Partition p) m at front = unchanged w Mark
decides w (Group g) m at front =
    go_noted (ComesBy w Mark) w.groups g (Decide m.pair.producer m.outcome) None
    (record { event = refl; marker = m; front = front; target = at; by = refl; ends = refl })

mark_goes : (w : World) (front : Option PendingMarker) → slice_get w.coordinator.warrants 0 ≡ front → GoOn (ComesBy w Mark) w.groups (mark_by w front).world.groups
mark_goes w None e = unchanged w Mark
mark_goes w (Some m) e = decides w m.target m refl e

step_goes : (w : World) (e : Event) → Goes w e (step w e)
step_goes w (Ask caller client (Produce r)) = unchanged w (Ask caller client (Produce r))
step_goes w (Ask caller client (Fetch r)) = unchanged w (Ask caller client (Fetch r))
step_goes w (Ask caller client (ListOffsets r)) = unchanged w (Ask caller client (ListOffsets r))
step_goes w (Ask caller client (Metadata r)) = unchanged w (Ask caller client (Metadata r))
step_goes w (Ask caller client (OffsetCommit r)) =
    let e = Ask caller client (OffsetCommit r) in
    subst (GoOn (ComesBy w e) w.groups) (woven (committing_rule w caller r) (rules_of w) w.groups r.topics).world
    (go_commits (ComesBy w e) w caller r (λ o. record { caller = caller; client = client; request = r; event = refl; group = refl }))
step_goes w (Ask caller client (OffsetFetch r)) = subst (λ (v : World). GoOn (ComesBy w (Ask caller client (OffsetFetch r))) w.groups v.groups) (sym (offsets_keep w caller r)) (unchanged w (Ask caller client (OffsetFetch r)))
step_goes w (Ask caller client (FindCoordinator r)) =
    let e = Ask caller client (FindCoordinator r) in unless_refused (part_refusal (rules_of w) (find_questions caller (kind_of r.key_type) r.key)) w e _ _ (unchanged w e)
step_goes w (Ask caller client (JoinGroup r)) =
    let e = Ask caller client (JoinGroup r) in
    unless_refused (part_refusal (rules_of w) (read_question caller r.group ∷ [])) w e _ (served_join w r) (go_kept (ComesBy w e) w.groups (served_join w r).world.groups (join_keeps w.groups r w.events w.moment))
step_goes w (Ask caller client (Heartbeat r)) =
    let e = Ask caller client (Heartbeat r) in
    unless_refused (part_refusal (rules_of w) (read_question caller r.group ∷ [])) w e _ (served_heartbeat w r) (go_kept (ComesBy w e) w.groups (served_heartbeat w r).world.groups (beat_keeps w.groups r w.moment))
step_goes w (Ask caller client (LeaveGroup r)) =
    let e = Ask caller client (LeaveGroup r) in
    unless_refused (part_refusal (rules_of w) (read_question caller r.group ∷ [])) w e _ (served_leave w r) (go_kept (ComesBy w e) w.groups (served_leave w r).world.groups (leave_keeps w.groups r))
step_goes w (Ask caller client (SyncGroup r)) =
    let e = Ask caller client (SyncGroup r) in
    unless_refused (part_refusal (rules_of w) (read_question caller r.group ∷ [])) w e _ (served_sync w r) (go_kept (ComesBy w e) w.groups (served_sync w r).world.groups (sync_keeps w.groups r w.moment))
step_goes w (Ask caller client (InitProducerId r)) =
    let e = Ask caller client (InitProducerId r) in unless_refused (part_refusal (rules_of w) (init_questions (rules_of w) caller r.transactional_id)) w e _ (served_init w r) (unchanged w e)
step_goes w (Ask caller client (AddPartitionsToTxn r)) = by_cut (is_cut caller r.transactional_id w.topics (rules_of w) r.topics) where
  by_cut : (b : Bool) → Goes w (Ask caller client (AddPartitionsToTxn r)) (cond b (cut_outcome w caller r) (added_outcome w r)).world
  by_cut true = unchanged w (Ask caller client (AddPartitionsToTxn r))
  by_cut false = unchanged w (Ask caller client (AddPartitionsToTxn r))
step_goes w (Ask caller client (AddOffsetsToTxn r)) =
    let e = Ask caller client (AddOffsetsToTxn r) in unless_refused (part_refusal (rules_of w) (add_offsets_questions caller r.transactional_id r.group)) w e _ (served_add_offsets w r) (unchanged w e)
step_goes w (Ask caller client (EndTxn r)) = let e = Ask caller client (EndTxn r) in unless_refused (part_refusal (rules_of w) (end_questions caller r)) w e _ (served_end w r) (unchanged w e)
step_goes w (Ask caller client (TxnOffsetCommit r)) =
    let e = Ask caller client (TxnOffsetCommit r) in
    subst (GoOn (ComesBy w e) w.groups) (woven (staging_rule w caller r) (rules_of w) w.groups r.topics).world
    (go_stages (ComesBy w e) w caller r (λ held o. record { caller = caller; client = client; request = r; event = refl; group = refl; by = refl; held = held }))
step_goes w (Ask caller client (SaslHandshake r)) = unchanged w (Ask caller client (SaslHandshake r))
step_goes w (Ask caller client ApiVersions) = unchanged w (Ask caller client ApiVersions)
step_goes w (Ask caller client (SaslAuthenticate r)) = unchanged w (Ask caller client (SaslAuthenticate r))
step_goes w (Ask caller client (DescribeAcls r)) = let e = Ask caller client (DescribeAcls r) in unless_refused (part_refusal (rules_of w) (describe_acls_questions caller)) w e _ _ (unchanged w e)
step_goes w (Ask caller client (CreateAcls r)) = let e = Ask caller client (CreateAcls r) in unless_refused (part_refusal (rules_of w) (alter_questions caller)) w e _ _ (unchanged w e)
step_goes w (Ask caller client (DeleteAcls r)) = let e = Ask caller client (DeleteAcls r) in unless_refused (part_refusal (rules_of w) (alter_questions caller)) w e _ _ (unchanged w e)
step_goes w Mark = mark_goes w (slice_get w.coordinator.warrants 0) refl
step_goes w (Tick told) = go_kept (ComesBy w (Tick told)) w.groups (map (without_lapsed (moment_after w.moment told)) w.groups) (expiry_keeps w.groups (moment_after w.moment told))

-- ---- the law

pub groups_go_on : GroupsGoOn step
groups_go_on w e g = let h = step_goes w e g in record { more = h.more; events = h.events; ways = h.ways }

-- ---- events

-- whatever comes
abbrev pub Anything : List ℕ → OffsetEvent → Type 0
Anything g e = Unit {0}

anything : (es : List OffsetEvent) → Each (λ e. Unit {0}) es
anything [] = tt
anything (e ∷ es) = (tt, anything es)

pub reached_goes : (w : World) (es : List Event) → GoOn Anything w.groups (world_after_events w es).groups
reached_goes w [] = go_same Anything w.groups
reached_goes w (e ∷ es) = go_joined Anything w.groups (step w e).groups (world_after_events (step w e) es).groups once (reached_goes (step w e) es) where
  once : GoOn Anything w.groups (step w e).groups
  once g = let h = step_goes w e g in record { more = h.more; events = h.events; ways = anything h.more }
