-- What each event makes of the member of a group.
use Rattle.std.proofs.Common.{◌≡◌, ◌⊎◌, inl, inr, ℕ, ◌+◌, ◌<◌, pos, List, [], ◌∷◌, map, Option, Some, None, Ok, Err, Bool, true, false, cond, refl, sym, ap, subst, ◌∙◌}
use Rattle.std.specs.Prelude.{unwrap_or}
use Rattle.std.specs.Option.{option_map}
use Rattle.std.specs.Str.{bytes_eq}
use Rattle.std.proofs.lemmas.Bool.{true≢false, ltb-true, lt-ltb}
use Rattle.acl_binding.specs.declared.question.Caller.{Caller}
use Rattle.authorizer.specs.declared.answer.Refusal.{Refusal}
use Rattle.authorizer.specs.Asking.{part_refusal}
use Rattle.wire_types.specs.declared.error_code.ErrorCode.{ErrorCode}
use Rattle.wire_types.specs.declared.error_code.ErrorCode.TheVariants as errors
use Rattle.wire_types.specs.ErrorCode.{number_of}
use Rattle.msg_group.specs.declared.join_group.JoinGroupRequest.{JoinGroupRequest}
use Rattle.msg_group.specs.declared.join_group.JoinGroupReply.{JoinGroupReply}
use Rattle.msg_group.specs.declared.join_group.OfferedProtocol.{OfferedProtocol}
use Rattle.msg_group.specs.declared.sync_group.SyncGroupRequest.{SyncGroupRequest}
use Rattle.msg_group.specs.declared.sync_group.SyncGroupReply.{SyncGroupReply}
use Rattle.msg_group.specs.declared.heartbeat.HeartbeatRequest.{HeartbeatRequest}
use Rattle.msg_group.specs.declared.heartbeat.HeartbeatReply.{HeartbeatReply}
use Rattle.msg_group.specs.declared.leave_group.LeaveGroupRequest.{LeaveGroupRequest}
use Rattle.msg_group.specs.declared.leave_group.LeaveGroupReply.{LeaveGroupReply}
use Rattle.msg_group.specs.declared.offset_commit.OffsetCommitRequest.{OffsetCommitRequest}
use Rattle.msg_group.specs.declared.offset_commit.OffsetToCommit.{OffsetToCommit}
use Rattle.msg_txn.specs.declared.txn_offset_commit.TxnOffsetCommitRequest.{TxnOffsetCommitRequest}
use Rattle.msg_admin.specs.declared.reply.Reply.{Reply}
use Rattle.msg_admin.specs.declared.reply.Reply.TheVariants as replies
use Rattle.msg_admin.specs.declared.request.Request.TheVariants.{Produce, Fetch, ListOffsets, Metadata, OffsetCommit, OffsetFetch, FindCoordinator, JoinGroup, Heartbeat, LeaveGroup, SyncGroup, SaslHandshake, ApiVersions, InitProducerId, AddPartitionsToTxn, AddOffsetsToTxn, EndTxn, TxnOffsetCommit, DescribeAcls, CreateAcls, DeleteAcls, SaslAuthenticate}
use Rattle.audit_trail.specs.declared.event.Event.{Event}
use Rattle.audit_trail.specs.declared.event.Event.TheVariants.{Ask, Mark, Tick}
use Rattle.walk.specs.Codes.{refusal_code}
use Rattle.walk.specs.Steps.{topics_world}
use Rattle.walk.proofs.Weaving.{woven}
use Rattle.txn_coordinator.specs.declared.target.Target.{Target}
use Rattle.txn_coordinator.specs.declared.target.Target.TheVariants as targets
use Rattle.txn_coordinator.specs.declared.marker.PendingMarker.{PendingMarker}
use Rattle.txn_coordinator.specs.Warrants.{next_warrant}
use Rattle.group_offsets.specs.declared.event.PartitionOffset.{PartitionOffset}
use Rattle.group_offsets.specs.declared.event.OffsetEvent.{OffsetEvent}
use Rattle.group_offsets.specs.declared.event.OffsetEvent.TheVariants.{Put, Stage, Decide}
use Rattle.group_offsets.specs.declared.group.Group.{Group}
use Rattle.group_offsets.specs.declared.member.Member.{Member}
use Rattle.group_offsets.specs.declared.member.Joined.{Joined}
use Rattle.group_offsets.specs.GroupTransition.{GroupTransition, answer_of, group_after}
use Rattle.group_offsets.specs.Group.{fresh_group, heard_at, given_to, assignment_of, without_member, is_lapsed, without_lapsed, with_event, event_transition, commit_refusal, stage_refusal, member_refusal}
use Rattle.group_offsets.specs.Joining.{session_timeout, chosen_protocol, entry_refusal, member_id, with_member, welcome}
use Rattle.group_offsets.specs.Groups.{find_group, group_of, groups_after, join, sync, beat, leave}
use Rattle.group_offsets.proofs.Apart.{name_of, find_expired}
use Rattle.broker_world.specs.World.{World, LogValue, rules_of}
use Rattle.broker_world.specs.Logs.{log_at}
use Rattle.broker_world.specs.Whole.{Served, whole_outcome_by}
use Rattle.broker_world.specs.Questions.{read_question}
use Rattle.broker_world.specs.Codes.{code_in}
use Rattle.broker_world.specs.Clock.{moment_after}
use Rattle.group_handlers.specs.Members.{join_welcome, join_error, join_reply, served_join, sync_reply, served_sync, beat_reply, served_heartbeat, leave_reply, served_leave as left_by}
use Rattle.group_handlers.specs.FindCoordinator.{kind_of, find_questions}
use Rattle.group_handlers.specs.OffsetCommit.{Committing, committing_of, offset_of, groups_by, committing_rule}
use Rattle.txn_handlers.specs.InitProducerId.{init_questions, served_init}
use Rattle.txn_handlers.specs.AddPartitions.{is_cut, cut_outcome, added_outcome}
use Rattle.txn_handlers.specs.AddOffsets.{add_offsets_questions, served_add_offsets}
use Rattle.txn_handlers.specs.EndTxn.{served_end, end_questions}
use Rattle.txn_handlers.specs.TxnOffsetCommit.{Staging, staging_of, offset_staged, transition_by, staging_refusal, staging_rule}
use Rattle.txn_handlers.specs.Marks.{groups_with_decision_at, mark_by}
use Rattle.acl_handlers.specs.DescribeAcls.{describe_acls_questions}
use Rattle.acl_handlers.specs.CreateAcls.{alter_questions}
use Rattle.api_dispatch.specs.Step.{step, reply_to}
use Rattle.api_dispatch.proofs.Wholes.{offsets_keep}
use Rattle.broker_laws.specs.Members.{group_in, IsMember, IsJoin, IsSync, IsBeat, IsLeave, IsLapse, MayChange, ComesNew, ComesBack, Joins, IsHeardOf, IsGiven, Syncs, Beats, IsLeft, Leaves, IsAsBefore, MembersGo}
use Rattle.broker_laws.proofs.Offsets.{text_is}
use Rattle.broker_laws.proofs.Walks.{walk_goes}
use Rattle.broker_laws.proofs.Passing.{never_none}
use Rattle.broker_laws.proofs.Turning.{zero_is, none_zero, own_is, put_group, KeepsName, transition_own, transition_other, IsTurnedAway, Entrant, New, Back, entrant_is, timeout_is, chosen_is, Enters, join_view, given_is, IsSynced, sync_view, IsBeaten, beat_view, HasLeft, leave_view}

-- ---- what stays

pub as_before : (g : Group) → IsAsBefore g g
as_before g = record { member = refl; generation = refl; assignment = refl }

same_group : (old new : Group) → new ≡ old → IsAsBefore old new
same_group old new same = record { member = ap (λ (g : Group). g.member) same; generation = ap (λ (g : Group). g.generation) same; assignment = ap (λ (g : Group). g.assignment) same }

pub before_joined : (u v x : Group) → IsAsBefore u v → IsAsBefore v x → IsAsBefore u x
before_joined u v x a b = record { member = b.member ∙ a.member; generation = b.generation ∙ a.generation; assignment = b.assignment ∙ a.assignment }

-- in each group
abbrev pub AllAsBefore : List Group → List Group → Type 0
AllAsBefore old new = (g : List ℕ) → IsAsBefore (group_of old g) (group_of new g)

pub all_same : (gs : List Group) → AllAsBefore gs gs
all_same gs g = as_before (group_of gs g)

all_joined : (us vs ws : List Group) → AllAsBefore us vs → AllAsBefore vs ws → AllAsBefore us ws
all_joined us vs ws a b g = before_joined (group_of us g) (group_of vs g) (group_of ws g) (a g) (b g)

-- an offset event leaves the members as they are
pub all_noted : (gs : List Group) (name : List ℕ) (e : OffsetEvent) (refusal : Option ErrorCode) → AllAsBefore gs (groups_after gs (event_transition refusal (group_of gs name) e))
all_noted gs name e (Some code) g = as_before (group_of gs g)
all_noted gs name e None g =
    subst (IsAsBefore (group_of gs g)) (sym (put_group gs (with_event e (group_of gs name)) name g (name_of gs name))) (by_name (bytes_eq name g) refl) where
      by_name : (b : Bool) → bytes_eq name g ≡ b → IsAsBefore (group_of gs g) (cond b (with_event e (group_of gs name)) (group_of gs g))
      by_name true same = subst (λ (n : List ℕ). IsAsBefore (group_of gs n) (with_event e (group_of gs name))) (text_is name g same) (record { member = refl; generation = refl; assignment = refl })
      by_name false same = as_before (group_of gs g)

all_committed : (c : Committing) (gs : List Group) (name : List ℕ) (p : OffsetToCommit) (o : Option LogValue) → AllAsBefore gs (groups_by c gs name p o)
all_committed c gs name p None = all_same gs
all_committed c gs name p (Some log) = all_noted gs c.group (Put (offset_of name p)) (commit_refusal (group_of gs c.group) c.generation c.member)

pub all_commits : (w : World) (caller : Caller) (r : OffsetCommitRequest) → AllAsBefore w.groups (topics_world (committing_rule w caller r) (rules_of w) w.groups r.topics)
all_commits w caller r =
    walk_goes (committing_rule w caller r) (rules_of w) AllAsBefore all_same all_joined (λ gs name p. all_committed (committing_of r) gs name p (log_at w.topics name p.index)) w.groups r.topics

all_staged : (s : Staging) (gs : List Group) (o : PartitionOffset) (found : Option LogValue) (refusal : Option ErrorCode) → AllAsBefore gs (groups_after gs (transition_by refusal s gs o found))
all_staged s gs o None refusal = all_same gs
all_staged s gs o (Some log) (Some code) = all_same gs
all_staged s gs o (Some log) None = all_noted gs s.group (Stage s.pair.producer o) (stage_refusal (group_of gs s.group) s.generation s.member)

pub all_stages : (w : World) (caller : Caller) (r : TxnOffsetCommitRequest) → AllAsBefore w.groups (topics_world (staging_rule w caller r) (rules_of w) w.groups r.topics)
all_stages w caller r =
    walk_goes (staging_rule w caller r) (rules_of w) AllAsBefore all_same all_joined
    (λ gs name p. all_staged (staging_of r) gs (offset_staged name p) (log_at w.topics name p.index) (staging_refusal w.coordinator (staging_of r)))
    w.groups r.topics

all_decided : (w : World) (target : Target) (m : PendingMarker) → AllAsBefore w.groups (groups_with_decision_at w.groups target m)
all_decided w (targets.Partition p) m = all_same w.groups
all_decided w (targets.Group g) m = all_noted w.groups g (Decide m.pair.producer m.outcome) None

all_marked : (w : World) (front : Option PendingMarker) → AllAsBefore w.groups (mark_by w front).world.groups
all_marked w None = all_same w.groups
all_marked w (Some m) = all_decided w m.target m

-- ---- a call of a member

-- it is told no error, by the permissions and by the transition, or leaves the group as it was
call_acts : {A : Type 0} (w : World) (o : Option Refusal) (refused : ErrorCode → Reply) (served : Served) (name g : List ℕ) (t : GroupTransition A) (Told : Reply → Type 0) → served.world.groups ≡ groups_after w.groups t
    → KeepsName (group_of w.groups name) t → IsTurnedAway t ⊎ Told served.reply
    → (Told (whole_outcome_by o w refused served).reply × (name ≡ g)) ⊎ IsAsBefore (group_of w.groups g) (group_of (whole_outcome_by o w refused served).world.groups g)
call_acts w (Some x) refused served name g t Told is named told = inr (as_before (group_of w.groups g))
call_acts w None refused served name g t Told is named (inl away) =
    inr (same_group (group_of w.groups g) (group_of served.world.groups g) (ap (λ (gs : List Group). group_of gs g) (is ∙ ap (groups_after w.groups) away.is)))
call_acts w None refused served name g t Told is named (inr told) = by_name (bytes_eq name g) refl where
  by_name : (b : Bool) → bytes_eq name g ≡ b → (Told served.reply × (name ≡ g)) ⊎ IsAsBefore (group_of w.groups g) (group_of served.world.groups g)
  by_name true e = inl (told, text_is name g e)
  by_name false e = inr (same_group (group_of w.groups g) (group_of served.world.groups g) (ap (λ (gs : List Group). group_of gs g) is ∙ transition_other w.groups name g t named e))

-- where it is told no error, the group is what the transition leaves
call_leaves : {A : Type 0} (w : World) (o : Option Refusal) (refused : ErrorCode → Reply) (served : Served) (name : List ℕ) (t : GroupTransition A) (Told : Reply → Type 0) (Law : Group → Type 0) → served.world.groups ≡ groups_after w.groups t
    → KeepsName (group_of w.groups name) t → ((code : ErrorCode) → (code ≡ errors.None → ⊥) → Told (refused code) → ⊥) → (Told served.reply → Law (group_after (group_of w.groups name) t))
    → Told (whole_outcome_by o w refused served).reply → Law (group_of (whole_outcome_by o w refused served).world.groups name)
call_leaves w (Some x) refused served name t Told Law is named error law told = absurd (error (refusal_code x) (never_none x.question.kind) told)
call_leaves w None refused served name t Told Law is named error law told =
    subst Law (sym (ap (λ (gs : List Group). group_of gs name) is ∙ transition_own w.groups name t named)) (law told)

-- ---- JoinGroup

who_is : (w : World) (g : Group) (r : JoinGroupRequest) (p : OfferedProtocol) → Entrant g w.events r.member (member_id r.member w.events)
    → ComesNew w g r (join_welcome (welcome g r.member w.events p)) ⊎ ComesBack g r (join_welcome (welcome g r.member w.events p))
who_is w g r p (New nameless no_member named) = inl (record { nameless = nameless; no_member = no_member; named = named })
who_is w g r p (Back names was named) = inr (record { names = names; was = was; named = named })

entered_joins : (w : World) (g : Group) (r : JoinGroupRequest) (timeout : ℕ) (p : OfferedProtocol) → session_timeout r.session_timeout ≡ Some timeout → chosen_protocol r ≡ Some p → entry_refusal g r.member ≡ None
    → Joins w g (with_member (member_id r.member w.events) timeout g w.moment) r (join_welcome (welcome g r.member w.events p))
entered_joins w g r timeout p lasts offers unrefused =
    let within = timeout_is r.session_timeout timeout lasts in
    let offered = chosen_is r p offers in
    record {
      who = who_is w g r p (entrant_is g w.events r.member unrefused);
      member = record { id = member_id r.member w.events; session_timeout = timeout; heard = w.moment };
      has = refl;
      named = refl;
      heard = refl;
      timeout = within.0;
      least = within.1;
      most = within.2;
      raised = refl;
      told = refl;
      awaited = refl;
      leads = refl;
      typed = offered.0;
      protocol = p;
      first = offered.1;
      chosen = refl;
      alone = refl;
    }

join_keeps_name : (g : Group) (r : JoinGroupRequest) (place moment : ℕ) (t : GroupTransition Joined) → IsTurnedAway t ⊎ Enters g r place moment t → KeepsName g t
join_keeps_name g r place moment t (inl away) = ap (λ (x : GroupTransition Joined). (group_after g x).name) away.is
join_keeps_name g r place moment t (inr enters) = ap (λ (x : GroupTransition Joined). (group_after g x).name) enters.is

-- a JoinGroup that is answered so, without an error
abbrev JoinTold : JoinGroupReply → Reply → Type 0
JoinTold x reply = (reply ≡ replies.JoinGroup x) × (number_of x.error ≡ pos 0)

pub join_same : (x y : JoinGroupReply) → replies.JoinGroup x ≡ replies.JoinGroup y → x ≡ y
join_same x y h = cc

join_turns : (w : World) (r : JoinGroupRequest) (x : JoinGroupReply) (t : GroupTransition Joined) → IsTurnedAway t ⊎ Enters (group_of w.groups r.group) r w.events w.moment t
    → JoinTold x (replies.JoinGroup (join_reply (answer_of t) r)) → Joins w (group_of w.groups r.group) (group_after (group_of w.groups r.group) t) r x
join_turns w r x t (inl away) told =
    let same = join_same (join_reply (answer_of t) r) x told.0 in
    let error : away.code ≡ x.error = ap (λ (u : GroupTransition Joined). (join_reply (answer_of u) r).error) (sym away.is) ∙ ap (λ (y : JoinGroupReply). y.error) same in
    absurd (away.error (error ∙ zero_is x.error told.1))
join_turns w r x t (inr enters) told =
    let g = group_of w.groups r.group in
    let same : join_welcome (welcome g r.member w.events enters.protocol) ≡ x = ap (λ (u : GroupTransition Joined). join_reply (answer_of u) r) (sym enters.is) ∙ join_same (join_reply (answer_of t) r) x told.0 in
    let after : with_member (member_id r.member w.events) enters.timeout g w.moment ≡ group_after g t = ap (group_after g) (sym enters.is) in
    subst (λ (new : Group). Joins w g new r x) after
    (subst (λ (y : JoinGroupReply). Joins w g (with_member (member_id r.member w.events) enters.timeout g w.moment) r y) same
    (entered_joins w g r enters.timeout enters.protocol enters.lasts enters.offers enters.unrefused))

join_error_told : (r : JoinGroupRequest) (x : JoinGroupReply) (code : ErrorCode) → (code ≡ errors.None → ⊥) → JoinTold x (replies.JoinGroup (join_error code r)) → ⊥
join_error_told r x code error told = error (ap (λ (y : JoinGroupReply). y.error) (join_same (join_error code r) x told.0) ∙ zero_is x.error told.1)

join_at : (w : World) (caller : Caller) (client : Option (List ℕ)) (r : JoinGroupRequest) (x : JoinGroupReply) → reply_to w (Ask caller client (JoinGroup r)) ≡ replies.JoinGroup x → number_of x.error ≡ pos 0
    → Joins w (group_in w r.group) (group_in (step w (Ask caller client (JoinGroup r))) r.group) r x
join_at w caller client r x answer zero =
    let g = group_of w.groups r.group in
    let t = join w.groups r w.events w.moment in
    let view = join_view g r w.events w.moment in
    call_leaves w (part_refusal (rules_of w) (read_question caller r.group ∷ [])) (λ code. replies.JoinGroup (join_error code r)) (served_join w r) r.group t (JoinTold x) (λ new. Joins w g new r x) refl
    (join_keeps_name g r w.events w.moment t view) (join_error_told r x) (join_turns w r x t view) (answer, zero)

join_is : (w : World) (e : Event) (g : List ℕ) (j : IsJoin reply_to w e g) → Joins w (group_in w g) (group_in (step w e) g) j.request j.reply
join_is w e g j =
    subst (λ (x : Event). Joins w (group_in w g) (group_in (step w x) g) j.request j.reply) (sym j.event)
    (subst (λ (n : List ℕ). Joins w (group_in w n) (group_in (step w (Ask j.caller j.client (JoinGroup j.request))) n) j.request j.reply) j.group
    (join_at w j.caller j.client j.request j.reply (subst (λ (x : Event). reply_to w x ≡ replies.JoinGroup j.reply) j.event j.answer) j.no_error))

-- a JoinGroup that is answered without an error
abbrev JoinNoted : Reply → Type 0
JoinNoted reply = (x : JoinGroupReply) × (reply ≡ replies.JoinGroup x) × (number_of x.error ≡ pos 0)

join_noted : (g : Group) (r : JoinGroupRequest) (place moment : ℕ) (t : GroupTransition Joined) → IsTurnedAway t ⊎ Enters g r place moment t → IsTurnedAway t ⊎ JoinNoted (replies.JoinGroup (join_reply (answer_of t) r))
join_noted g r place moment t (inl away) = inl away
join_noted g r place moment t (inr enters) =
    inr (join_welcome (welcome g r.member place enters.protocol), ap (λ (u : GroupTransition Joined). replies.JoinGroup (join_reply (answer_of u) r)) enters.is, none_zero)

join_acts : (w : World) (caller : Caller) (client : Option (List ℕ)) (r : JoinGroupRequest) (g : List ℕ)
    → MayChange step reply_to w (Ask caller client (JoinGroup r)) g ⊎ IsAsBefore (group_in w g) (group_in (step w (Ask caller client (JoinGroup r))) g)
join_acts w caller client r g =
    let old = group_of w.groups r.group in
    let t = join w.groups r w.events w.moment in
    let view = join_view old r w.events w.moment in
    by (call_acts w (part_refusal (rules_of w) (read_question caller r.group ∷ [])) (λ code. replies.JoinGroup (join_error code r)) (served_join w r) r.group g t JoinNoted refl
    (join_keeps_name old r w.events w.moment t view) (join_noted old r w.events w.moment t view)) where
      by : (JoinNoted (reply_to w (Ask caller client (JoinGroup r))) × (r.group ≡ g)) ⊎ IsAsBefore (group_in w g) (group_in (step w (Ask caller client (JoinGroup r))) g)
          → MayChange step reply_to w (Ask caller client (JoinGroup r)) g ⊎ IsAsBefore (group_in w g) (group_in (step w (Ask caller client (JoinGroup r))) g)
      by (inl told) = inl (inl (record { caller = caller; client = client; request = r; reply = told.0.0; event = refl; group = told.1; answer = told.0.1; no_error = told.0.2 }))
      by (inr same) = inr same

-- ---- whom a call was heard of

heard_is : (w : World) (g new : Group) (id : List ℕ) → IsMember g id → new.member ≡ (heard_at w.moment g).member → IsHeardOf w g new
heard_is w g new id is e = record {
  before = is.member;
  after = record (is.member) { heard = w.moment };
  had = is.has;
  has = e ∙ ap (option_map (λ (m : Member). record m { heard = w.moment })) is.has;
  same = refl;
  timeout = refl;
  heard = refl;
}

-- ---- SyncGroup

abbrev sync_put : Group → SyncGroupRequest → ℕ → Group
sync_put g r moment = record (heard_at moment g) { assignment = Some (assignment_of g r) }

assigned_stays : (g : Group) (r : SyncGroupRequest) (a : List ℕ) → g.assignment ≡ Some a → assignment_of g r ≡ a
assigned_stays g r a e = ap (λ (o : Option (List ℕ)). unwrap_or o (given_to r.member r.assignments)) e

assigned_brought : (g : Group) (r : SyncGroupRequest) → g.assignment ≡ None → given_to r.member r.assignments ≡ assignment_of g r
assigned_brought g r e = sym (ap (λ (o : Option (List ℕ)). unwrap_or o (given_to r.member r.assignments)) e)

synced_is : (w : World) (g : Group) (r : SyncGroupRequest) → member_refusal g r.generation r.member ≡ None → Syncs w g (sync_put g r w.moment) r (sync_reply (Ok (assignment_of g r)))
synced_is w g r unrefused =
    let own = own_is g r.generation r.member unrefused in
    record {
      by = own;
      heard = heard_is w g (sync_put g r w.moment) r.member own.is refl;
      generation = refl;
      stored = refl;
      stays = λ a e. assigned_stays g r a e;
      brought = λ e. subst (IsGiven r.member r.assignments) (assigned_brought g r e) (given_is r.member r.assignments);
    }

sync_keeps_name : (g : Group) (r : SyncGroupRequest) (moment : ℕ) (t : GroupTransition (List ℕ)) → IsTurnedAway t ⊎ IsSynced g r moment t → KeepsName g t
sync_keeps_name g r moment t (inl away) = ap (λ (x : GroupTransition (List ℕ)). (group_after g x).name) away.is
sync_keeps_name g r moment t (inr synced) = ap (λ (x : GroupTransition (List ℕ)). (group_after g x).name) synced.is

abbrev SyncTold : SyncGroupReply → Reply → Type 0
SyncTold x reply = (reply ≡ replies.SyncGroup x) × (number_of x.error ≡ pos 0)

pub sync_same : (x y : SyncGroupReply) → replies.SyncGroup x ≡ replies.SyncGroup y → x ≡ y
sync_same x y h = cc

sync_turns : (w : World) (r : SyncGroupRequest) (x : SyncGroupReply) (t : GroupTransition (List ℕ)) → IsTurnedAway t ⊎ IsSynced (group_of w.groups r.group) r w.moment t
    → SyncTold x (replies.SyncGroup (sync_reply (answer_of t))) → Syncs w (group_of w.groups r.group) (group_after (group_of w.groups r.group) t) r x
sync_turns w r x t (inl away) told =
    let same = sync_same (sync_reply (answer_of t)) x told.0 in
    let error : away.code ≡ x.error = ap (λ (u : GroupTransition (List ℕ)). (sync_reply (answer_of u)).error) (sym away.is) ∙ ap (λ (y : SyncGroupReply). y.error) same in
    absurd (away.error (error ∙ zero_is x.error told.1))
sync_turns w r x t (inr synced) told =
    let g = group_of w.groups r.group in
    let same : sync_reply (Ok (assignment_of g r)) ≡ x = ap (λ (u : GroupTransition (List ℕ)). sync_reply (answer_of u)) (sym synced.is) ∙ sync_same (sync_reply (answer_of t)) x told.0 in
    let after : sync_put g r w.moment ≡ group_after g t = ap (group_after g) (sym synced.is) in
    subst (λ (new : Group). Syncs w g new r x) after
    (subst (λ (y : SyncGroupReply). Syncs w g (sync_put g r w.moment) r y) same (synced_is w g r synced.unrefused))

sync_error_told : (x : SyncGroupReply) (code : ErrorCode) → (code ≡ errors.None → ⊥) → SyncTold x (replies.SyncGroup (sync_reply (Err code))) → ⊥
sync_error_told x code error told = error (ap (λ (y : SyncGroupReply). y.error) (sync_same (sync_reply (Err code)) x told.0) ∙ zero_is x.error told.1)

sync_at : (w : World) (caller : Caller) (client : Option (List ℕ)) (r : SyncGroupRequest) (x : SyncGroupReply) → reply_to w (Ask caller client (SyncGroup r)) ≡ replies.SyncGroup x → number_of x.error ≡ pos 0
    → Syncs w (group_in w r.group) (group_in (step w (Ask caller client (SyncGroup r))) r.group) r x
sync_at w caller client r x answer zero =
    let g = group_of w.groups r.group in
    let t = sync w.groups r w.moment in
    let view = sync_view g r w.moment in
    call_leaves w (part_refusal (rules_of w) (read_question caller r.group ∷ [])) (λ code. replies.SyncGroup (sync_reply (Err code))) (served_sync w r) r.group t (SyncTold x) (λ new. Syncs w g new r x) refl
    (sync_keeps_name g r w.moment t view) (sync_error_told x) (sync_turns w r x t view) (answer, zero)

sync_is : (w : World) (e : Event) (g : List ℕ) (s : IsSync reply_to w e g) → Syncs w (group_in w g) (group_in (step w e) g) s.request s.reply
sync_is w e g s =
    subst (λ (x : Event). Syncs w (group_in w g) (group_in (step w x) g) s.request s.reply) (sym s.event)
    (subst (λ (n : List ℕ). Syncs w (group_in w n) (group_in (step w (Ask s.caller s.client (SyncGroup s.request))) n) s.request s.reply) s.group
    (sync_at w s.caller s.client s.request s.reply (subst (λ (x : Event). reply_to w x ≡ replies.SyncGroup s.reply) s.event s.answer) s.no_error))

abbrev SyncNoted : Reply → Type 0
SyncNoted reply = (x : SyncGroupReply) × (reply ≡ replies.SyncGroup x) × (number_of x.error ≡ pos 0)

sync_noted : (g : Group) (r : SyncGroupRequest) (moment : ℕ) (t : GroupTransition (List ℕ)) → IsTurnedAway t ⊎ IsSynced g r moment t → IsTurnedAway t ⊎ SyncNoted (replies.SyncGroup (sync_reply (answer_of t)))
sync_noted g r moment t (inl away) = inl away
sync_noted g r moment t (inr synced) = inr (sync_reply (Ok (assignment_of g r)), ap (λ (u : GroupTransition (List ℕ)). replies.SyncGroup (sync_reply (answer_of u))) synced.is, none_zero)

sync_acts : (w : World) (caller : Caller) (client : Option (List ℕ)) (r : SyncGroupRequest) (g : List ℕ)
    → MayChange step reply_to w (Ask caller client (SyncGroup r)) g ⊎ IsAsBefore (group_in w g) (group_in (step w (Ask caller client (SyncGroup r))) g)
sync_acts w caller client r g =
    let old = group_of w.groups r.group in
    let t = sync w.groups r w.moment in
    let view = sync_view old r w.moment in
    by (call_acts w (part_refusal (rules_of w) (read_question caller r.group ∷ [])) (λ code. replies.SyncGroup (sync_reply (Err code))) (served_sync w r) r.group g t SyncNoted refl
    (sync_keeps_name old r w.moment t view) (sync_noted old r w.moment t view)) where
      by : (SyncNoted (reply_to w (Ask caller client (SyncGroup r))) × (r.group ≡ g)) ⊎ IsAsBefore (group_in w g) (group_in (step w (Ask caller client (SyncGroup r))) g)
          → MayChange step reply_to w (Ask caller client (SyncGroup r)) g ⊎ IsAsBefore (group_in w g) (group_in (step w (Ask caller client (SyncGroup r))) g)
      by (inl told) = inl (inr (inl (record { caller = caller; client = client; request = r; reply = told.0.0; event = refl; group = told.1; answer = told.0.1; no_error = told.0.2 })))
      by (inr same) = inr same

-- ---- Heartbeat

beaten_is : (w : World) (g : Group) (r : HeartbeatRequest) → member_refusal g r.generation r.member ≡ None → Beats w g (heard_at w.moment g) r
beaten_is w g r unrefused =
    let own = own_is g r.generation r.member unrefused in
    record { by = own; heard = heard_is w g (heard_at w.moment g) r.member own.is refl; generation = refl; assignment = refl }

beat_keeps_name : (g : Group) (r : HeartbeatRequest) (moment : ℕ) (t : GroupTransition (Unit {0})) → IsTurnedAway t ⊎ IsBeaten g r moment t → KeepsName g t
beat_keeps_name g r moment t (inl away) = ap (λ (x : GroupTransition (Unit {0})). (group_after g x).name) away.is
beat_keeps_name g r moment t (inr beaten) = ap (λ (x : GroupTransition (Unit {0})). (group_after g x).name) beaten.is

abbrev BeatTold : HeartbeatReply → Reply → Type 0
BeatTold x reply = (reply ≡ replies.Heartbeat x) × (number_of x.error ≡ pos 0)

pub beat_same : (x y : HeartbeatReply) → replies.Heartbeat x ≡ replies.Heartbeat y → x ≡ y
beat_same x y h = cc

beat_turns : (w : World) (r : HeartbeatRequest) (x : HeartbeatReply) (t : GroupTransition (Unit {0})) → IsTurnedAway t ⊎ IsBeaten (group_of w.groups r.group) r w.moment t
    → BeatTold x (replies.Heartbeat (beat_reply (code_in (answer_of t)))) → Beats w (group_of w.groups r.group) (group_after (group_of w.groups r.group) t) r
beat_turns w r x t (inl away) told =
    let same = beat_same (beat_reply (code_in (answer_of t))) x told.0 in
    let error : away.code ≡ x.error = ap (λ (u : GroupTransition (Unit {0})). code_in (answer_of u)) (sym away.is) ∙ ap (λ (y : HeartbeatReply). y.error) same in
    absurd (away.error (error ∙ zero_is x.error told.1))
beat_turns w r x t (inr beaten) told =
    let g = group_of w.groups r.group in
    let after : heard_at w.moment g ≡ group_after g t = ap (group_after g) (sym beaten.is) in
    subst (λ (new : Group). Beats w g new r) after (beaten_is w g r beaten.unrefused)

beat_error_told : (x : HeartbeatReply) (code : ErrorCode) → (code ≡ errors.None → ⊥) → BeatTold x (replies.Heartbeat (beat_reply code)) → ⊥
beat_error_told x code error told = error (ap (λ (y : HeartbeatReply). y.error) (beat_same (beat_reply code) x told.0) ∙ zero_is x.error told.1)

beat_at : (w : World) (caller : Caller) (client : Option (List ℕ)) (r : HeartbeatRequest) (x : HeartbeatReply) → reply_to w (Ask caller client (Heartbeat r)) ≡ replies.Heartbeat x → number_of x.error ≡ pos 0
    → Beats w (group_in w r.group) (group_in (step w (Ask caller client (Heartbeat r))) r.group) r
beat_at w caller client r x answer zero =
    let g = group_of w.groups r.group in
    let t = beat w.groups r w.moment in
    let view = beat_view g r w.moment in
    call_leaves w (part_refusal (rules_of w) (read_question caller r.group ∷ [])) (λ code. replies.Heartbeat (beat_reply code)) (served_heartbeat w r) r.group t (BeatTold x) (λ new. Beats w g new r) refl
    (beat_keeps_name g r w.moment t view) (beat_error_told x) (beat_turns w r x t view) (answer, zero)

beat_is : (w : World) (e : Event) (g : List ℕ) (b : IsBeat reply_to w e g) → Beats w (group_in w g) (group_in (step w e) g) b.request
beat_is w e g b =
    subst (λ (x : Event). Beats w (group_in w g) (group_in (step w x) g) b.request) (sym b.event)
    (subst (λ (n : List ℕ). Beats w (group_in w n) (group_in (step w (Ask b.caller b.client (Heartbeat b.request))) n) b.request) b.group
    (beat_at w b.caller b.client b.request b.reply (subst (λ (x : Event). reply_to w x ≡ replies.Heartbeat b.reply) b.event b.answer) b.no_error))

abbrev BeatNoted : Reply → Type 0
BeatNoted reply = (x : HeartbeatReply) × (reply ≡ replies.Heartbeat x) × (number_of x.error ≡ pos 0)

beat_noted : (g : Group) (r : HeartbeatRequest) (moment : ℕ) (t : GroupTransition (Unit {0})) → IsTurnedAway t ⊎ IsBeaten g r moment t → IsTurnedAway t ⊎ BeatNoted (replies.Heartbeat (beat_reply (code_in (answer_of t))))
beat_noted g r moment t (inl away) = inl away
beat_noted g r moment t (inr beaten) = inr (beat_reply errors.None, ap (λ (u : GroupTransition (Unit {0})). replies.Heartbeat (beat_reply (code_in (answer_of u)))) beaten.is, none_zero)

beat_acts : (w : World) (caller : Caller) (client : Option (List ℕ)) (r : HeartbeatRequest) (g : List ℕ)
    → MayChange step reply_to w (Ask caller client (Heartbeat r)) g ⊎ IsAsBefore (group_in w g) (group_in (step w (Ask caller client (Heartbeat r))) g)
beat_acts w caller client r g =
    let old = group_of w.groups r.group in
    let t = beat w.groups r w.moment in
    let view = beat_view old r w.moment in
    by (call_acts w (part_refusal (rules_of w) (read_question caller r.group ∷ [])) (λ code. replies.Heartbeat (beat_reply code)) (served_heartbeat w r) r.group g t BeatNoted refl
    (beat_keeps_name old r w.moment t view) (beat_noted old r w.moment t view)) where
      by : (BeatNoted (reply_to w (Ask caller client (Heartbeat r))) × (r.group ≡ g)) ⊎ IsAsBefore (group_in w g) (group_in (step w (Ask caller client (Heartbeat r))) g)
          → MayChange step reply_to w (Ask caller client (Heartbeat r)) g ⊎ IsAsBefore (group_in w g) (group_in (step w (Ask caller client (Heartbeat r))) g)
      by (inl told) = inl (inr (inr (inl (record { caller = caller; client = client; request = r; reply = told.0.0; event = refl; group = told.1; answer = told.0.1; no_error = told.0.2 }))))
      by (inr same) = inr same

-- ---- LeaveGroup

leave_keeps_name : (g : Group) (r : LeaveGroupRequest) (t : GroupTransition (Unit {0})) → IsTurnedAway t ⊎ HasLeft g r t → KeepsName g t
leave_keeps_name g r t (inl away) = ap (λ (x : GroupTransition (Unit {0})). (group_after g x).name) away.is
leave_keeps_name g r t (inr gone) = ap (λ (x : GroupTransition (Unit {0})). (group_after g x).name) gone.is

abbrev LeaveTold : LeaveGroupReply → Reply → Type 0
LeaveTold x reply = (reply ≡ replies.LeaveGroup x) × (number_of x.error ≡ pos 0)

pub leave_same : (x y : LeaveGroupReply) → replies.LeaveGroup x ≡ replies.LeaveGroup y → x ≡ y
leave_same x y h = cc

is_left : (g : Group) → IsLeft g (without_member g)
is_left g = record { no_member = refl; generation = refl }

leave_turns : (w : World) (r : LeaveGroupRequest) (x : LeaveGroupReply) (t : GroupTransition (Unit {0})) → IsTurnedAway t ⊎ HasLeft (group_of w.groups r.group) r t
    → LeaveTold x (replies.LeaveGroup (leave_reply (code_in (answer_of t)))) → Leaves (group_of w.groups r.group) (group_after (group_of w.groups r.group) t) r
leave_turns w r x t (inl away) told =
    let same = leave_same (leave_reply (code_in (answer_of t))) x told.0 in
    let error : away.code ≡ x.error = ap (λ (u : GroupTransition (Unit {0})). code_in (answer_of u)) (sym away.is) ∙ ap (λ (y : LeaveGroupReply). y.error) same in
    absurd (away.error (error ∙ zero_is x.error told.1))
leave_turns w r x t (inr gone) told =
    let g = group_of w.groups r.group in
    let after : without_member g ≡ group_after g t = ap (group_after g) (sym gone.is) in
    subst (λ (new : Group). Leaves g new r) after (record { by = gone.by; left = is_left g })

leave_error_told : (x : LeaveGroupReply) (code : ErrorCode) → (code ≡ errors.None → ⊥) → LeaveTold x (replies.LeaveGroup (leave_reply code)) → ⊥
leave_error_told x code error told = error (ap (λ (y : LeaveGroupReply). y.error) (leave_same (leave_reply code) x told.0) ∙ zero_is x.error told.1)

leave_at : (w : World) (caller : Caller) (client : Option (List ℕ)) (r : LeaveGroupRequest) (x : LeaveGroupReply) → reply_to w (Ask caller client (LeaveGroup r)) ≡ replies.LeaveGroup x → number_of x.error ≡ pos 0
    → Leaves (group_in w r.group) (group_in (step w (Ask caller client (LeaveGroup r))) r.group) r
leave_at w caller client r x answer zero =
    let g = group_of w.groups r.group in
    let t = leave w.groups r in
    let view = leave_view g r in
    call_leaves w (part_refusal (rules_of w) (read_question caller r.group ∷ [])) (λ code. replies.LeaveGroup (leave_reply code)) (left_by w r) r.group t (LeaveTold x) (λ new. Leaves g new r) refl
    (leave_keeps_name g r t view) (leave_error_told x) (leave_turns w r x t view) (answer, zero)

leave_is : (w : World) (e : Event) (g : List ℕ) (l : IsLeave reply_to w e g) → Leaves (group_in w g) (group_in (step w e) g) l.request
leave_is w e g l =
    subst (λ (x : Event). Leaves (group_in w g) (group_in (step w x) g) l.request) (sym l.event)
    (subst (λ (n : List ℕ). Leaves (group_in w n) (group_in (step w (Ask l.caller l.client (LeaveGroup l.request))) n) l.request) l.group
    (leave_at w l.caller l.client l.request l.reply (subst (λ (x : Event). reply_to w x ≡ replies.LeaveGroup l.reply) l.event l.answer) l.no_error))

abbrev LeaveNoted : Reply → Type 0
LeaveNoted reply = (x : LeaveGroupReply) × (reply ≡ replies.LeaveGroup x) × (number_of x.error ≡ pos 0)

leave_noted : (g : Group) (r : LeaveGroupRequest) (t : GroupTransition (Unit {0})) → IsTurnedAway t ⊎ HasLeft g r t → IsTurnedAway t ⊎ LeaveNoted (replies.LeaveGroup (leave_reply (code_in (answer_of t))))
leave_noted g r t (inl away) = inl away
leave_noted g r t (inr gone) = inr (leave_reply errors.None, ap (λ (u : GroupTransition (Unit {0})). replies.LeaveGroup (leave_reply (code_in (answer_of u)))) gone.is, none_zero)

leave_acts : (w : World) (caller : Caller) (client : Option (List ℕ)) (r : LeaveGroupRequest) (g : List ℕ)
    → MayChange step reply_to w (Ask caller client (LeaveGroup r)) g ⊎ IsAsBefore (group_in w g) (group_in (step w (Ask caller client (LeaveGroup r))) g)
leave_acts w caller client r g =
    let old = group_of w.groups r.group in
    let t = leave w.groups r in
    let view = leave_view old r in
    by (call_acts w (part_refusal (rules_of w) (read_question caller r.group ∷ [])) (λ code. replies.LeaveGroup (leave_reply code)) (left_by w r) r.group g t LeaveNoted refl
    (leave_keeps_name old r t view) (leave_noted old r t view)) where
      by : (LeaveNoted (reply_to w (Ask caller client (LeaveGroup r))) × (r.group ≡ g)) ⊎ IsAsBefore (group_in w g) (group_in (step w (Ask caller client (LeaveGroup r))) g)
          → MayChange step reply_to w (Ask caller client (LeaveGroup r)) g ⊎ IsAsBefore (group_in w g) (group_in (step w (Ask caller client (LeaveGroup r))) g)
      by (inl told) = inl (inr (inr (inr (inl (record { caller = caller; client = client; request = r; reply = told.0.0; event = refl; group = told.1; answer = told.0.1; no_error = told.0.2 })))))
      by (inr same) = inr same

-- ---- a tick

group_expired : (moment : ℕ) (gs : List Group) (name : List ℕ) → group_of (map (without_lapsed moment) gs) name ≡ without_lapsed moment (group_of gs name)
group_expired moment gs name = ap (λ (o : Option Group). unwrap_or o (fresh_group name)) (find_expired moment gs name) ∙ by_found (find_group gs name) where
  by_found : (o : Option Group) → unwrap_or (option_map (without_lapsed moment) o) (fresh_group name) ≡ without_lapsed moment (unwrap_or o (fresh_group name))
  by_found None = refl
  by_found (Some g) = refl

lapsed_is : (moment : ℕ) (o : Option Member) (m : Member) → o ≡ Some m → m.heard + m.session_timeout < moment → is_lapsed moment o ≡ true
lapsed_is moment o m has silent = ap (is_lapsed moment) has ∙ lt-ltb (m.heard + m.session_timeout) moment silent

tick_group : (w : World) (told : ℕ) (g : List ℕ) (b : Bool) → is_lapsed (moment_after w.moment told) (group_in w g).member ≡ b → group_in (step w (Tick told)) g ≡ cond b (without_member (group_in w g)) (group_in w g)
tick_group w told g b e = group_expired (moment_after w.moment told) w.groups g ∙ ap (λ (t : Bool). cond t (without_member (group_in w g)) (group_in w g)) e

lapse_is : (w : World) (e : Event) (g : List ℕ) → IsLapse step w e g → IsLeft (group_in w g) (group_in (step w e) g)
lapse_is w e g l =
    let silent : l.member.heard + l.member.session_timeout < (step w (Tick l.told)).moment = subst (λ (x : Event). l.member.heard + l.member.session_timeout < (step w x).moment) l.event l.silent in
    subst (λ (x : Event). IsLeft (group_in w g) (group_in (step w x) g)) (sym l.event)
    (subst (IsLeft (group_in w g)) (sym (tick_group w l.told g true (lapsed_is (moment_after w.moment l.told) (group_in w g).member l.member l.had silent))) (is_left (group_in w g)))

tick_acts : (w : World) (told : ℕ) (g : List ℕ) → MayChange step reply_to w (Tick told) g ⊎ IsAsBefore (group_in w g) (group_in (step w (Tick told)) g)
tick_acts w told g = by_lapse (is_lapsed (moment_after w.moment told) (group_in w g).member) refl where
  lapse : (o : Option Member) → (group_in w g).member ≡ o → is_lapsed (moment_after w.moment told) o ≡ true → IsLapse step w (Tick told) g
  lapse None had h = absurd (true≢false (sym h))
  lapse (Some m) had h = record { told = told; event = refl; member = m; had = had; silent = ltb-true (m.heard + m.session_timeout) (moment_after w.moment told) h }

  by_lapse : (b : Bool) → is_lapsed (moment_after w.moment told) (group_in w g).member ≡ b → MayChange step reply_to w (Tick told) g ⊎ IsAsBefore (group_in w g) (group_in (step w (Tick told)) g)
  by_lapse true e = inl (inr (inr (inr (inr (lapse (group_in w g).member refl e)))))
  by_lapse false e = inr (same_group (group_in w g) (group_in (step w (Tick told)) g) (tick_group w told g false e))

-- ---- an event

unless_refused : (o : Option Refusal) (w : World) (refused : ErrorCode → Reply) (served : Served) → AllAsBefore w.groups served.world.groups → AllAsBefore w.groups (whole_outcome_by o w refused served).world.groups
unless_refused None w refused served h = h
unless_refused (Some x) w refused served h = all_same w.groups

acts : (w : World) (e : Event) (g : List ℕ) → MayChange step reply_to w e g ⊎ IsAsBefore (group_in w g) (group_in (step w e) g)
acts w (Ask caller client (Produce r)) g = inr (as_before (group_in w g))
acts w (Ask caller client (Fetch r)) g = inr (as_before (group_in w g))
acts w (Ask caller client (ListOffsets r)) g = inr (as_before (group_in w g))
acts w (Ask caller client (Metadata r)) g = inr (as_before (group_in w g))
acts w (Ask caller client (OffsetCommit r)) g = inr (subst (AllAsBefore w.groups) (woven (committing_rule w caller r) (rules_of w) w.groups r.topics).world (all_commits w caller r) g)
acts w (Ask caller client (OffsetFetch r)) g = inr (subst (λ (v : World). AllAsBefore w.groups v.groups) (sym (offsets_keep w caller r)) (all_same w.groups) g)
acts w (Ask caller client (FindCoordinator r)) g = inr (unless_refused (part_refusal (rules_of w) (find_questions caller (kind_of r.key_type) r.key)) w _ _ (all_same w.groups) g)
acts w (Ask caller client (JoinGroup r)) g = join_acts w caller client r g
acts w (Ask caller client (Heartbeat r)) g = beat_acts w caller client r g
acts w (Ask caller client (LeaveGroup r)) g = leave_acts w caller client r g
acts w (Ask caller client (SyncGroup r)) g = sync_acts w caller client r g
acts w (Ask caller client (InitProducerId r)) g = inr (unless_refused (part_refusal (rules_of w) (init_questions (rules_of w) caller r.transactional_id)) w _ (served_init w r) (all_same w.groups) g)
acts w (Ask caller client (AddPartitionsToTxn r)) g = inr (by_cut (is_cut caller r.transactional_id w.topics (rules_of w) r.topics) g) where
  by_cut : (b : Bool) → AllAsBefore w.groups (cond b (cut_outcome w caller r) (added_outcome w r)).world.groups
  by_cut true = all_same w.groups
  by_cut false = all_same w.groups
acts w (Ask caller client (AddOffsetsToTxn r)) g = inr (unless_refused (part_refusal (rules_of w) (add_offsets_questions caller r.transactional_id r.group)) w _ (served_add_offsets w r) (all_same w.groups) g)
acts w (Ask caller client (EndTxn r)) g = inr (unless_refused (part_refusal (rules_of w) (end_questions caller r)) w _ (served_end w r) (all_same w.groups) g)
acts w (Ask caller client (TxnOffsetCommit r)) g = inr (subst (AllAsBefore w.groups) (woven (staging_rule w caller r) (rules_of w) w.groups r.topics).world (all_stages w caller r) g)
acts w (Ask caller client (SaslHandshake r)) g = inr (as_before (group_in w g))
acts w (Ask caller client ApiVersions) g = inr (as_before (group_in w g))
acts w (Ask caller client (SaslAuthenticate r)) g = inr (as_before (group_in w g))
acts w (Ask caller client (DescribeAcls r)) g = inr (unless_refused (part_refusal (rules_of w) (describe_acls_questions caller)) w _ _ (all_same w.groups) g)
acts w (Ask caller client (CreateAcls r)) g = inr (unless_refused (part_refusal (rules_of w) (alter_questions caller)) w _ _ (all_same w.groups) g)
acts w (Ask caller client (DeleteAcls r)) g = inr (unless_refused (part_refusal (rules_of w) (alter_questions caller)) w _ _ (all_same w.groups) g)
acts w Mark g = inr (all_marked w (next_warrant w.coordinator) g)
acts w (Tick told) g = tick_acts w told g

pub members_go : (w : World) (e : Event) (g : List ℕ) → MembersGo step reply_to w e g
members_go w e g = record {
  joins = join_is w e g;
  syncs = sync_is w e g;
  beats = beat_is w e g;
  leaves = leave_is w e g;
  lapses = lapse_is w e g;
  nothing_else = acts w e g;
}
