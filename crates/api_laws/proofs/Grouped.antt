-- The requests about groups: what their answers depend on, and what they leave as it was.
use Rattle.std.proofs.Common.{◌≡◌, ◌⊎◌, inl, inr, ℕ, ℤ, Bool, true, false, cond, List, [], ◌∷◌, length, Option, Some, None, Err, refl, sym, ap, subst, ◌∙◌}
use Rattle.std.specs.Prelude.{is_none, unwrap_or}
use Rattle.std.specs.List.{filter_map, cons_option}
use Rattle.std.specs.Str.{bytes_eq}
use Rattle.std.proofs.lemmas.Slice.Eq.{bytes_eq-Decides}
use Rattle.acl_binding.specs.declared.question.Caller.{Caller}
use Rattle.acl_binding.specs.declared.question.Question.{Question}
use Rattle.acl_binding.specs.declared.question.Verdict.TheVariants.{Yes}
use Rattle.acl_binding.specs.declared.words.Kind.TheVariants as kinds
use Rattle.acl_binding.specs.declared.words.Operation.TheVariants as operations
use Rattle.acl_binding.specs.Verdict.{question_of}
use Rattle.authorizer.specs.declared.answer.Refusal.{Refusal}
use Rattle.authorizer.specs.Policy.{verdict}
use Rattle.authorizer.specs.Asking.{Rules, first_of, part_refusal, question_refusal}
use Rattle.wire_types.specs.declared.error_code.ErrorCode.{ErrorCode}
use Rattle.wire_types.specs.declared.error_code.ErrorCode.TheVariants as codes
use Rattle.wire_types.specs.declared.topic.Topic.{Topic}
use Rattle.msg_txn.specs.declared.find_coordinator.FindCoordinatorRequest.{FindCoordinatorRequest}
use Rattle.msg_group.specs.declared.join_group.JoinGroupRequest.{JoinGroupRequest}
use Rattle.msg_group.specs.declared.sync_group.SyncGroupRequest.{SyncGroupRequest}
use Rattle.msg_group.specs.declared.heartbeat.HeartbeatRequest.{HeartbeatRequest}
use Rattle.msg_group.specs.declared.leave_group.LeaveGroupRequest.{LeaveGroupRequest}
use Rattle.msg_group.specs.declared.offset_commit.OffsetCommitRequest.{OffsetCommitRequest}
use Rattle.msg_group.specs.declared.offset_commit.OffsetToCommit.{OffsetToCommit}
use Rattle.msg_group.specs.declared.offset_commit.CommittedOffset.{CommittedOffset}
use Rattle.msg_group.specs.declared.offset_fetch.OffsetFetchRequest.{OffsetFetchRequest}
use Rattle.msg_group.specs.declared.offset_fetch.FetchedOffset.{FetchedOffset}
use Rattle.msg_admin.specs.declared.reply.Reply.{Reply}
use Rattle.msg_admin.specs.declared.reply.Reply.TheVariants as replies
use Rattle.walk.specs.Walk.{answers, refusals}
use Rattle.walk.specs.Alike.{AllParts, AllTopics, AreAlike}
use Rattle.walk.specs.Steps.{world_by, part_world, parts_world, topics_world}
use Rattle.walk.proofs.Alikeness.{answer_alike}
use Rattle.walk.proofs.Weaving.{woven}
use Rattle.group_offsets.specs.declared.event.OffsetEvent.{OffsetEvent}
use Rattle.group_offsets.specs.declared.group.Group.{Group}
use Rattle.group_offsets.specs.GroupTransition.{answer_of}
use Rattle.group_offsets.specs.Group.{fresh_group, sync_group, beat_group, leave_group, commit_group}
use Rattle.group_offsets.specs.Joining.{join_group}
use Rattle.group_offsets.specs.Groups.{find_group, group_of, join, sync, beat}
use Rattle.group_offsets.specs.Laws.{Call, Call as calls, groups_after_call, groups_after_calls, concerns}
use Rattle.group_offsets.proofs.Apart.{groups_are_apart}
use Rattle.broker_world.specs.declared.node.Node.{Node}
use Rattle.broker_world.specs.World.{World, TopicValue, LogValue, rules_of}
use Rattle.broker_world.specs.Logs.{log_at}
use Rattle.broker_world.specs.Questions.{topic_refusal}
use Rattle.broker_world.specs.Whole.{Served, whole_outcome_by}
use Rattle.broker_world.specs.Questions.{read_question}
use Rattle.broker_world.specs.Codes.{code_in}
use Rattle.group_handlers.specs.Members.{join_error, join_reply, served_join, join_group_outcome, sync_reply, served_sync, sync_group_outcome, beat_reply, served_heartbeat, heartbeat_outcome, leave_reply, served_leave, leave_group_outcome}
use Rattle.group_handlers.specs.FindCoordinator.{kind_of, find_questions, find_error, find_reply, find_coordinator_outcome}
use Rattle.group_handlers.specs.OffsetCommit.{Committing, committing_of, commit_questions, committed_code, offset_of, code_by, groups_by, commit_rule, committing_rule, offset_commit_outcome}
use Rattle.group_handlers.specs.OffsetFetch.{group_question, offset_rule, listed_offsets_from, listed_topic_of, listed_topics, fetch_reply, offsets_of, fetched_outcome, offset_fetch_by, offset_fetch_outcome}
use Rattle.api_laws.specs.Tenants.{SameBase, SameGranted}
use Rattle.api_laws.specs.DataTenants.{SameForParts, SameAnswer}
use Rattle.api_laws.specs.AclLaws.{IsRefusedWhole}
use Rattle.api_laws.specs.GroupLaws.{described_slots, SameWanted, GroupsDependOnGrants, KeepsOtherGroups, GroupsKeepTheRest}
use Rattle.api_laws.proofs.Initials.{yes_alone, same_refusal}
use Rattle.api_laws.proofs.DataGrants.{same_topic, same_log, rest_of, yes_of}

-- ---- a group that is the same

pub same_group : (us vs : List Group) (name : List ℕ) → find_group us name ≡ find_group vs name → group_of us name ≡ group_of vs name
same_group us vs name same = ap (λ (o : Option Group). unwrap_or o (fresh_group name)) same

pub own_name : (name : List ℕ) → bytes_eq name name ≡ true
own_name name = (bytes_eq-Decides name name).1 refl

pub other_name : (name other : List ℕ) → (other ≡ name → ⊥) → bytes_eq name other ≡ false
other_name name other differ = by_test (bytes_eq name other) refl where
  by_test : (b : Bool) → bytes_eq name other ≡ b → bytes_eq name other ≡ false
  by_test true e = absurd (differ (sym ((bytes_eq-Decides name other).0 e)))
  by_test false e = e

-- a call on another group leaves it as it was
pub kept_call : (gs : List Group) (call : Call) (other : List ℕ) → concerns other call ≡ false → find_group (groups_after_call gs call) other ≡ find_group gs other
kept_call gs call other apart =
    groups_are_apart gs gs (call ∷ []) other refl ∙ ap (λ (b : Bool). find_group (groups_after_calls gs (cond b (call ∷ []) [])) other) apart

-- where two lists agree on a group, they do so after a call on it
pub same_call : (us vs : List Group) (call : Call) (name : List ℕ) → concerns name call ≡ true → find_group us name ≡ find_group vs name → find_group (groups_after_call us call) name ≡ find_group (groups_after_call vs call) name
same_call us vs call name about same =
    groups_are_apart us vs (call ∷ []) name same ∙ ap (λ (b : Bool). find_group (groups_after_calls vs (cond b (call ∷ []) [])) name) about

-- ---- requests that are one part

pub whole_same : (o : Option Refusal) (v w : World) (refused : ErrorCode → Reply) (a b : Served) → (o ≡ None → a.reply ≡ b.reply) → SameAnswer (whole_outcome_by o v refused a) (whole_outcome_by o w refused b)
whole_same None v w refused a b same = record { reply = same refl; refusals = refl }
whole_same (Some r) v w refused a b same = record { reply = refl; refusals = refl }

module _ (v w : World) (caller : Caller) (base : SameBase v w) where
  granted_group : (q : Question) → SameGranted v w (q ∷ []) → part_refusal (rules_of w) (q ∷ []) ≡ None → verdict w.book w.supers q ≡ Yes
  granted_group q same none = yes_alone (verdict w.book w.supers q) q none

  joins : (r : JoinGroupRequest) → SameGranted v w (read_question caller r.group ∷ []) → SameAnswer (join_group_outcome v caller r) (join_group_outcome w caller r)
  joins r same =
      let q = read_question caller r.group in
      subst (λ (o : Option Refusal). SameAnswer (whole_outcome_by o v (λ code. replies.JoinGroup (join_error code r)) (served_join v r)) (join_group_outcome w caller r)) (same_refusal v w q base.rules)
      (whole_same (part_refusal (rules_of w) (q ∷ [])) v w _ (served_join v r) (served_join w r) (λ none.
      ap (λ (g : Group). replies.JoinGroup (join_reply (answer_of (join_group g r v.events v.moment)) r)) (same_group v.groups w.groups r.group (same.0 (granted_group q same none)))
      ∙ ap (λ (n : ℕ). replies.JoinGroup (join_reply (answer_of (join w.groups r n v.moment)) r)) base.events
      ∙ ap (λ (n : ℕ). replies.JoinGroup (join_reply (answer_of (join w.groups r w.events n)) r)) base.moment))

  syncs : (r : SyncGroupRequest) → SameGranted v w (read_question caller r.group ∷ []) → SameAnswer (sync_group_outcome v caller r) (sync_group_outcome w caller r)
  syncs r same =
      let q = read_question caller r.group in
      subst (λ (o : Option Refusal). SameAnswer (whole_outcome_by o v (λ code. replies.SyncGroup (sync_reply (Err code))) (served_sync v r)) (sync_group_outcome w caller r)) (same_refusal v w q base.rules)
      (whole_same (part_refusal (rules_of w) (q ∷ [])) v w _ (served_sync v r) (served_sync w r) (λ none.
      ap (λ (g : Group). replies.SyncGroup (sync_reply (answer_of (sync_group g r v.moment)))) (same_group v.groups w.groups r.group (same.0 (granted_group q same none)))
      ∙ ap (λ (n : ℕ). replies.SyncGroup (sync_reply (answer_of (sync w.groups r n)))) base.moment))

  beats : (r : HeartbeatRequest) → SameGranted v w (read_question caller r.group ∷ []) → SameAnswer (heartbeat_outcome v caller r) (heartbeat_outcome w caller r)
  beats r same =
      let q = read_question caller r.group in
      subst (λ (o : Option Refusal). SameAnswer (whole_outcome_by o v (λ code. replies.Heartbeat (beat_reply code)) (served_heartbeat v r)) (heartbeat_outcome w caller r)) (same_refusal v w q base.rules)
      (whole_same (part_refusal (rules_of w) (q ∷ [])) v w _ (served_heartbeat v r) (served_heartbeat w r) (λ none.
      ap (λ (g : Group). replies.Heartbeat (beat_reply (code_in (answer_of (beat_group g r v.moment))))) (same_group v.groups w.groups r.group (same.0 (granted_group q same none)))
      ∙ ap (λ (n : ℕ). replies.Heartbeat (beat_reply (code_in (answer_of (beat w.groups r n))))) base.moment))

  leaves : (r : LeaveGroupRequest) → SameGranted v w (read_question caller r.group ∷ []) → SameAnswer (leave_group_outcome v caller r) (leave_group_outcome w caller r)
  leaves r same =
      let q = read_question caller r.group in
      subst (λ (o : Option Refusal). SameAnswer (whole_outcome_by o v (λ code. replies.LeaveGroup (leave_reply code)) (served_leave v r)) (leave_group_outcome w caller r)) (same_refusal v w q base.rules)
      (whole_same (part_refusal (rules_of w) (q ∷ [])) v w _ (served_leave v r) (served_leave w r) (λ none.
      ap (λ (g : Group). replies.LeaveGroup (leave_reply (code_in (answer_of (leave_group g r))))) (same_group v.groups w.groups r.group (same.0 (granted_group q same none)))))

  finds : (r : FindCoordinatorRequest) → SameAnswer (find_coordinator_outcome v caller r) (find_coordinator_outcome w caller r)
  finds r =
      let qs = find_questions caller (kind_of r.key_type) r.key in
      subst (λ (o : Option Refusal). SameAnswer (whole_outcome_by o v (λ code. replies.FindCoordinator (find_error code)) (record { world = v; reply = replies.FindCoordinator (find_reply (kind_of r.key_type) v.node) })) (find_coordinator_outcome w caller r))
      (ap (λ (rules : Rules). part_refusal rules qs) (sym base.rules))
      (whole_same (part_refusal (rules_of w) qs) v w _ _ _ (λ none. ap (λ (n : Node). replies.FindCoordinator (find_reply (kind_of r.key_type) n)) base.node))

-- ---- OffsetCommit

commit_call : Committing → List ℕ → OffsetToCommit → Call
commit_call c name p = calls.Commits c.group c.generation c.member (offset_of name p)

module _ (v w : World) (caller : Caller) (c : Committing) where
  abbrev SamePart : List ℕ → OffsetToCommit → Type 0
  SamePart name p = SameGranted v w (commit_questions caller c.group name)

  -- the lists agree on the group, where it may be read
  abbrev AgreeOn : List Group → List Group → Type 0
  AgreeOn us vs = verdict w.book w.supers (read_question caller c.group) ≡ Yes → find_group us c.group ≡ find_group vs c.group

  part_yes : (name : List ℕ) → part_refusal (rules_of w) (commit_questions caller c.group name) ≡ None → verdict w.book w.supers (read_question caller c.group) ≡ Yes
  part_yes name none =
      let first = read_question caller c.group in
      yes_of (verdict w.book w.supers first) first (part_refusal (rules_of w) (question_of caller operations.Read kinds.Topic name ∷ [])) none

  part_log : (name : List ℕ) (p : OffsetToCommit) → SamePart name p → part_refusal (rules_of w) (commit_questions caller c.group name) ≡ None → log_at v.topics name p.index ≡ log_at w.topics name p.index
  part_log name p same none =
      let first = read_question caller c.group in
      let last = question_of caller operations.Read kinds.Topic name in
      same_log v.topics w.topics name p.index (same_topic v w last same.1 (rest_of (verdict w.book w.supers first) first (part_refusal (rules_of w) (last ∷ [])) none))

  same_code : (us vs : List Group) (name : List ℕ) (p : OffsetToCommit) (o : Option LogValue) → find_group us c.group ≡ find_group vs c.group → code_by c us name p o ≡ code_by c vs name p o
  same_code us vs name p None same = refl
  same_code us vs name p (Some log) same = ap (λ (g : Group). code_in (answer_of (commit_group g c.generation c.member (offset_of name p)))) (same_group us vs c.group same)

  same_after : (us vs : List Group) (name : List ℕ) (p : OffsetToCommit) (o : Option LogValue) → find_group us c.group ≡ find_group vs c.group → find_group (groups_by c us name p o) c.group ≡ find_group (groups_by c vs name p o) c.group
  same_after us vs name p None same = same
  same_after us vs name p (Some log) same = same_call us vs (calls.Commits c.group c.generation c.member (offset_of name p)) c.group (own_name c.group) same

  commit_alike : AreAlike (commit_rule caller c v.topics) (commit_rule caller c w.topics) (rules_of w) SamePart AgreeOn
  commit_alike = record {
    questions = λ name p. refl;
    refused = λ code name p. refl;
    plain = λ us vs name p is agree none.
        ap (λ (code : ErrorCode). committed_code code p) (ap (code_by c us name p) (part_log name p is none) ∙ same_code us vs name p (log_at w.topics name p.index) (agree (part_yes name none)));
    after = λ us vs name p is agree none yes.
        ap (λ (o : Option LogValue). find_group (groups_by c us name p o) c.group) (part_log name p is none) ∙ same_after us vs name p (log_at w.topics name p.index) (agree yes);
  }

  -- there is no part, or what its first question says
  abbrev NoPart : List ℕ → OffsetToCommit → Type 0
  NoPart name p = ⊥

  first_or_none : (ts : List (Topic OffsetToCommit)) → AllTopics SamePart ts → AllTopics NoPart ts ⊎ AgreeOn v.groups w.groups
  first_or_none [] same = inl tt
  first_or_none (t ∷ ts) same = by_parts t.name t.partitions same.0 (first_or_none ts same.1) where
    by_rest : AllTopics NoPart ts ⊎ AgreeOn v.groups w.groups → (AllParts NoPart t.name [] × AllTopics NoPart ts) ⊎ AgreeOn v.groups w.groups
    by_rest (inl none) = inl (tt, none)
    by_rest (inr agree) = inr agree

    by_parts : (name : List ℕ) (ps : List OffsetToCommit) → AllParts SamePart name ps → AllTopics NoPart ts ⊎ AgreeOn v.groups w.groups → (AllParts NoPart name ps × AllTopics NoPart ts) ⊎ AgreeOn v.groups w.groups
    by_parts name [] here rest = by_rest rest
    by_parts name (p ∷ ps) here rest = inr here.0.0

  none_alike : AreAlike (commit_rule caller c v.topics) (commit_rule caller c w.topics) (rules_of w) NoPart (λ us vs. Unit {0})
  none_alike = record {
    questions = λ name p. refl;
    refused = λ code name p. refl;
    plain = λ us vs name p is agree none. absurd is;
    after = λ us vs name p is agree none. tt;
  }

  same_commits : (ts : List (Topic OffsetToCommit)) → AllTopics SamePart ts → (answers (commit_rule caller c v.topics) (rules_of w) v.groups ts ≡ answers (commit_rule caller c w.topics) (rules_of w) w.groups ts) × (refusals (commit_rule caller c v.topics) (rules_of w) ts ≡ refusals (commit_rule caller c w.topics) (rules_of w) ts)
  same_commits ts same = by_case (first_or_none ts same) where
    by_case : AllTopics NoPart ts ⊎ AgreeOn v.groups w.groups → (answers (commit_rule caller c v.topics) (rules_of w) v.groups ts ≡ answers (commit_rule caller c w.topics) (rules_of w) w.groups ts) × (refusals (commit_rule caller c v.topics) (rules_of w) ts ≡ refusals (commit_rule caller c w.topics) (rules_of w) ts)
    by_case (inl none) =
        let alike = answer_alike (commit_rule caller c v.topics) (commit_rule caller c w.topics) (rules_of w) NoPart (λ us vs. Unit {0}) none_alike v.groups w.groups ts none tt in
        (alike.answers, alike.refusals)
    by_case (inr agree) =
        let alike = answer_alike (commit_rule caller c v.topics) (commit_rule caller c w.topics) (rules_of w) SamePart AgreeOn commit_alike v.groups w.groups ts same agree in
        (alike.answers, alike.refusals)

commits : (v w : World) (caller : Caller) (r : OffsetCommitRequest) → SameBase v w → SameForParts v w (committing_rule w caller r) r.topics → SameAnswer (offset_commit_outcome v caller r) (offset_commit_outcome w caller r)
commits v w caller r base same =
    let told = same_commits v w caller (committing_of r) r.topics same in
    record {
      reply = ap (λ (topics : List (Topic CommittedOffset)). replies.OffsetCommit (record { topics = topics })) (ap (λ (rules : Rules). answers (committing_rule v caller r) rules v.groups r.topics) base.rules ∙ told.0);
      refusals = ap (λ (rules : Rules). refusals (committing_rule v caller r) rules r.topics) base.rules ∙ told.1;
    }

-- ---- OffsetFetch

told_filter : (rules : Rules) (caller : Caller) (es : List OffsetEvent) (stable : Bool) (topics : List TopicValue)
    → listed_topics rules caller es stable topics ≡ filter_map (λ (t : TopicValue). listed_topic_of t.name (listed_offsets_from es stable t.name 0 (length t.partitions))) (described_slots rules caller topics)
told_filter rules caller es stable [] = refl
told_filter rules caller es stable (t ∷ ts) = by_test (is_none (topic_refusal rules caller t.name)) (told_filter rules caller es stable ts) where
  told : Option (Topic FetchedOffset)
  told = listed_topic_of t.name (listed_offsets_from es stable t.name 0 (length t.partitions))

  by_test : (b : Bool) → listed_topics rules caller es stable ts ≡ filter_map (λ (t : TopicValue). listed_topic_of t.name (listed_offsets_from es stable t.name 0 (length t.partitions))) (described_slots rules caller ts)
      → cons_option (cond b told None) (listed_topics rules caller es stable ts) ≡ filter_map (λ (t : TopicValue). listed_topic_of t.name (listed_offsets_from es stable t.name 0 (length t.partitions))) (cond b (t ∷ described_slots rules caller ts) (described_slots rules caller ts))
  by_test true rest = ap (cons_option told) rest
  by_test false rest = rest

module _ (v w : World) (caller : Caller) (base : SameBase v w) where
  same_fetched : (es : List OffsetEvent) (stable : Bool) (topics : Option (List (Topic ℤ))) → SameWanted v w caller topics → SameAnswer (fetched_outcome v caller es stable topics) (fetched_outcome w caller es stable topics)
  same_fetched es stable None same = record {
    reply = ap (fetch_reply codes.None)
        (told_filter (rules_of v) caller es stable v.topics ∙ ap (filter_map (λ (t : TopicValue). listed_topic_of t.name (listed_offsets_from es stable t.name 0 (length t.partitions)))) same ∙ sym (told_filter (rules_of w) caller es stable w.topics));
    refusals = refl;
  }
  same_fetched es stable (Some ts) same = record {
    reply = ap (λ (rules : Rules). fetch_reply codes.None (answers (offset_rule caller es stable) rules tt ts)) base.rules;
    refusals = ap (λ (rules : Rules). refusals (offset_rule caller es stable) rules ts) base.rules;
  }

  fetches_by : (o : Option Refusal) (r : OffsetFetchRequest) → (o ≡ None → find_group v.groups r.group ≡ find_group w.groups r.group) → SameWanted v w caller r.topics → SameAnswer (offset_fetch_by o v caller r) (offset_fetch_by o w caller r)
  fetches_by (Some refusal) r same wanted = record { reply = refl; refusals = refl }
  fetches_by None r same wanted =
      subst (λ (es : List OffsetEvent). SameAnswer (fetched_outcome v caller (offsets_of v r.group) r.require_stable r.topics) (fetched_outcome w caller es r.require_stable r.topics))
      (ap (λ (g : Group). g.offsets) (same_group v.groups w.groups r.group (same refl)))
      (same_fetched (offsets_of v r.group) r.require_stable r.topics wanted)

  fetches : (r : OffsetFetchRequest) → SameGranted v w (group_question caller r.group ∷ []) → SameWanted v w caller r.topics → SameAnswer (offset_fetch_outcome v caller r) (offset_fetch_outcome w caller r)
  fetches r same wanted =
      let q = group_question caller r.group in
      subst (λ (o : Option Refusal). SameAnswer (offset_fetch_by o v caller r) (offset_fetch_outcome w caller r)) (same_refusal v w q base.rules)
      (fetches_by (part_refusal (rules_of w) (q ∷ [])) r (λ none. same.0 (yes_alone (verdict w.book w.supers q) q none)) wanted)

pub groups_depend : GroupsDependOnGrants join_group_outcome offset_fetch_outcome
groups_depend = record {
  joins = λ v w caller r base same. joins v w caller base r same;
  syncs = λ v w caller r base same. syncs v w caller base r same;
  beats = λ v w caller r base same. beats v w caller base r same;
  leaves = λ v w caller r base same. leaves v w caller base r same;
  finds = λ v w caller r base. finds v w caller base r;
  commits = commits;
  fetches = λ v w caller r base same wanted. fetches v w caller base r same wanted;
}

-- ---- what stays as it was

whole_kept : (o : Option Refusal) (w : World) (refused : ErrorCode → Reply) (served : Served) (group : List ℕ)
    → ((other : List ℕ) → (other ≡ group → ⊥) → find_group served.world.groups other ≡ find_group w.groups other) → served.world.topics ≡ w.topics → served.world.coordinator ≡ w.coordinator
    → KeepsOtherGroups w group (whole_outcome_by o w refused served)
whole_kept None w refused served group others topics coordinator = record { others = others; topics = topics; coordinator = coordinator }
whole_kept (Some r) w refused served group others topics coordinator = record { others = λ other differ. refl; topics = refl; coordinator = refl }

module _ (rules : Rules) (caller : Caller) (c : Committing) (topics : List TopicValue) (other : List ℕ) (differ : other ≡ c.group → ⊥) where
  commit_kept : (gs : List Group) (name : List ℕ) (p : OffsetToCommit) (o : Option LogValue) → find_group (groups_by c gs name p o) other ≡ find_group gs other
  commit_kept gs name p None = refl
  commit_kept gs name p (Some log) = kept_call gs (calls.Commits c.group c.generation c.member (offset_of name p)) other (other_name c.group other differ)

  part_kept : (gs : List Group) (name : List ℕ) (p : OffsetToCommit) → find_group (part_world (commit_rule caller c topics) rules gs name p) other ≡ find_group gs other
  part_kept gs name p = by_refusal (part_refusal rules (commit_questions caller c.group name)) where
    by_refusal : (r : Option Refusal) → find_group (world_by (commit_rule caller c topics) r gs name p) other ≡ find_group gs other
    by_refusal (Some r) = refl
    by_refusal None = commit_kept gs name p (log_at topics name p.index)

  parts_kept : (gs : List Group) (name : List ℕ) (ps : List OffsetToCommit) → find_group (parts_world (commit_rule caller c topics) rules gs name ps) other ≡ find_group gs other
  parts_kept gs name [] = refl
  parts_kept gs name (p ∷ ps) = parts_kept (part_world (commit_rule caller c topics) rules gs name p) name ps ∙ part_kept gs name p

  topics_kept : (gs : List Group) (ts : List (Topic OffsetToCommit)) → find_group (topics_world (commit_rule caller c topics) rules gs ts) other ≡ find_group gs other
  topics_kept gs [] = refl
  topics_kept gs (t ∷ ts) = topics_kept (parts_world (commit_rule caller c topics) rules gs t.name t.partitions) ts ∙ parts_kept gs t.name t.partitions

commits_kept : (w : World) (caller : Caller) (r : OffsetCommitRequest) → KeepsOtherGroups w r.group (offset_commit_outcome w caller r)
commits_kept w caller r = record {
  others = λ other differ. ap (λ (gs : List Group). find_group gs other) (sym (woven (committing_rule w caller r) (rules_of w) w.groups r.topics).world) ∙ topics_kept (rules_of w) caller (committing_of r) w.topics other differ w.groups r.topics;
  topics = refl;
  coordinator = refl;
}

-- where the group may not be read, no part is served
pub refused_alone : (x : Option Refusal) (r : Refusal) → first_of x None ≡ Some r → x ≡ Some r
refused_alone None r is = absurd (let clash : None ≡ Some r = is in cc)
refused_alone (Some q) r is = is

module _ (rules : Rules) (caller : Caller) (c : Committing) (topics : List TopicValue) (r : Refusal) (refused : question_refusal rules (read_question caller c.group) ≡ Some r) where
  part_still : (gs : List Group) (name : List ℕ) (p : OffsetToCommit) → part_world (commit_rule caller c topics) rules gs name p ≡ gs
  part_still gs name p = ap (λ (o : Option Refusal). world_by (commit_rule caller c topics) (first_of o (part_refusal rules (question_of caller operations.Read kinds.Topic name ∷ []))) gs name p) refused

  parts_still : (gs : List Group) (name : List ℕ) (ps : List OffsetToCommit) → parts_world (commit_rule caller c topics) rules gs name ps ≡ gs
  parts_still gs name [] = refl
  parts_still gs name (p ∷ ps) = parts_still (part_world (commit_rule caller c topics) rules gs name p) name ps ∙ part_still gs name p

  topics_still : (gs : List Group) (ts : List (Topic OffsetToCommit)) → topics_world (commit_rule caller c topics) rules gs ts ≡ gs
  topics_still gs [] = refl
  topics_still gs (t ∷ ts) = topics_still (parts_world (commit_rule caller c topics) rules gs t.name t.partitions) ts ∙ parts_still gs t.name t.partitions

pub groups_keep : GroupsKeepTheRest join_group_outcome
groups_keep = record {
  joins = λ w caller r. whole_kept (part_refusal (rules_of w) (read_question caller r.group ∷ [])) w _ (served_join w r) r.group
      (λ other differ. kept_call w.groups (calls.Join r w.events w.moment) other (other_name r.group other differ)) refl refl;
  syncs = λ w caller r. whole_kept (part_refusal (rules_of w) (read_question caller r.group ∷ [])) w _ (served_sync w r) r.group
      (λ other differ. kept_call w.groups (calls.Sync r w.moment) other (other_name r.group other differ)) refl refl;
  beats = λ w caller r. whole_kept (part_refusal (rules_of w) (read_question caller r.group ∷ [])) w _ (served_heartbeat w r) r.group
      (λ other differ. kept_call w.groups (calls.Beat r w.moment) other (other_name r.group other differ)) refl refl;
  leaves = λ w caller r. whole_kept (part_refusal (rules_of w) (read_question caller r.group ∷ [])) w _ (served_leave w r) r.group
      (λ other differ. kept_call w.groups (calls.Leave r) other (other_name r.group other differ)) refl refl;
  commits = commits_kept;
  refused_join = λ w caller q r is. subst (IsRefusedWhole w r) (ap (λ (o : Option Refusal). whole_outcome_by o w (λ code. replies.JoinGroup (join_error code q)) (served_join w q)) (sym is)) (record { world = refl; refusals = refl });
  refused_sync = λ w caller q r is. subst (IsRefusedWhole w r) (ap (λ (o : Option Refusal). whole_outcome_by o w (λ code. replies.SyncGroup (sync_reply (Err code))) (served_sync w q)) (sym is)) (record { world = refl; refusals = refl });
  refused_beat = λ w caller q r is. subst (IsRefusedWhole w r) (ap (λ (o : Option Refusal). whole_outcome_by o w (λ code. replies.Heartbeat (beat_reply code)) (served_heartbeat w q)) (sym is)) (record { world = refl; refusals = refl });
  refused_leave = λ w caller q r is. subst (IsRefusedWhole w r) (ap (λ (o : Option Refusal). whole_outcome_by o w (λ code. replies.LeaveGroup (leave_reply code)) (served_leave w q)) (sym is)) (record { world = refl; refusals = refl });
  refused_commit = λ w caller q r is.
      sym (woven (committing_rule w caller q) (rules_of w) w.groups q.topics).world
      ∙ topics_still (rules_of w) caller (committing_of q) w.topics r (refused_alone (question_refusal (rules_of w) (read_question caller q.group)) r is) w.groups q.topics;
}
