-- Worlds that agree on what a request about a group is granted go on agreeing on each group.
use Rattle.std.proofs.Common.{◌≡◌, ℕ, List, [], ◌∷◌, Option, Some, None, refl, sym, ap, ◌∙◌}
use Rattle.acl_binding.specs.declared.question.Caller.{Caller}
use Rattle.acl_binding.specs.declared.words.Kind.TheVariants as kinds
use Rattle.acl_binding.specs.declared.words.Operation.TheVariants as operations
use Rattle.acl_binding.specs.Verdict.{question_of}
use Rattle.authorizer.specs.Policy.{verdict}
use Rattle.authorizer.specs.Asking.{Rules, part_refusal}
use Rattle.wire_types.specs.declared.error_code.ErrorCode.{ErrorCode}
use Rattle.msg_group.specs.declared.join_group.JoinGroupRequest.{JoinGroupRequest}
use Rattle.msg_group.specs.declared.sync_group.SyncGroupRequest.{SyncGroupRequest}
use Rattle.msg_group.specs.declared.heartbeat.HeartbeatRequest.{HeartbeatRequest}
use Rattle.msg_group.specs.declared.leave_group.LeaveGroupRequest.{LeaveGroupRequest}
use Rattle.msg_group.specs.declared.offset_commit.OffsetCommitRequest.{OffsetCommitRequest}
use Rattle.msg_group.specs.declared.offset_commit.OffsetToCommit.{OffsetToCommit}
use Rattle.msg_txn.specs.declared.txn_offset_commit.TxnOffsetCommitRequest.{TxnOffsetCommitRequest}
use Rattle.msg_txn.specs.declared.txn_offset_commit.OffsetToStage.{OffsetToStage}
use Rattle.walk.specs.Walk.{world_after}
use Rattle.walk.specs.Alike.{AllTopics}
use Rattle.txn_coordinator.specs.declared.target.Target.TheVariants as targets
use Rattle.txn_coordinator.specs.declared.transaction.Transaction.{Transaction}
use Rattle.txn_coordinator.specs.Holding.{holding_code_of}
use Rattle.group_offsets.specs.declared.group.Group.{Group}
use Rattle.group_offsets.specs.Groups.{find_group, groups_after, join, sync, beat}
use Rattle.group_offsets.specs.Laws.{Call, Call as calls, groups_after_call}
use Rattle.group_offsets.proofs.Apart.{groups_are_apart}
use Rattle.broker_world.specs.World.{World, LogValue, rules_of}
use Rattle.broker_world.specs.Logs.{log_at}
use Rattle.broker_world.specs.Codes.{code_unless_none}
use Rattle.broker_world.specs.Questions.{id_question}
use Rattle.broker_world.specs.Questions.{read_question}
use Rattle.group_handlers.specs.Members.{served_join, served_sync, served_heartbeat, served_leave, join_group_outcome, sync_group_outcome, heartbeat_outcome, leave_group_outcome}
use Rattle.group_handlers.specs.OffsetCommit.{committing_of, commit_questions, offset_of, groups_by, committing_rule, offset_commit_outcome}
use Rattle.txn_handlers.specs.TxnOffsetCommit.{staging_of, stage_questions, offset_staged, transition_by, staging_refusal, staging_rule, txn_offset_commit_outcome}
use Rattle.api_laws.specs.Tenants.{SameBase, SameGranted}
use Rattle.api_laws.proofs.DataGrants.{yes_of, rest_of, same_topic, same_log}
use Rattle.tenant_laws.proofs.Agreeing.{Goes, walk_goes, AgreeAfter, by_groups, by_whole}
use Rattle.tenant_laws.proofs.Parts.{more_topics}

-- one call on two lists of groups
pub call_goes : (us vs : List Group) (call : Call) (name : List ℕ) → find_group us name ≡ find_group vs name → find_group (groups_after_call us call) name ≡ find_group (groups_after_call vs call) name
call_goes us vs call name same = groups_are_apart us vs (call ∷ []) name same ∙ sym (groups_are_apart vs vs (call ∷ []) name refl)

module _ (v w : World) (caller : Caller) (base : SameBase v w) where
  -- ---- members

  pub join_agrees : (r : JoinGroupRequest) → AgreeAfter v w (join_group_outcome v caller r).world (join_group_outcome w caller r).world
  join_agrees r =
      by_whole v w base (read_question caller r.group ∷ []) _ (served_join v r) (served_join w r)
      (λ granted. by_groups v w base (served_join v r).world.groups (served_join w r).world.groups (λ name same.
      call_goes v.groups w.groups (calls.Join r v.events v.moment) name same
      ∙ ap (λ (n : ℕ). find_group (groups_after w.groups (join w.groups r n v.moment)) name) base.events
      ∙ ap (λ (n : ℕ). find_group (groups_after w.groups (join w.groups r w.events n)) name) base.moment))

  pub sync_agrees : (r : SyncGroupRequest) → AgreeAfter v w (sync_group_outcome v caller r).world (sync_group_outcome w caller r).world
  sync_agrees r =
      by_whole v w base (read_question caller r.group ∷ []) _ (served_sync v r) (served_sync w r)
      (λ granted. by_groups v w base (served_sync v r).world.groups (served_sync w r).world.groups (λ name same.
      call_goes v.groups w.groups (calls.Sync r v.moment) name same ∙ ap (λ (n : ℕ). find_group (groups_after w.groups (sync w.groups r n)) name) base.moment))

  pub beat_agrees : (r : HeartbeatRequest) → AgreeAfter v w (heartbeat_outcome v caller r).world (heartbeat_outcome w caller r).world
  beat_agrees r =
      by_whole v w base (read_question caller r.group ∷ []) _ (served_heartbeat v r) (served_heartbeat w r)
      (λ granted. by_groups v w base (served_heartbeat v r).world.groups (served_heartbeat w r).world.groups (λ name same.
      call_goes v.groups w.groups (calls.Beat r v.moment) name same ∙ ap (λ (n : ℕ). find_group (groups_after w.groups (beat w.groups r n)) name) base.moment))

  pub leave_agrees : (r : LeaveGroupRequest) → AgreeAfter v w (leave_group_outcome v caller r).world (leave_group_outcome w caller r).world
  leave_agrees r =
      by_whole v w base (read_question caller r.group ∷ []) _ (served_leave v r) (served_leave w r)
      (λ granted. by_groups v w base (served_leave v r).world.groups (served_leave w r).world.groups (call_goes v.groups w.groups (calls.Leave r)))

  abbrev AgreeOnGroup : List ℕ → List Group → List Group → Type 0
  AgreeOnGroup other us vs = find_group us other ≡ find_group vs other

  -- ---- OffsetCommit

  commit_goes : (r : OffsetCommitRequest) (other name : List ℕ) (p : OffsetToCommit) → SameGranted v w (commit_questions caller r.group name) → Goes (committing_rule v caller r) (committing_rule w caller r) (rules_of w) (AgreeOnGroup other) name p
  commit_goes r other name p same none us vs agree =
      let first = read_question caller r.group in
      let last = question_of caller operations.Read kinds.Topic name in
      let there : log_at v.topics name p.index ≡ log_at w.topics name p.index = same_log v.topics w.topics name p.index (same_topic v w last same.1 (rest_of (verdict w.book w.supers first) first (part_refusal (rules_of w) (last ∷ [])) none)) in
      ap (λ (o : Option LogValue). find_group (groups_by (committing_of r) us name p o) other) there ∙ by_log (log_at w.topics name p.index) where
        by_log : (o : Option LogValue) → find_group (groups_by (committing_of r) us name p o) other ≡ find_group (groups_by (committing_of r) vs name p o) other
        by_log None = agree
        by_log (Some log) = call_goes us vs (calls.Commits r.group r.generation r.member (offset_of name p)) other agree

  pub commit_agrees : (r : OffsetCommitRequest) → AllTopics (λ name p. SameGranted v w (commit_questions caller r.group name)) r.topics → AgreeAfter v w (offset_commit_outcome v caller r).world (offset_commit_outcome w caller r).world
  commit_agrees r all =
      by_groups v w base (offset_commit_outcome v caller r).world.groups (offset_commit_outcome w caller r).world.groups (λ other same.
      ap (λ (rules : Rules). find_group (world_after (committing_rule v caller r) rules v.groups r.topics) other) base.rules
      ∙ walk_goes (committing_rule v caller r) (committing_rule w caller r) (rules_of w) (AgreeOnGroup other) (λ name p. refl) r.topics
      (more_topics (λ name p. SameGranted v w (commit_questions caller r.group name)) (Goes (committing_rule v caller r) (committing_rule w caller r) (rules_of w) (AgreeOnGroup other)) (commit_goes r other) r.topics all) v.groups w.groups same)

  -- ---- TxnOffsetCommit

  stage_goes : (r : TxnOffsetCommitRequest) (other name : List ℕ) (p : OffsetToStage) → SameGranted v w (stage_questions caller (staging_of r) name) → Goes (staging_rule v caller r) (staging_rule w caller r) (rules_of w) (AgreeOnGroup other) name p
  stage_goes r other name p same none us vs agree =
      let s = staging_of r in
      let o = offset_staged name p in
      let first = id_question caller r.transactional_id in
      let second = read_question caller r.group in
      let last = question_of caller operations.Read kinds.Topic name in
      let none_later = rest_of (verdict w.book w.supers first) first (part_refusal (rules_of w) (second ∷ last ∷ [])) none in
      let there : log_at v.topics name p.index ≡ log_at w.topics name p.index = same_log v.topics w.topics name p.index (same_topic v w last same.1.1 (rest_of (verdict w.book w.supers second) second (part_refusal (rules_of w) (last ∷ [])) none_later)) in
      let held : staging_refusal v.coordinator s ≡ staging_refusal w.coordinator s = ap (λ (t : Option Transaction). code_unless_none (holding_code_of t s.pair (targets.Group s.group))) (same.0 (yes_of (verdict w.book w.supers first) first (part_refusal (rules_of w) (second ∷ last ∷ [])) none)) in
      ap (λ (x : Option ErrorCode). find_group (groups_after us (transition_by x s us o (log_at v.topics name p.index))) other) held
      ∙ ap (λ (log : Option LogValue). find_group (groups_after us (transition_by (staging_refusal w.coordinator s) s us o log)) other) there
      ∙ by_transition (staging_refusal w.coordinator s) (log_at w.topics name p.index) where
        by_transition : (x : Option ErrorCode) (log : Option LogValue) → find_group (groups_after us (transition_by x (staging_of r) us (offset_staged name p) log)) other ≡ find_group (groups_after vs (transition_by x (staging_of r) vs (offset_staged name p) log)) other
        by_transition x None = agree
        by_transition (Some code) (Some log) = agree
        by_transition None (Some log) = call_goes us vs (calls.Stages r.group r.producer r.generation r.member (offset_staged name p)) other agree

  pub stage_agrees : (r : TxnOffsetCommitRequest) → AllTopics (λ name p. SameGranted v w (stage_questions caller (staging_of r) name)) r.topics → AgreeAfter v w (txn_offset_commit_outcome v caller r).world (txn_offset_commit_outcome w caller r).world
  stage_agrees r all =
      by_groups v w base (txn_offset_commit_outcome v caller r).world.groups (txn_offset_commit_outcome w caller r).world.groups (λ other same.
      ap (λ (rules : Rules). find_group (world_after (staging_rule v caller r) rules v.groups r.topics) other) base.rules
      ∙ walk_goes (staging_rule v caller r) (staging_rule w caller r) (rules_of w) (AgreeOnGroup other) (λ name p. refl) r.topics
      (more_topics (λ name p. SameGranted v w (stage_questions caller (staging_of r) name)) (Goes (staging_rule v caller r) (staging_rule w caller r) (rules_of w) (AgreeOnGroup other)) (stage_goes r other) r.topics all) v.groups w.groups same)
