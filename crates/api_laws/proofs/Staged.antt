-- AddOffsetsToTxn and TxnOffsetCommit: what their answers depend on, and what they leave as it was.
use Rattle.std.proofs.Common.{◌≡◌, ◌⊎◌, inl, inr, ℕ, List, [], ◌∷◌, Option, Some, None, pos, refl, sym, ap, subst, ◌∙◌}
use Rattle.acl_binding.specs.declared.question.Caller.{Caller}
use Rattle.acl_binding.specs.declared.question.Verdict.TheVariants.{Yes}
use Rattle.acl_binding.specs.declared.words.Kind.TheVariants as kinds
use Rattle.acl_binding.specs.declared.words.Operation.TheVariants as operations
use Rattle.acl_binding.specs.Verdict.{question_of}
use Rattle.authorizer.specs.declared.answer.Refusal.{Refusal}
use Rattle.authorizer.specs.Policy.{verdict}
use Rattle.authorizer.specs.Asking.{Rules, first_of, part_refusal, question_refusal}
use Rattle.wire_types.specs.declared.error_code.ErrorCode.{ErrorCode}
use Rattle.wire_types.specs.declared.topic.Topic.{Topic}
use Rattle.msg_txn.specs.declared.add_offsets.AddOffsetsToTxnRequest.{AddOffsetsToTxnRequest}
use Rattle.msg_txn.specs.declared.txn_offset_commit.TxnOffsetCommitRequest.{TxnOffsetCommitRequest}
use Rattle.msg_txn.specs.declared.txn_offset_commit.OffsetToStage.{OffsetToStage}
use Rattle.msg_txn.specs.declared.txn_offset_commit.StagedOffset.{StagedOffset}
use Rattle.msg_admin.specs.declared.reply.Reply.TheVariants as replies
use Rattle.walk.specs.Walk.{answers, refusals}
use Rattle.walk.specs.Alike.{AllParts, AllTopics, AreAlike}
use Rattle.walk.specs.Steps.{world_by, part_world, parts_world, topics_world}
use Rattle.walk.proofs.Alikeness.{answer_alike}
use Rattle.walk.proofs.Weaving.{woven}
use Rattle.txn_coordinator.specs.declared.producer_id.ProducerIdAndEpoch.{ProducerIdAndEpoch}
use Rattle.txn_coordinator.specs.declared.target.Target.TheVariants as targets
use Rattle.txn_coordinator.specs.declared.transaction.Transaction.{Transaction}
use Rattle.txn_coordinator.specs.Transition.{Transition}
use Rattle.txn_coordinator.specs.Coordinator.{transition_code}
use Rattle.txn_coordinator.specs.Holding.{holding_code_of}
use Rattle.group_offsets.specs.declared.event.PartitionOffset.{PartitionOffset}
use Rattle.group_offsets.specs.declared.group.Group.{Group}
use Rattle.group_offsets.specs.GroupTransition.{answer_of}
use Rattle.group_offsets.specs.Group.{stage_group}
use Rattle.group_offsets.specs.Groups.{find_group, groups_after}
use Rattle.group_offsets.specs.Laws.{Call as calls}
use Rattle.broker_world.specs.World.{World, TopicValue, LogValue, rules_of}
use Rattle.broker_world.specs.Logs.{log_at}
use Rattle.broker_world.specs.Whole.{whole_outcome_by}
use Rattle.broker_world.specs.Codes.{code_unless_none}
use Rattle.broker_world.specs.Questions.{read_question}
use Rattle.broker_world.specs.Codes.{code_in}
use Rattle.broker_world.specs.Questions.{id_question}
use Rattle.txn_handlers.specs.AddOffsets.{add_offsets_questions, add_offsets_reply, add_offsets_transition, served_add_offsets, add_offsets_outcome}
use Rattle.txn_handlers.specs.TxnOffsetCommit.{Staging, staging_of, stage_questions, offset_staged, staged_code, transition_by, staging_refusal, stage_rule, staging_rule, txn_offset_commit_outcome}
use Rattle.api_laws.specs.Tenants.{SameBase, SameGranted}
use Rattle.api_laws.specs.DataTenants.{SameForParts, SameAnswer}
use Rattle.api_laws.specs.AclLaws.{IsRefusedWhole}
use Rattle.api_laws.specs.TxnLaws.{KeepsOtherIds}
use Rattle.api_laws.specs.GroupLaws.{KeepsOtherGroups}
use Rattle.api_laws.specs.StagingLaws.{StagingDependsOnGrants, StagingKeepsTheRest}
use Rattle.api_laws.proofs.DataGrants.{same_topic, same_log, rest_of, yes_of}
use Rattle.api_laws.proofs.Recorded.{AreSame, same_add_group}
use Rattle.api_laws.proofs.Together.{add_group_id, other_kept, whole_kept}
use Rattle.api_laws.proofs.Grouped.{same_group, own_name, other_name, kept_call, same_call, whole_same}
use Rattle.acl_handlers.proofs.BookBounds.{whole_topics}

-- ---- AddOffsetsToTxn: what its answer depends on

adds : (v w : World) (caller : Caller) (r : AddOffsetsToTxnRequest) → SameBase v w → SameGranted v w (add_offsets_questions caller r.transactional_id r.group) → SameAnswer (add_offsets_outcome v caller r) (add_offsets_outcome w caller r)
adds v w caller r base same =
    let first = id_question caller r.transactional_id in
    let qs = add_offsets_questions caller r.transactional_id r.group in
    let pair : ProducerIdAndEpoch = record { producer = r.producer; epoch = r.epoch } in
    subst (λ (o : Option Refusal). SameAnswer (whole_outcome_by o v (λ code. replies.AddOffsetsToTxn (add_offsets_reply code)) (served_add_offsets v r)) (add_offsets_outcome w caller r)) (ap (λ (rules : Rules). part_refusal rules qs) (sym base.rules))
    (whole_same (part_refusal (rules_of w) qs) v w _ (served_add_offsets v r) (served_add_offsets w r) (λ none.
    let agree : AreSame v.coordinator w.coordinator r.transactional_id = record { given = base.given; recorded = same.0 (yes_of (verdict w.book w.supers first) first (part_refusal (rules_of w) (read_question caller r.group ∷ [])) none) } in
    ap (λ (m : ℕ). replies.AddOffsetsToTxn (add_offsets_reply (transition_code (add_offsets_transition v.coordinator m r)))) base.moment
    ∙ ap (λ (t : Transition). replies.AddOffsetsToTxn (add_offsets_reply (transition_code t))) (same_add_group v.coordinator w.coordinator r.transactional_id pair w.moment r.group agree)))

-- ---- TxnOffsetCommit: what its answers depend on

module _ (v w : World) (caller : Caller) (s : Staging) where
  abbrev SamePart : List ℕ → OffsetToStage → Type 0
  SamePart name p = SameGranted v w (stage_questions caller s name)

  -- the lists agree on the group, where it may be read
  abbrev AgreeOn : List Group → List Group → Type 0
  AgreeOn us vs = verdict w.book w.supers (read_question caller s.group) ≡ Yes → find_group us s.group ≡ find_group vs s.group

  abbrev after_id : List ℕ → Option Refusal
  after_id name = part_refusal (rules_of w) (read_question caller s.group ∷ question_of caller operations.Read kinds.Topic name ∷ [])

  abbrev after_group : List ℕ → Option Refusal
  after_group name = part_refusal (rules_of w) (question_of caller operations.Read kinds.Topic name ∷ [])

  id_passed : (name : List ℕ) → part_refusal (rules_of w) (stage_questions caller s name) ≡ None → verdict w.book w.supers (id_question caller s.id) ≡ Yes
  id_passed name none = yes_of (verdict w.book w.supers (id_question caller s.id)) (id_question caller s.id) (after_id name) none

  group_asked : (name : List ℕ) → part_refusal (rules_of w) (stage_questions caller s name) ≡ None → after_id name ≡ None
  group_asked name none = rest_of (verdict w.book w.supers (id_question caller s.id)) (id_question caller s.id) (after_id name) none

  group_passed : (name : List ℕ) → part_refusal (rules_of w) (stage_questions caller s name) ≡ None → verdict w.book w.supers (read_question caller s.group) ≡ Yes
  group_passed name none = yes_of (verdict w.book w.supers (read_question caller s.group)) (read_question caller s.group) (after_group name) (group_asked name none)

  topic_asked : (name : List ℕ) → part_refusal (rules_of w) (stage_questions caller s name) ≡ None → after_group name ≡ None
  topic_asked name none = rest_of (verdict w.book w.supers (read_question caller s.group)) (read_question caller s.group) (after_group name) (group_asked name none)

  part_log : (name : List ℕ) (p : OffsetToStage) → SamePart name p → part_refusal (rules_of w) (stage_questions caller s name) ≡ None → log_at v.topics name p.index ≡ log_at w.topics name p.index
  part_log name p same none = same_log v.topics w.topics name p.index (same_topic v w (question_of caller operations.Read kinds.Topic name) same.1.1 (topic_asked name none))

  part_refusal_same : (name : List ℕ) (p : OffsetToStage) → SamePart name p → part_refusal (rules_of w) (stage_questions caller s name) ≡ None → staging_refusal v.coordinator s ≡ staging_refusal w.coordinator s
  part_refusal_same name p same none = ap (λ (o : Option Transaction). code_unless_none (holding_code_of o s.pair (targets.Group s.group))) (same.0 (id_passed name none))

  same_code : (us vs : List Group) (o : PartitionOffset) (x : Option ErrorCode) (log : Option LogValue) → find_group us s.group ≡ find_group vs s.group → code_in (answer_of (transition_by x s us o log)) ≡ code_in (answer_of (transition_by x s vs o log))
  same_code us vs o x None same = refl
  same_code us vs o (Some code) (Some log) same = refl
  same_code us vs o None (Some log) same = ap (λ (g : Group). code_in (answer_of (stage_group g s.pair.producer s.generation s.member o))) (same_group us vs s.group same)

  same_after : (us vs : List Group) (o : PartitionOffset) (x : Option ErrorCode) (log : Option LogValue) → find_group us s.group ≡ find_group vs s.group → find_group (groups_after us (transition_by x s us o log)) s.group ≡ find_group (groups_after vs (transition_by x s vs o log)) s.group
  same_after us vs o x None same = same
  same_after us vs o (Some code) (Some log) same = same
  same_after us vs o None (Some log) same = same_call us vs (calls.Stages s.group s.pair.producer s.generation s.member o) s.group (own_name s.group) same

  stage_alike : AreAlike (stage_rule caller s (staging_refusal v.coordinator s) v.topics) (stage_rule caller s (staging_refusal w.coordinator s) w.topics) (rules_of w) SamePart AgreeOn
  stage_alike = record {
    questions = λ name p. refl;
    refused = λ code name p. refl;
    plain = λ us vs name p is agree none.
        ap (λ (x : Option ErrorCode). staged_code (code_in (answer_of (transition_by x s us (offset_staged name p) (log_at v.topics name p.index)))) p) (part_refusal_same name p is none)
        ∙ ap (λ (log : Option LogValue). staged_code (code_in (answer_of (transition_by (staging_refusal w.coordinator s) s us (offset_staged name p) log))) p) (part_log name p is none)
        ∙ ap (λ (code : ErrorCode). staged_code code p) (same_code us vs (offset_staged name p) (staging_refusal w.coordinator s) (log_at w.topics name p.index) (agree (group_passed name none)));
    after = λ us vs name p is agree none yes.
        ap (λ (x : Option ErrorCode). find_group (groups_after us (transition_by x s us (offset_staged name p) (log_at v.topics name p.index))) s.group) (part_refusal_same name p is none)
        ∙ ap (λ (log : Option LogValue). find_group (groups_after us (transition_by (staging_refusal w.coordinator s) s us (offset_staged name p) log)) s.group) (part_log name p is none)
        ∙ same_after us vs (offset_staged name p) (staging_refusal w.coordinator s) (log_at w.topics name p.index) (agree yes);
  }

  -- there is no part, or what its second question says
  abbrev NoPart : List ℕ → OffsetToStage → Type 0
  NoPart name p = ⊥

  part_or_none : (ts : List (Topic OffsetToStage)) → AllTopics SamePart ts → AllTopics NoPart ts ⊎ AgreeOn v.groups w.groups
  part_or_none [] same = inl tt
  part_or_none (t ∷ ts) same = by_parts t.name t.partitions same.0 (part_or_none ts same.1) where
    by_rest : AllTopics NoPart ts ⊎ AgreeOn v.groups w.groups → (AllParts NoPart t.name [] × AllTopics NoPart ts) ⊎ AgreeOn v.groups w.groups
    by_rest (inl none) = inl (tt, none)
    by_rest (inr agree) = inr agree

    by_parts : (name : List ℕ) (ps : List OffsetToStage) → AllParts SamePart name ps → AllTopics NoPart ts ⊎ AgreeOn v.groups w.groups → (AllParts NoPart name ps × AllTopics NoPart ts) ⊎ AgreeOn v.groups w.groups
    by_parts name [] here rest = by_rest rest
    by_parts name (p ∷ ps) here rest = inr here.0.1.0

  none_alike : AreAlike (stage_rule caller s (staging_refusal v.coordinator s) v.topics) (stage_rule caller s (staging_refusal w.coordinator s) w.topics) (rules_of w) NoPart (λ us vs. Unit {0})
  none_alike = record {
    questions = λ name p. refl;
    refused = λ code name p. refl;
    plain = λ us vs name p is agree none. absurd is;
    after = λ us vs name p is agree none. tt;
  }

  abbrev AreTold : List (Topic OffsetToStage) → Type 0
  AreTold ts = (answers (stage_rule caller s (staging_refusal v.coordinator s) v.topics) (rules_of w) v.groups ts ≡ answers (stage_rule caller s (staging_refusal w.coordinator s) w.topics) (rules_of w) w.groups ts)
      × (refusals (stage_rule caller s (staging_refusal v.coordinator s) v.topics) (rules_of w) ts ≡ refusals (stage_rule caller s (staging_refusal w.coordinator s) w.topics) (rules_of w) ts)

  same_stages : (ts : List (Topic OffsetToStage)) → AllTopics SamePart ts → AreTold ts
  same_stages ts same = by_case (part_or_none ts same) where
    by_case : AllTopics NoPart ts ⊎ AgreeOn v.groups w.groups → AreTold ts
    by_case (inl none) =
        let alike = answer_alike (stage_rule caller s (staging_refusal v.coordinator s) v.topics) (stage_rule caller s (staging_refusal w.coordinator s) w.topics) (rules_of w) NoPart (λ us vs. Unit {0}) none_alike v.groups w.groups ts none tt in
        (alike.answers, alike.refusals)
    by_case (inr agree) =
        let alike = answer_alike (stage_rule caller s (staging_refusal v.coordinator s) v.topics) (stage_rule caller s (staging_refusal w.coordinator s) w.topics) (rules_of w) SamePart AgreeOn stage_alike v.groups w.groups ts same agree in
        (alike.answers, alike.refusals)

stages : (v w : World) (caller : Caller) (r : TxnOffsetCommitRequest) → SameBase v w → SameForParts v w (staging_rule w caller r) r.topics → SameAnswer (txn_offset_commit_outcome v caller r) (txn_offset_commit_outcome w caller r)
stages v w caller r base same =
    let told = same_stages v w caller (staging_of r) r.topics same in
    record {
      reply = ap (λ (topics : List (Topic StagedOffset)). replies.TxnOffsetCommit (record { throttle = pos 0; topics = topics })) (ap (λ (rules : Rules). answers (staging_rule v caller r) rules v.groups r.topics) base.rules ∙ told.0);
      refusals = ap (λ (rules : Rules). refusals (staging_rule v caller r) rules r.topics) base.rules ∙ told.1;
    }

pub staging_depends : StagingDependsOnGrants add_offsets_outcome txn_offset_commit_outcome
staging_depends = record { adds = adds; stages = stages }

-- ---- what stays as it was

whole_groups : (o : Option Refusal) (w : World) (r : AddOffsetsToTxnRequest) → (whole_outcome_by o w (λ code. replies.AddOffsetsToTxn (add_offsets_reply code)) (served_add_offsets w r)).world.groups ≡ w.groups
whole_groups None w r = refl
whole_groups (Some refusal) w r = refl

adds_kept : (w : World) (caller : Caller) (r : AddOffsetsToTxnRequest) → KeepsOtherIds w r.transactional_id (add_offsets_outcome w caller r)
adds_kept w caller r =
    let o = part_refusal (rules_of w) (add_offsets_questions caller r.transactional_id r.group) in
    let pair : ProducerIdAndEpoch = record { producer = r.producer; epoch = r.epoch } in
    record {
      others = λ other differ. whole_kept o w _ (served_add_offsets w r) other (other_kept w.coordinator r.transactional_id other (add_offsets_transition w.coordinator w.moment r) (add_group_id w.coordinator r.transactional_id pair w.moment r.group) differ);
      topics = whole_topics o w _ _ refl;
    }

module _ (rules : Rules) (caller : Caller) (s : Staging) (refusal : Option ErrorCode) (topics : List TopicValue) (other : List ℕ) (differ : other ≡ s.group → ⊥) where
  stage_kept : (gs : List Group) (o : PartitionOffset) (x : Option ErrorCode) (log : Option LogValue) → find_group (groups_after gs (transition_by x s gs o log)) other ≡ find_group gs other
  stage_kept gs o x None = refl
  stage_kept gs o (Some code) (Some log) = refl
  stage_kept gs o None (Some log) = kept_call gs (calls.Stages s.group s.pair.producer s.generation s.member o) other (other_name s.group other differ)

  part_kept : (gs : List Group) (name : List ℕ) (p : OffsetToStage) → find_group (part_world (stage_rule caller s refusal topics) rules gs name p) other ≡ find_group gs other
  part_kept gs name p = by_refusal (part_refusal rules (stage_questions caller s name)) where
    by_refusal : (r : Option Refusal) → find_group (world_by (stage_rule caller s refusal topics) r gs name p) other ≡ find_group gs other
    by_refusal (Some r) = refl
    by_refusal None = stage_kept gs (offset_staged name p) refusal (log_at topics name p.index)

  parts_kept : (gs : List Group) (name : List ℕ) (ps : List OffsetToStage) → find_group (parts_world (stage_rule caller s refusal topics) rules gs name ps) other ≡ find_group gs other
  parts_kept gs name [] = refl
  parts_kept gs name (p ∷ ps) = parts_kept (part_world (stage_rule caller s refusal topics) rules gs name p) name ps ∙ part_kept gs name p

  topics_kept : (gs : List Group) (ts : List (Topic OffsetToStage)) → find_group (topics_world (stage_rule caller s refusal topics) rules gs ts) other ≡ find_group gs other
  topics_kept gs [] = refl
  topics_kept gs (t ∷ ts) = topics_kept (parts_world (stage_rule caller s refusal topics) rules gs t.name t.partitions) ts ∙ parts_kept gs t.name t.partitions

stages_kept : (w : World) (caller : Caller) (r : TxnOffsetCommitRequest) → KeepsOtherGroups w r.group (txn_offset_commit_outcome w caller r)
stages_kept w caller r = record {
  others = λ other differ. ap (λ (gs : List Group). find_group gs other) (sym (woven (staging_rule w caller r) (rules_of w) w.groups r.topics).world)
      ∙ topics_kept (rules_of w) caller (staging_of r) (staging_refusal w.coordinator (staging_of r)) w.topics other differ w.groups r.topics;
  topics = refl;
  coordinator = refl;
}

-- where the id may not be written, or the group not be read, no part is served
refused_before : (a b c : Option Refusal) (r : Refusal) → first_of a (first_of b None) ≡ Some r → first_of a (first_of b c) ≡ Some r
refused_before (Some x) b c r is = is
refused_before None (Some y) c r is = is
refused_before None None c r is = absurd (let clash : None ≡ Some r = is in cc)

module _ (rules : Rules) (caller : Caller) (s : Staging) (refusal : Option ErrorCode) (topics : List TopicValue) (r : Refusal) (refused : part_refusal rules (id_question caller s.id ∷ read_question caller s.group ∷ []) ≡ Some r) where
  part_still : (gs : List Group) (name : List ℕ) (p : OffsetToStage) → part_world (stage_rule caller s refusal topics) rules gs name p ≡ gs
  part_still gs name p = ap (λ (o : Option Refusal). world_by (stage_rule caller s refusal topics) o gs name p)
      (refused_before (question_refusal rules (id_question caller s.id)) (question_refusal rules (read_question caller s.group)) (part_refusal rules (question_of caller operations.Read kinds.Topic name ∷ [])) r refused)

  parts_still : (gs : List Group) (name : List ℕ) (ps : List OffsetToStage) → parts_world (stage_rule caller s refusal topics) rules gs name ps ≡ gs
  parts_still gs name [] = refl
  parts_still gs name (p ∷ ps) = parts_still (part_world (stage_rule caller s refusal topics) rules gs name p) name ps ∙ part_still gs name p

  topics_still : (gs : List Group) (ts : List (Topic OffsetToStage)) → topics_world (stage_rule caller s refusal topics) rules gs ts ≡ gs
  topics_still gs [] = refl
  topics_still gs (t ∷ ts) = topics_still (parts_world (stage_rule caller s refusal topics) rules gs t.name t.partitions) ts ∙ parts_still gs t.name t.partitions

pub staging_keeps : StagingKeepsTheRest add_offsets_outcome txn_offset_commit_outcome
staging_keeps = record {
  adds = adds_kept;
  adds_groups = λ w caller r. whole_groups (part_refusal (rules_of w) (add_offsets_questions caller r.transactional_id r.group)) w r;
  stages = stages_kept;
  refused_add = λ w caller q r is. subst (IsRefusedWhole w r) (ap (λ (o : Option Refusal). whole_outcome_by o w (λ code. replies.AddOffsetsToTxn (add_offsets_reply code)) (served_add_offsets w q)) (sym is)) (record { world = refl; refusals = refl });
  refused_stage = λ w caller q r is.
      sym (woven (staging_rule w caller q) (rules_of w) w.groups q.topics).world
      ∙ topics_still (rules_of w) caller (staging_of q) (staging_refusal w.coordinator (staging_of q)) w.topics r is w.groups q.topics;
}
