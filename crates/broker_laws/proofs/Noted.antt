-- The moves of an OffsetCommit and of a TxnOffsetCommit lead where their partitions do, and a group keeps its events.
use Rattle.std.proofs.Common.{◌≡◌, ℕ, List, [], ◌∷◌, ◌++◌, Option, Some, None, Bool, true, false, cond, refl, sym, ap, subst, ◌∙◌, append-nil, append_assoc}
use Rattle.std.specs.Str.{bytes_eq}
use Rattle.acl_binding.specs.declared.question.Caller.{Caller}
use Rattle.wire_types.specs.declared.error_code.ErrorCode.{ErrorCode}
use Rattle.wire_types.specs.declared.error_code.ErrorCode.TheVariants as codes
use Rattle.wire_types.specs.declared.topic.Topic.{Topic}
use Rattle.msg_group.specs.declared.offset_commit.OffsetCommitRequest.{OffsetCommitRequest}
use Rattle.msg_group.specs.declared.offset_commit.OffsetToCommit.{OffsetToCommit}
use Rattle.msg_txn.specs.declared.txn_offset_commit.TxnOffsetCommitRequest.{TxnOffsetCommitRequest}
use Rattle.msg_txn.specs.declared.txn_offset_commit.TxnOffsetCommitReply.{TxnOffsetCommitReply}
use Rattle.msg_txn.specs.declared.txn_offset_commit.OffsetToStage.{OffsetToStage}
use Rattle.msg_txn.specs.declared.txn_offset_commit.StagedOffset.{StagedOffset}
use Rattle.msg_admin.specs.declared.request.Request.TheVariants.{TxnOffsetCommit}
use Rattle.msg_admin.specs.declared.reply.Reply.TheVariants as replies
use Rattle.audit_trail.specs.declared.event.Event.TheVariants.{Ask}
use Rattle.walk.specs.Steps.{topics_world, topics_answers}
use Rattle.walk.proofs.Weaving.{woven}
use Rattle.txn_coordinator.specs.declared.target.Target.TheVariants.{Group}
use Rattle.group_offsets.specs.declared.event.PartitionOffset.{PartitionOffset}
use Rattle.group_offsets.specs.declared.event.OffsetEvent.{OffsetEvent}
use Rattle.group_offsets.specs.declared.event.OffsetEvent.TheVariants.{Put, Stage}
use Rattle.group_offsets.specs.declared.group.Group.{Group as GroupValue}
use Rattle.group_offsets.specs.GroupTransition.{answer_of}
use Rattle.group_offsets.specs.Group.{commit_refusal, stage_refusal, with_event, event_transition}
use Rattle.group_offsets.specs.Groups.{group_of, groups_with, groups_after}
use Rattle.txn_laws.specs.Small.{World as SmallWorld, Move, world_with_entry, count_of_marks as small_marks}
use Rattle.txn_laws.specs.Small.Entry.{Data}
use Rattle.txn_laws.specs.Small.Move.{Store, Plain}
use Rattle.txn_laws.specs.Sound.{Each}
use Rattle.txn_laws.specs.Kept.{kept_world_after_moves}
use Rattle.txn_laws.proofs.Base.{each_append}
use Rattle.broker_world.specs.World.{World, LogValue, rules_of}
use Rattle.broker_world.specs.Logs.{log_at}
use Rattle.broker_world.specs.Codes.{code_in}
use Rattle.group_handlers.specs.OffsetCommit.{Committing, committing_of, offset_of, groups_by, committing_rule}
use Rattle.txn_handlers.specs.TxnOffsetCommit.{Staging, staging_of, offset_staged, staged_code, transition_by, staging_refusal, staging_rule}
use Rattle.broker_laws.specs.Entries.{in_group, event_entry, small_world}
use Rattle.broker_laws.specs.Moves.{topics_moves, transition_moves, commit_moves, committed_moves, staged_moves}
use Rattle.broker_laws.specs.Laws.{StagesNothing}
use Rattle.broker_laws.proofs.Offsets.{text_is, noted_offsets, noted_entries, SameOffsets}
use Rattle.broker_laws.proofs.Passing.{held_holds, never_none, held_error}
use Rattle.broker_laws.proofs.Walks.{walk_moved, unmarked_walk, walk_goes, walk_is}

-- the world with these groups
abbrev at : World → List GroupValue → SmallWorld
at w gs = small_world (record w { groups = gs })

-- ---- an event that a group notes, if it doesn't refuse it

noted_moved : (w : World) (gs : List GroupValue) (name : List ℕ) (e : OffsetEvent) (ms : List Move) → kept_world_after_moves (at w gs) ms ≡ world_with_entry (at w gs) (Group name) (event_entry e) → (refusal : Option ErrorCode)
    → at w (groups_after gs (event_transition refusal (group_of gs name) e)) ≡ kept_world_after_moves (at w gs) (transition_moves (event_transition refusal (group_of gs name) e) ms)
noted_moved w gs name e ms is (Some code) = refl
noted_moved w gs name e ms is None = (λ k. record { coordinator = w.coordinator; entries = λ t. noted_entries w.topics gs name e t k; moment = w.moment }) ∙ sym is

-- ---- OffsetCommit

commit_moved : (w : World) (c : Committing) (gs : List GroupValue) (name : List ℕ) (p : OffsetToCommit) (o : Option LogValue) → at w (groups_by c gs name p o) ≡ kept_world_after_moves (at w gs) (commit_moves c gs name p o)
commit_moved w c gs name p None = refl
commit_moved w c gs name p (Some log) = noted_moved w gs c.group (Put (offset_of name p)) (Plain (Group c.group) ∷ []) refl (commit_refusal (group_of gs c.group) c.generation c.member)

pub commits_moved : (w : World) (caller : Caller) (r : OffsetCommitRequest)
    → at w (topics_world (committing_rule w caller r) (rules_of w) w.groups r.topics) ≡ kept_world_after_moves (small_world w) (topics_moves (committing_rule w caller r) (rules_of w) (committed_moves w r) w.groups r.topics)
commits_moved w caller r =
    walk_moved (committing_rule w caller r) (rules_of w) (committed_moves w r) (at w) (λ gs name p. commit_moved w (committing_of r) gs name p (log_at w.topics name p.index)) w.groups r.topics

-- ---- TxnOffsetCommit

stage_moved : (w : World) (s : Staging) (gs : List GroupValue) (o : PartitionOffset) (found : Option LogValue) (refusal : Option ErrorCode) → staging_refusal w.coordinator s ≡ refusal
    → at w (groups_after gs (transition_by refusal s gs o found)) ≡ kept_world_after_moves (at w gs) (transition_moves (transition_by refusal s gs o found) (Store s.id s.pair (Group s.group) ∷ []))
stage_moved w s gs o None refusal e = refl
stage_moved w s gs o (Some log) (Some code) e = refl
stage_moved w s gs o (Some log) None e =
    noted_moved w gs s.group (Stage s.pair.producer o) (Store s.id s.pair (Group s.group) ∷ []) stored (stage_refusal (group_of gs s.group) s.generation s.member) where
      stored : kept_world_after_moves (at w gs) (Store s.id s.pair (Group s.group) ∷ []) ≡ world_with_entry (at w gs) (Group s.group) (Data (in_group s.pair.producer))
      stored = ap (λ k. cond k (world_with_entry (at w gs) (Group s.group) (Data (in_group s.pair.producer))) (at w gs)) (held_holds w.coordinator s.id s.pair (Group s.group) e)

pub stages_moved : (w : World) (caller : Caller) (r : TxnOffsetCommitRequest)
    → at w (topics_world (staging_rule w caller r) (rules_of w) w.groups r.topics) ≡ kept_world_after_moves (small_world w) (topics_moves (staging_rule w caller r) (rules_of w) (staged_moves w r) w.groups r.topics)
stages_moved w caller r =
    walk_moved (staging_rule w caller r) (rules_of w) (staged_moves w r) (at w)
    (λ gs name p. stage_moved w (staging_of r) gs (offset_staged name p) (log_at w.topics name p.index) (staging_refusal w.coordinator (staging_of r)) refl)
    w.groups r.topics

-- ---- no marks are among them

unmarked_transition : (refusal : Option ErrorCode) (g : GroupValue) (e : OffsetEvent) (ms : List Move) → small_marks ms ≡ 0 → small_marks (transition_moves (event_transition refusal g e) ms) ≡ 0
unmarked_transition None g e ms h = h
unmarked_transition (Some code) g e ms h = refl

unmarked_commit : (c : Committing) (gs : List GroupValue) (name : List ℕ) (p : OffsetToCommit) (o : Option LogValue) → small_marks (commit_moves c gs name p o) ≡ 0
unmarked_commit c gs name p None = refl
unmarked_commit c gs name p (Some log) = unmarked_transition (commit_refusal (group_of gs c.group) c.generation c.member) (group_of gs c.group) (Put (offset_of name p)) _ refl

unmarked_stage : (s : Staging) (gs : List GroupValue) (o : PartitionOffset) (found : Option LogValue) (refusal : Option ErrorCode) (ms : List Move) → small_marks ms ≡ 0 → small_marks (transition_moves (transition_by refusal s gs o found) ms) ≡ 0
unmarked_stage s gs o None refusal ms h = refl
unmarked_stage s gs o (Some log) (Some code) ms h = refl
unmarked_stage s gs o (Some log) None ms h = unmarked_transition (stage_refusal (group_of gs s.group) s.generation s.member) (group_of gs s.group) (Stage s.pair.producer o) ms h

pub unmarked_commits : (w : World) (caller : Caller) (r : OffsetCommitRequest) → small_marks (topics_moves (committing_rule w caller r) (rules_of w) (committed_moves w r) w.groups r.topics) ≡ 0
unmarked_commits w caller r =
    unmarked_walk (committing_rule w caller r) (rules_of w) (committed_moves w r) (λ gs name p. unmarked_commit (committing_of r) gs name p (log_at w.topics name p.index)) w.groups r.topics

pub unmarked_stages : (w : World) (caller : Caller) (r : TxnOffsetCommitRequest) → small_marks (topics_moves (staging_rule w caller r) (rules_of w) (staged_moves w r) w.groups r.topics) ≡ 0
unmarked_stages w caller r =
    unmarked_walk (staging_rule w caller r) (rules_of w) (staged_moves w r)
    (λ gs name p. unmarked_stage (staging_of r) gs (offset_staged name p) (log_at w.topics name p.index) (staging_refusal w.coordinator (staging_of r)) _ refl)
    w.groups r.topics

-- ---- a group's events stay, and others come after them

pub record Follows (Comes : OffsetEvent → Type 0) (old new : List OffsetEvent) : Type 0 where
  pub more : List OffsetEvent
  pub events : new ≡ old ++ more
  pub ways : Each Comes more

-- so in each group, by what may come into it
abbrev pub GoOn : (List ℕ → OffsetEvent → Type 0) → List GroupValue → List GroupValue → Type 0
GoOn Comes old new = (name : List ℕ) → Follows (Comes name) (group_of old name).offsets (group_of new name).offsets

module _ (Comes : List ℕ → OffsetEvent → Type 0) where
  follows_same : (name : List ℕ) (old new : List OffsetEvent) → new ≡ old → Follows (Comes name) old new
  follows_same name old new same = record { more = []; events = same ∙ sym (append-nil old); ways = tt }

  pub go_kept : (old new : List GroupValue) → SameOffsets old new → GoOn Comes old new
  go_kept old new same name = follows_same name (group_of old name).offsets (group_of new name).offsets (same name)

  pub go_same : (gs : List GroupValue) → GoOn Comes gs gs
  go_same gs = go_kept gs gs (λ name. refl)

  pub go_joined : (us vs ws : List GroupValue) → GoOn Comes us vs → GoOn Comes vs ws → GoOn Comes us ws
  go_joined us vs ws first second name =
      let a = first name in
      let b = second name in
      record {
        more = a.more ++ b.more;
        events = b.events ∙ ap (λ l. l ++ b.more) a.events ∙ append_assoc (group_of us name).offsets a.more b.more;
        ways = each_append (Comes name) a.more b.more a.ways b.ways;
      }

  pub go_noted : (gs : List GroupValue) (name : List ℕ) (e : OffsetEvent) (refusal : Option ErrorCode) → Comes name e → GoOn Comes gs (groups_after gs (event_transition refusal (group_of gs name) e))
  go_noted gs name e (Some code) way other = go_same gs other
  go_noted gs name e None way other = by_name (bytes_eq name other) refl (noted_offsets gs name e other) where
    by_name : (b : Bool) → bytes_eq name other ≡ b → (group_of (groups_with gs (with_event e (group_of gs name))) other).offsets ≡ cond b ((group_of gs other).offsets ++ e ∷ []) (group_of gs other).offsets
        → Follows (Comes other) (group_of gs other).offsets (group_of (groups_with gs (with_event e (group_of gs name))) other).offsets
    by_name true same is = record { more = e ∷ []; events = is; ways = (subst (λ n. Comes n e) (text_is name other same) way, tt) }
    by_name false same is = follows_same other _ _ is

  go_committed : (c : Committing) → ((o : PartitionOffset) → Comes c.group (Put o)) → (gs : List GroupValue) (name : List ℕ) (p : OffsetToCommit) (o : Option LogValue) → GoOn Comes gs (groups_by c gs name p o)
  go_committed c way gs name p None = go_same gs
  go_committed c way gs name p (Some log) = go_noted gs c.group (Put (offset_of name p)) (commit_refusal (group_of gs c.group) c.generation c.member) (way (offset_of name p))

  pub go_commits : (w : World) (caller : Caller) (r : OffsetCommitRequest) → ((o : PartitionOffset) → Comes r.group (Put o)) → GoOn Comes w.groups (topics_world (committing_rule w caller r) (rules_of w) w.groups r.topics)
  go_commits w caller r way =
      walk_goes (committing_rule w caller r) (rules_of w) (GoOn Comes) go_same go_joined (λ gs name p. go_committed (committing_of r) way gs name p (log_at w.topics name p.index)) w.groups r.topics

  go_staged : (s : Staging) (refusal : Option ErrorCode) → (refusal ≡ None → (o : PartitionOffset) → Comes s.group (Stage s.pair.producer o)) → (gs : List GroupValue) (o : PartitionOffset) (found : Option LogValue) → GoOn Comes gs (groups_after gs (transition_by refusal s gs o found))
  go_staged s refusal way gs o None = go_same gs
  go_staged s (Some code) way gs o (Some log) = go_same gs
  go_staged s None way gs o (Some log) = go_noted gs s.group (Stage s.pair.producer o) (stage_refusal (group_of gs s.group) s.generation s.member) (way refl o)

  pub go_stages : (w : World) (caller : Caller) (r : TxnOffsetCommitRequest) → (staging_refusal w.coordinator (staging_of r) ≡ None → (o : PartitionOffset) → Comes r.group (Stage r.producer o)) → GoOn Comes w.groups (topics_world (staging_rule w caller r) (rules_of w) w.groups r.topics)
  go_stages w caller r way =
      walk_goes (staging_rule w caller r) (rules_of w) (GoOn Comes) go_same go_joined
      (λ gs name p. go_staged (staging_of r) (staging_refusal w.coordinator (staging_of r)) way gs (offset_staged name p) (log_at w.topics name p.index))
      w.groups r.topics

-- ---- a transaction that is refused stages nothing

refused_staging : (s : Staging) (gs : List GroupValue) (o : PartitionOffset) (found : Option LogValue) (refusal : Option ErrorCode) → (refusal ≡ None → ⊥) → groups_after gs (transition_by refusal s gs o found) ≡ gs
refused_staging s gs o None refusal refused = refl
refused_staging s gs o (Some log) (Some code) refused = refl
refused_staging s gs o (Some log) None refused = absurd (refused refl)

refused_stages : (w : World) (caller : Caller) (r : TxnOffsetCommitRequest) → (staging_refusal w.coordinator (staging_of r) ≡ None → ⊥) → topics_world (staging_rule w caller r) (rules_of w) w.groups r.topics ≡ w.groups
refused_stages w caller r refused =
    walk_goes (staging_rule w caller r) (rules_of w) (λ old new. new ≡ old) (λ gs. refl) (λ us vs ws a b. b ∙ a)
    (λ gs name p. refused_staging (staging_of r) gs (offset_staged name p) (log_at w.topics name p.index) (staging_refusal w.coordinator (staging_of r)) refused)
    w.groups r.topics

-- the partition is answered an error
abbrev Fails : StagedOffset → Type 0
Fails p = p.error ≡ codes.None → ⊥

refused_fails : (s : Staging) (gs : List GroupValue) (name : List ℕ) (p : OffsetToStage) (found : Option LogValue) (refusal : Option ErrorCode) → (refusal ≡ None → ⊥) → (refusal ≡ Some codes.None → ⊥)
    → Fails (staged_code (code_in (answer_of (transition_by refusal s gs (offset_staged name p) found))) p)
refused_fails s gs name p None refusal refused error h = let clash : codes.UnknownTopicOrPartition ≡ codes.None = h in cc
refused_fails s gs name p (Some log) (Some code) refused error h = error (ap Some h)
refused_fails s gs name p (Some log) None refused error h = refused refl

fails_all : (w : World) (caller : Caller) (r : TxnOffsetCommitRequest) → (staging_refusal w.coordinator (staging_of r) ≡ None → ⊥) → Each (λ (t : Topic StagedOffset). Each Fails t.partitions) (topics_answers (staging_rule w caller r) (rules_of w) w.groups r.topics)
fails_all w caller r refused =
    let s = staging_of r in
    walk_is (staging_rule w caller r) (rules_of w) Fails
    (λ gs name p. refused_fails s gs name p (log_at w.topics name p.index) (staging_refusal w.coordinator s) refused (held_error w.coordinator s.id s.pair (Group s.group)))
    (λ refusal name p. never_none refusal.question.kind)
    w.groups r.topics

reply_topics : (a b : TxnOffsetCommitReply) → replies.TxnOffsetCommit a ≡ replies.TxnOffsetCommit b → a.topics ≡ b.topics
reply_topics a b h = let same : a ≡ b = cc in ap (λ (x : TxnOffsetCommitReply). x.topics) same

pub stages_nothing : (w : World) (caller : Caller) (client : Option (List ℕ)) (r : TxnOffsetCommitRequest) → (staging_refusal w.coordinator (staging_of r) ≡ None → ⊥) → StagesNothing w (Ask caller client (TxnOffsetCommit r))
stages_nothing w caller client r refused =
    let walk = woven (staging_rule w caller r) (rules_of w) w.groups r.topics in
    record {
      groups = sym walk.world ∙ refused_stages w caller r refused;
      fails = λ reply told. subst (Each (λ (t : Topic StagedOffset). Each Fails t.partitions)) (walk.answers ∙ reply_topics _ reply told) (fails_all w caller r refused);
    }
