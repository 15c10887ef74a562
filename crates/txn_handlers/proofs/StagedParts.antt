-- A part of a TxnOffsetCommit that is granted is staged, or told why it isn't.
use Rattle.std.proofs.Common.{◌≡◌, ℕ, List, [], ◌∷◌, Option, None, pos, sym, ap, subst, ◌∙◌}
use Rattle.acl_binding.specs.declared.question.Caller.{Caller}
use Rattle.acl_binding.specs.declared.question.Question.{Question}
use Rattle.acl_binding.specs.declared.words.Kind.TheVariants as kinds
use Rattle.acl_binding.specs.declared.words.Operation.TheVariants as operations
use Rattle.acl_binding.specs.Verdict.{question_of}
use Rattle.authorizer.specs.declared.answer.Refusal.{Refusal}
use Rattle.authorizer.specs.Asking.{Rules, part_refusal}
use Rattle.wire_types.specs.declared.error_code.ErrorCode.{ErrorCode}
use Rattle.wire_types.specs.declared.topic.Topic.{Topic}
use Rattle.msg_admin.specs.declared.reply.Reply.TheVariants as replies
use Rattle.msg_txn.specs.declared.txn_offset_commit.TxnOffsetCommitRequest.{TxnOffsetCommitRequest}
use Rattle.msg_txn.specs.declared.txn_offset_commit.OffsetToStage.{OffsetToStage}
use Rattle.msg_txn.specs.declared.txn_offset_commit.StagedOffset.{StagedOffset}
use Rattle.walk.specs.Walk.{world_after, answers}
use Rattle.walk.specs.Steps.{world_by, part_world}
use Rattle.group_offsets.specs.declared.group.Group.{Group}
use Rattle.group_offsets.specs.Groups.{groups_after}
use Rattle.broker_world.specs.World.{World, TopicValue, rules_of}
use Rattle.broker_world.specs.Questions.{read_question}
use Rattle.broker_world.specs.Questions.{id_question}
use Rattle.txn_handlers.specs.TxnOffsetCommit.{Staging, staging_of, stage_questions, staging_refusal, stage_transition, stage_rule, txn_offset_commit_outcome}

pub granted_three : (rules : Rules) (caller : Caller) (s : Staging) (name : List ℕ) (first second third : Question) → first ≡ id_question caller s.id → second ≡ read_question caller s.group → third ≡ question_of caller operations.Read kinds.Topic name
    → part_refusal rules (first ∷ second ∷ third ∷ []) ≡ None → part_refusal rules (stage_questions caller s name) ≡ None
granted_three rules caller s name first second third id group topic none =
    subst (λ (q : Question). part_refusal rules (id_question caller s.id ∷ read_question caller s.group ∷ q ∷ []) ≡ None) topic
    (subst (λ (q : Question). part_refusal rules (id_question caller s.id ∷ q ∷ third ∷ []) ≡ None) group
    (subst (λ (q : Question). part_refusal rules (q ∷ second ∷ third ∷ []) ≡ None) id none))

module _ (rules : Rules) (caller : Caller) (s : Staging) (refusal : Option ErrorCode) (topics : List TopicValue) (gs : List Group) (name : List ℕ) (p : OffsetToStage) (none : part_refusal rules (stage_questions caller s name) ≡ None) where
  pub staged_world : groups_after gs (stage_transition refusal topics s gs name p) ≡ part_world (stage_rule caller s refusal topics) rules gs name p
  staged_world = ap (λ (o : Option Refusal). world_by (stage_rule caller s refusal topics) o gs name p) (sym none)

-- ---- the whole request

module _ (w : World) (caller : Caller) (r : TxnOffsetCommitRequest) (refusal : Option ErrorCode) (is : refusal ≡ staging_refusal w.coordinator (staging_of r)) where
  pub staged_groups : (gs : List Group) → gs ≡ world_after (stage_rule caller (staging_of r) refusal w.topics) (rules_of w) w.groups r.topics → record w { groups = gs } ≡ (txn_offset_commit_outcome w caller r).world
  staged_groups gs told =
      ap (λ (gs : List Group). record w { groups = gs }) (told ∙ ap (λ (x : Option ErrorCode). world_after (stage_rule caller (staging_of r) x w.topics) (rules_of w) w.groups r.topics) is)

  pub staged_reply : (ts : List (Topic StagedOffset)) → ts ≡ answers (stage_rule caller (staging_of r) refusal w.topics) (rules_of w) w.groups r.topics → replies.TxnOffsetCommit (record { throttle = pos 0; topics = ts }) ≡ (txn_offset_commit_outcome w caller r).reply
  staged_reply ts told =
      ap (λ (ts : List (Topic StagedOffset)). replies.TxnOffsetCommit (record { throttle = pos 0; topics = ts })) (told ∙ ap (λ (x : Option ErrorCode). answers (stage_rule caller (staging_of r) x w.topics) (rules_of w) w.groups r.topics) is)
