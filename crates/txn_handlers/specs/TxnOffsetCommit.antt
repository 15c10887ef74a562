-- TxnOffsetCommit: offsets are committed for a group with a producer's transaction: what one
-- partition asks, does and is answered (Kafka protocol guide, "TxnOffsetCommit API (Key: 28)";
-- KIP-98, KIP-447).
use Rattle.std.specs.Prelude.{ℕ, ℤ, pos, List, [], ◌∷◌, Option, Some, None, unwrap_or}
use Rattle.std.proofs.Common.{zero-le}
use Rattle.acl_binding.specs.declared.question.Caller.{Caller}
use Rattle.acl_binding.specs.declared.question.Question.{Question}
use Rattle.acl_binding.specs.declared.words.Kind.TheVariants as kinds
use Rattle.acl_binding.specs.declared.words.Operation.TheVariants as operations
use Rattle.acl_binding.specs.Verdict.{question_of}
use Rattle.wire_types.specs.declared.error_code.ErrorCode.{ErrorCode}
use Rattle.wire_types.specs.declared.error_code.ErrorCode.TheVariants as codes
use Rattle.msg_txn.specs.declared.txn_offset_commit.TxnOffsetCommitRequest.{TxnOffsetCommitRequest}
use Rattle.msg_txn.specs.declared.txn_offset_commit.OffsetToStage.{OffsetToStage}
use Rattle.msg_txn.specs.declared.txn_offset_commit.StagedOffset.{StagedOffset}
use Rattle.msg_admin.specs.declared.reply.Reply.TheVariants as replies
use Rattle.walk.specs.Rule.{PartRule}
use Rattle.walk.specs.Walk.{world_after, answers, refusals}
use Rattle.txn_coordinator.specs.declared.producer_id.ProducerIdAndEpoch.{ProducerIdAndEpoch}
use Rattle.txn_coordinator.specs.declared.target.Target.TheVariants.{Group as group_target}
use Rattle.txn_coordinator.specs.Coordinator.{CoordinatorValue}
use Rattle.txn_coordinator.specs.Holding.{holding_code}
use Rattle.group_offsets.specs.declared.event.PartitionOffset.{PartitionOffset}
use Rattle.group_offsets.specs.declared.group.Group.{Group}
use Rattle.group_offsets.specs.declared.group_metadata.GroupMetadata.{GroupMetadata}
use Rattle.group_offsets.specs.GroupTransition.{GroupTransition, Stays, answer_of}
use Rattle.group_offsets.specs.Groups.{groups_after, stage}
use Rattle.broker_world.specs.World.{World, TopicValue, LogValue, rules_of}
use Rattle.broker_world.specs.HandlerResult.{HandlerResult}
use Rattle.broker_world.specs.Logs.{log_at}
use Rattle.broker_world.specs.Codes.{code_unless_none}
use Rattle.broker_world.specs.Questions.{id_question}
use Rattle.broker_world.specs.Questions.{read_question}
use Rattle.broker_world.specs.Codes.{code_in}

-- whose transaction commits for which group, and by which member
pub record Staging : Type 0 where
  pub id : List ℕ
  pub pair : ProducerIdAndEpoch
  pub group : List ℕ
  pub generation : ℤ
  pub member : List ℕ

abbrev pub staging_of : TxnOffsetCommitRequest → Staging
staging_of r =
    record {
      id = r.transactional_id;
      pair = record { producer = r.producer; epoch = r.epoch };
      group = r.group;
      generation = r.generation;
      member = r.member;
    }

-- the same by a transactional id with its pair, and a consumer's metadata
abbrev pub staging_by : List ℕ → ProducerIdAndEpoch → GroupMetadata → Staging
staging_by id pair m =
    record {
      id = id;
      pair = pair;
      group = m.group.now;
      generation = m.generation;
      member = m.member.now;
    }

-- to write with the transactional id, to read the group, and then to read the topic
abbrev pub stage_questions : Caller → Staging → List ℕ → List Question
stage_questions caller s name =
    id_question caller s.id ∷ read_question caller s.group
    ∷ question_of caller operations.Read kinds.Topic name ∷ []

-- null metadata is kept as the empty text
abbrev pub offset_staged : List ℕ → OffsetToStage → PartitionOffset
offset_staged name p =
    record { topic = name; index = p.index; offset = p.offset; metadata = unwrap_or p.metadata [] }

abbrev pub staged_code : ErrorCode → OffsetToStage → StagedOffset
staged_code code p = record { index = p.index; error = code }

-- ---- a partition, permission aside

-- the offset waits for the transaction's end, if the transaction takes the group in and the member
-- may commit for it
abbrev pub held_transition : Option ErrorCode → Staging → List Group → PartitionOffset
    → GroupTransition (Unit {0})
held_transition (Some code) s gs o = Stays code
held_transition None s gs o = stage gs s.group s.pair.producer s.generation s.member o

-- nothing is staged for a partition that isn't there
abbrev pub transition_by : Option ErrorCode → Staging → List Group → PartitionOffset
    → Option LogValue → GroupTransition (Unit {0})
transition_by refusal s gs o None = Stays codes.UnknownTopicOrPartition
transition_by refusal s gs o (Some log) = held_transition refusal s gs o

-- why the transaction can't commit for the group, if it can't
abbrev pub staging_refusal : CoordinatorValue → Staging → Option ErrorCode
staging_refusal c s = code_unless_none (holding_code c s.id s.pair (group_target s.group))

abbrev pub stage_transition : Option ErrorCode → List TopicValue → Staging → List Group → List ℕ
    → OffsetToStage → GroupTransition (Unit {0})
stage_transition refusal topics s gs name p =
    transition_by refusal s gs (offset_staged name p) (log_at topics name p.index)

abbrev pub stage_rule : Caller → Staging → Option ErrorCode → List TopicValue
    → PartRule OffsetToStage StagedOffset (List Group)
stage_rule caller s refusal topics = record {
  questions = λ name p. stage_questions caller s name;
  plain =
      λ gs name p.
      staged_code (code_in (answer_of (stage_transition refusal topics s gs name p))) p;
  after = λ gs name p. groups_after gs (stage_transition refusal topics s gs name p);
  refused = λ code name p. staged_code code p;
  weight = λ p. 0;
  budget = λ gs. 0;
  takes = λ gs name p. zero-le;
}

-- ---- the request

abbrev pub staging_rule : World → Caller → TxnOffsetCommitRequest
    → PartRule OffsetToStage StagedOffset (List Group)
staging_rule w caller r =
    stage_rule caller (staging_of r) (staging_refusal w.coordinator (staging_of r)) w.topics

abbrev pub txn_offset_commit_outcome : World → Caller → TxnOffsetCommitRequest → HandlerResult
txn_offset_commit_outcome w caller r = record {
  world = record w
      { groups = world_after (staging_rule w caller r) (rules_of w) w.groups r.topics };
  reply = replies.TxnOffsetCommit
      (record {
        throttle = pos 0;
        topics = answers (staging_rule w caller r) (rules_of w) w.groups r.topics;
      });
  refusals = refusals (staging_rule w caller r) (rules_of w) r.topics;
}
