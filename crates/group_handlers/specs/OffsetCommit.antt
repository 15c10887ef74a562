-- OffsetCommit: what one partition asks, does and is answered (Kafka protocol guide, "OffsetCommit
-- API (Key: 8)").
use Rattle.std.specs.Prelude.{ℕ, ℤ, List, [], ◌∷◌, Option, Some, None, unwrap_or}
use Rattle.std.proofs.Common.{zero-le}
use Rattle.acl_binding.specs.declared.question.Caller.{Caller}
use Rattle.acl_binding.specs.declared.question.Question.{Question}
use Rattle.acl_binding.specs.declared.words.Kind.TheVariants as kinds
use Rattle.acl_binding.specs.declared.words.Operation.TheVariants as operations
use Rattle.acl_binding.specs.Verdict.{question_of}
use Rattle.wire_types.specs.declared.error_code.ErrorCode.{ErrorCode}
use Rattle.wire_types.specs.declared.error_code.ErrorCode.TheVariants as codes
use Rattle.msg_group.specs.declared.offset_commit.OffsetCommitRequest.{OffsetCommitRequest}
use Rattle.msg_group.specs.declared.offset_commit.OffsetToCommit.{OffsetToCommit}
use Rattle.msg_group.specs.declared.offset_commit.CommittedOffset.{CommittedOffset}
use Rattle.msg_admin.specs.declared.reply.Reply.TheVariants as replies
use Rattle.walk.specs.Rule.{PartRule}
use Rattle.walk.specs.Walk.{world_after, answers, refusals}
use Rattle.group_offsets.specs.declared.event.PartitionOffset.{PartitionOffset}
use Rattle.group_offsets.specs.declared.group.Group.{Group}
use Rattle.group_offsets.specs.declared.group_metadata.GroupMetadata.{GroupMetadata}
use Rattle.group_offsets.specs.GroupTransition.{answer_of}
use Rattle.group_offsets.specs.Groups.{groups_after, commit}
use Rattle.broker_world.specs.World.{World, TopicValue, LogValue, rules_of}
use Rattle.broker_world.specs.HandlerResult.{HandlerResult}
use Rattle.broker_world.specs.Logs.{log_at}
use Rattle.broker_world.specs.Questions.{read_question}
use Rattle.broker_world.specs.Codes.{code_in}

-- who commits for which group
pub record Committing : Type 0 where
  pub group : List ℕ
  pub generation : ℤ
  pub member : List ℕ

abbrev pub committing_of : OffsetCommitRequest → Committing
committing_of r = record { group = r.group; generation = r.generation; member = r.member }

-- the same by a consumer's metadata
abbrev pub committing_by : GroupMetadata → Committing
committing_by m = record { group = m.group.now; generation = m.generation; member = m.member.now }

-- to read the group, and then to read the topic
abbrev pub commit_questions : Caller → List ℕ → List ℕ → List Question
commit_questions caller group name =
    read_question caller group ∷ question_of caller operations.Read kinds.Topic name ∷ []

-- null metadata is kept as the empty text
abbrev pub offset_of : List ℕ → OffsetToCommit → PartitionOffset
offset_of name p =
    record { topic = name; index = p.index; offset = p.offset; metadata = unwrap_or p.metadata [] }

abbrev pub committed_code : ErrorCode → OffsetToCommit → CommittedOffset
committed_code code p = record { index = p.index; error = code }

-- ---- an offset, permission aside: nothing is committed for a partition that isn't there

abbrev pub offset_code : Committing → List Group → PartitionOffset → Option LogValue → ErrorCode
offset_code c gs o None = codes.UnknownTopicOrPartition
offset_code c gs o (Some log) = code_in (answer_of (commit gs c.group c.generation c.member o))

abbrev pub groups_with_offset : Committing → List Group → PartitionOffset → Option LogValue
    → List Group
groups_with_offset c gs o None = gs
groups_with_offset c gs o (Some log) = groups_after gs (commit gs c.group c.generation c.member o)

-- ---- a partition, permission aside

abbrev pub code_by : Committing → List Group → List ℕ → OffsetToCommit → Option LogValue → ErrorCode
code_by c gs name p log = offset_code c gs (offset_of name p) log

abbrev pub groups_by : Committing → List Group → List ℕ → OffsetToCommit → Option LogValue
    → List Group
groups_by c gs name p log = groups_with_offset c gs (offset_of name p) log

abbrev pub commit_rule : Caller → Committing → List TopicValue
    → PartRule OffsetToCommit CommittedOffset (List Group)
commit_rule caller c topics = record {
  questions = λ name p. commit_questions caller c.group name;
  plain = λ gs name p. committed_code (code_by c gs name p (log_at topics name p.index)) p;
  after = λ gs name p. groups_by c gs name p (log_at topics name p.index);
  refused = λ code name p. committed_code code p;
  weight = λ p. 0;
  budget = λ gs. 0;
  takes = λ gs name p. zero-le;
}

-- ---- the request

abbrev pub committing_rule : World → Caller → OffsetCommitRequest
    → PartRule OffsetToCommit CommittedOffset (List Group)
committing_rule w caller r = commit_rule caller (committing_of r) w.topics

abbrev pub offset_commit_outcome : World → Caller → OffsetCommitRequest → HandlerResult
offset_commit_outcome w caller r = record {
  world = record w
      { groups = world_after (committing_rule w caller r) (rules_of w) w.groups r.topics };
  reply = replies.OffsetCommit
      (record { topics = answers (committing_rule w caller r) (rules_of w) w.groups r.topics });
  refusals = refusals (committing_rule w caller r) (rules_of w) r.topics;
}
