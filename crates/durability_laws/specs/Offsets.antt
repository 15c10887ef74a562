-- A committed offset stays until it is committed again (Kafka documentation, "Consumer Position";
-- Kafka protocol guide, "OffsetFetch API (Key: 9)"; KIP-447 for who requires a stable offset).
use Rattle.std.specs.Prelude.{◌≡◌, ℕ, ℤ, pos, Bool, true, List, [], ◌∷◌, Option, Some}
use Rattle.acl_binding.specs.declared.question.Caller.{Caller}
use Rattle.acl_binding.specs.declared.question.Verdict.TheVariants.{Yes}
use Rattle.acl_binding.specs.declared.words.Kind.TheVariants as kinds
use Rattle.acl_binding.specs.declared.words.Operation.TheVariants as operations
use Rattle.acl_binding.specs.Verdict.{question_of}
use Rattle.authorizer.specs.Policy.{verdict}
use Rattle.wire_types.specs.declared.topic.Topic.{Topic}
use Rattle.wire_types.specs.ErrorCode.{number_of}
use Rattle.record_batch.specs.declared.transaction_result.TransactionResult.{TransactionResult}
use Rattle.msg_group.specs.declared.offset_commit.OffsetCommitRequest.{OffsetCommitRequest}
use Rattle.msg_group.specs.declared.offset_commit.OffsetCommitReply.{OffsetCommitReply}
use Rattle.msg_group.specs.declared.offset_commit.OffsetToCommit.{OffsetToCommit}
use Rattle.msg_group.specs.declared.offset_fetch.OffsetFetchRequest.{OffsetFetchRequest}
use Rattle.msg_group.specs.declared.offset_fetch.OffsetFetchReply.{OffsetFetchReply}
use Rattle.msg_group.specs.declared.offset_fetch.FetchedOffset.{FetchedOffset}
use Rattle.msg_admin.specs.declared.request.Request.TheVariants.{OffsetCommit, OffsetFetch}
use Rattle.msg_admin.specs.declared.reply.Reply.{Reply}
use Rattle.msg_admin.specs.declared.reply.Reply.TheVariants as replies
use Rattle.audit_trail.specs.declared.event.Event.{Event}
use Rattle.audit_trail.specs.declared.event.Event.TheVariants.{Ask}
use Rattle.group_offsets.specs.declared.event.PartitionOffset.{PartitionOffset}
use Rattle.walk.specs.Alike.{AllTopics}
use Rattle.walk.specs.Headline.{element_at}
use Rattle.broker_world.specs.World.{World}
use Rattle.read_laws.specs.Fetches.{at_place}
use Rattle.read_laws.specs.ListOffsets.{MayDescribe}
use Rattle.broker_laws.specs.Laws.{IsDecisionFor}
use Rattle.broker_laws.specs.Members.{group_in}
use Rattle.broker_laws.specs.Fetches.{Waits, IsLastOf}
use Rattle.durability_laws.specs.Steps.{StepRule, world_after, world_later}

-- ---- events between

-- The event is no OffsetCommit of the group for the partition; nor does it end a transaction in
-- which an offset of the partition waits in the group.
pub record LeavesCommitted (w : World) (e : Event) (g topic : List ℕ) (index : ℤ) : Type 0 where
  pub no_commit : (caller : Caller) (client : Option (List ℕ)) (r : OffsetCommitRequest)
      → e ≡ Ask caller client (OffsetCommit r) → r.group ≡ g
      → AllTopics (λ (n : List ℕ) (p : OffsetToCommit). n ≡ topic → p.index ≡ index → ⊥) r.topics
  pub no_decision : (producer : ℤ) (outcome : TransactionResult)
      → IsDecisionFor w e g producer outcome → Waits (group_in w g).offsets producer topic index → ⊥

abbrev pub LeaveCommitted : StepRule → World → List Event → List ℕ → List ℕ → ℤ → Type 0
LeaveCommitted rule w [] g topic index = Unit {0}
LeaveCommitted rule w (e ∷ es) g topic index =
    LeavesCommitted w e g topic index × LeaveCommitted rule (world_after rule w e) es g topic index

-- ---- an OffsetFetch

-- the request asks for this partition of the group at the place, and its caller may DESCRIBE the
-- group and the topic
pub record AsksForOffset (w : World) (caller : Caller) (r : OffsetFetchRequest) (i j : ℕ)
    (g topic : List ℕ) (index : ℤ) : Type 0 where
  pub same_group : r.group ≡ g
  pub topics : List (Topic ℤ)
  pub listed : r.topics ≡ Some topics
  pub named : Topic ℤ
  pub at : element_at topics i ≡ Some named
  pub same_topic : named.name ≡ topic
  pub asked : element_at named.partitions j ≡ Some index
  pub may_describe_group : verdict w.book w.supers
      (question_of caller operations.Describe kinds.Group g)
      ≡ Yes
  pub may_describe_topic : MayDescribe w caller topic

-- who requires a stable offset asks while no offset of the partition waits for the end of a
-- transaction
abbrev pub IsSettled : World → Bool → List ℕ → List ℕ → ℤ → Type 0
IsSettled w stable g topic index =
    stable ≡ true → (producer : ℤ) → Waits (group_in w g).offsets producer topic index → ⊥

-- the place is answered NONE (0) and this offset, with its metadata
pub record IsOffsetTold (reply : Reply) (i j : ℕ) (o : PartitionOffset) : Type 0 where
  pub told : OffsetFetchReply
  pub is : reply ≡ replies.OffsetFetch told
  pub no_error : number_of told.error ≡ pos 0
  pub answer : FetchedOffset
  pub there : at_place told.topics i j ≡ Some answer
  pub error : number_of answer.error ≡ pos 0
  pub offset : answer.offset ≡ o.offset
  pub metadata : answer.metadata ≡ Some o.metadata

-- the place is answered UNSTABLE_OFFSET_COMMIT (88)
pub record IsUnstableTold (reply : Reply) (i j : ℕ) : Type 0 where
  pub told : OffsetFetchReply
  pub is : reply ≡ replies.OffsetFetch told
  pub no_error : number_of told.error ≡ pos 0
  pub answer : FetchedOffset
  pub there : at_place told.topics i j ≡ Some answer
  pub error : number_of answer.error ≡ pos 88

-- ---- the laws

-- Where an OffsetCommit is told no error for an offset of a partition, the last for that in the
-- request, it is what an OffsetFetch of the group tells, after all later events that leave it.
abbrev pub KeepsCommittedOffsets : StepRule → Type 0
KeepsCommittedOffsets rule =
    (w : World) (committer : Caller) (client : Option (List ℕ)) (c : OffsetCommitRequest)
    (answer : OffsetCommitReply) (o : PartitionOffset) (later : List Event)
    → (rule w (Ask committer client (OffsetCommit c))).reply ≡ replies.OffsetCommit answer
    → IsLastOf c.topics answer o
    → LeaveCommitted rule (world_after rule w (Ask committer client (OffsetCommit c))) later c.group
    o.topic o.index
    → (v : World)
    → v ≡ world_later rule (world_after rule w (Ask committer client (OffsetCommit c))) later
    → (caller : Caller) (agent : Option (List ℕ)) (r : OffsetFetchRequest) (i j : ℕ)
    → AsksForOffset v caller r i j c.group o.topic o.index
    → IsSettled v r.require_stable c.group o.topic o.index
    → IsOffsetTold (rule v (Ask caller agent (OffsetFetch r))).reply i j o

-- Who requires a stable offset is told UNSTABLE_OFFSET_COMMIT as long as an offset of the partition
-- waits for the end of a transaction.
abbrev pub TellsUnstableOffsets : StepRule → Type 0
TellsUnstableOffsets rule =
    (v : World) (caller : Caller) (agent : Option (List ℕ)) (r : OffsetFetchRequest) (i j : ℕ)
    (g topic : List ℕ) (index producer : ℤ)
    → AsksForOffset v caller r i j g topic index → r.require_stable ≡ true
    → Waits (group_in v g).offsets producer topic index
    → IsUnstableTold (rule v (Ask caller agent (OffsetFetch r))).reply i j
