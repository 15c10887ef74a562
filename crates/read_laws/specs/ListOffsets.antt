-- What a ListOffsets is answered that may succeed (Kafka protocol guide, "ListOffsets API (Key:
-- 2)": the timestamp -1 asks for the latest offset, -2 for the earliest; KIP-98 for the isolation
-- levels).
use Rattle.std.specs.Prelude.{◌≡◌, ℕ, ℤ, pos, negsuc, List, [], Some, None}
use Rattle.acl_binding.specs.declared.question.Caller.{Caller}
use Rattle.acl_binding.specs.declared.question.Verdict.TheVariants.{Yes}
use Rattle.acl_binding.specs.declared.words.Kind.TheVariants as kinds
use Rattle.acl_binding.specs.declared.words.Operation.TheVariants as operations
use Rattle.acl_binding.specs.Verdict.{question_of}
use Rattle.authorizer.specs.Policy.{verdict}
use Rattle.wire_types.specs.declared.topic.Topic.{Topic}
use Rattle.wire_types.specs.ErrorCode.{number_of}
use Rattle.msg_data.specs.declared.list_offsets.ListOffsetsRequest.{ListOffsetsRequest}
use Rattle.msg_data.specs.declared.list_offsets.WantedOffset.{WantedOffset}
use Rattle.msg_data.specs.declared.list_offsets.FoundOffset.{FoundOffset}
use Rattle.msg_admin.specs.declared.reply.Reply.{Reply}
use Rattle.msg_admin.specs.declared.reply.Reply.TheVariants as replies
use Rattle.walk.specs.Headline.{element_at}
use Rattle.broker_world.specs.World.{World, LogValue}
use Rattle.broker_world.specs.Logs.{log_at}
use Rattle.broker_world.specs.HandlerResult.{HandlerResult}
use Rattle.read_laws.specs.Fetches.{at_place, level_end}

-- what a ListOffsets comes to, by the world, the caller and the request
abbrev pub ListRule : Type 0
ListRule = World → Caller → ListOffsetsRequest → HandlerResult

-- the topics in the reply to a ListOffsets
abbrev pub topics_listed : Reply → List (Topic FoundOffset)
topics_listed (replies.ListOffsets reply) = reply.topics
topics_listed reply = []

-- the partition at the place is answered NONE (0) and this offset, with no timestamp (-1)
pub record IsListed (outcome : HandlerResult) (i j : ℕ) (offset : ℤ) : Type 0 where
  pub answer : FoundOffset
  pub told : at_place (topics_listed outcome.reply) i j ≡ Some answer
  pub error : number_of answer.error ≡ pos 0
  pub timestamp : answer.timestamp ≡ negsuc 0
  pub at : answer.offset ≡ offset

-- the ACLs in force let the caller DESCRIBE the topic
abbrev pub MayDescribe : World → Caller → List ℕ → Type 0
MayDescribe w caller name =
    verdict w.book w.supers (question_of caller operations.Describe kinds.Topic name) ≡ Yes

-- The request asks for this partition at the place. It is there, with this log, and the caller may
-- DESCRIBE its topic.
pub record IsListable (w : World) (caller : Caller) (r : ListOffsetsRequest) (i j : ℕ)
    (p : WantedOffset) (log : LogValue) : Type 0 where
  pub topic : Topic WantedOffset
  pub named : element_at r.topics i ≡ Some topic
  pub asked : element_at topic.partitions j ≡ Some p
  pub may_describe : MayDescribe w caller topic.name
  pub there : log_at w.topics topic.name p.index ≡ Some log

-- the latest offset is the log's end, or for read_committed the last stable offset
abbrev pub TellsTheLatest : ListRule → Type 0
TellsTheLatest list =
    (w : World) (caller : Caller) (r : ListOffsetsRequest) (i j : ℕ) (p : WantedOffset)
    (log : LogValue)
    → IsListable w caller r i j p log → p.timestamp ≡ negsuc 0
    → IsListed (list w caller r) i j (level_end r.isolation log)

-- the earliest offset is 0, where each log begins
abbrev pub TellsTheEarliest : ListRule → Type 0
TellsTheEarliest list =
    (w : World) (caller : Caller) (r : ListOffsetsRequest) (i j : ℕ) (p : WantedOffset)
    (log : LogValue)
    → IsListable w caller r i j p log → p.timestamp ≡ negsuc 1
    → IsListed (list w caller r) i j (pos 0)

-- ---- what is told else

-- the request asks for this partition at the place, and the caller may DESCRIBE its topic
pub record IsAllowed (w : World) (caller : Caller) (r : ListOffsetsRequest) (i j : ℕ)
    (topic : Topic WantedOffset) (p : WantedOffset) : Type 0 where
  pub named : element_at r.topics i ≡ Some topic
  pub asked : element_at topic.partitions j ≡ Some p
  pub may_describe : MayDescribe w caller topic.name

-- the partition at the place is answered the error of this number, and no offset
pub record IsUnlisted (number : ℕ) (outcome : HandlerResult) (i j : ℕ) : Type 0 where
  pub answer : FoundOffset
  pub told : at_place (topics_listed outcome.reply) i j ≡ Some answer
  pub error : number_of answer.error ≡ pos number
  pub timestamp : answer.timestamp ≡ negsuc 0
  pub none : answer.offset ≡ negsuc 0

-- any other timestamp is INVALID_REQUEST (42): timestamps aren't looked up
abbrev pub TellsInvalidTimestamp : ListRule → Type 0
TellsInvalidTimestamp list =
    (w : World) (caller : Caller) (r : ListOffsetsRequest) (i j : ℕ) (topic : Topic WantedOffset)
    (p : WantedOffset) (log : LogValue)
    → IsAllowed w caller r i j topic p → log_at w.topics topic.name p.index ≡ Some log
    → (p.timestamp ≡ negsuc 0 → ⊥) → (p.timestamp ≡ negsuc 1 → ⊥)
    → IsUnlisted 42 (list w caller r) i j

-- a partition that isn't there is UNKNOWN_TOPIC_OR_PARTITION (3)
abbrev pub TellsUnlisted : ListRule → Type 0
TellsUnlisted list =
    (w : World) (caller : Caller) (r : ListOffsetsRequest) (i j : ℕ) (topic : Topic WantedOffset)
    (p : WantedOffset)
    → IsAllowed w caller r i j topic p → log_at w.topics topic.name p.index ≡ None
    → IsUnlisted 3 (list w caller r) i j
