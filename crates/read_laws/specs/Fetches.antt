-- What a Fetch is answered that may succeed (Kafka protocol guide, "Fetch API (Key: 1)"; KIP-74 for
-- a batch that is larger than the limits; KIP-98, "Fetch Request", for the isolation levels).
use Rattle.std.specs.Prelude.{◌≡◌, ◌⊎◌, ℕ, zero, suc, ◌+◌, ◌<◌, ℤ, pos, ◌≤ℤ◌, ◌<ℤ◌, List, [], ◌∷◌, ◌++◌, length, take, Option, Some, None}
use Rattle.std.specs.List.{AllByRecursion, flat_map}
use Rattle.acl_binding.specs.declared.question.Caller.{Caller}
use Rattle.acl_binding.specs.declared.question.Verdict.TheVariants.{Yes}
use Rattle.acl_binding.specs.declared.words.Kind.TheVariants as kinds
use Rattle.acl_binding.specs.declared.words.Operation.TheVariants as operations
use Rattle.acl_binding.specs.Verdict.{question_of}
use Rattle.authorizer.specs.Policy.{verdict}
use Rattle.wire_types.specs.declared.topic.Topic.{Topic}
use Rattle.wire_types.specs.ErrorCode.{number_of}
use Rattle.record_batch.specs.Batch.{BatchData, next_offset}
use Rattle.partition_log.specs.Log.{end_of, last_stable_offset}
use Rattle.msg_data.specs.declared.isolation.Isolation.{Isolation}
use Rattle.msg_data.specs.declared.isolation.Isolation.TheVariants.{ReadUncommitted, ReadCommitted}
use Rattle.msg_data.specs.declared.fetch.FetchRequest.{FetchRequest}
use Rattle.msg_data.specs.declared.fetch.FetchPartition.{FetchPartition}
use Rattle.msg_data.specs.declared.fetch.FetchedRecords.{FetchedRecords}
use Rattle.msg_admin.specs.declared.reply.Reply.{Reply}
use Rattle.msg_admin.specs.declared.reply.Reply.TheVariants as replies
use Rattle.walk.specs.Headline.{element_at}
use Rattle.broker_world.specs.World.{World, TopicValue, LogValue}
use Rattle.broker_world.specs.Logs.{log_at}
use Rattle.broker_world.specs.HandlerResult.{HandlerResult}

-- what a Fetch comes to, by the world, the caller and the request
abbrev pub FetchRule : Type 0
FetchRule = World → Caller → FetchRequest → HandlerResult

-- ---- the answer

-- the topics in the reply to a Fetch
abbrev pub topics_fetched : Reply → List (Topic FetchedRecords)
topics_fetched (replies.Fetch reply) = reply.topics
topics_fetched reply = []

-- what stands at a place: of the topic at the first number the partition at the second
abbrev pub partition_in : {P : Type 0} → ℕ → Option (Topic P) → Option P
partition_in j None = None
partition_in j (Some t) = element_at t.partitions j

abbrev pub at_place : {P : Type 0} → List (Topic P) → ℕ → ℕ → Option P
at_place topics i j = partition_in j (element_at topics i)

-- the records of partitions, one after the other
abbrev pub records_of : List FetchedRecords → List ℕ
records_of partitions = flat_map (λ (p : FetchedRecords). p.records) partitions

-- all records that stand in an answer before a place
abbrev pub records_before : List (Topic FetchedRecords) → ℕ → ℕ → List ℕ
records_before [] i j = []
records_before (t ∷ ts) zero j = records_of (take j t.partitions)
records_before (t ∷ ts) (suc i) j = records_of t.partitions ++ records_before ts i j

-- the partition at the place is answered NONE (0), and its records are so
pub record IsFetched (outcome : HandlerResult) (i j : ℕ) (Records : List ℕ → Type 0) : Type 0 where
  pub answer : FetchedRecords
  pub told : at_place (topics_fetched outcome.reply) i j ≡ Some answer
  pub error : number_of answer.error ≡ pos 0
  pub records : Records answer.records

-- the first bytes of these are those
abbrev pub BeginsWith : List ℕ → List ℕ → Type 0
BeginsWith front bytes = (rest : List ℕ) × (bytes ≡ front ++ rest)

-- ---- what is asked for

-- the ACLs in force let the caller READ the topic
abbrev pub MayRead : World → Caller → List ℕ → Type 0
MayRead w caller name =
    verdict w.book w.supers (question_of caller operations.Read kinds.Topic name) ≡ Yes

-- The request asks for this partition at the place. It is there, with this log, the caller may READ
-- its topic, and the offset is one from 0 to the log's end.
pub record IsReadable (w : World) (caller : Caller) (r : FetchRequest) (i j : ℕ)
    (p : FetchPartition) (log : LogValue) : Type 0 where
  pub topic : Topic FetchPartition
  pub named : element_at r.topics i ≡ Some topic
  pub asked : element_at topic.partitions j ≡ Some p
  pub may_read : MayRead w caller topic.name
  pub there : log_at w.topics topic.name p.index ≡ Some log
  pub from_start : pos 0 ≤ℤ p.offset
  pub to_end : p.offset ≤ℤ end_of log

-- ---- what is there to be read

-- read_uncommitted reads up to the log's end, and read_committed up to the last stable offset
abbrev pub level_end : Isolation → LogValue → ℤ
level_end ReadUncommitted log = end_of log
level_end ReadCommitted log = last_stable_offset log

-- it is the first batch of the log that ends after the offset, and it ends at the level's end at
-- most
pub record IsNextBatch (level : Isolation) (log : LogValue) (offset : ℤ) (batch : BatchData)
    : Type 0 where
  pub before : List BatchData
  pub after : List BatchData
  pub parts : log ≡ before ++ batch ∷ after
  pub passed : AllByRecursion (λ (b : BatchData). next_offset b ≤ℤ offset) before
  pub reaches : offset <ℤ next_offset batch
  pub whole : next_offset batch ≤ℤ level_end level log

-- the bytes of batches, one after the other
abbrev pub bytes_of : List BatchData → List ℕ
bytes_of batches = flat_map (λ (b : BatchData). b.bytes) batches

-- the first of them, if there is one, ends after the offset
abbrev pub FirstReaches : ℤ → List BatchData → Type 0
FirstReaches offset [] = Unit {0}
FirstReaches offset (b ∷ rest) = offset <ℤ next_offset b

-- they follow one another in the log from the first one on that ends after the offset, and each
-- ends at the level's end at most
pub record IsRunFrom (level : Isolation) (log : LogValue) (offset : ℤ) (run : List BatchData)
    : Type 0 where
  pub before : List BatchData
  pub after : List BatchData
  pub parts : log ≡ before ++ (run ++ after)
  pub passed : AllByRecursion (λ (b : BatchData). next_offset b ≤ℤ offset) before
  pub reaches : FirstReaches offset run
  pub whole : AllByRecursion (λ (b : BatchData). next_offset b ≤ℤ level_end level log) run

-- There is room for so many bytes, once so many were taken: none were, or the partition's max_bytes
-- and the request's both suffice.
abbrev pub HasRoom : FetchRequest → FetchPartition → ℕ → ℕ → Type 0
HasRoom r p taken size =
    (taken ≡ 0) ⊎ ((pos size ≤ℤ p.max_bytes) × (pos (taken + size) ≤ℤ r.max_bytes))

-- each batch of the log has bytes, as those of a broker's logs have
abbrev pub HaveBytes : LogValue → Type 0
HaveBytes log = AllByRecursion (λ (b : BatchData). 0 < length b.bytes) log

-- so it is of each log that is found
abbrev pub LogsHaveBytes : List TopicValue → Type 0
LogsHaveBytes topics =
    (name : List ℕ) (index : ℤ) (log : LogValue) → log_at topics name index ≡ Some log
    → HaveBytes log

-- ---- the laws

-- a partition that may be read, at an offset within its log, is told no error
abbrev pub TellsNoError : FetchRule → Type 0
TellsNoError fetch =
    (w : World) (caller : Caller) (r : FetchRequest) (i j : ℕ) (p : FetchPartition) (log : LogValue)
    → IsReadable w caller r i j p log → IsFetched (fetch w caller r) i j (λ records. Unit {0})

-- its records begin with the next batch, as long as the partitions before it in the answer left
-- room for that
abbrev pub ServesTheNextBatch : FetchRule → Type 0
ServesTheNextBatch fetch =
    (w : World) (caller : Caller) (r : FetchRequest) (i j : ℕ) (p : FetchPartition) (log : LogValue)
    (batch : BatchData)
    → LogsHaveBytes w.topics → IsReadable w caller r i j p log
    → IsNextBatch r.isolation log p.offset batch
    → HasRoom r p (length (records_before (topics_fetched (fetch w caller r).reply) i j))
    (length batch.bytes)
    → IsFetched (fetch w caller r) i j (BeginsWith batch.bytes)

-- where there is no such batch, there are no records
abbrev pub ServesNothingElse : FetchRule → Type 0
ServesNothingElse fetch =
    (w : World) (caller : Caller) (r : FetchRequest) (i j : ℕ) (p : FetchPartition) (log : LogValue)
    → IsReadable w caller r i j p log
    → ((batch : BatchData) → IsNextBatch r.isolation log p.offset batch → ⊥)
    → IsFetched (fetch w caller r) i j (λ records. records ≡ [])

-- whatever is served is whole batches, one after the other
abbrev pub ServesWholeBatches : FetchRule → Type 0
ServesWholeBatches fetch =
    (w : World) (caller : Caller) (r : FetchRequest) (i j : ℕ) (p : FetchPartition) (log : LogValue)
    → IsReadable w caller r i j p log
    → IsFetched (fetch w caller r) i j
    (λ records. (run : List BatchData)
    × IsRunFrom r.isolation log p.offset run
    × (records ≡ bytes_of run))

-- and as many as max_bytes of the partition and of the request have room for, once the partitions
-- before it took theirs
abbrev pub ServesAllThatFit : FetchRule → Type 0
ServesAllThatFit fetch =
    (w : World) (caller : Caller) (r : FetchRequest) (i j : ℕ) (p : FetchPartition) (log : LogValue)
    (run : List BatchData)
    → LogsHaveBytes w.topics → IsReadable w caller r i j p log
    → IsRunFrom r.isolation log p.offset run → pos (length (bytes_of run)) ≤ℤ p.max_bytes
    → pos
    (length (records_before (topics_fetched (fetch w caller r).reply) i j)
    + length (bytes_of run))
    ≤ℤ r.max_bytes
    → IsFetched (fetch w caller r) i j (BeginsWith (bytes_of run))

-- The records are no more than max_bytes of the partition and of the request allow, once so many
-- bytes were taken; or they are the next batch alone, where none were; or there are none.
abbrev pub IsWithinLimits : FetchRequest → FetchPartition → LogValue → ℕ → List ℕ → Type 0
IsWithinLimits r p log taken records =
    ((pos (length records) ≤ℤ p.max_bytes) × (pos (taken + length records) ≤ℤ r.max_bytes))
    ⊎ (((taken ≡ 0)
    × ((b : BatchData) × IsNextBatch r.isolation log p.offset b × (records ≡ b.bytes)))
    ⊎ (records ≡ []))

-- what a partition is served has at most the bytes that it and the request ask for, or is the one
-- batch of an answer that has none before it
abbrev pub ServesWithinLimits : FetchRule → Type 0
ServesWithinLimits fetch =
    (w : World) (caller : Caller) (r : FetchRequest) (i j : ℕ) (p : FetchPartition) (log : LogValue)
    → LogsHaveBytes w.topics → IsReadable w caller r i j p log
    → IsFetched (fetch w caller r) i j
    (IsWithinLimits r p log (length (records_before (topics_fetched (fetch w caller r).reply) i j)))

-- ---- what is told else

-- a topic's answer has its name, and an answer for each of its partitions
pub record IsTopicAnswered (topic : Topic FetchPartition) (told : Option (Topic FetchedRecords))
    : Type 0 where
  pub answer : Topic FetchedRecords
  pub is : told ≡ Some answer
  pub name : answer.name ≡ topic.name
  pub number : length answer.partitions ≡ length topic.partitions

-- each topic is answered at its place, and nothing else is
pub record AnswersEachTopic (fetch : FetchRule) : Type 0 where
  pub number : (w : World) (caller : Caller) (r : FetchRequest)
      → length (topics_fetched (fetch w caller r).reply) ≡ length r.topics
  pub places : (w : World) (caller : Caller) (r : FetchRequest) (i : ℕ)
      (topic : Topic FetchPartition)
      → element_at r.topics i ≡ Some topic
      → IsTopicAnswered topic (element_at (topics_fetched (fetch w caller r).reply) i)

-- Beside the records stand the partition's index, the high watermark, which on one node is the
-- log's end, and the last stable offset.
pub record TellsOf (p : FetchPartition) (log : LogValue) (outcome : HandlerResult) (i j : ℕ)
    : Type 0 where
  pub answer : FetchedRecords
  pub told : at_place (topics_fetched outcome.reply) i j ≡ Some answer
  pub index : answer.index ≡ p.index
  pub high_watermark : answer.high_watermark ≡ end_of log
  pub stable : answer.last_stable_offset ≡ last_stable_offset log

-- a partition that may be read is told the end of its log and its last stable offset
abbrev pub TellsTheHighWatermark : FetchRule → Type 0
TellsTheHighWatermark fetch =
    (w : World) (caller : Caller) (r : FetchRequest) (i j : ℕ) (p : FetchPartition) (log : LogValue)
    → IsReadable w caller r i j p log → TellsOf p log (fetch w caller r) i j

-- the request asks for this partition at the place, and the caller may READ its topic
pub record IsAllowed (w : World) (caller : Caller) (r : FetchRequest) (i j : ℕ)
    (topic : Topic FetchPartition) (p : FetchPartition) : Type 0 where
  pub named : element_at r.topics i ≡ Some topic
  pub asked : element_at topic.partitions j ≡ Some p
  pub may_read : MayRead w caller topic.name

-- the partition at the place is answered the error of this number, and no records
pub record IsToldError (number : ℕ) (outcome : HandlerResult) (i j : ℕ) : Type 0 where
  pub answer : FetchedRecords
  pub told : at_place (topics_fetched outcome.reply) i j ≡ Some answer
  pub error : number_of answer.error ≡ pos number
  pub none : answer.records ≡ []

-- an offset before the log or after its end is OFFSET_OUT_OF_RANGE (1)
abbrev pub TellsOutOfRange : FetchRule → Type 0
TellsOutOfRange fetch =
    (w : World) (caller : Caller) (r : FetchRequest) (i j : ℕ) (topic : Topic FetchPartition)
    (p : FetchPartition) (log : LogValue)
    → IsAllowed w caller r i j topic p → log_at w.topics topic.name p.index ≡ Some log
    → (p.offset <ℤ pos 0) ⊎ (end_of log <ℤ p.offset) → IsToldError 1 (fetch w caller r) i j

-- a partition that isn't there is UNKNOWN_TOPIC_OR_PARTITION (3)
abbrev pub TellsMissing : FetchRule → Type 0
TellsMissing fetch =
    (w : World) (caller : Caller) (r : FetchRequest) (i j : ℕ) (topic : Topic FetchPartition)
    (p : FetchPartition)
    → IsAllowed w caller r i j topic p → log_at w.topics topic.name p.index ≡ None
    → IsToldError 3 (fetch w caller r) i j

-- ---- what they leave open

-- the four laws of what is served
pub record HasFetchLaws (fetch : FetchRule) : Type 0 where
  pub next : ServesTheNextBatch fetch
  pub whole : ServesWholeBatches fetch
  pub fitting : ServesAllThatFit fetch
  pub within : ServesWithinLimits fetch

-- both answer the place without an error, and with the same records
pub record ServeTheSame (a b : HandlerResult) (i j : ℕ) : Type 0 where
  pub records : List ℕ
  pub first : IsFetched a i j (λ told. told ≡ records)
  pub second : IsFetched b i j (λ told. told ≡ records)

-- Nothing: each rule that has the laws serves a partition the same, as long as the partitions
-- before it took as much.
abbrev pub IsOnlyFetch : FetchRule → Type 0
IsOnlyFetch fetch =
    (other : FetchRule) → HasFetchLaws other
    → (w : World) (caller : Caller) (r : FetchRequest) (i j : ℕ) (p : FetchPartition)
    (log : LogValue)
    → LogsHaveBytes w.topics → IsReadable w caller r i j p log
    → length (records_before (topics_fetched (fetch w caller r).reply) i j)
    ≡ length (records_before (topics_fetched (other w caller r).reply) i j)
    → ServeTheSame (fetch w caller r) (other w caller r) i j
