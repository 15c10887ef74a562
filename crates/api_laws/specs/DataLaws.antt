-- What a Produce, a Fetch and a ListOffsets do with one partition that is allowed, in the subject's
-- words.
use Rattle.std.specs.Prelude.{◌≡◌, ◌≤◌, ◌⊎◌, ℕ, ℤ, pos, negsuc, int_le, Bool, true, false, List, [], ◌∷◌, ◌++◌, length, Option, Some, None, Result, Ok}
use Rattle.std.specs.List.{AllByRecursion}
use Rattle.wire_types.specs.declared.error_code.ErrorCode.{ErrorCode}
use Rattle.wire_types.specs.declared.error_code.ErrorCode.TheVariants as codes
use Rattle.wire_types.specs.ErrorCode.{number_of}
use Rattle.std.specs.Ordering.{int_eq}
use Rattle.record_batch.specs.Batch.{BatchData, IsBatch, next_offset}
use Rattle.producer_state.specs.declared.judgment.Judgment.TheVariants.{Next, Repeat}
use Rattle.producer_state.specs.Sequences.{judgment_of as judged_by_log}
use Rattle.partition_log.specs.Log.{end_of, at_end, last_stable_offset}
use Rattle.partition_log.specs.Laws.{total_bytes}
use Rattle.partition_log.specs.declared.served.Served.{Served}
use Rattle.msg_data.specs.declared.isolation.Isolation.{Isolation}
use Rattle.msg_data.specs.declared.isolation.Isolation.TheVariants.{ReadUncommitted, ReadCommitted}
use Rattle.msg_data.specs.declared.produce.ProducedRecords.{ProducedRecords}
use Rattle.msg_data.specs.declared.produce.ProducedOffset.{ProducedOffset}
use Rattle.msg_data.specs.declared.fetch.FetchPartition.{FetchPartition}
use Rattle.msg_data.specs.declared.fetch.FetchedRecords.{FetchedRecords}
use Rattle.msg_data.specs.declared.list_offsets.FoundOffset.{FoundOffset}
use Rattle.msg_data.specs.declared.list_offsets.WantedOffset.{WantedOffset}
use Rattle.txn_coordinator.specs.Coordinator.{CoordinatorValue}
use Rattle.data_handlers.specs.declared.fetch_budget.FetchBudget.{FetchBudget}
use Rattle.broker_world.specs.World.{TopicValue, LogValue}
use Rattle.broker_world.specs.Logs.{log_at}
use Rattle.data_handlers.specs.Judged.{partition_at, batch_to_append}
use Rattle.data_handlers.specs.Fetch.{budget_for, budget_after_batches, is_outside, fetched_partition, budget_after, batch_bytes}

-- ---- Produce

-- the partition's log goes on by the batch that was sent, which stands at the offset that is
-- answered
pub record IsAppended (topics after : List TopicValue) (name : List ℕ) (p : ProducedRecords)
    (answer : ProducedOffset) : Type 0 where
  pub log : LogValue
  pub batch : BatchData
  pub there : log_at topics name p.index ≡ Some log
  pub is_batch : IsBatch batch
  pub sent : p.records ≡ Some batch.bytes
  pub next : judged_by_log log batch ≡ Next
  pub offset : answer.base_offset ≡ end_of log
  pub goes_on : log_at after name p.index ≡ Some (log ++ at_end log batch ∷ [])

-- the batch was sent before: the offset that is answered is the one at which it stands, and nothing
-- is changed
pub record IsRepeated (topics after : List TopicValue) (name : List ℕ) (p : ProducedRecords)
    (answer : ProducedOffset) : Type 0 where
  pub log : LogValue
  pub batch : BatchData
  pub there : log_at topics name p.index ≡ Some log
  pub sent : p.records ≡ Some batch.bytes
  pub again : judged_by_log log batch ≡ Repeat answer.base_offset
  pub same : after ≡ topics

-- no error and this offset is answered, and nothing is changed
pub record IsAgain (topics after : List TopicValue) (offset : ℤ) (answer : ProducedOffset)
    : Type 0 where
  pub error : answer.error ≡ codes.None
  pub at : answer.base_offset ≡ offset
  pub same : after ≡ topics

-- nothing is changed, and no offset is answered
pub record IsUnchanged (topics after : List TopicValue) (answer : ProducedOffset) : Type 0 where
  pub same : after ≡ topics
  pub offset : answer.base_offset ≡ negsuc 0

-- what a partition of a Produce is answered, and the topics that its batch leaves
abbrev pub ProducedRule : Type 0
ProducedRule = Result BatchData ErrorCode → List TopicValue → List ℕ → ProducedRecords
    → ProducedOffset

abbrev pub TopicsAfterRule : Type 0
TopicsAfterRule = Result BatchData ErrorCode → List TopicValue → List ℕ → ℤ → List TopicValue

-- A partition is answered no error exactly where its batch was appended, now or before; and of a
-- batch that passes the other checks the log decides: one that is next is appended, and a repeat is
-- answered the offset at which it stands.
pub record ProducesAsAnswered (produce_answer : ProducedRule) (topics_produced : TopicsAfterRule)
    : Type 0 where
  pub appends : (most : ℕ) (c : CoordinatorValue) (id : Option (List ℕ)) (acks : ℤ)
      (topics : List TopicValue) (name : List ℕ) (p : ProducedRecords)
      → (produce_answer (batch_to_append most c id acks (partition_at name p.index) p.records)
      topics name p).error
      ≡ codes.None
      → IsAppended topics
      (topics_produced (batch_to_append most c id acks (partition_at name p.index) p.records)
      topics name p.index)
      name p
      (produce_answer (batch_to_append most c id acks (partition_at name p.index) p.records)
      topics name p)
      ⊎ IsRepeated topics
      (topics_produced (batch_to_append most c id acks (partition_at name p.index) p.records)
      topics name p.index)
      name p
      (produce_answer (batch_to_append most c id acks (partition_at name p.index) p.records)
      topics name p)
  pub refuses : (most : ℕ) (c : CoordinatorValue) (id : Option (List ℕ)) (acks : ℤ)
      (topics : List TopicValue) (name : List ℕ) (p : ProducedRecords)
      → ((produce_answer (batch_to_append most c id acks (partition_at name p.index) p.records)
      topics name p).error
      ≡ codes.None
      → ⊥)
      → IsUnchanged topics
      (topics_produced (batch_to_append most c id acks (partition_at name p.index) p.records)
      topics name p.index)
      (produce_answer (batch_to_append most c id acks (partition_at name p.index) p.records)
      topics name p)
  pub next : (most : ℕ) (c : CoordinatorValue) (id : Option (List ℕ)) (acks : ℤ)
      (topics : List TopicValue) (name : List ℕ) (p : ProducedRecords) (log : LogValue)
      (batch : BatchData)
      → log_at topics name p.index ≡ Some log
      → batch_to_append most c id acks (partition_at name p.index) p.records ≡ Ok batch
      → judged_by_log log batch ≡ Next
      → ((produce_answer (batch_to_append most c id acks (partition_at name p.index) p.records)
      topics name p).error
      ≡ codes.None)
      × IsAppended topics
      (topics_produced (batch_to_append most c id acks (partition_at name p.index) p.records)
      topics name p.index)
      name p
      (produce_answer (batch_to_append most c id acks (partition_at name p.index) p.records)
      topics name p)
  pub repeat : (most : ℕ) (c : CoordinatorValue) (id : Option (List ℕ)) (acks : ℤ)
      (topics : List TopicValue) (name : List ℕ) (p : ProducedRecords) (log : LogValue)
      (batch : BatchData) (offset : ℤ)
      → log_at topics name p.index ≡ Some log
      → batch_to_append most c id acks (partition_at name p.index) p.records ≡ Ok batch
      → judged_by_log log batch ≡ Repeat offset
      → IsAgain topics
      (topics_produced (batch_to_append most c id acks (partition_at name p.index) p.records)
      topics name p.index)
      offset
      (produce_answer (batch_to_append most c id acks (partition_at name p.index) p.records)
      topics name p)

-- ---- ListOffsets

-- the code of this number, and no offset
pub record IsUnlisted (number : ℕ) (p : WantedOffset) (answer : FoundOffset) : Type 0 where
  pub index : answer.index ≡ p.index
  pub error : number_of answer.error ≡ pos number
  pub timestamp : answer.timestamp ≡ negsuc 0
  pub offset : answer.offset ≡ negsuc 0

-- this offset, without an error or a timestamp
pub record IsListed (offset : ℤ) (p : WantedOffset) (answer : FoundOffset) : Type 0 where
  pub index : answer.index ≡ p.index
  pub error : number_of answer.error ≡ pos 0
  pub timestamp : answer.timestamp ≡ negsuc 0
  pub at : answer.offset ≡ offset

-- what a partition of a ListOffsets is told
abbrev pub ListRule : Type 0
ListRule = Isolation → List TopicValue → List ℕ → WantedOffset → FoundOffset

-- of a partition that is there: for -1 the end of the log, or for read_committed the last stable
-- offset, the start for -2, and for any other timestamp the code 42; of one that isn't there the
-- code 3, whatever is wanted
pub record ListsEnds (listed_offset : ListRule) : Type 0 where
  pub uncommitted : (topics : List TopicValue) (name : List ℕ) (p : WantedOffset) (log : LogValue)
      → log_at topics name p.index ≡ Some log → p.timestamp ≡ negsuc 0
      → IsListed (end_of log) p (listed_offset ReadUncommitted topics name p)
  pub committed : (topics : List TopicValue) (name : List ℕ) (p : WantedOffset) (log : LogValue)
      → log_at topics name p.index ≡ Some log → p.timestamp ≡ negsuc 0
      → IsListed (last_stable_offset log) p (listed_offset ReadCommitted topics name p)
  pub start : (level : Isolation) (topics : List TopicValue) (name : List ℕ) (p : WantedOffset)
      (log : LogValue)
      → log_at topics name p.index ≡ Some log → p.timestamp ≡ negsuc 1
      → IsListed (pos 0) p (listed_offset level topics name p)
  pub other : (level : Isolation) (topics : List TopicValue) (name : List ℕ) (p : WantedOffset)
      (log : LogValue)
      → log_at topics name p.index ≡ Some log → int_eq p.timestamp (negsuc 0) ≡ false
      → int_eq p.timestamp (negsuc 1) ≡ false → IsUnlisted 42 p (listed_offset level topics name p)
  pub missing : (level : Isolation) (topics : List TopicValue) (name : List ℕ) (p : WantedOffset)
      → log_at topics name p.index ≡ None → IsUnlisted 3 p (listed_offset level topics name p)

-- ---- Fetch

-- The batches that are served of a log follow one another in it, from the one on that holds the
-- offset. They fit into the budget, or it is one batch alone where none of the answer was given one
-- before.
pub record IsServed (log : LogValue) (offset : ℤ) (budget : ℕ) (given : Bool)
    (batches : List BatchData) : Type 0 where
  pub before : List BatchData
  pub after : List BatchData
  pub in_order : log ≡ before ++ (batches ++ after)
  pub from : AllByRecursion (λ (b : BatchData). int_le (next_offset b) offset ≡ true) before
  pub small : (total_bytes batches ≤ budget) ⊎ ((given ≡ false) × (length batches ≡ 1))

-- the answer tells these batches, and where the log ends; read_uncommitted is told no list of
-- aborted transactions
pub record IsFetched (level : Isolation) (log : LogValue) (budget : FetchBudget)
    (p : FetchPartition) (answer : FetchedRecords) (next : FetchBudget) : Type 0 where
  pub batches : List BatchData
  pub served : IsServed log p.offset (budget_for budget p) budget.given batches
  pub index : answer.index ≡ p.index
  pub error : answer.error ≡ codes.None
  pub records : answer.records ≡ batch_bytes batches
  pub high : answer.high_watermark ≡ end_of log
  pub stable : answer.last_stable_offset ≡ last_stable_offset log
  pub uncommitted : level ≡ ReadUncommitted → answer.aborted ≡ None
  -- what was served is no longer left for the partitions that follow
  pub left : next ≡ budget_after_batches budget batches

-- no batch, no list, no offset, and the budget is as it was
pub record IsUnserved (budget : FetchBudget) (p : FetchPartition) (answer : FetchedRecords)
    (next : FetchBudget) : Type 0 where
  pub index : answer.index ≡ p.index
  pub records : answer.records ≡ []
  pub aborted : answer.aborted ≡ None
  pub high : answer.high_watermark ≡ negsuc 0
  pub stable : answer.last_stable_offset ≡ negsuc 0
  pub left : next ≡ budget

-- what is served of a partition of a Fetch, or why nothing is
abbrev pub ServedRule : Type 0
ServedRule = Isolation → List TopicValue → FetchBudget → List ℕ → FetchPartition
    → Result Served ErrorCode

-- an offset within the log is served, and one outside it or of a partition that isn't there is not
pub record FetchesRuns (served_at : ServedRule) : Type 0 where
  pub within : (level : Isolation) (topics : List TopicValue) (budget : FetchBudget) (name : List ℕ)
      (p : FetchPartition) (log : LogValue)
      → log_at topics name p.index ≡ Some log → is_outside log p.offset ≡ false
      → IsFetched level log budget p
      (fetched_partition level p (served_at level topics budget name p))
      (budget_after budget (served_at level topics budget name p))
  pub outside : (level : Isolation) (topics : List TopicValue) (budget : FetchBudget)
      (name : List ℕ) (p : FetchPartition) (log : LogValue)
      → log_at topics name p.index ≡ Some log → is_outside log p.offset ≡ true
      → ((fetched_partition level p (served_at level topics budget name p)).error
      ≡ codes.OffsetOutOfRange)
      × IsUnserved budget p (fetched_partition level p (served_at level topics budget name p))
      (budget_after budget (served_at level topics budget name p))
  pub missing : (level : Isolation) (topics : List TopicValue) (budget : FetchBudget)
      (name : List ℕ) (p : FetchPartition)
      → log_at topics name p.index ≡ None
      → ((fetched_partition level p (served_at level topics budget name p)).error
      ≡ codes.UnknownTopicOrPartition)
      × IsUnserved budget p (fetched_partition level p (served_at level topics budget name p))
      (budget_after budget (served_at level topics budget name p))
