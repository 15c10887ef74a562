-- What a consumer with read_committed is shown of a Fetch (KIP-98, "Consumer"; Kafka protocol
-- guide, isolation_level 1).
use Rattle.std.specs.Prelude.{◌≡◌, ◌<◌, ◌≤◌, ◌≤ℤ◌, ℕ, pos, true, not, List, [], ◌∷◌, ◌++◌, length, Option, Some}
use Rattle.std.specs.List.{AllByRecursion}
use Rattle.wire_types.specs.declared.error_code.ErrorCode.TheVariants as codes
use Rattle.wire_types.specs.declared.topic.Topic.{Topic}
use Rattle.acl_binding.specs.declared.question.Caller.{Caller}
use Rattle.record_batch.specs.Batch.{BatchData, next_offset}
use Rattle.partition_log.specs.Log.{end_from, end_of, last_stable_offset, committed_records}
use Rattle.partition_log.specs.Fetch.{batches_from, batches_below, run_of}
use Rattle.partition_log.specs.Filter.{filtered_records}
use Rattle.partition_log.specs.Laws.{total_bytes}
use Rattle.msg_data.specs.declared.isolation.Isolation.TheVariants.{ReadCommitted}
use Rattle.msg_data.specs.declared.fetch.AbortedTransaction.{AbortedTransaction}
use Rattle.msg_data.specs.declared.fetch.FetchRequest.{FetchRequest}
use Rattle.msg_data.specs.declared.fetch.FetchPartition.{FetchPartition}
use Rattle.msg_data.specs.declared.fetch.FetchedRecords.{FetchedRecords}
use Rattle.msg_admin.specs.declared.request.Request.TheVariants.{Fetch}
use Rattle.msg_admin.specs.declared.reply.Reply.{Reply}
use Rattle.msg_admin.specs.declared.reply.Reply.TheVariants as replies
use Rattle.audit_trail.specs.declared.event.Event.{Event}
use Rattle.audit_trail.specs.declared.event.Event.TheVariants.{Ask}
use Rattle.walk.specs.Headline.{element_at, world_before}
use Rattle.broker_world.specs.World.{World, LogValue, TopicValue, rules_of}
use Rattle.broker_world.specs.Logs.{log_at, HoldLogs}
use Rattle.data_handlers.specs.declared.fetch_budget.FetchBudget.{FetchBudget}
use Rattle.data_handlers.specs.Fetch.{budget_for, batch_bytes, served_at, fetched_partition, fetch_rule, whole_budget}
use Rattle.api_dispatch.specs.Step.{reply_to}

-- The partition is there. It is answered the bytes of a run of its log, and the list that goes with
-- them. What a consumer makes of the two, which never sees the log, is the records from the asked
-- offset to the end of the run that are of no transaction, or of one that was committed.
pub record ShowsCommitted (topics : List TopicValue) (name : List ℕ) (p : FetchPartition)
    (budget : FetchBudget) (a : FetchedRecords) : Type 0 where
  pub log : LogValue
  pub there : log_at topics name p.index ≡ Some log
  pub batches : List BatchData
  pub list : List AbortedTransaction
  pub run : batches ≡ run_of log p.offset ReadCommitted (budget_for budget p) (not budget.given)
  -- each of them ends at or below the last stable offset
  pub ends : AllByRecursion (λ (b : BatchData). next_offset b ≤ℤ last_stable_offset log) batches
  -- none is served only where no whole batch stands from the offset on below it, or the first of
  -- those is longer than the budget, and something was served already
  pub none : batches ≡ [] → (b : BatchData) (rest : List BatchData)
      → batches_below (last_stable_offset log) (batches_from p.offset log) ≡ b ∷ rest
      → (budget.given ≡ true) × (budget_for budget p < length b.bytes)
  -- they are as many as the budget has bytes for: of the whole batches that stand there from the
  -- offset on, no longer beginning fits
  pub most : (longer rest : List BatchData)
      → batches_below (last_stable_offset log) (batches_from p.offset log) ≡ longer ++ rest
      → total_bytes longer ≤ budget_for budget p → length longer ≤ length batches
  pub records : a.records ≡ batch_bytes batches
  pub aborted : a.aborted ≡ Some list
  pub high : a.high_watermark ≡ end_of log
  pub last_stable : a.last_stable_offset ≡ last_stable_offset log
  pub shown : filtered_records batches list p.offset
      ≡ committed_records log p.offset (end_from p.offset batches)

-- a partition that is answered no error, among topics that hold logs
abbrev pub ReadsCommitted : Type 0
ReadsCommitted =
    (topics : List TopicValue) (budget : FetchBudget) (name : List ℕ) (p : FetchPartition)
    → HoldLogs topics
    → (fetched_partition ReadCommitted p (served_at ReadCommitted topics budget name p)).error
    ≡ codes.None
    → ShowsCommitted topics name p budget
    (fetched_partition ReadCommitted p (served_at ReadCommitted topics budget name p))

-- what the allowed partitions before a partition left of the request's bytes
abbrev pub budget_at : World → Caller → FetchRequest → ℕ → Topic FetchPartition → ℕ → FetchBudget
budget_at w caller r i t j =
    world_before (fetch_rule caller ReadCommitted w.topics) (rules_of w) (whole_budget r) r.topics i
    t j

-- Of an event that is a Fetch with read_committed: each partition that is answered without an error
-- shows consumers exactly the committed records of what was served. Partitions stand at the places
-- at which they were asked for.
abbrev pub FetchShowsCommitted : World → Event → Reply → Type 0
FetchShowsCommitted w e reply =
    (caller : Caller) (client : Option (List ℕ)) (r : FetchRequest)
    (answered : List (Topic FetchedRecords))
    → e ≡ Ask caller client (Fetch r) → r.isolation ≡ ReadCommitted
    → reply ≡ replies.Fetch (record { throttle = pos 0; topics = answered })
    → (i j : ℕ) (t : Topic FetchPartition) (p : FetchPartition) (told : Topic FetchedRecords)
    (a : FetchedRecords)
    → element_at r.topics i ≡ Some t → element_at t.partitions j ≡ Some p
    → element_at answered i ≡ Some told → element_at told.partitions j ≡ Some a
    → a.error ≡ codes.None → ShowsCommitted w.topics t.name p (budget_at w caller r i t j) a

abbrev pub FetchesShowCommitted : Type 0
FetchesShowCommitted =
    (w : World) (e : Event) → HoldLogs w.topics → FetchShowsCommitted w e (reply_to w e)
