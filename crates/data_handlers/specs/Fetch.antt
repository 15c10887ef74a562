-- Fetch: what one partition asks and is answered (Kafka protocol guide, "Fetch API (Key: 1)").
use Rattle.std.specs.Prelude.{ℕ, ◌-◌, min, ℤ, pos, negsuc, Bool, false, not, ◌||◌, int_lt, List, [], ◌∷◌, Option, Some, None, Result, Ok, Err, if◌then◌else◌}
use Rattle.std.specs.List.{flat_map}
use Rattle.std.proofs.Common.{zero-le}
use Rattle.acl_binding.specs.declared.question.Caller.{Caller}
use Rattle.acl_binding.specs.declared.words.Kind.TheVariants as kinds
use Rattle.acl_binding.specs.declared.words.Operation.TheVariants as operations
use Rattle.acl_binding.specs.Verdict.{question_of}
use Rattle.wire_types.specs.declared.error_code.ErrorCode.{ErrorCode}
use Rattle.wire_types.specs.declared.error_code.ErrorCode.TheVariants as codes
use Rattle.record_batch.specs.Batch.{BatchData}
use Rattle.partition_log.specs.declared.served.Served.{Served}
use Rattle.partition_log.specs.Log.{end_of}
use Rattle.partition_log.specs.Fetch.{served_of}
use Rattle.partition_log.specs.Laws.{total_bytes}
use Rattle.msg_data.specs.declared.isolation.Isolation.{Isolation}
use Rattle.msg_data.specs.declared.isolation.Isolation.TheVariants as levels
use Rattle.msg_data.specs.declared.fetch.AbortedTransaction.{AbortedTransaction}
use Rattle.msg_data.specs.declared.fetch.FetchRequest.{FetchRequest}
use Rattle.msg_data.specs.declared.fetch.FetchPartition.{FetchPartition}
use Rattle.msg_data.specs.declared.fetch.FetchedRecords.{FetchedRecords}
use Rattle.msg_admin.specs.declared.reply.Reply.TheVariants as replies
use Rattle.walk.specs.Rule.{PartRule}
use Rattle.walk.specs.Walk.{answers, refusals}
use Rattle.walk.specs.Woven.{has_any}
use Rattle.data_handlers.specs.declared.fetch_budget.FetchBudget.{FetchBudget}
use Rattle.broker_world.specs.World.{World, TopicValue, LogValue, rules_of}
use Rattle.broker_world.specs.First.{non_negative}
use Rattle.broker_world.specs.HandlerResult.{HandlerResult}
use Rattle.broker_world.specs.Logs.{log_at}

-- ---- how much may be served

-- the lesser of what is left of the request's bytes and what is wanted of the partition; a negative
-- number is none
abbrev pub budget_for : FetchBudget → FetchPartition → ℕ
budget_for budget p = min (non_negative p.max_bytes) budget.left

-- what is left once the batches were given
abbrev pub budget_after_batches : FetchBudget → List BatchData → FetchBudget
budget_after_batches budget batches =
    record { left = budget.left - total_bytes batches; given = budget.given || has_any batches }

-- ---- a partition, permission aside

abbrev pub is_outside : LogValue → ℤ → Bool
is_outside log offset = int_lt offset (pos 0) || int_lt (end_of log) offset

-- What is served of a partition: where none of the answer was given a batch yet, one is forced.
abbrev pub served_by : Isolation → FetchBudget → FetchPartition → Option LogValue
    → Result Served ErrorCode
served_by level budget p None = Err codes.UnknownTopicOrPartition
served_by level budget p (Some log) =
    if is_outside log p.offset then Err codes.OffsetOutOfRange
    else Ok (served_of log p.offset level (budget_for budget p) (not budget.given))

abbrev pub served_at : Isolation → List TopicValue → FetchBudget → List ℕ → FetchPartition
    → Result Served ErrorCode
served_at level topics budget name p = served_by level budget p (log_at topics name p.index)

abbrev pub fetched_error : ErrorCode → FetchPartition → FetchedRecords
fetched_error code p =
    record {
      index = p.index;
      error = code;
      high_watermark = negsuc 0;
      last_stable_offset = negsuc 0;
      aborted = None;
      records = [];
    }

-- the batches, one after the other
abbrev pub batch_bytes : List BatchData → List ℕ
batch_bytes batches = flat_map (λ (b : BatchData). b.bytes) batches

-- read_committed is told the aborted transactions, of which there may be none, and read_uncommitted
-- no list
abbrev pub aborted_list : Isolation → List AbortedTransaction → Option (List AbortedTransaction)
aborted_list levels.ReadUncommitted list = None
aborted_list levels.ReadCommitted list = Some list

abbrev pub fetched_partition : Isolation → FetchPartition → Result Served ErrorCode → FetchedRecords
fetched_partition level p (Err code) = fetched_error code p
fetched_partition level p (Ok s) =
    record {
      index = p.index;
      error = codes.None;
      high_watermark = s.high;
      last_stable_offset = s.stable;
      aborted = aborted_list level s.aborted;
      records = batch_bytes s.batches;
    }

abbrev pub budget_after : FetchBudget → Result Served ErrorCode → FetchBudget
budget_after budget (Err code) = budget
budget_after budget (Ok s) = budget_after_batches budget s.batches

-- it changes nothing but the budget of its answer
abbrev pub fetch_rule : Caller → Isolation → List TopicValue
    → PartRule FetchPartition FetchedRecords FetchBudget
fetch_rule caller level topics = record {
  questions = λ name p. question_of caller operations.Read kinds.Topic name ∷ [];
  plain = λ budget name p. fetched_partition level p (served_at level topics budget name p);
  after = λ budget name p. budget_after budget (served_at level topics budget name p);
  refused = λ code name p. fetched_error code p;
  weight = λ p. 0;
  budget = λ budget. 0;
  takes = λ budget name p. zero-le;
}

-- ---- the request

abbrev pub whole_budget : FetchRequest → FetchBudget
whole_budget r = record { left = non_negative r.max_bytes; given = false }

abbrev pub fetch_outcome : World → Caller → FetchRequest → HandlerResult
fetch_outcome w caller r = record {
  world = w;
  reply = replies.Fetch
      (record {
        throttle = pos 0;
        topics = answers (fetch_rule caller r.isolation w.topics) (rules_of w) (whole_budget r)
            r.topics;
      });
  refusals = refusals (fetch_rule caller r.isolation w.topics) (rules_of w) r.topics;
}
