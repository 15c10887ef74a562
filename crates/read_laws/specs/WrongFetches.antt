-- Wrong rules for a Fetch, each of which a law refutes.
use Rattle.std.specs.Prelude.{Bool, ◌||◌, ℤ, ℕ, pos, negsuc, ◌+ℤ◌, true, not, List, [], map, Option, Some, None, Result, Ok, Err, if◌then◌else◌, take}
use Rattle.std.proofs.Common.{zero-le}
use Rattle.wire_types.specs.declared.error_code.ErrorCode.{ErrorCode}
use Rattle.wire_types.specs.declared.error_code.ErrorCode.TheVariants as codes
use Rattle.wire_types.specs.declared.topic.Topic.{Topic}
use Rattle.partition_log.specs.declared.served.Served.{Served}
use Rattle.std.specs.Ordering.{int_eq}
use Rattle.partition_log.specs.Log.{end_of}
use Rattle.partition_log.specs.Fetch.{batches_from, batches_below, limit_of, served_batches, served_of}
use Rattle.msg_data.specs.declared.isolation.Isolation.{Isolation}
use Rattle.msg_data.specs.declared.isolation.Isolation.TheVariants.{ReadUncommitted, ReadCommitted}
use Rattle.msg_data.specs.declared.fetch.FetchRequest.{FetchRequest}
use Rattle.msg_data.specs.declared.fetch.FetchPartition.{FetchPartition}
use Rattle.msg_data.specs.declared.fetch.FetchedRecords.{FetchedRecords}
use Rattle.msg_admin.specs.declared.reply.Reply.{Reply}
use Rattle.msg_admin.specs.declared.reply.Reply.TheVariants as replies
use Rattle.walk.specs.Rule.{PartRule}
use Rattle.walk.specs.Walk.{answers, refusals}
use Rattle.walk.specs.Woven.{has_any}
use Rattle.data_handlers.specs.declared.fetch_budget.FetchBudget.{FetchBudget}
use Rattle.broker_world.specs.World.{World, LogValue, rules_of}
use Rattle.broker_world.specs.HandlerResult.{HandlerResult}
use Rattle.broker_world.specs.Logs.{log_at}
use Rattle.data_handlers.specs.Fetch.{budget_for, is_outside, served_at, batch_bytes, fetched_partition, budget_after, fetch_rule, whole_budget, fetch_outcome}
use Rattle.read_laws.specs.Fetches.{FetchRule}

-- ---- the right rule, with another reply

abbrev pub with_topics : (List (Topic FetchedRecords) → List (Topic FetchedRecords)) → Reply → Reply
with_topics f (replies.Fetch reply) = replies.Fetch (record reply { topics = f reply.topics })
with_topics f reply = reply

abbrev pub each_partition : (FetchedRecords → FetchedRecords) → List (Topic FetchedRecords)
    → List (Topic FetchedRecords)
each_partition f topics =
    map (λ (t : Topic FetchedRecords). record t { partitions = map f t.partitions }) topics

abbrev pub out_of_range : FetchedRecords → FetchedRecords
out_of_range told = record told { error = codes.OffsetOutOfRange; records = [] }

-- wrong: each partition is told OFFSET_OUT_OF_RANGE (1), and no records
abbrev pub fetch_always_out_of_range : FetchRule
fetch_always_out_of_range w caller r =
    let o = fetch_outcome w caller r in
    record o { reply = with_topics (each_partition out_of_range) o.reply }

-- wrong: no partition is answered
abbrev pub fetch_answering_nobody : FetchRule
fetch_answering_nobody w caller r =
    let o = fetch_outcome w caller r in record o { reply = with_topics (λ topics. []) o.reply }

-- ---- the right rule, of another request

-- wrong: the isolation level isn't looked at, and read_uncommitted is told what read_committed is
abbrev pub fetch_as_committed : FetchRule
fetch_as_committed w caller r = fetch_outcome w caller (record r { isolation = ReadCommitted })

-- wrong: the isolation level isn't looked at, and read_committed is told what read_uncommitted is
abbrev pub fetch_as_uncommitted : FetchRule
fetch_as_uncommitted w caller r = fetch_outcome w caller (record r { isolation = ReadUncommitted })

abbrev pub one_further : FetchPartition → FetchPartition
one_further p = record p { offset = p.offset +ℤ pos 1 }

-- wrong: what is served begins after the offset, and not at it
abbrev pub fetch_after_the_offset : FetchRule
fetch_after_the_offset w caller r =
    fetch_outcome w caller
    (record r {
      topics =
          map (λ (t : Topic FetchPartition). record t { partitions = map one_further t.partitions })
          r.topics;
    })

-- ---- another rule for each partition, or another budget

abbrev pub fetch_by : PartRule FetchPartition FetchedRecords FetchBudget → FetchBudget → World
    → FetchRequest → HandlerResult
fetch_by api budget w r = record {
  world = w;
  reply = replies.Fetch
      (record { throttle = pos 0; topics = answers api (rules_of w) budget r.topics });
  refusals = refusals api (rules_of w) r.topics;
}

-- wrong: a batch that is larger than max_bytes is never served
abbrev pub fetch_without_a_large_batch : FetchRule
fetch_without_a_large_batch w caller r =
    fetch_by (fetch_rule caller r.isolation w.topics) (record (whole_budget r) { given = true }) w r

-- nothing is left once a batch was given
abbrev pub used_up : FetchBudget → FetchBudget
used_up budget = if budget.given then record budget { left = 0 } else budget

-- wrong: once a partition was given a batch, those after it are given none
abbrev pub fetch_one_partition : FetchRule
fetch_one_partition w caller r =
    fetch_by
    (record (fetch_rule caller r.isolation w.topics) {
      after = λ budget name p.
          used_up (budget_after budget (served_at r.isolation w.topics budget name p));
      takes = λ budget name p. zero-le;
    })
    (whole_budget r) w r

-- only the batches that end below the level's end
abbrev pub served_below : Isolation → FetchBudget → FetchPartition → LogValue → Served
served_below level budget p log =
    record (served_of log p.offset level (budget_for budget p) (not budget.given)) {
      batches =
          served_batches log p.offset (limit_of level log +ℤ negsuc 0) (budget_for budget p)
          (not budget.given);
    }

abbrev pub served_below_end : Isolation → FetchBudget → FetchPartition → Option LogValue
    → Result Served ErrorCode
served_below_end level budget p None = Err codes.UnknownTopicOrPartition
served_below_end level budget p (Some log) =
    if is_outside log p.offset then Err codes.OffsetOutOfRange
    else Ok (served_below level budget p log)

-- wrong: the last batch up to the level's end is never served
abbrev pub fetch_without_the_last_batch : FetchRule
fetch_without_the_last_batch w caller r =
    fetch_by
    (record (fetch_rule caller r.isolation w.topics) {
      plain = λ budget name p.
          fetched_partition r.isolation p
          (served_below_end r.isolation budget p (log_at w.topics name p.index));
    })
    (whole_budget r) w r

abbrev pub filled_up : ℕ → Isolation → FetchPartition → Option LogValue → FetchedRecords
    → FetchedRecords
filled_up most level p None told = told
filled_up most level p (Some log) told =
    record told {
      records =
          take most
          (batch_bytes (batches_below (limit_of level log) (batches_from p.offset log)));
    }

-- wrong: an answer is filled up to max_bytes by the front of a batch
abbrev pub fetch_cutting_batches : FetchRule
fetch_cutting_batches w caller r =
    fetch_by
    (record (fetch_rule caller r.isolation w.topics) {
      plain = λ budget name p.
          filled_up (budget_for budget p) r.isolation p (log_at w.topics name p.index)
          (fetched_partition r.isolation p (served_at r.isolation w.topics budget name p));
    })
    (whole_budget r) w r

abbrev pub first_alone : Result Served ErrorCode → Result Served ErrorCode
first_alone (Err code) = Err code
first_alone (Ok s) = Ok (record s { batches = take 1 s.batches })

-- wrong: a partition is served one batch at most
abbrev pub fetch_one_batch : FetchRule
fetch_one_batch w caller r =
    fetch_by
    (record (fetch_rule caller r.isolation w.topics) {
      plain = λ budget name p.
          fetched_partition r.isolation p
          (first_alone (served_at r.isolation w.topics budget name p));
    })
    (whole_budget r) w r

-- the batches of the second, once the first has any
abbrev pub going_on : Result Served ErrorCode → Result Served ErrorCode → Result Served ErrorCode
going_on (Ok s) (Ok t) =
    if has_any s.batches then Ok (record s { batches = t.batches }) else Ok s
going_on s t = s

-- wrong: once read_committed has begun, it goes on above the last stable offset
abbrev pub fetch_above_the_level_end : FetchRule
fetch_above_the_level_end w caller r =
    fetch_by
    (record (fetch_rule caller r.isolation w.topics) {
      plain = λ budget name p.
          fetched_partition r.isolation p
          (going_on (served_at r.isolation w.topics budget name p)
          (served_at ReadUncommitted w.topics budget name p));
    })
    (whole_budget r) w r

-- wrong: what a partition was served isn't taken off the request's max_bytes
abbrev pub fetch_never_used_up : FetchRule
fetch_never_used_up w caller r =
    fetch_by
    (record (fetch_rule caller r.isolation w.topics) {
      after = λ budget name p. budget;
      takes = λ budget name p. zero-le;
    })
    (whole_budget r) w r

abbrev pub without_limit : ℤ → FetchPartition → FetchPartition
without_limit most p = record p { max_bytes = most }

-- wrong: a partition's own max_bytes isn't looked at
abbrev pub fetch_without_a_partition_limit : FetchRule
fetch_without_a_partition_limit w caller r =
    fetch_outcome w caller
    (record r {
      topics =
          map
          (λ (t : Topic FetchPartition). record t
          { partitions = map (without_limit r.max_bytes) t.partitions })
          r.topics;
    })

-- wrong: each partition is told no error, also one that isn't there, and where the offset is
-- outside the log
abbrev pub fetch_never_an_error : FetchRule
fetch_never_an_error w caller r =
    let o = fetch_outcome w caller r in
    record o {
      reply = with_topics (each_partition (λ told. record told { error = codes.None })) o.reply;
    }

abbrev pub at_the_end : LogValue → ℤ → Bool
at_the_end log offset = is_outside log offset || int_eq offset (end_of log)

abbrev pub served_before_end : Isolation → FetchBudget → FetchPartition → Option LogValue
    → Result Served ErrorCode
served_before_end level budget p None = Err codes.UnknownTopicOrPartition
served_before_end level budget p (Some log) =
    if at_the_end log p.offset then Err codes.OffsetOutOfRange
    else Ok (served_of log p.offset level (budget_for budget p) (not budget.given))

-- wrong: the log's end is out of range, where a consumer waits for what comes next
abbrev pub fetch_out_of_range_at_the_end : FetchRule
fetch_out_of_range_at_the_end w caller r =
    fetch_by
    (record (fetch_rule caller r.isolation w.topics) {
      plain = λ budget name p.
          fetched_partition r.isolation p
          (served_before_end r.isolation budget p (log_at w.topics name p.index));
    })
    (whole_budget r) w r

abbrev pub low_watermark : FetchedRecords → FetchedRecords
low_watermark told = record told { high_watermark = told.last_stable_offset }

-- wrong: the last stable offset is told as the high watermark
abbrev pub fetch_telling_a_low_watermark : FetchRule
fetch_telling_a_low_watermark w caller r =
    let o = fetch_outcome w caller r in
    record o { reply = with_topics (each_partition low_watermark) o.reply }

abbrev pub without_name : Topic FetchedRecords → Topic FetchedRecords
without_name told = record told { name = [] }

-- wrong: topics are answered without their names
abbrev pub fetch_without_names : FetchRule
fetch_without_names w caller r =
    let o = fetch_outcome w caller r in
    record o { reply = with_topics (map without_name) o.reply }
