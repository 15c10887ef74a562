-- Produce: what one partition asks, does and is answered (Kafka protocol guide, "Produce API (Key:
-- 0)").
use Rattle.std.specs.Prelude.{ℕ, ℤ, pos, negsuc, List, [], ◌∷◌, Option, Some, None, Result, Ok, Err, if◌then◌else◌}
use Rattle.std.specs.List.{cons_option}
use Rattle.std.specs.Option.{option_map}
use Rattle.std.specs.Ordering.{int_eq}
use Rattle.acl_binding.specs.declared.question.Caller.{Caller}
use Rattle.acl_binding.specs.declared.question.Question.{Question}
use Rattle.acl_binding.specs.declared.words.Kind.TheVariants as kinds
use Rattle.acl_binding.specs.declared.words.Operation.TheVariants as operations
use Rattle.acl_binding.specs.Verdict.{question_of}
use Rattle.wire_types.specs.declared.error_code.ErrorCode.{ErrorCode}
use Rattle.wire_types.specs.declared.error_code.ErrorCode.TheVariants as codes
use Rattle.wire_types.specs.declared.topic.Topic.{Topic}
use Rattle.record_batch.specs.Batch.{BatchData}
use Rattle.txn_coordinator.specs.Coordinator.{CoordinatorValue}
use Rattle.msg_data.specs.declared.produce.ProduceRequest.{ProduceRequest}
use Rattle.msg_data.specs.declared.produce.ProducedRecords.{ProducedRecords}
use Rattle.msg_data.specs.declared.produce.ProducedOffset.{ProducedOffset}
use Rattle.msg_admin.specs.declared.reply.Reply.{Reply}
use Rattle.msg_admin.specs.declared.reply.Reply.TheVariants as replies
use Rattle.walk.specs.Rule.{PartRule}
use Rattle.walk.specs.Walk.{world_after, answers, refusals}
use Rattle.broker_world.specs.World.{World, TopicValue, LogValue, rules_of}
use Rattle.broker_world.specs.First.{non_negative}
use Rattle.broker_world.specs.HandlerResult.{HandlerResult}
use Rattle.broker_world.specs.Logs.{log_at, offsets_left, offset_in}
use Rattle.data_handlers.specs.Judged.{partition_at, batch_to_append, topics_produced, records_size}
use Rattle.data_handlers.specs.BudgetLaws.{produce_takes}

-- ---- what is asked

-- to write with the transactional id, if one is given, and then to write the topic
abbrev pub produce_questions : Caller → Option (List ℕ) → List ℕ → List Question
produce_questions caller id name =
    cons_option (option_map (question_of caller operations.Write kinds.TransactionalId) id)
    (question_of caller operations.Write kinds.Topic name ∷ [])

-- ---- a partition, permission aside

abbrev pub produced_error : ErrorCode → ProducedRecords → ProducedOffset
produced_error code p =
    record { index = p.index; error = code; base_offset = negsuc 0; log_append_time = negsuc 0 }

abbrev pub produced_at : ℤ → ProducedRecords → ProducedOffset
produced_at offset p =
    record { index = p.index; error = codes.None; base_offset = offset; log_append_time = negsuc 0 }

-- the batch stands at an offset now, or why it doesn't
abbrev pub produced_to : ProducedRecords → Result ℤ ErrorCode → ProducedOffset
produced_to p (Err code) = produced_error code p
produced_to p (Ok offset) = produced_at offset p

-- whether the partition is there comes before what is wrong with the batch
abbrev pub produce_failure : ErrorCode → ProducedRecords → Option LogValue → ProducedOffset
produce_failure code p None = produced_error codes.UnknownTopicOrPartition p
produce_failure code p (Some log) = produced_error code p

abbrev pub produce_answer_by : Result BatchData ErrorCode → ProducedRecords → Option LogValue
    → ProducedOffset
produce_answer_by (Ok b) p log = produced_to p (offset_in b log)
produce_answer_by (Err code) p log = produce_failure code p log

abbrev pub produce_answer : Result BatchData ErrorCode → List TopicValue → List ℕ → ProducedRecords
    → ProducedOffset
produce_answer batch topics name p = produce_answer_by batch p (log_at topics name p.index)

-- A batch has no more records than bytes.
abbrev pub produce_rule : Caller → ℕ → CoordinatorValue → Option (List ℕ) → ℤ
    → PartRule ProducedRecords ProducedOffset (List TopicValue)
produce_rule caller most c id acks = record {
  questions = λ name p. produce_questions caller id name;
  plain =
      λ topics name p. produce_answer
      (batch_to_append most c id acks (partition_at name p.index) p.records) topics name p;
  after =
      λ topics name p. topics_produced
      (batch_to_append most c id acks (partition_at name p.index) p.records) topics name p.index;
  refused = λ code name p. produced_error code p;
  weight = λ p. records_size p.records;
  budget = offsets_left;
  takes = λ topics name p. produce_takes most c id acks topics name p;
}

-- ---- the request

abbrev pub producing_rule : World → Caller → ProduceRequest
    → PartRule ProducedRecords ProducedOffset (List TopicValue)
producing_rule w caller r =
    produce_rule caller (non_negative w.node.max_batch) w.coordinator r.transactional_id r.acks

-- with acks 0 nothing is sent
abbrev pub produce_reply : ℤ → List (Topic ProducedOffset) → Reply
produce_reply acks topics =
    if int_eq acks (pos 0) then replies.SilentProduce (record { topics = topics; throttle = pos 0 })
    else replies.Produce (record { topics = topics; throttle = pos 0 })

abbrev pub produce_outcome : World → Caller → ProduceRequest → HandlerResult
produce_outcome w caller r = record {
  world = record w
      { topics = world_after (producing_rule w caller r) (rules_of w) w.topics r.topics };
  reply = produce_reply r.acks (answers (producing_rule w caller r) (rules_of w) w.topics r.topics);
  refusals = refusals (producing_rule w caller r) (rules_of w) r.topics;
}
