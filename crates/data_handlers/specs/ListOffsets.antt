-- ListOffsets: what one partition asks and is answered (Kafka protocol guide, "ListOffsets API
-- (Key: 2)").
use Rattle.std.specs.Prelude.{ℤ, pos, negsuc, ℕ, List, [], ◌∷◌, Option, Some, None, if◌then◌else◌}
use Rattle.std.specs.Ordering.{int_eq}
use Rattle.std.proofs.Common.{zero-le}
use Rattle.acl_binding.specs.declared.question.Caller.{Caller}
use Rattle.acl_binding.specs.declared.words.Kind.TheVariants as kinds
use Rattle.acl_binding.specs.declared.words.Operation.TheVariants as operations
use Rattle.acl_binding.specs.Verdict.{question_of}
use Rattle.wire_types.specs.declared.error_code.ErrorCode.{ErrorCode}
use Rattle.wire_types.specs.declared.error_code.ErrorCode.TheVariants as codes
use Rattle.partition_log.specs.Fetch.{limit_of}
use Rattle.msg_data.specs.declared.isolation.Isolation.{Isolation}
use Rattle.msg_data.specs.declared.list_offsets.ListOffsetsRequest.{ListOffsetsRequest}
use Rattle.msg_data.specs.declared.list_offsets.WantedOffset.{WantedOffset}
use Rattle.msg_data.specs.declared.list_offsets.FoundOffset.{FoundOffset}
use Rattle.msg_admin.specs.declared.reply.Reply.TheVariants as replies
use Rattle.walk.specs.Rule.{PartRule}
use Rattle.walk.specs.Walk.{answers, refusals}
use Rattle.broker_world.specs.World.{World, TopicValue, LogValue, rules_of}
use Rattle.broker_world.specs.HandlerResult.{HandlerResult}
use Rattle.broker_world.specs.Logs.{log_at}

-- ---- a partition, permission aside

abbrev pub listed_error : ErrorCode → WantedOffset → FoundOffset
listed_error code p =
    record { index = p.index; error = code; timestamp = negsuc 0; offset = negsuc 0 }

abbrev pub listed_at : ℤ → WantedOffset → FoundOffset
listed_at offset p =
    record { index = p.index; error = codes.None; timestamp = negsuc 0; offset = offset }

-- the timestamp -1 wants the high watermark, or with read_committed the last stable offset, and -2
-- the first offset; no other one is looked up
abbrev pub listed_in : Isolation → LogValue → WantedOffset → FoundOffset
listed_in level log p =
    if int_eq p.timestamp (negsuc 0) then listed_at (limit_of level log) p
    else if int_eq p.timestamp (negsuc 1) then listed_at (pos 0) p
    else listed_error codes.InvalidRequest p

-- whether the partition is there comes first
abbrev pub listed_offset_by : Isolation → WantedOffset → Option LogValue → FoundOffset
listed_offset_by level p None = listed_error codes.UnknownTopicOrPartition p
listed_offset_by level p (Some log) = listed_in level log p

abbrev pub listed_offset : Isolation → List TopicValue → List ℕ → WantedOffset → FoundOffset
listed_offset level topics name p = listed_offset_by level p (log_at topics name p.index)

-- it changes nothing
abbrev pub list_rule : Caller → Isolation → List TopicValue
    → PartRule WantedOffset FoundOffset (Unit {0})
list_rule caller level topics = record {
  questions = λ name p. question_of caller operations.Describe kinds.Topic name ∷ [];
  plain = λ w name p. listed_offset level topics name p;
  after = λ w name p. w;
  refused = λ code name p. listed_error code p;
  weight = λ p. 0;
  budget = λ w. 0;
  takes = λ w name p. zero-le;
}

-- ---- the request

abbrev pub list_offsets_outcome : World → Caller → ListOffsetsRequest → HandlerResult
list_offsets_outcome w caller r = record {
  world = w;
  reply = replies.ListOffsets
      (record {
        throttle = pos 0;
        topics = answers (list_rule caller r.isolation w.topics) (rules_of w) tt r.topics;
      });
  refusals = refusals (list_rule caller r.isolation w.topics) (rules_of w) r.topics;
}
