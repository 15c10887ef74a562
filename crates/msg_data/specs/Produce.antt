-- The grammars of the Produce messages, version 3 (Kafka protocol guide, "Produce API (Key: 0)").
use Rattle.std.specs.Prelude.{ℕ, List, refl}
use Rattle.wire_types.specs.Grammar.{Grammar}
use Rattle.wire_types.specs.Combinators.{struct, ◌⨟◌}
use Rattle.wire_types.specs.Schema.{int16, int32, int64, nullable_string, nullable_bytes, array}
use Rattle.wire_types.specs.Topic.{topic_of}
use Rattle.msg_data.specs.declared.produce.ProducedRecords.{ProducedRecords}
use Rattle.msg_data.specs.declared.produce.ProduceRequest.{ProduceRequest}
use Rattle.msg_data.specs.declared.produce.ProducedOffset.{ProducedOffset}
use Rattle.msg_data.specs.declared.produce.ProduceReply.{ProduceReply}
use Rattle.wire_types.specs.ErrorCode.{error_code}
use Rattle.msg_data.specs.Strings.{names_of}

-- partition_data => index records
abbrev pub produced_records : Grammar ProducedRecords
produced_records = struct
    (λ (index, records). record { index = index; records = records })
    (λ p. (p.index, p.records))
    (λ x. refl) (λ p. refl)
    (int32  -- index
    ⨟ nullable_bytes)  -- records

-- Produce Request => transactional_id acks timeout_ms [topic_data]
abbrev pub produce_request : Grammar ProduceRequest
produce_request = struct
    (λ (transactional_id, (acks, (timeout, topics))).
    record {
      transactional_id = transactional_id;
      acks = acks;
      timeout = timeout;
      topics = topics;
    })
    (λ r. (r.transactional_id, (r.acks, (r.timeout, r.topics))))
    (λ x. refl) (λ r. refl)
    (nullable_string  -- transactional_id
    ⨟ int16  -- acks
    ⨟ int32  -- timeout_ms
    ⨟ array (topic_of produced_records))  -- topic_data

-- partition_responses => index error_code base_offset log_append_time_ms
abbrev pub produced_offset : Grammar ProducedOffset
produced_offset = struct
    (λ (index, (error, (base_offset, log_append_time))).
    record {
      index = index;
      error = error;
      base_offset = base_offset;
      log_append_time = log_append_time;
    })
    (λ p. (p.index, (p.error, (p.base_offset, p.log_append_time))))
    (λ x. refl) (λ p. refl)
    (int32  -- index
    ⨟ error_code  -- error_code
    ⨟ int64  -- base_offset
    ⨟ int64)  -- log_append_time_ms

-- Produce Response => [responses] throttle_time_ms
abbrev pub produce_reply : Grammar ProduceReply
produce_reply = struct
    (λ (topics, throttle). record { topics = topics; throttle = throttle })
    (λ r. (r.topics, r.throttle))
    (λ x. refl) (λ r. refl)
    (array (topic_of produced_offset)  -- responses
    ⨟ int32)  -- throttle_time_ms

-- ---- the texts of an answer

abbrev pub produce_strings : ProduceReply → List (List ℕ)
produce_strings r = names_of r.topics
