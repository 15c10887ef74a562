-- The grammars of the Fetch messages, version 4 (Kafka protocol guide, "Fetch API (Key: 1)").
use Rattle.std.specs.Prelude.{ℕ, List, refl}
use Rattle.wire_types.specs.Grammar.{Grammar}
use Rattle.wire_types.specs.Combinators.{struct, ◌⨟◌}
use Rattle.wire_types.specs.Schema.{int32, int64, bytes, array, nullable_array}
use Rattle.wire_types.specs.Topic.{topic_of}
use Rattle.msg_data.specs.declared.fetch.FetchPartition.{FetchPartition}
use Rattle.msg_data.specs.declared.fetch.FetchRequest.{FetchRequest}
use Rattle.msg_data.specs.declared.fetch.AbortedTransaction.{AbortedTransaction}
use Rattle.msg_data.specs.declared.fetch.FetchedRecords.{FetchedRecords}
use Rattle.msg_data.specs.declared.fetch.FetchReply.{FetchReply}
use Rattle.wire_types.specs.ErrorCode.{error_code}
use Rattle.msg_data.specs.Isolation.{isolation}
use Rattle.msg_data.specs.Strings.{names_of}

-- partitions => partition fetch_offset partition_max_bytes
abbrev pub fetch_partition : Grammar FetchPartition
fetch_partition = struct
    (λ (index, (offset, max_bytes)).
    record { index = index; offset = offset; max_bytes = max_bytes })
    (λ p. (p.index, (p.offset, p.max_bytes)))
    (λ x. refl) (λ p. refl)
    (int32  -- partition
    ⨟ int64  -- fetch_offset
    ⨟ int32)  -- partition_max_bytes

-- Fetch Request => replica_id max_wait_ms min_bytes max_bytes isolation_level [topics]
abbrev pub fetch_request : Grammar FetchRequest
fetch_request = struct
    (λ (replica, (max_wait, (min_bytes, (max_bytes, (isolation, topics))))). record {
      replica = replica;
      max_wait = max_wait;
      min_bytes = min_bytes;
      max_bytes = max_bytes;
      isolation = isolation;
      topics = topics;
    })
    (λ r. (r.replica, (r.max_wait, (r.min_bytes, (r.max_bytes, (r.isolation, r.topics))))))
    (λ x. refl) (λ r. refl)
    (int32  -- replica_id
    ⨟ int32  -- max_wait_ms
    ⨟ int32  -- min_bytes
    ⨟ int32  -- max_bytes
    ⨟ isolation  -- isolation_level
    ⨟ array (topic_of fetch_partition))  -- topics

-- aborted_transactions => producer_id first_offset
abbrev pub aborted_transaction : Grammar AbortedTransaction
aborted_transaction = struct
    (λ (producer, first_offset). record { producer = producer; first_offset = first_offset })
    (λ t. (t.producer, t.first_offset))
    (λ x. refl) (λ t. refl)
    (int64  -- producer_id
    ⨟ int64)  -- first_offset

-- partitions => partition_index error_code high_watermark last_stable_offset [aborted_transactions]
-- records
abbrev pub fetched_records : Grammar FetchedRecords
fetched_records = struct
    (λ (index, (error, (high_watermark, (last_stable_offset, (aborted, records))))). record {
      index = index;
      error = error;
      high_watermark = high_watermark;
      last_stable_offset = last_stable_offset;
      aborted = aborted;
      records = records;
    })
    (λ p. (p.index, (p.error, (p.high_watermark, (p.last_stable_offset, (p.aborted, p.records))))))
    (λ x. refl) (λ p. refl)
    (int32  -- partition_index
    ⨟ error_code  -- error_code
    ⨟ int64  -- high_watermark
    ⨟ int64  -- last_stable_offset
    ⨟ nullable_array aborted_transaction  -- aborted_transactions
    ⨟ bytes)  -- records

-- Fetch Response => throttle_time_ms [responses]
abbrev pub fetch_reply : Grammar FetchReply
fetch_reply = struct
    (λ (throttle, topics). record { throttle = throttle; topics = topics })
    (λ r. (r.throttle, r.topics))
    (λ x. refl) (λ r. refl)
    (int32  -- throttle_time_ms
    ⨟ array (topic_of fetched_records))  -- responses

-- ---- the texts of an answer

abbrev pub fetch_strings : FetchReply → List (List ℕ)
fetch_strings r = names_of r.topics
