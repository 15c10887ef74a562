-- The grammars of the AddPartitionsToTxn messages, version 0 (Kafka protocol guide,
-- "AddPartitionsToTxn API (Key: 24)").
use Rattle.std.specs.Prelude.{ℕ, List, refl}
use Rattle.std.specs.List.{flat_map}
use Rattle.wire_types.specs.Grammar.{Grammar}
use Rattle.wire_types.specs.Combinators.{struct, ◌⨟◌}
use Rattle.wire_types.specs.Schema.{int16, int32, int64, string, array}
use Rattle.wire_types.specs.ErrorCode.{error_code}
use Rattle.wire_types.specs.Topic.{topic_of}
use Rattle.wire_types.specs.Strings.{name_of}
use Rattle.msg_txn.specs.declared.add_partitions.AddPartitionsToTxnRequest.{AddPartitionsToTxnRequest}
use Rattle.msg_txn.specs.declared.add_partitions.AddedPartition.{AddedPartition}
use Rattle.msg_txn.specs.declared.add_partitions.AddPartitionsToTxnReply.{AddPartitionsToTxnReply}

-- AddPartitionsToTxn Request => transactional_id producer_id producer_epoch [topics]
abbrev pub add_partitions_to_txn_request : Grammar AddPartitionsToTxnRequest
add_partitions_to_txn_request = struct
    (λ (transactional_id, (producer, (epoch, topics))).
    record {
      transactional_id = transactional_id;
      producer = producer;
      epoch = epoch;
      topics = topics;
    })
    (λ r. (r.transactional_id, (r.producer, (r.epoch, r.topics))))
    (λ x. refl) (λ r. refl)
    (string  -- transactional_id
    ⨟ int64  -- producer_id
    ⨟ int16  -- producer_epoch
    ⨟ array (topic_of int32))  -- topics

-- results_by_partition => partition_index partition_error_code
abbrev pub added_partition : Grammar AddedPartition
added_partition = struct
    (λ (index, error). record { index = index; error = error })
    (λ p. (p.index, p.error))
    (λ x. refl) (λ p. refl)
    (int32  -- partition_index
    ⨟ error_code)  -- partition_error_code

-- AddPartitionsToTxn Response => throttle_time_ms [results_by_topic]
abbrev pub add_partitions_to_txn_reply : Grammar AddPartitionsToTxnReply
add_partitions_to_txn_reply = struct
    (λ (throttle, topics). record { throttle = throttle; topics = topics })
    (λ r. (r.throttle, r.topics))
    (λ x. refl) (λ r. refl)
    (int32  -- throttle_time_ms
    ⨟ array (topic_of added_partition))  -- results_by_topic

-- ---- the texts of an answer

abbrev pub add_partitions_to_txn_strings : AddPartitionsToTxnReply → List (List ℕ)
add_partitions_to_txn_strings r = flat_map name_of r.topics
