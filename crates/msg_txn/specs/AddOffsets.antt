-- The grammars of the AddOffsetsToTxn messages, version 0 (Kafka protocol guide, "AddOffsetsToTxn
-- API (Key: 25)").
use Rattle.std.specs.Prelude.{refl}
use Rattle.wire_types.specs.Grammar.{Grammar}
use Rattle.wire_types.specs.Combinators.{struct, ◌⨟◌}
use Rattle.wire_types.specs.Schema.{int16, int32, int64, string}
use Rattle.wire_types.specs.ErrorCode.{error_code}
use Rattle.msg_txn.specs.declared.add_offsets.AddOffsetsToTxnRequest.{AddOffsetsToTxnRequest}
use Rattle.msg_txn.specs.declared.add_offsets.AddOffsetsToTxnReply.{AddOffsetsToTxnReply}

-- AddOffsetsToTxn Request => transactional_id producer_id producer_epoch group_id
abbrev pub add_offsets_to_txn_request : Grammar AddOffsetsToTxnRequest
add_offsets_to_txn_request = struct
    (λ (transactional_id, (producer, (epoch, group))).
    record {
      transactional_id = transactional_id;
      producer = producer;
      epoch = epoch;
      group = group;
    })
    (λ r. (r.transactional_id, (r.producer, (r.epoch, r.group))))
    (λ x. refl) (λ r. refl)
    (string  -- transactional_id
    ⨟ int64  -- producer_id
    ⨟ int16  -- producer_epoch
    ⨟ string)  -- group_id

-- AddOffsetsToTxn Response => throttle_time_ms error_code
abbrev pub add_offsets_to_txn_reply : Grammar AddOffsetsToTxnReply
add_offsets_to_txn_reply = struct
    (λ (throttle, error). record { throttle = throttle; error = error })
    (λ r. (r.throttle, r.error))
    (λ x. refl) (λ r. refl)
    (int32  -- throttle_time_ms
    ⨟ error_code)  -- error_code
