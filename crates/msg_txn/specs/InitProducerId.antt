-- The grammars of the InitProducerId messages, version 0 (Kafka protocol guide, "InitProducerId API
-- (Key: 22)").
use Rattle.std.specs.Prelude.{refl}
use Rattle.wire_types.specs.Grammar.{Grammar}
use Rattle.wire_types.specs.Combinators.{struct, ◌⨟◌}
use Rattle.wire_types.specs.Schema.{int16, int32, int64, nullable_string}
use Rattle.wire_types.specs.ErrorCode.{error_code}
use Rattle.msg_txn.specs.declared.init_producer_id.InitProducerIdRequest.{InitProducerIdRequest}
use Rattle.msg_txn.specs.declared.init_producer_id.InitProducerIdReply.{InitProducerIdReply}

-- InitProducerId Request => transactional_id transaction_timeout_ms
abbrev pub init_producer_id_request : Grammar InitProducerIdRequest
init_producer_id_request = struct
    (λ (transactional_id, timeout).
    record { transactional_id = transactional_id; timeout = timeout })
    (λ r. (r.transactional_id, r.timeout))
    (λ x. refl) (λ r. refl)
    (nullable_string  -- transactional_id
    ⨟ int32)  -- transaction_timeout_ms

-- InitProducerId Response => throttle_time_ms error_code producer_id producer_epoch
abbrev pub init_producer_id_reply : Grammar InitProducerIdReply
init_producer_id_reply = struct
    (λ (throttle, (error, (producer, epoch))).
    record { throttle = throttle; error = error; producer = producer; epoch = epoch })
    (λ r. (r.throttle, (r.error, (r.producer, r.epoch))))
    (λ x. refl) (λ r. refl)
    (int32  -- throttle_time_ms
    ⨟ error_code  -- error_code
    ⨟ int64  -- producer_id
    ⨟ int16)  -- producer_epoch
