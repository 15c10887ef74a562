-- Frames of FindCoordinator, InitProducerId, AddPartitionsToTxn, AddOffsetsToTxn, EndTxn and
-- TxnOffsetCommit, byte by byte, and what each spells (Kafka protocol guide, "The Messages"). The
-- bytes are those of Sarama 1.22.1, whose structs were given the same values, and a
-- FindCoordinator's request is one of kafka-python 2.0.2; those of EndTxn 1 to 5 and of
-- TxnOffsetCommit 3 were written down by hand, after the protocol guide ("EndTxn API (Key: 26)",
-- "TxnOffsetCommit API (Key: 28)"), as neither library has them.
use Rattle.std.specs.Prelude.{ℕ, pos, negsuc, List, [], ◌∷◌, true, false, Some, None, Ok, ◌≡◌, codes as text}
use Rattle.wire_laws.specs.Frames.{Decoder, Encoder}
use Rattle.wire_types.specs.declared.error_code.ErrorCode.TheVariants as errors
use Rattle.msg_txn.specs.declared.end_txn.EndTxnRequest.TheVariants as end_txns
use Rattle.msg_txn.specs.declared.end_txn.EndTxnReply.TheVariants as ended
use Rattle.msg_admin.specs.declared.request.Request.TheVariants as requests
use Rattle.msg_admin.specs.declared.reply.Reply.TheVariants as replies

-- ---- FindCoordinator Request, version 1

-- of a group, which is 0
abbrev pub group_coordinator_request : List ℕ
group_coordinator_request =
    0x00 ∷ 0x0a  -- request_api_key
    ∷ 0x00 ∷ 0x01  -- request_api_version
    ∷ 0x01 ∷ 0x02 ∷ 0x03 ∷ 0x0b  -- correlation_id
    ∷ 0x00 ∷ 0x01 ∷ 0x63  -- client_id
    ∷ 0x00 ∷ 0x03 ∷ 0x61 ∷ 0x70 ∷ 0x70  -- key
    ∷ 0x00  -- key_type
    ∷ []

-- of a transactional id, which is 1
abbrev pub transaction_coordinator_request : List ℕ
transaction_coordinator_request =
    0x00 ∷ 0x0a  -- request_api_key
    ∷ 0x00 ∷ 0x01  -- request_api_version
    ∷ 0x00 ∷ 0x00 ∷ 0x00 ∷ 0x0b  -- correlation_id
    ∷ 0x00 ∷ 0x01 ∷ 0x63  -- client_id
    ∷ 0x00 ∷ 0x05 ∷ 0x70 ∷ 0x61 ∷ 0x79 ∷ 0x2d ∷ 0x31  -- key
    ∷ 0x01  -- key_type
    ∷ []

-- what the frames of a FindCoordinator are read as
pub record FindCoordinatorRequestFrames (decode : Decoder) : Type 0 where
  pub group : decode group_coordinator_request ≡ Ok (
    record {
      key = pos 10;
      version = pos 1;
      correlation = pos 0x0102030b;
      client = Some (text "c");
    },
    requests.FindCoordinator (record { key = text "app"; key_type = pos 0 }),
  )
  pub transaction : decode transaction_coordinator_request ≡ Ok (
    record { key = pos 10; version = pos 1; correlation = pos 11; client = Some (text "c") },
    requests.FindCoordinator (record { key = text "pay-1"; key_type = pos 1 }),
  )

-- ---- FindCoordinator Response, version 1

-- the answer to a FindCoordinator
abbrev pub find_coordinator_response : List ℕ
find_coordinator_response =
    0x00 ∷ 0x00 ∷ 0x00 ∷ 0x1c  -- size
    ∷ 0x01 ∷ 0x02 ∷ 0x03 ∷ 0x0b  -- correlation_id
    ∷ 0x00 ∷ 0x00 ∷ 0x00 ∷ 0x05  -- throttle_time_ms
    ∷ 0x00 ∷ 0x00  -- error_code
    ∷ 0x00 ∷ 0x01 ∷ 0x6d  -- error_message
    ∷ 0x00 ∷ 0x00 ∷ 0x00 ∷ 0x01  -- node_id
    ∷ 0x00 ∷ 0x05 ∷ 0x6b ∷ 0x61 ∷ 0x66 ∷ 0x6b ∷ 0x61  -- host
    ∷ 0x00 ∷ 0x00 ∷ 0x23 ∷ 0x84  -- port
    ∷ []

-- INVALID_REQUEST, and no node
abbrev pub find_coordinator_refusal : List ℕ
find_coordinator_refusal =
    0x00 ∷ 0x00 ∷ 0x00 ∷ 0x16  -- size
    ∷ 0x00 ∷ 0x00 ∷ 0x00 ∷ 0x0b  -- correlation_id
    ∷ 0x00 ∷ 0x00 ∷ 0x00 ∷ 0x06  -- throttle_time_ms
    ∷ 0x00 ∷ 0x2a  -- error_code
    ∷ 0xff ∷ 0xff  -- error_message
    ∷ 0xff ∷ 0xff ∷ 0xff ∷ 0xff  -- node_id
    ∷ 0x00 ∷ 0x00  -- host
    ∷ 0xff ∷ 0xff ∷ 0xff ∷ 0xff  -- port
    ∷ []

-- what the answers to a FindCoordinator are sent as
pub record FindCoordinatorResponseFrames (encode : Encoder) : Type 0 where
  pub found : encode (pos 0x0102030b)
      (replies.FindCoordinator (record {
        throttle = pos 5;
        error = errors.None;
        message = Some (text "m");
        node = pos 1;
        host = text "kafka";
        port = pos 9092;
      }))
      ≡ find_coordinator_response
  pub refusal : encode (pos 11)
      (replies.FindCoordinator (record {
        throttle = pos 6;
        error = errors.InvalidRequest;
        message = None;
        node = negsuc 0;
        host = [];
        port = negsuc 0;
      }))
      ≡ find_coordinator_refusal

-- ---- InitProducerId Request, version 0

-- with a transactional id
abbrev pub init_producer_id_request : List ℕ
init_producer_id_request =
    0x00 ∷ 0x16  -- request_api_key
    ∷ 0x00 ∷ 0x00  -- request_api_version
    ∷ 0x01 ∷ 0x02 ∷ 0x03 ∷ 0x0c  -- correlation_id
    ∷ 0x00 ∷ 0x01 ∷ 0x63  -- client_id
    ∷ 0x00 ∷ 0x05 ∷ 0x70 ∷ 0x61 ∷ 0x79 ∷ 0x2d ∷ 0x31  -- transactional_id
    ∷ 0x00 ∷ 0x00 ∷ 0xea ∷ 0x60  -- transaction_timeout_ms
    ∷ []

-- without one
abbrev pub plain_init_producer_id_request : List ℕ
plain_init_producer_id_request =
    0x00 ∷ 0x16  -- request_api_key
    ∷ 0x00 ∷ 0x00  -- request_api_version
    ∷ 0x00 ∷ 0x00 ∷ 0x00 ∷ 0x0c  -- correlation_id
    ∷ 0x00 ∷ 0x01 ∷ 0x63  -- client_id
    ∷ 0xff ∷ 0xff  -- transactional_id
    ∷ 0x7f ∷ 0xff ∷ 0xff ∷ 0xff  -- transaction_timeout_ms
    ∷ []

-- with an empty one
abbrev pub empty_init_producer_id_request : List ℕ
empty_init_producer_id_request =
    0x00 ∷ 0x16  -- request_api_key
    ∷ 0x00 ∷ 0x00  -- request_api_version
    ∷ 0x00 ∷ 0x00 ∷ 0x00 ∷ 0x10  -- correlation_id
    ∷ 0x00 ∷ 0x01 ∷ 0x63  -- client_id
    ∷ 0x00 ∷ 0x00  -- transactional_id
    ∷ 0x00 ∷ 0x00 ∷ 0x00 ∷ 0x01  -- transaction_timeout_ms
    ∷ []

-- what the frames of an InitProducerId are read as
pub record InitProducerIdRequestFrames (decode : Decoder) : Type 0 where
  pub transactional : decode init_producer_id_request ≡ Ok (
    record {
      key = pos 22;
      version = pos 0;
      correlation = pos 0x0102030c;
      client = Some (text "c");
    },
    requests.InitProducerId (record {
      transactional_id = Some (text "pay-1");
      timeout = pos 60000;
    }),
  )
  pub plain : decode plain_init_producer_id_request ≡ Ok (
    record { key = pos 22; version = pos 0; correlation = pos 12; client = Some (text "c") },
    requests.InitProducerId (record { transactional_id = None; timeout = pos 0x7fffffff }),
  )
  pub empty : decode empty_init_producer_id_request ≡ Ok (
    record { key = pos 22; version = pos 0; correlation = pos 16; client = Some (text "c") },
    requests.InitProducerId (record { transactional_id = Some []; timeout = pos 1 }),
  )

-- ---- InitProducerId Response, version 0

-- the answer to an InitProducerId
abbrev pub init_producer_id_response : List ℕ
init_producer_id_response =
    0x00 ∷ 0x00 ∷ 0x00 ∷ 0x14  -- size
    ∷ 0x01 ∷ 0x02 ∷ 0x03 ∷ 0x0c  -- correlation_id
    ∷ 0x00 ∷ 0x00 ∷ 0x00 ∷ 0x05  -- throttle_time_ms
    ∷ 0x00 ∷ 0x00  -- error_code
    ∷ 0x01 ∷ 0x02 ∷ 0x03 ∷ 0x04 ∷ 0x05 ∷ 0x06 ∷ 0x07 ∷ 0x08  -- producer_id
    ∷ 0x00 ∷ 0x09  -- producer_epoch
    ∷ []

-- what the answer to an InitProducerId is sent as
abbrev pub InitProducerIdResponseFrame : Encoder → Type 0
InitProducerIdResponseFrame encode =
    encode (pos 0x0102030c)
    (replies.InitProducerId (record {
      throttle = pos 5;
      error = errors.None;
      producer = pos 0x0102030405060708;
      epoch = pos 9;
    }))
    ≡ init_producer_id_response

-- ---- AddPartitionsToTxn Request, version 0

-- two partitions, and a topic without any
abbrev pub add_partitions_to_txn_request : List ℕ
add_partitions_to_txn_request =
    0x00 ∷ 0x18  -- request_api_key
    ∷ 0x00 ∷ 0x00  -- request_api_version
    ∷ 0x01 ∷ 0x02 ∷ 0x03 ∷ 0x0d  -- correlation_id
    ∷ 0x00 ∷ 0x01 ∷ 0x63  -- client_id
    ∷ 0x00 ∷ 0x05 ∷ 0x70 ∷ 0x61 ∷ 0x79 ∷ 0x2d ∷ 0x31  -- transactional_id
    ∷ 0x01 ∷ 0x02 ∷ 0x03 ∷ 0x04 ∷ 0x05 ∷ 0x06 ∷ 0x07 ∷ 0x08  -- producer_id
    ∷ 0x00 ∷ 0x09  -- producer_epoch
    ∷ 0x00 ∷ 0x00 ∷ 0x00 ∷ 0x02  -- [topics]
    ∷ 0x00 ∷ 0x06 ∷ 0x6f ∷ 0x72 ∷ 0x64 ∷ 0x65 ∷ 0x72 ∷ 0x73  -- name
    ∷ 0x00 ∷ 0x00 ∷ 0x00 ∷ 0x02  -- [partitions]
    ∷ 0x00 ∷ 0x00 ∷ 0x00 ∷ 0x02  -- partitions
    ∷ 0x00 ∷ 0x00 ∷ 0x00 ∷ 0x03  -- partitions
    ∷ 0x00 ∷ 0x05 ∷ 0x61 ∷ 0x75 ∷ 0x64 ∷ 0x69 ∷ 0x74  -- name
    ∷ 0x00 ∷ 0x00 ∷ 0x00 ∷ 0x00  -- [partitions]
    ∷ []

-- what the frame of an AddPartitionsToTxn is read as
abbrev pub AddPartitionsToTxnRequestFrame : Decoder → Type 0
AddPartitionsToTxnRequestFrame decode =
    decode add_partitions_to_txn_request ≡ Ok (
      record {
        key = pos 24;
        version = pos 0;
        correlation = pos 0x0102030d;
        client = Some (text "c");
      },
      requests.AddPartitionsToTxn (record {
        transactional_id = text "pay-1";
        producer = pos 0x0102030405060708;
        epoch = pos 9;
        topics = record { name = text "orders"; partitions = pos 2 ∷ pos 3 ∷ [] }
            ∷ record { name = text "audit"; partitions = [] }
            ∷ [];
      }),
    )

-- ---- AddPartitionsToTxn Response, version 0

-- the answer to an AddPartitionsToTxn
abbrev pub add_partitions_to_txn_response : List ℕ
add_partitions_to_txn_response =
    0x00 ∷ 0x00 ∷ 0x00 ∷ 0x2f  -- size
    ∷ 0x01 ∷ 0x02 ∷ 0x03 ∷ 0x0d  -- correlation_id
    ∷ 0x00 ∷ 0x00 ∷ 0x00 ∷ 0x05  -- throttle_time_ms
    ∷ 0x00 ∷ 0x00 ∷ 0x00 ∷ 0x02  -- [results_by_topic]
    ∷ 0x00 ∷ 0x06 ∷ 0x6f ∷ 0x72 ∷ 0x64 ∷ 0x65 ∷ 0x72 ∷ 0x73  -- name
    ∷ 0x00 ∷ 0x00 ∷ 0x00 ∷ 0x02  -- [partitions]
    ∷ 0x00 ∷ 0x00 ∷ 0x00 ∷ 0x02  -- partition_index
    ∷ 0x00 ∷ 0x00  -- partition_error_code
    ∷ 0x00 ∷ 0x00 ∷ 0x00 ∷ 0x03  -- partition_index
    ∷ 0x00 ∷ 0x37  -- partition_error_code
    ∷ 0x00 ∷ 0x05 ∷ 0x61 ∷ 0x75 ∷ 0x64 ∷ 0x69 ∷ 0x74  -- name
    ∷ 0x00 ∷ 0x00 ∷ 0x00 ∷ 0x00  -- [partitions]
    ∷ []

-- what the answer to an AddPartitionsToTxn is sent as
abbrev pub AddPartitionsToTxnResponseFrame : Encoder → Type 0
AddPartitionsToTxnResponseFrame encode =
    encode (pos 0x0102030d)
    (replies.AddPartitionsToTxn (record {
      throttle = pos 5;
      topics = record {
        name = text "orders";
        partitions = record { index = pos 2; error = errors.None }
            ∷ record { index = pos 3; error = errors.OperationNotAttempted }
            ∷ [];
      }
          ∷ record { name = text "audit"; partitions = [] }
          ∷ [];
    }))
    ≡ add_partitions_to_txn_response

-- ---- AddOffsetsToTxn Request, version 0

-- an AddOffsetsToTxn
abbrev pub add_offsets_to_txn_request : List ℕ
add_offsets_to_txn_request =
    0x00 ∷ 0x19  -- request_api_key
    ∷ 0x00 ∷ 0x00  -- request_api_version
    ∷ 0x01 ∷ 0x02 ∷ 0x03 ∷ 0x0e  -- correlation_id
    ∷ 0x00 ∷ 0x01 ∷ 0x63  -- client_id
    ∷ 0x00 ∷ 0x05 ∷ 0x70 ∷ 0x61 ∷ 0x79 ∷ 0x2d ∷ 0x31  -- transactional_id
    ∷ 0x01 ∷ 0x02 ∷ 0x03 ∷ 0x04 ∷ 0x05 ∷ 0x06 ∷ 0x07 ∷ 0x08  -- producer_id
    ∷ 0x00 ∷ 0x09  -- producer_epoch
    ∷ 0x00 ∷ 0x03 ∷ 0x61 ∷ 0x70 ∷ 0x70  -- group_id
    ∷ []

-- what the frame of an AddOffsetsToTxn is read as
abbrev pub AddOffsetsToTxnRequestFrame : Decoder → Type 0
AddOffsetsToTxnRequestFrame decode =
    decode add_offsets_to_txn_request ≡ Ok (
      record {
        key = pos 25;
        version = pos 0;
        correlation = pos 0x0102030e;
        client = Some (text "c");
      },
      requests.AddOffsetsToTxn (record {
        transactional_id = text "pay-1";
        producer = pos 0x0102030405060708;
        epoch = pos 9;
        group = text "app";
      }),
    )

-- ---- AddOffsetsToTxn Response, version 0

-- the answer to an AddOffsetsToTxn
abbrev pub add_offsets_to_txn_response : List ℕ
add_offsets_to_txn_response =
    0x00 ∷ 0x00 ∷ 0x00 ∷ 0x0a  -- size
    ∷ 0x01 ∷ 0x02 ∷ 0x03 ∷ 0x0e  -- correlation_id
    ∷ 0x00 ∷ 0x00 ∷ 0x00 ∷ 0x05  -- throttle_time_ms
    ∷ 0x00 ∷ 0x31  -- error_code
    ∷ []

-- what the answer to an AddOffsetsToTxn is sent as
abbrev pub AddOffsetsToTxnResponseFrame : Encoder → Type 0
AddOffsetsToTxnResponseFrame encode =
    encode (pos 0x0102030e)
    (replies.AddOffsetsToTxn (record { throttle = pos 5; error = errors.InvalidProducerIdMapping }))
    ≡ add_offsets_to_txn_response

-- ---- EndTxn Request, versions 0 to 5

-- version 0: a commit, which is 1
abbrev pub end_txn_0_commit : List ℕ
end_txn_0_commit =
    0x00 ∷ 0x1a  -- request_api_key
    ∷ 0x00 ∷ 0x00  -- request_api_version
    ∷ 0x01 ∷ 0x02 ∷ 0x03 ∷ 0x10  -- correlation_id
    ∷ 0x00 ∷ 0x01 ∷ 0x63  -- client_id
    ∷ 0x00 ∷ 0x05 ∷ 0x70 ∷ 0x61 ∷ 0x79 ∷ 0x2d ∷ 0x31  -- transactional_id
    ∷ 0x01 ∷ 0x02 ∷ 0x03 ∷ 0x04 ∷ 0x05 ∷ 0x06 ∷ 0x07 ∷ 0x08  -- producer_id
    ∷ 0x00 ∷ 0x09  -- producer_epoch
    ∷ 0x01  -- committed
    ∷ []

-- version 0: an abort, which is 0
abbrev pub end_txn_0_abort : List ℕ
end_txn_0_abort =
    0x00 ∷ 0x1a  -- request_api_key
    ∷ 0x00 ∷ 0x00  -- request_api_version
    ∷ 0x01 ∷ 0x02 ∷ 0x03 ∷ 0x10  -- correlation_id
    ∷ 0x00 ∷ 0x01 ∷ 0x63  -- client_id
    ∷ 0x00 ∷ 0x05 ∷ 0x70 ∷ 0x61 ∷ 0x79 ∷ 0x2d ∷ 0x31  -- transactional_id
    ∷ 0x01 ∷ 0x02 ∷ 0x03 ∷ 0x04 ∷ 0x05 ∷ 0x06 ∷ 0x07 ∷ 0x08  -- producer_id
    ∷ 0x00 ∷ 0x09  -- producer_epoch
    ∷ 0x00  -- committed
    ∷ []

-- version 1: a commit, which is 1
abbrev pub end_txn_1_commit : List ℕ
end_txn_1_commit =
    0x00 ∷ 0x1a  -- request_api_key
    ∷ 0x00 ∷ 0x01  -- request_api_version
    ∷ 0x01 ∷ 0x02 ∷ 0x03 ∷ 0x11  -- correlation_id
    ∷ 0x00 ∷ 0x01 ∷ 0x63  -- client_id
    ∷ 0x00 ∷ 0x05 ∷ 0x70 ∷ 0x61 ∷ 0x79 ∷ 0x2d ∷ 0x31  -- transactional_id
    ∷ 0x01 ∷ 0x02 ∷ 0x03 ∷ 0x04 ∷ 0x05 ∷ 0x06 ∷ 0x07 ∷ 0x08  -- producer_id
    ∷ 0x00 ∷ 0x09  -- producer_epoch
    ∷ 0x01  -- committed
    ∷ []

-- version 1: an abort, which is 0
abbrev pub end_txn_1_abort : List ℕ
end_txn_1_abort =
    0x00 ∷ 0x1a  -- request_api_key
    ∷ 0x00 ∷ 0x01  -- request_api_version
    ∷ 0x01 ∷ 0x02 ∷ 0x03 ∷ 0x11  -- correlation_id
    ∷ 0x00 ∷ 0x01 ∷ 0x63  -- client_id
    ∷ 0x00 ∷ 0x05 ∷ 0x70 ∷ 0x61 ∷ 0x79 ∷ 0x2d ∷ 0x31  -- transactional_id
    ∷ 0x01 ∷ 0x02 ∷ 0x03 ∷ 0x04 ∷ 0x05 ∷ 0x06 ∷ 0x07 ∷ 0x08  -- producer_id
    ∷ 0x00 ∷ 0x09  -- producer_epoch
    ∷ 0x00  -- committed
    ∷ []

-- version 2: a commit, which is 1
abbrev pub end_txn_2_commit : List ℕ
end_txn_2_commit =
    0x00 ∷ 0x1a  -- request_api_key
    ∷ 0x00 ∷ 0x02  -- request_api_version
    ∷ 0x01 ∷ 0x02 ∷ 0x03 ∷ 0x12  -- correlation_id
    ∷ 0x00 ∷ 0x01 ∷ 0x63  -- client_id
    ∷ 0x00 ∷ 0x05 ∷ 0x70 ∷ 0x61 ∷ 0x79 ∷ 0x2d ∷ 0x31  -- transactional_id
    ∷ 0x01 ∷ 0x02 ∷ 0x03 ∷ 0x04 ∷ 0x05 ∷ 0x06 ∷ 0x07 ∷ 0x08  -- producer_id
    ∷ 0x00 ∷ 0x09  -- producer_epoch
    ∷ 0x01  -- committed
    ∷ []

-- version 2: an abort, which is 0
abbrev pub end_txn_2_abort : List ℕ
end_txn_2_abort =
    0x00 ∷ 0x1a  -- request_api_key
    ∷ 0x00 ∷ 0x02  -- request_api_version
    ∷ 0x01 ∷ 0x02 ∷ 0x03 ∷ 0x12  -- correlation_id
    ∷ 0x00 ∷ 0x01 ∷ 0x63  -- client_id
    ∷ 0x00 ∷ 0x05 ∷ 0x70 ∷ 0x61 ∷ 0x79 ∷ 0x2d ∷ 0x31  -- transactional_id
    ∷ 0x01 ∷ 0x02 ∷ 0x03 ∷ 0x04 ∷ 0x05 ∷ 0x06 ∷ 0x07 ∷ 0x08  -- producer_id
    ∷ 0x00 ∷ 0x09  -- producer_epoch
    ∷ 0x00  -- committed
    ∷ []

-- version 3: a commit, which is 1
abbrev pub end_txn_3_commit : List ℕ
end_txn_3_commit =
    0x00 ∷ 0x1a  -- request_api_key
    ∷ 0x00 ∷ 0x03  -- request_api_version
    ∷ 0x01 ∷ 0x02 ∷ 0x03 ∷ 0x13  -- correlation_id
    ∷ 0x00 ∷ 0x01 ∷ 0x63  -- client_id
    ∷ 0x00  -- TAG_BUFFER
    ∷ 0x06 ∷ 0x70 ∷ 0x61 ∷ 0x79 ∷ 0x2d ∷ 0x31  -- transactional_id
    ∷ 0x01 ∷ 0x02 ∷ 0x03 ∷ 0x04 ∷ 0x05 ∷ 0x06 ∷ 0x07 ∷ 0x08  -- producer_id
    ∷ 0x00 ∷ 0x09  -- producer_epoch
    ∷ 0x01  -- committed
    ∷ 0x00  -- TAG_BUFFER
    ∷ []

-- version 3: an abort, which is 0
abbrev pub end_txn_3_abort : List ℕ
end_txn_3_abort =
    0x00 ∷ 0x1a  -- request_api_key
    ∷ 0x00 ∷ 0x03  -- request_api_version
    ∷ 0x01 ∷ 0x02 ∷ 0x03 ∷ 0x13  -- correlation_id
    ∷ 0x00 ∷ 0x01 ∷ 0x63  -- client_id
    ∷ 0x00  -- TAG_BUFFER
    ∷ 0x06 ∷ 0x70 ∷ 0x61 ∷ 0x79 ∷ 0x2d ∷ 0x31  -- transactional_id
    ∷ 0x01 ∷ 0x02 ∷ 0x03 ∷ 0x04 ∷ 0x05 ∷ 0x06 ∷ 0x07 ∷ 0x08  -- producer_id
    ∷ 0x00 ∷ 0x09  -- producer_epoch
    ∷ 0x00  -- committed
    ∷ 0x00  -- TAG_BUFFER
    ∷ []

-- version 4: a commit, which is 1
abbrev pub end_txn_4_commit : List ℕ
end_txn_4_commit =
    0x00 ∷ 0x1a  -- request_api_key
    ∷ 0x00 ∷ 0x04  -- request_api_version
    ∷ 0x01 ∷ 0x02 ∷ 0x03 ∷ 0x14  -- correlation_id
    ∷ 0x00 ∷ 0x01 ∷ 0x63  -- client_id
    ∷ 0x00  -- TAG_BUFFER
    ∷ 0x06 ∷ 0x70 ∷ 0x61 ∷ 0x79 ∷ 0x2d ∷ 0x31  -- transactional_id
    ∷ 0x01 ∷ 0x02 ∷ 0x03 ∷ 0x04 ∷ 0x05 ∷ 0x06 ∷ 0x07 ∷ 0x08  -- producer_id
    ∷ 0x00 ∷ 0x09  -- producer_epoch
    ∷ 0x01  -- committed
    ∷ 0x00  -- TAG_BUFFER
    ∷ []

-- version 4: an abort, which is 0
abbrev pub end_txn_4_abort : List ℕ
end_txn_4_abort =
    0x00 ∷ 0x1a  -- request_api_key
    ∷ 0x00 ∷ 0x04  -- request_api_version
    ∷ 0x01 ∷ 0x02 ∷ 0x03 ∷ 0x14  -- correlation_id
    ∷ 0x00 ∷ 0x01 ∷ 0x63  -- client_id
    ∷ 0x00  -- TAG_BUFFER
    ∷ 0x06 ∷ 0x70 ∷ 0x61 ∷ 0x79 ∷ 0x2d ∷ 0x31  -- transactional_id
    ∷ 0x01 ∷ 0x02 ∷ 0x03 ∷ 0x04 ∷ 0x05 ∷ 0x06 ∷ 0x07 ∷ 0x08  -- producer_id
    ∷ 0x00 ∷ 0x09  -- producer_epoch
    ∷ 0x00  -- committed
    ∷ 0x00  -- TAG_BUFFER
    ∷ []

-- version 5: a commit, which is 1
abbrev pub end_txn_5_commit : List ℕ
end_txn_5_commit =
    0x00 ∷ 0x1a  -- request_api_key
    ∷ 0x00 ∷ 0x05  -- request_api_version
    ∷ 0x01 ∷ 0x02 ∷ 0x03 ∷ 0x15  -- correlation_id
    ∷ 0x00 ∷ 0x01 ∷ 0x63  -- client_id
    ∷ 0x00  -- TAG_BUFFER
    ∷ 0x06 ∷ 0x70 ∷ 0x61 ∷ 0x79 ∷ 0x2d ∷ 0x31  -- transactional_id
    ∷ 0x01 ∷ 0x02 ∷ 0x03 ∷ 0x04 ∷ 0x05 ∷ 0x06 ∷ 0x07 ∷ 0x08  -- producer_id
    ∷ 0x00 ∷ 0x09  -- producer_epoch
    ∷ 0x01  -- committed
    ∷ 0x00  -- TAG_BUFFER
    ∷ []

-- version 5: an abort, which is 0
abbrev pub end_txn_5_abort : List ℕ
end_txn_5_abort =
    0x00 ∷ 0x1a  -- request_api_key
    ∷ 0x00 ∷ 0x05  -- request_api_version
    ∷ 0x01 ∷ 0x02 ∷ 0x03 ∷ 0x15  -- correlation_id
    ∷ 0x00 ∷ 0x01 ∷ 0x63  -- client_id
    ∷ 0x00  -- TAG_BUFFER
    ∷ 0x06 ∷ 0x70 ∷ 0x61 ∷ 0x79 ∷ 0x2d ∷ 0x31  -- transactional_id
    ∷ 0x01 ∷ 0x02 ∷ 0x03 ∷ 0x04 ∷ 0x05 ∷ 0x06 ∷ 0x07 ∷ 0x08  -- producer_id
    ∷ 0x00 ∷ 0x09  -- producer_epoch
    ∷ 0x00  -- committed
    ∷ 0x00  -- TAG_BUFFER
    ∷ []

-- what the frames of an EndTxn are read as
pub record EndTxnRequestFrames (decode : Decoder) : Type 0 where
  pub version_0_commit : decode end_txn_0_commit ≡ Ok (
    record {
      key = pos 26;
      version = pos 0;
      correlation = pos 0x01020310;
      client = Some (text "c");
    },
    requests.EndTxn (end_txns.Version0 (record {
      transactional_id = text "pay-1";
      producer = pos 0x0102030405060708;
      epoch = pos 9;
      committed = true;
    })),
  )
  pub version_0_abort : decode end_txn_0_abort ≡ Ok (
    record {
      key = pos 26;
      version = pos 0;
      correlation = pos 0x01020310;
      client = Some (text "c");
    },
    requests.EndTxn (end_txns.Version0 (record {
      transactional_id = text "pay-1";
      producer = pos 0x0102030405060708;
      epoch = pos 9;
      committed = false;
    })),
  )
  pub version_1_commit : decode end_txn_1_commit ≡ Ok (
    record {
      key = pos 26;
      version = pos 1;
      correlation = pos 0x01020311;
      client = Some (text "c");
    },
    requests.EndTxn (end_txns.Version1 (record {
      transactional_id = text "pay-1";
      producer = pos 0x0102030405060708;
      epoch = pos 9;
      committed = true;
    })),
  )
  pub version_1_abort : decode end_txn_1_abort ≡ Ok (
    record {
      key = pos 26;
      version = pos 1;
      correlation = pos 0x01020311;
      client = Some (text "c");
    },
    requests.EndTxn (end_txns.Version1 (record {
      transactional_id = text "pay-1";
      producer = pos 0x0102030405060708;
      epoch = pos 9;
      committed = false;
    })),
  )
  pub version_2_commit : decode end_txn_2_commit ≡ Ok (
    record {
      key = pos 26;
      version = pos 2;
      correlation = pos 0x01020312;
      client = Some (text "c");
    },
    requests.EndTxn (end_txns.Version2 (record {
      transactional_id = text "pay-1";
      producer = pos 0x0102030405060708;
      epoch = pos 9;
      committed = true;
    })),
  )
  pub version_2_abort : decode end_txn_2_abort ≡ Ok (
    record {
      key = pos 26;
      version = pos 2;
      correlation = pos 0x01020312;
      client = Some (text "c");
    },
    requests.EndTxn (end_txns.Version2 (record {
      transactional_id = text "pay-1";
      producer = pos 0x0102030405060708;
      epoch = pos 9;
      committed = false;
    })),
  )
  pub version_3_commit : decode end_txn_3_commit ≡ Ok (
    record {
      key = pos 26;
      version = pos 3;
      correlation = pos 0x01020313;
      client = Some (text "c");
    },
    requests.EndTxn (end_txns.Version3 (record {
      asked = record {
        transactional_id = text "pay-1";
        producer = pos 0x0102030405060708;
        epoch = pos 9;
        committed = true;
      };
    })),
  )
  pub version_3_abort : decode end_txn_3_abort ≡ Ok (
    record {
      key = pos 26;
      version = pos 3;
      correlation = pos 0x01020313;
      client = Some (text "c");
    },
    requests.EndTxn (end_txns.Version3 (record {
      asked = record {
        transactional_id = text "pay-1";
        producer = pos 0x0102030405060708;
        epoch = pos 9;
        committed = false;
      };
    })),
  )
  pub version_4_commit : decode end_txn_4_commit ≡ Ok (
    record {
      key = pos 26;
      version = pos 4;
      correlation = pos 0x01020314;
      client = Some (text "c");
    },
    requests.EndTxn (end_txns.Version4 (record {
      asked = record {
        transactional_id = text "pay-1";
        producer = pos 0x0102030405060708;
        epoch = pos 9;
        committed = true;
      };
    })),
  )
  pub version_4_abort : decode end_txn_4_abort ≡ Ok (
    record {
      key = pos 26;
      version = pos 4;
      correlation = pos 0x01020314;
      client = Some (text "c");
    },
    requests.EndTxn (end_txns.Version4 (record {
      asked = record {
        transactional_id = text "pay-1";
        producer = pos 0x0102030405060708;
        epoch = pos 9;
        committed = false;
      };
    })),
  )
  pub version_5_commit : decode end_txn_5_commit ≡ Ok (
    record {
      key = pos 26;
      version = pos 5;
      correlation = pos 0x01020315;
      client = Some (text "c");
    },
    requests.EndTxn (end_txns.Version5 (record {
      asked = record {
        transactional_id = text "pay-1";
        producer = pos 0x0102030405060708;
        epoch = pos 9;
        committed = true;
      };
    })),
  )
  pub version_5_abort : decode end_txn_5_abort ≡ Ok (
    record {
      key = pos 26;
      version = pos 5;
      correlation = pos 0x01020315;
      client = Some (text "c");
    },
    requests.EndTxn (end_txns.Version5 (record {
      asked = record {
        transactional_id = text "pay-1";
        producer = pos 0x0102030405060708;
        epoch = pos 9;
        committed = false;
      };
    })),
  )

-- ---- EndTxn Response, versions 0 to 5

-- version 0
abbrev pub end_txn_0_response : List ℕ
end_txn_0_response =
    0x00 ∷ 0x00 ∷ 0x00 ∷ 0x0a  -- size
    ∷ 0x01 ∷ 0x02 ∷ 0x03 ∷ 0x10  -- correlation_id
    ∷ 0x00 ∷ 0x00 ∷ 0x00 ∷ 0x05  -- throttle_time_ms
    ∷ 0x00 ∷ 0x5a  -- error_code
    ∷ []

-- version 1
abbrev pub end_txn_1_response : List ℕ
end_txn_1_response =
    0x00 ∷ 0x00 ∷ 0x00 ∷ 0x0a  -- size
    ∷ 0x01 ∷ 0x02 ∷ 0x03 ∷ 0x11  -- correlation_id
    ∷ 0x00 ∷ 0x00 ∷ 0x00 ∷ 0x05  -- throttle_time_ms
    ∷ 0x00 ∷ 0x5a  -- error_code
    ∷ []

-- version 2
abbrev pub end_txn_2_response : List ℕ
end_txn_2_response =
    0x00 ∷ 0x00 ∷ 0x00 ∷ 0x0a  -- size
    ∷ 0x01 ∷ 0x02 ∷ 0x03 ∷ 0x12  -- correlation_id
    ∷ 0x00 ∷ 0x00 ∷ 0x00 ∷ 0x05  -- throttle_time_ms
    ∷ 0x00 ∷ 0x5a  -- error_code
    ∷ []

-- version 3
abbrev pub end_txn_3_response : List ℕ
end_txn_3_response =
    0x00 ∷ 0x00 ∷ 0x00 ∷ 0x0c  -- size
    ∷ 0x01 ∷ 0x02 ∷ 0x03 ∷ 0x13  -- correlation_id
    ∷ 0x00  -- TAG_BUFFER
    ∷ 0x00 ∷ 0x00 ∷ 0x00 ∷ 0x05  -- throttle_time_ms
    ∷ 0x00 ∷ 0x5a  -- error_code
    ∷ 0x00  -- TAG_BUFFER
    ∷ []

-- version 4
abbrev pub end_txn_4_response : List ℕ
end_txn_4_response =
    0x00 ∷ 0x00 ∷ 0x00 ∷ 0x0c  -- size
    ∷ 0x01 ∷ 0x02 ∷ 0x03 ∷ 0x14  -- correlation_id
    ∷ 0x00  -- TAG_BUFFER
    ∷ 0x00 ∷ 0x00 ∷ 0x00 ∷ 0x05  -- throttle_time_ms
    ∷ 0x00 ∷ 0x5a  -- error_code
    ∷ 0x00  -- TAG_BUFFER
    ∷ []

-- version 5
abbrev pub end_txn_5_response : List ℕ
end_txn_5_response =
    0x00 ∷ 0x00 ∷ 0x00 ∷ 0x16  -- size
    ∷ 0x01 ∷ 0x02 ∷ 0x03 ∷ 0x15  -- correlation_id
    ∷ 0x00  -- TAG_BUFFER
    ∷ 0x00 ∷ 0x00 ∷ 0x00 ∷ 0x05  -- throttle_time_ms
    ∷ 0x00 ∷ 0x00  -- error_code
    ∷ 0x01 ∷ 0x02 ∷ 0x03 ∷ 0x04 ∷ 0x05 ∷ 0x06 ∷ 0x07 ∷ 0x08  -- producer_id
    ∷ 0x00 ∷ 0x09  -- producer_epoch
    ∷ 0x00  -- TAG_BUFFER
    ∷ []

-- what the answers to an EndTxn are sent as
pub record EndTxnResponseFrames (encode : Encoder) : Type 0 where
  pub version_0 : encode (pos 0x01020310)
      (replies.EndTxn (ended.Version0 (record { throttle = pos 5; error = errors.ProducerFenced })))
      ≡ end_txn_0_response
  pub version_1 : encode (pos 0x01020311)
      (replies.EndTxn (ended.Version1 (record { throttle = pos 5; error = errors.ProducerFenced })))
      ≡ end_txn_1_response
  pub version_2 : encode (pos 0x01020312)
      (replies.EndTxn (ended.Version2 (record { throttle = pos 5; error = errors.ProducerFenced })))
      ≡ end_txn_2_response
  pub version_3 : encode (pos 0x01020313)
      (replies.EndTxn (ended.Version3 (record { throttle = pos 5; error = errors.ProducerFenced })))
      ≡ end_txn_3_response
  pub version_4 : encode (pos 0x01020314)
      (replies.EndTxn (ended.Version4 (record { throttle = pos 5; error = errors.ProducerFenced })))
      ≡ end_txn_4_response
  pub version_5 : encode (pos 0x01020315)
      (replies.EndTxn (ended.Version5 (record {
        throttle = pos 5;
        error = errors.None;
        producer = pos 0x0102030405060708;
        epoch = pos 9;
      })))
      ≡ end_txn_5_response

-- ---- TxnOffsetCommit Request, version 3

-- with metadata, without any, and with an empty text
abbrev pub txn_offset_commit_request : List ℕ
txn_offset_commit_request =
    0x00 ∷ 0x1c  -- request_api_key
    ∷ 0x00 ∷ 0x03  -- request_api_version
    ∷ 0x01 ∷ 0x02 ∷ 0x03 ∷ 0x0f  -- correlation_id
    ∷ 0x00 ∷ 0x01 ∷ 0x63  -- client_id
    ∷ 0x00  -- TAG_BUFFER
    ∷ 0x06 ∷ 0x70 ∷ 0x61 ∷ 0x79 ∷ 0x2d ∷ 0x31  -- transactional_id
    ∷ 0x04 ∷ 0x61 ∷ 0x70 ∷ 0x70  -- group_id
    ∷ 0x01 ∷ 0x02 ∷ 0x03 ∷ 0x04 ∷ 0x05 ∷ 0x06 ∷ 0x07 ∷ 0x08  -- producer_id
    ∷ 0x00 ∷ 0x09  -- producer_epoch
    ∷ 0x00 ∷ 0x00 ∷ 0x00 ∷ 0x04  -- generation_id
    ∷ 0x04 ∷ 0x6d ∷ 0x2d ∷ 0x31  -- member_id
    ∷ 0x00  -- group_instance_id
    ∷ 0x03  -- [topics]
    ∷ 0x07 ∷ 0x6f ∷ 0x72 ∷ 0x64 ∷ 0x65 ∷ 0x72 ∷ 0x73  -- name
    ∷ 0x04  -- [partitions]
    ∷ 0x00 ∷ 0x00 ∷ 0x00 ∷ 0x02  -- partition_index
    ∷ 0x00 ∷ 0x00 ∷ 0x00 ∷ 0x00 ∷ 0x00 ∷ 0x00 ∷ 0x00 ∷ 0x2a  -- committed_offset
    ∷ 0xff ∷ 0xff ∷ 0xff ∷ 0xff  -- committed_leader_epoch
    ∷ 0x05 ∷ 0x6e ∷ 0x6f ∷ 0x74 ∷ 0x65  -- committed_metadata
    ∷ 0x00  -- TAG_BUFFER
    ∷ 0x00 ∷ 0x00 ∷ 0x00 ∷ 0x03  -- partition_index
    ∷ 0x00 ∷ 0x00 ∷ 0x00 ∷ 0x00 ∷ 0x00 ∷ 0x00 ∷ 0x00 ∷ 0x2b  -- committed_offset
    ∷ 0x00 ∷ 0x00 ∷ 0x00 ∷ 0x06  -- committed_leader_epoch
    ∷ 0x00  -- committed_metadata
    ∷ 0x00  -- TAG_BUFFER
    ∷ 0x00 ∷ 0x00 ∷ 0x00 ∷ 0x04  -- partition_index
    ∷ 0x00 ∷ 0x00 ∷ 0x00 ∷ 0x00 ∷ 0x00 ∷ 0x00 ∷ 0x00 ∷ 0x2c  -- committed_offset
    ∷ 0x00 ∷ 0x00 ∷ 0x00 ∷ 0x07  -- committed_leader_epoch
    ∷ 0x01  -- committed_metadata
    ∷ 0x00  -- TAG_BUFFER
    ∷ 0x00  -- TAG_BUFFER
    ∷ 0x06 ∷ 0x61 ∷ 0x75 ∷ 0x64 ∷ 0x69 ∷ 0x74  -- name
    ∷ 0x01  -- [partitions]
    ∷ 0x00  -- TAG_BUFFER
    ∷ 0x00  -- TAG_BUFFER
    ∷ []

-- of a member with an instance id, with tagged fields that no version knows
abbrev pub txn_offset_commit_request_of_an_instance : List ℕ
txn_offset_commit_request_of_an_instance =
    0x00 ∷ 0x1c  -- request_api_key
    ∷ 0x00 ∷ 0x03  -- request_api_version
    ∷ 0x00 ∷ 0x00 ∷ 0x00 ∷ 0x0d  -- correlation_id
    ∷ 0x00 ∷ 0x01 ∷ 0x63  -- client_id
    ∷ 0x01 ∷ 0x05 ∷ 0x01 ∷ 0xff  -- TAG_BUFFER
    ∷ 0x01  -- transactional_id
    ∷ 0x02 ∷ 0x67  -- group_id
    ∷ 0x00 ∷ 0x00 ∷ 0x00 ∷ 0x00 ∷ 0x00 ∷ 0x00 ∷ 0x00 ∷ 0x01  -- producer_id
    ∷ 0x00 ∷ 0x02  -- producer_epoch
    ∷ 0xff ∷ 0xff ∷ 0xff ∷ 0xff  -- generation_id
    ∷ 0x01  -- member_id
    ∷ 0x02 ∷ 0x69  -- group_instance_id
    ∷ 0x01  -- [topics]
    ∷ 0x01 ∷ 0x07 ∷ 0x02 ∷ 0x01 ∷ 0x02  -- TAG_BUFFER
    ∷ []

-- what the frames of a TxnOffsetCommit are read as
pub record TxnOffsetCommitRequestFrames (decode : Decoder) : Type 0 where
  pub offsets : decode txn_offset_commit_request ≡ Ok (
    record {
      key = pos 28;
      version = pos 3;
      correlation = pos 0x0102030f;
      client = Some (text "c");
    },
    requests.TxnOffsetCommit (record {
      transactional_id = text "pay-1";
      group = text "app";
      producer = pos 0x0102030405060708;
      epoch = pos 9;
      generation = pos 4;
      member = text "m-1";
      instance = None;
      topics = record {
        name = text "orders";
        partitions = record {
          index = pos 2;
          offset = pos 42;
          leader_epoch = negsuc 0;
          metadata = Some (text "note");
        }
            ∷ record { index = pos 3; offset = pos 43; leader_epoch = pos 6; metadata = None }
            ∷ record {
              index = pos 4;
              offset = pos 44;
              leader_epoch = pos 7;
              metadata = Some [];
            }
            ∷ [];
      }
          ∷ record { name = text "audit"; partitions = [] }
          ∷ [];
    }),
  )
  pub instance : decode txn_offset_commit_request_of_an_instance ≡ Ok (
    record { key = pos 28; version = pos 3; correlation = pos 13; client = Some (text "c") },
    requests.TxnOffsetCommit (record {
      transactional_id = [];
      group = text "g";
      producer = pos 1;
      epoch = pos 2;
      generation = negsuc 0;
      member = [];
      instance = Some (text "i");
      topics = [];
    }),
  )

-- ---- TxnOffsetCommit Response, version 3

-- the answer to a TxnOffsetCommit
abbrev pub txn_offset_commit_response : List ℕ
txn_offset_commit_response =
    0x00 ∷ 0x00 ∷ 0x00 ∷ 0x2a  -- size
    ∷ 0x01 ∷ 0x02 ∷ 0x03 ∷ 0x0f  -- correlation_id
    ∷ 0x00  -- TAG_BUFFER
    ∷ 0x00 ∷ 0x00 ∷ 0x00 ∷ 0x05  -- throttle_time_ms
    ∷ 0x03  -- [topics]
    ∷ 0x07 ∷ 0x6f ∷ 0x72 ∷ 0x64 ∷ 0x65 ∷ 0x72 ∷ 0x73  -- name
    ∷ 0x03  -- [partitions]
    ∷ 0x00 ∷ 0x00 ∷ 0x00 ∷ 0x02  -- partition_index
    ∷ 0x00 ∷ 0x00  -- error_code
    ∷ 0x00  -- TAG_BUFFER
    ∷ 0x00 ∷ 0x00 ∷ 0x00 ∷ 0x03  -- partition_index
    ∷ 0x00 ∷ 0x30  -- error_code
    ∷ 0x00  -- TAG_BUFFER
    ∷ 0x00  -- TAG_BUFFER
    ∷ 0x06 ∷ 0x61 ∷ 0x75 ∷ 0x64 ∷ 0x69 ∷ 0x74  -- name
    ∷ 0x01  -- [partitions]
    ∷ 0x00  -- TAG_BUFFER
    ∷ 0x00  -- TAG_BUFFER
    ∷ []

-- what the answer to a TxnOffsetCommit is sent as
abbrev pub TxnOffsetCommitResponseFrame : Encoder → Type 0
TxnOffsetCommitResponseFrame encode =
    encode (pos 0x0102030f)
    (replies.TxnOffsetCommit (record {
      throttle = pos 5;
      topics = record {
        name = text "orders";
        partitions = record { index = pos 2; error = errors.None }
            ∷ record { index = pos 3; error = errors.InvalidTxnState }
            ∷ [];
      }
          ∷ record { name = text "audit"; partitions = [] }
          ∷ [];
    }))
    ≡ txn_offset_commit_response
