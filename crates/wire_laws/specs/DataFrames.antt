-- Frames of Produce, Fetch, ListOffsets and Metadata, byte by byte, and what each spells (Kafka
-- protocol guide, "The Messages"). The bytes are those of kafka-python 2.0.2, whose structs were
-- given the same values.
use Rattle.std.specs.Prelude.{ℕ, pos, negsuc, List, [], ◌∷◌, true, false, Some, None, Ok, ◌≡◌, codes as text}
use Rattle.wire_laws.specs.Frames.{Decoder, Encoder}
use Rattle.wire_types.specs.declared.error_code.ErrorCode.TheVariants as errors
use Rattle.msg_data.specs.declared.isolation.Isolation.TheVariants as levels
use Rattle.msg_admin.specs.declared.request.Request.TheVariants as requests
use Rattle.msg_admin.specs.declared.reply.Reply.TheVariants as replies

-- ---- Produce Request, version 3

-- a batch of two bytes, null in place of a batch, no bytes, and a topic without partitions, in a
-- transaction, with acks -1
abbrev pub produce_request : List ℕ
produce_request =
    0x00 ∷ 0x00  -- request_api_key
    ∷ 0x00 ∷ 0x03  -- request_api_version
    ∷ 0x01 ∷ 0x02 ∷ 0x03 ∷ 0x04  -- correlation_id
    ∷ 0x00 ∷ 0x01 ∷ 0x63  -- client_id
    ∷ 0x00 ∷ 0x05 ∷ 0x70 ∷ 0x61 ∷ 0x79 ∷ 0x2d ∷ 0x31  -- transactional_id
    ∷ 0xff ∷ 0xff  -- acks
    ∷ 0x00 ∷ 0x00 ∷ 0x75 ∷ 0x30  -- timeout_ms
    ∷ 0x00 ∷ 0x00 ∷ 0x00 ∷ 0x02  -- [topic_data]
    ∷ 0x00 ∷ 0x06 ∷ 0x6f ∷ 0x72 ∷ 0x64 ∷ 0x65 ∷ 0x72 ∷ 0x73  -- name
    ∷ 0x00 ∷ 0x00 ∷ 0x00 ∷ 0x03  -- [partitions]
    ∷ 0x00 ∷ 0x00 ∷ 0x00 ∷ 0x02  -- index
    ∷ 0x00 ∷ 0x00 ∷ 0x00 ∷ 0x02 ∷ 0xca ∷ 0xfe  -- records
    ∷ 0x00 ∷ 0x00 ∷ 0x00 ∷ 0x03  -- index
    ∷ 0xff ∷ 0xff ∷ 0xff ∷ 0xff  -- records
    ∷ 0x00 ∷ 0x00 ∷ 0x00 ∷ 0x04  -- index
    ∷ 0x00 ∷ 0x00 ∷ 0x00 ∷ 0x00  -- records
    ∷ 0x00 ∷ 0x05 ∷ 0x61 ∷ 0x75 ∷ 0x64 ∷ 0x69 ∷ 0x74  -- name
    ∷ 0x00 ∷ 0x00 ∷ 0x00 ∷ 0x00  -- [partitions]
    ∷ []

-- without a transactional id, with acks 0, from a client without an id
abbrev pub plain_produce_request : List ℕ
plain_produce_request =
    0x00 ∷ 0x00  -- request_api_key
    ∷ 0x00 ∷ 0x03  -- request_api_version
    ∷ 0x00 ∷ 0x00 ∷ 0x00 ∷ 0x05  -- correlation_id
    ∷ 0xff ∷ 0xff  -- client_id
    ∷ 0xff ∷ 0xff  -- transactional_id
    ∷ 0x00 ∷ 0x00  -- acks
    ∷ 0x00 ∷ 0x00 ∷ 0x00 ∷ 0x01  -- timeout_ms
    ∷ 0x00 ∷ 0x00 ∷ 0x00 ∷ 0x00  -- [topic_data]
    ∷ []

-- what the frames of a Produce are read as
pub record ProduceRequestFrames (decode : Decoder) : Type 0 where
  pub transactional : decode produce_request ≡ Ok (
    record {
      key = pos 0;
      version = pos 3;
      correlation = pos 0x01020304;
      client = Some (text "c");
    },
    requests.Produce (record {
      transactional_id = Some (text "pay-1");
      acks = negsuc 0;
      timeout = pos 30000;
      topics = record {
        name = text "orders";
        partitions = record { index = pos 2; records = Some (0xca ∷ 0xfe ∷ []) }
            ∷ record { index = pos 3; records = None }
            ∷ record { index = pos 4; records = Some [] }
            ∷ [];
      }
          ∷ record { name = text "audit"; partitions = [] }
          ∷ [];
    }),
  )
  pub plain : decode plain_produce_request ≡ Ok (
    record { key = pos 0; version = pos 3; correlation = pos 5; client = None },
    requests.Produce (record {
      transactional_id = None;
      acks = pos 0;
      timeout = pos 1;
      topics = [];
    }),
  )

-- ---- Produce Response, version 3

-- a batch at offset 42, and one that is corrupt
abbrev pub produce_response : List ℕ
produce_response =
    0x00 ∷ 0x00 ∷ 0x00 ∷ 0x4f  -- size
    ∷ 0x01 ∷ 0x02 ∷ 0x03 ∷ 0x04  -- correlation_id
    ∷ 0x00 ∷ 0x00 ∷ 0x00 ∷ 0x02  -- [responses]
    ∷ 0x00 ∷ 0x06 ∷ 0x6f ∷ 0x72 ∷ 0x64 ∷ 0x65 ∷ 0x72 ∷ 0x73  -- name
    ∷ 0x00 ∷ 0x00 ∷ 0x00 ∷ 0x02  -- [partitions]
    ∷ 0x00 ∷ 0x00 ∷ 0x00 ∷ 0x02  -- index
    ∷ 0x00 ∷ 0x00  -- error_code
    ∷ 0x00 ∷ 0x00 ∷ 0x00 ∷ 0x00 ∷ 0x00 ∷ 0x00 ∷ 0x00 ∷ 0x2a  -- base_offset
    ∷ 0xff ∷ 0xff ∷ 0xff ∷ 0xff ∷ 0xff ∷ 0xff ∷ 0xff ∷ 0xff  -- log_append_time_ms
    ∷ 0x00 ∷ 0x00 ∷ 0x00 ∷ 0x03  -- index
    ∷ 0x00 ∷ 0x02  -- error_code
    ∷ 0xff ∷ 0xff ∷ 0xff ∷ 0xff ∷ 0xff ∷ 0xff ∷ 0xff ∷ 0xff  -- base_offset
    ∷ 0xff ∷ 0xff ∷ 0xff ∷ 0xff ∷ 0xff ∷ 0xff ∷ 0xff ∷ 0xff  -- log_append_time_ms
    ∷ 0x00 ∷ 0x05 ∷ 0x61 ∷ 0x75 ∷ 0x64 ∷ 0x69 ∷ 0x74  -- name
    ∷ 0x00 ∷ 0x00 ∷ 0x00 ∷ 0x00  -- [partitions]
    ∷ 0x00 ∷ 0x00 ∷ 0x00 ∷ 0x05  -- throttle_time_ms
    ∷ []

-- what the answer to a Produce is sent as
abbrev pub ProduceResponseFrame : Encoder → Type 0
ProduceResponseFrame encode =
    encode (pos 0x01020304)
    (replies.Produce (record {
      topics = record {
        name = text "orders";
        partitions = record {
          index = pos 2;
          error = errors.None;
          base_offset = pos 42;
          log_append_time = negsuc 0;
        }
            ∷ record {
              index = pos 3;
              error = errors.CorruptMessage;
              base_offset = negsuc 0;
              log_append_time = negsuc 0;
            }
            ∷ [];
      }
          ∷ record { name = text "audit"; partitions = [] }
          ∷ [];
      throttle = pos 5;
    }))
    ≡ produce_response

-- ---- Fetch Request, version 4

-- READ_COMMITTED, which is 1
abbrev pub committed_fetch_request : List ℕ
committed_fetch_request =
    0x00 ∷ 0x01  -- request_api_key
    ∷ 0x00 ∷ 0x04  -- request_api_version
    ∷ 0x01 ∷ 0x02 ∷ 0x03 ∷ 0x05  -- correlation_id
    ∷ 0x00 ∷ 0x01 ∷ 0x63  -- client_id
    ∷ 0xff ∷ 0xff ∷ 0xff ∷ 0xff  -- replica_id
    ∷ 0x00 ∷ 0x00 ∷ 0x01 ∷ 0xf4  -- max_wait_ms
    ∷ 0x00 ∷ 0x00 ∷ 0x00 ∷ 0x01  -- min_bytes
    ∷ 0x03 ∷ 0x20 ∷ 0x00 ∷ 0x00  -- max_bytes
    ∷ 0x01  -- isolation_level
    ∷ 0x00 ∷ 0x00 ∷ 0x00 ∷ 0x02  -- [topics]
    ∷ 0x00 ∷ 0x06 ∷ 0x6f ∷ 0x72 ∷ 0x64 ∷ 0x65 ∷ 0x72 ∷ 0x73  -- name
    ∷ 0x00 ∷ 0x00 ∷ 0x00 ∷ 0x02  -- [partitions]
    ∷ 0x00 ∷ 0x00 ∷ 0x00 ∷ 0x02  -- partition
    ∷ 0x01 ∷ 0x02 ∷ 0x03 ∷ 0x04 ∷ 0x05 ∷ 0x06 ∷ 0x07 ∷ 0x08  -- fetch_offset
    ∷ 0x00 ∷ 0x10 ∷ 0x00 ∷ 0x00  -- partition_max_bytes
    ∷ 0x00 ∷ 0x00 ∷ 0x00 ∷ 0x03  -- partition
    ∷ 0x00 ∷ 0x00 ∷ 0x00 ∷ 0x00 ∷ 0x00 ∷ 0x00 ∷ 0x00 ∷ 0x09  -- fetch_offset
    ∷ 0x00 ∷ 0x00 ∷ 0x00 ∷ 0x04  -- partition_max_bytes
    ∷ 0x00 ∷ 0x05 ∷ 0x61 ∷ 0x75 ∷ 0x64 ∷ 0x69 ∷ 0x74  -- name
    ∷ 0x00 ∷ 0x00 ∷ 0x00 ∷ 0x00  -- [partitions]
    ∷ []

-- READ_UNCOMMITTED, which is 0
abbrev pub uncommitted_fetch_request : List ℕ
uncommitted_fetch_request =
    0x00 ∷ 0x01  -- request_api_key
    ∷ 0x00 ∷ 0x04  -- request_api_version
    ∷ 0x00 ∷ 0x00 ∷ 0x00 ∷ 0x06  -- correlation_id
    ∷ 0x00 ∷ 0x00  -- client_id
    ∷ 0xff ∷ 0xff ∷ 0xff ∷ 0xff  -- replica_id
    ∷ 0x00 ∷ 0x00 ∷ 0x00 ∷ 0x02  -- max_wait_ms
    ∷ 0x00 ∷ 0x00 ∷ 0x00 ∷ 0x03  -- min_bytes
    ∷ 0x00 ∷ 0x00 ∷ 0x00 ∷ 0x04  -- max_bytes
    ∷ 0x00  -- isolation_level
    ∷ 0x00 ∷ 0x00 ∷ 0x00 ∷ 0x00  -- [topics]
    ∷ []

-- what the frames of a Fetch are read as
pub record FetchRequestFrames (decode : Decoder) : Type 0 where
  pub committed : decode committed_fetch_request ≡ Ok (
    record {
      key = pos 1;
      version = pos 4;
      correlation = pos 0x01020305;
      client = Some (text "c");
    },
    requests.Fetch (record {
      replica = negsuc 0;
      max_wait = pos 500;
      min_bytes = pos 1;
      max_bytes = pos 0x03200000;
      isolation = levels.ReadCommitted;
      topics = record {
        name = text "orders";
        partitions = record {
          index = pos 2;
          offset = pos 0x0102030405060708;
          max_bytes = pos 0x100000;
        }
            ∷ record { index = pos 3; offset = pos 9; max_bytes = pos 4 }
            ∷ [];
      }
          ∷ record { name = text "audit"; partitions = [] }
          ∷ [];
    }),
  )
  pub uncommitted : decode uncommitted_fetch_request ≡ Ok (
    record { key = pos 1; version = pos 4; correlation = pos 6; client = Some [] },
    requests.Fetch (record {
      replica = negsuc 0;
      max_wait = pos 2;
      min_bytes = pos 3;
      max_bytes = pos 4;
      isolation = levels.ReadUncommitted;
      topics = [];
    }),
  )

-- ---- Fetch Response, version 4

-- records of a partition in which a transaction was aborted, and a partition that is missing
abbrev pub fetch_response : List ℕ
fetch_response =
    0x00 ∷ 0x00 ∷ 0x00 ∷ 0x9f  -- size
    ∷ 0x01 ∷ 0x02 ∷ 0x03 ∷ 0x05  -- correlation_id
    ∷ 0x00 ∷ 0x00 ∷ 0x00 ∷ 0x05  -- throttle_time_ms
    ∷ 0x00 ∷ 0x00 ∷ 0x00 ∷ 0x02  -- [responses]
    ∷ 0x00 ∷ 0x06 ∷ 0x6f ∷ 0x72 ∷ 0x64 ∷ 0x65 ∷ 0x72 ∷ 0x73  -- name
    ∷ 0x00 ∷ 0x00 ∷ 0x00 ∷ 0x03  -- [partitions]
    ∷ 0x00 ∷ 0x00 ∷ 0x00 ∷ 0x02  -- partition_index
    ∷ 0x00 ∷ 0x00  -- error_code
    ∷ 0x00 ∷ 0x00 ∷ 0x00 ∷ 0x00 ∷ 0x00 ∷ 0x00 ∷ 0x00 ∷ 0x09  -- high_watermark
    ∷ 0x00 ∷ 0x00 ∷ 0x00 ∷ 0x00 ∷ 0x00 ∷ 0x00 ∷ 0x00 ∷ 0x07  -- last_stable_offset
    ∷ 0x00 ∷ 0x00 ∷ 0x00 ∷ 0x02  -- [aborted_transactions]
    ∷ 0x00 ∷ 0x00 ∷ 0x00 ∷ 0x00 ∷ 0x00 ∷ 0x00 ∷ 0x0f ∷ 0xa0  -- producer_id
    ∷ 0x00 ∷ 0x00 ∷ 0x00 ∷ 0x00 ∷ 0x00 ∷ 0x00 ∷ 0x00 ∷ 0x03  -- first_offset
    ∷ 0x00 ∷ 0x00 ∷ 0x00 ∷ 0x00 ∷ 0x00 ∷ 0x00 ∷ 0x0f ∷ 0xa1  -- producer_id
    ∷ 0x00 ∷ 0x00 ∷ 0x00 ∷ 0x00 ∷ 0x00 ∷ 0x00 ∷ 0x00 ∷ 0x05  -- first_offset
    ∷ 0x00 ∷ 0x00 ∷ 0x00 ∷ 0x02 ∷ 0xca ∷ 0xfe  -- records
    ∷ 0x00 ∷ 0x00 ∷ 0x00 ∷ 0x03  -- partition_index
    ∷ 0x00 ∷ 0x03  -- error_code
    ∷ 0xff ∷ 0xff ∷ 0xff ∷ 0xff ∷ 0xff ∷ 0xff ∷ 0xff ∷ 0xff  -- high_watermark
    ∷ 0xff ∷ 0xff ∷ 0xff ∷ 0xff ∷ 0xff ∷ 0xff ∷ 0xff ∷ 0xff  -- last_stable_offset
    ∷ 0xff ∷ 0xff ∷ 0xff ∷ 0xff  -- aborted_transactions
    ∷ 0x00 ∷ 0x00 ∷ 0x00 ∷ 0x00  -- records
    ∷ 0x00 ∷ 0x00 ∷ 0x00 ∷ 0x04  -- partition_index
    ∷ 0x00 ∷ 0x01  -- error_code
    ∷ 0x00 ∷ 0x00 ∷ 0x00 ∷ 0x00 ∷ 0x00 ∷ 0x00 ∷ 0x00 ∷ 0x08  -- high_watermark
    ∷ 0x00 ∷ 0x00 ∷ 0x00 ∷ 0x00 ∷ 0x00 ∷ 0x00 ∷ 0x00 ∷ 0x06  -- last_stable_offset
    ∷ 0x00 ∷ 0x00 ∷ 0x00 ∷ 0x00  -- [aborted_transactions]
    ∷ 0x00 ∷ 0x00 ∷ 0x00 ∷ 0x00  -- records
    ∷ 0x00 ∷ 0x05 ∷ 0x61 ∷ 0x75 ∷ 0x64 ∷ 0x69 ∷ 0x74  -- name
    ∷ 0x00 ∷ 0x00 ∷ 0x00 ∷ 0x00  -- [partitions]
    ∷ []

-- what the answer to a Fetch is sent as
abbrev pub FetchResponseFrame : Encoder → Type 0
FetchResponseFrame encode =
    encode (pos 0x01020305)
    (replies.Fetch (record {
      throttle = pos 5;
      topics = record {
        name = text "orders";
        partitions = record {
          index = pos 2;
          error = errors.None;
          high_watermark = pos 9;
          last_stable_offset = pos 7;
          aborted = Some (record { producer = pos 4000; first_offset = pos 3 }
              ∷ record { producer = pos 4001; first_offset = pos 5 }
              ∷ []);
          records = 0xca ∷ 0xfe ∷ [];
        }
            ∷ record {
              index = pos 3;
              error = errors.UnknownTopicOrPartition;
              high_watermark = negsuc 0;
              last_stable_offset = negsuc 0;
              aborted = None;
              records = [];
            }
            ∷ record {
              index = pos 4;
              error = errors.OffsetOutOfRange;
              high_watermark = pos 8;
              last_stable_offset = pos 6;
              aborted = Some [];
              records = [];
            }
            ∷ [];
      }
          ∷ record { name = text "audit"; partitions = [] }
          ∷ [];
    }))
    ≡ fetch_response

-- ---- ListOffsets Request, version 2

-- READ_COMMITTED, the latest offset (-1) and the earliest (-2)
abbrev pub committed_list_offsets_request : List ℕ
committed_list_offsets_request =
    0x00 ∷ 0x02  -- request_api_key
    ∷ 0x00 ∷ 0x02  -- request_api_version
    ∷ 0x01 ∷ 0x02 ∷ 0x03 ∷ 0x06  -- correlation_id
    ∷ 0x00 ∷ 0x01 ∷ 0x63  -- client_id
    ∷ 0xff ∷ 0xff ∷ 0xff ∷ 0xff  -- replica_id
    ∷ 0x01  -- isolation_level
    ∷ 0x00 ∷ 0x00 ∷ 0x00 ∷ 0x02  -- [topics]
    ∷ 0x00 ∷ 0x06 ∷ 0x6f ∷ 0x72 ∷ 0x64 ∷ 0x65 ∷ 0x72 ∷ 0x73  -- name
    ∷ 0x00 ∷ 0x00 ∷ 0x00 ∷ 0x02  -- [partitions]
    ∷ 0x00 ∷ 0x00 ∷ 0x00 ∷ 0x02  -- partition_index
    ∷ 0xff ∷ 0xff ∷ 0xff ∷ 0xff ∷ 0xff ∷ 0xff ∷ 0xff ∷ 0xff  -- timestamp
    ∷ 0x00 ∷ 0x00 ∷ 0x00 ∷ 0x03  -- partition_index
    ∷ 0xff ∷ 0xff ∷ 0xff ∷ 0xff ∷ 0xff ∷ 0xff ∷ 0xff ∷ 0xfe  -- timestamp
    ∷ 0x00 ∷ 0x05 ∷ 0x61 ∷ 0x75 ∷ 0x64 ∷ 0x69 ∷ 0x74  -- name
    ∷ 0x00 ∷ 0x00 ∷ 0x00 ∷ 0x00  -- [partitions]
    ∷ []

-- READ_UNCOMMITTED, and a time
abbrev pub uncommitted_list_offsets_request : List ℕ
uncommitted_list_offsets_request =
    0x00 ∷ 0x02  -- request_api_key
    ∷ 0x00 ∷ 0x02  -- request_api_version
    ∷ 0x00 ∷ 0x00 ∷ 0x00 ∷ 0x07  -- correlation_id
    ∷ 0x00 ∷ 0x01 ∷ 0x63  -- client_id
    ∷ 0xff ∷ 0xff ∷ 0xff ∷ 0xff  -- replica_id
    ∷ 0x00  -- isolation_level
    ∷ 0x00 ∷ 0x00 ∷ 0x00 ∷ 0x01  -- [topics]
    ∷ 0x00 ∷ 0x06 ∷ 0x6f ∷ 0x72 ∷ 0x64 ∷ 0x65 ∷ 0x72 ∷ 0x73  -- name
    ∷ 0x00 ∷ 0x00 ∷ 0x00 ∷ 0x01  -- [partitions]
    ∷ 0x00 ∷ 0x00 ∷ 0x00 ∷ 0x04  -- partition_index
    ∷ 0x00 ∷ 0x00 ∷ 0x01 ∷ 0x8b ∷ 0xcf ∷ 0xe5 ∷ 0x68 ∷ 0x00  -- timestamp
    ∷ []

-- what the frames of a ListOffsets are read as
pub record ListOffsetsRequestFrames (decode : Decoder) : Type 0 where
  pub committed : decode committed_list_offsets_request ≡ Ok (
    record {
      key = pos 2;
      version = pos 2;
      correlation = pos 0x01020306;
      client = Some (text "c");
    },
    requests.ListOffsets (record {
      replica = negsuc 0;
      isolation = levels.ReadCommitted;
      topics = record {
        name = text "orders";
        partitions = record { index = pos 2; timestamp = negsuc 0 }
            ∷ record { index = pos 3; timestamp = negsuc 1 }
            ∷ [];
      }
          ∷ record { name = text "audit"; partitions = [] }
          ∷ [];
    }),
  )
  pub uncommitted : decode uncommitted_list_offsets_request ≡ Ok (
    record { key = pos 2; version = pos 2; correlation = pos 7; client = Some (text "c") },
    requests.ListOffsets (record {
      replica = negsuc 0;
      isolation = levels.ReadUncommitted;
      topics = record {
        name = text "orders";
        partitions = record { index = pos 4; timestamp = pos 0x018bcfe56800 } ∷ [];
      }
          ∷ [];
    }),
  )

-- ---- ListOffsets Response, version 2

-- an offset, and a time that isn't answered
abbrev pub list_offsets_response : List ℕ
list_offsets_response =
    0x00 ∷ 0x00 ∷ 0x00 ∷ 0x4f  -- size
    ∷ 0x01 ∷ 0x02 ∷ 0x03 ∷ 0x06  -- correlation_id
    ∷ 0x00 ∷ 0x00 ∷ 0x00 ∷ 0x05  -- throttle_time_ms
    ∷ 0x00 ∷ 0x00 ∷ 0x00 ∷ 0x02  -- [topics]
    ∷ 0x00 ∷ 0x06 ∷ 0x6f ∷ 0x72 ∷ 0x64 ∷ 0x65 ∷ 0x72 ∷ 0x73  -- name
    ∷ 0x00 ∷ 0x00 ∷ 0x00 ∷ 0x02  -- [partitions]
    ∷ 0x00 ∷ 0x00 ∷ 0x00 ∷ 0x02  -- partition_index
    ∷ 0x00 ∷ 0x00  -- error_code
    ∷ 0xff ∷ 0xff ∷ 0xff ∷ 0xff ∷ 0xff ∷ 0xff ∷ 0xff ∷ 0xff  -- timestamp
    ∷ 0x00 ∷ 0x00 ∷ 0x00 ∷ 0x00 ∷ 0x00 ∷ 0x00 ∷ 0x00 ∷ 0x09  -- offset
    ∷ 0x00 ∷ 0x00 ∷ 0x00 ∷ 0x03  -- partition_index
    ∷ 0x00 ∷ 0x2a  -- error_code
    ∷ 0xff ∷ 0xff ∷ 0xff ∷ 0xff ∷ 0xff ∷ 0xff ∷ 0xff ∷ 0xff  -- timestamp
    ∷ 0xff ∷ 0xff ∷ 0xff ∷ 0xff ∷ 0xff ∷ 0xff ∷ 0xff ∷ 0xff  -- offset
    ∷ 0x00 ∷ 0x05 ∷ 0x61 ∷ 0x75 ∷ 0x64 ∷ 0x69 ∷ 0x74  -- name
    ∷ 0x00 ∷ 0x00 ∷ 0x00 ∷ 0x00  -- [partitions]
    ∷ []

-- what the answer to a ListOffsets is sent as
abbrev pub ListOffsetsResponseFrame : Encoder → Type 0
ListOffsetsResponseFrame encode =
    encode (pos 0x01020306)
    (replies.ListOffsets (record {
      throttle = pos 5;
      topics = record {
        name = text "orders";
        partitions = record {
          index = pos 2;
          error = errors.None;
          timestamp = negsuc 0;
          offset = pos 9;
        }
            ∷ record {
              index = pos 3;
              error = errors.InvalidRequest;
              timestamp = negsuc 0;
              offset = negsuc 0;
            }
            ∷ [];
      }
          ∷ record { name = text "audit"; partitions = [] }
          ∷ [];
    }))
    ≡ list_offsets_response

-- ---- Metadata Request, version 1

-- two topics
abbrev pub metadata_request : List ℕ
metadata_request =
    0x00 ∷ 0x03  -- request_api_key
    ∷ 0x00 ∷ 0x01  -- request_api_version
    ∷ 0x01 ∷ 0x02 ∷ 0x03 ∷ 0x07  -- correlation_id
    ∷ 0x00 ∷ 0x01 ∷ 0x63  -- client_id
    ∷ 0x00 ∷ 0x00 ∷ 0x00 ∷ 0x02  -- [topics]
    ∷ 0x00 ∷ 0x06 ∷ 0x6f ∷ 0x72 ∷ 0x64 ∷ 0x65 ∷ 0x72 ∷ 0x73  -- topics
    ∷ 0x00 ∷ 0x01 ∷ 0x61  -- topics
    ∷ []

-- all topics: null in place of an array
abbrev pub metadata_request_for_all : List ℕ
metadata_request_for_all =
    0x00 ∷ 0x03  -- request_api_key
    ∷ 0x00 ∷ 0x01  -- request_api_version
    ∷ 0x00 ∷ 0x00 ∷ 0x00 ∷ 0x08  -- correlation_id
    ∷ 0x00 ∷ 0x01 ∷ 0x63  -- client_id
    ∷ 0xff ∷ 0xff ∷ 0xff ∷ 0xff  -- topics
    ∷ []

-- no topic: an empty array
abbrev pub metadata_request_for_none : List ℕ
metadata_request_for_none =
    0x00 ∷ 0x03  -- request_api_key
    ∷ 0x00 ∷ 0x01  -- request_api_version
    ∷ 0x00 ∷ 0x00 ∷ 0x00 ∷ 0x09  -- correlation_id
    ∷ 0x00 ∷ 0x01 ∷ 0x63  -- client_id
    ∷ 0x00 ∷ 0x00 ∷ 0x00 ∷ 0x00  -- [topics]
    ∷ []

-- what the frames of a Metadata are read as
pub record MetadataRequestFrames (decode : Decoder) : Type 0 where
  pub two : decode metadata_request ≡ Ok (
    record {
      key = pos 3;
      version = pos 1;
      correlation = pos 0x01020307;
      client = Some (text "c");
    },
    requests.Metadata (record { topics = Some (text "orders" ∷ text "a" ∷ []) }),
  )
  pub all : decode metadata_request_for_all ≡ Ok (
    record { key = pos 3; version = pos 1; correlation = pos 8; client = Some (text "c") },
    requests.Metadata (record { topics = None }),
  )
  pub none : decode metadata_request_for_none ≡ Ok (
    record { key = pos 3; version = pos 1; correlation = pos 9; client = Some (text "c") },
    requests.Metadata (record { topics = Some [] }),
  )

-- ---- Metadata Response, version 1

-- three brokers, with a rack, without one and with an empty one; a topic with two partitions, one
-- that is internal, and one that is refused
abbrev pub metadata_response : List ℕ
metadata_response =
    0x00 ∷ 0x00 ∷ 0x00 ∷ 0x9a  -- size
    ∷ 0x01 ∷ 0x02 ∷ 0x03 ∷ 0x07  -- correlation_id
    ∷ 0x00 ∷ 0x00 ∷ 0x00 ∷ 0x03  -- [brokers]
    ∷ 0x00 ∷ 0x00 ∷ 0x00 ∷ 0x01  -- node_id
    ∷ 0x00 ∷ 0x05 ∷ 0x6b ∷ 0x61 ∷ 0x66 ∷ 0x6b ∷ 0x61  -- host
    ∷ 0x00 ∷ 0x00 ∷ 0x23 ∷ 0x84  -- port
    ∷ 0x00 ∷ 0x01 ∷ 0x72  -- rack
    ∷ 0x00 ∷ 0x00 ∷ 0x00 ∷ 0x02  -- node_id
    ∷ 0x00 ∷ 0x01 ∷ 0x62  -- host
    ∷ 0x00 ∷ 0x00 ∷ 0x23 ∷ 0x85  -- port
    ∷ 0xff ∷ 0xff  -- rack
    ∷ 0x00 ∷ 0x00 ∷ 0x00 ∷ 0x03  -- node_id
    ∷ 0x00 ∷ 0x00  -- host
    ∷ 0x00 ∷ 0x00 ∷ 0x00 ∷ 0x00  -- port
    ∷ 0x00 ∷ 0x00  -- rack
    ∷ 0x00 ∷ 0x00 ∷ 0x00 ∷ 0x01  -- controller_id
    ∷ 0x00 ∷ 0x00 ∷ 0x00 ∷ 0x03  -- [topics]
    ∷ 0x00 ∷ 0x00  -- error_code
    ∷ 0x00 ∷ 0x06 ∷ 0x6f ∷ 0x72 ∷ 0x64 ∷ 0x65 ∷ 0x72 ∷ 0x73  -- name
    ∷ 0x00  -- is_internal
    ∷ 0x00 ∷ 0x00 ∷ 0x00 ∷ 0x02  -- [partitions]
    ∷ 0x00 ∷ 0x00  -- error_code
    ∷ 0x00 ∷ 0x00 ∷ 0x00 ∷ 0x03  -- partition_index
    ∷ 0x00 ∷ 0x00 ∷ 0x00 ∷ 0x01  -- leader_id
    ∷ 0x00 ∷ 0x00 ∷ 0x00 ∷ 0x02  -- [replica_nodes]
    ∷ 0x00 ∷ 0x00 ∷ 0x00 ∷ 0x01  -- replica_nodes
    ∷ 0x00 ∷ 0x00 ∷ 0x00 ∷ 0x02  -- replica_nodes
    ∷ 0x00 ∷ 0x00 ∷ 0x00 ∷ 0x01  -- [isr_nodes]
    ∷ 0x00 ∷ 0x00 ∷ 0x00 ∷ 0x01  -- isr_nodes
    ∷ 0x00 ∷ 0x0a  -- error_code
    ∷ 0x00 ∷ 0x00 ∷ 0x00 ∷ 0x04  -- partition_index
    ∷ 0x00 ∷ 0x00 ∷ 0x00 ∷ 0x02  -- leader_id
    ∷ 0x00 ∷ 0x00 ∷ 0x00 ∷ 0x00  -- [replica_nodes]
    ∷ 0x00 ∷ 0x00 ∷ 0x00 ∷ 0x02  -- [isr_nodes]
    ∷ 0x00 ∷ 0x00 ∷ 0x00 ∷ 0x05  -- isr_nodes
    ∷ 0x00 ∷ 0x00 ∷ 0x00 ∷ 0x06  -- isr_nodes
    ∷ 0x00 ∷ 0x00  -- error_code
    ∷ 0x00 ∷ 0x01 ∷ 0x6f  -- name
    ∷ 0x01  -- is_internal
    ∷ 0x00 ∷ 0x00 ∷ 0x00 ∷ 0x00  -- [partitions]
    ∷ 0x00 ∷ 0x1d  -- error_code
    ∷ 0x00 ∷ 0x05 ∷ 0x61 ∷ 0x75 ∷ 0x64 ∷ 0x69 ∷ 0x74  -- name
    ∷ 0x00  -- is_internal
    ∷ 0x00 ∷ 0x00 ∷ 0x00 ∷ 0x00  -- [partitions]
    ∷ []

-- what the answer to a Metadata is sent as
abbrev pub MetadataResponseFrame : Encoder → Type 0
MetadataResponseFrame encode =
    encode (pos 0x01020307)
    (replies.Metadata (record {
      brokers = record {
        node = pos 1;
        host = text "kafka";
        port = pos 9092;
        rack = Some (text "r");
      }
          ∷ record { node = pos 2; host = text "b"; port = pos 9093; rack = None }
          ∷ record { node = pos 3; host = []; port = pos 0; rack = Some [] }
          ∷ [];
      controller = pos 1;
      topics = record {
        error = errors.None;
        name = text "orders";
        internal = false;
        partitions = record {
          error = errors.None;
          index = pos 3;
          leader = pos 1;
          replicas = pos 1 ∷ pos 2 ∷ [];
          in_sync = pos 1 ∷ [];
        }
            ∷ record {
              error = errors.MessageTooLarge;
              index = pos 4;
              leader = pos 2;
              replicas = [];
              in_sync = pos 5 ∷ pos 6 ∷ [];
            }
            ∷ [];
      }
          ∷ record { error = errors.None; name = text "o"; internal = true; partitions = [] }
          ∷ record {
            error = errors.TopicAuthorizationFailed;
            name = text "audit";
            internal = false;
            partitions = [];
          }
          ∷ [];
    }))
    ≡ metadata_response
