-- Frames of JoinGroup, SyncGroup, Heartbeat, LeaveGroup, OffsetCommit and OffsetFetch, byte by
-- byte, and what each spells (Kafka protocol guide, "The Messages"). The bytes are those of
-- kafka-python 2.0.2, whose structs were given the same values; those of OffsetFetch 7 were written
-- down by hand, after the protocol guide ("OffsetFetch API (Key: 9)"), as that library doesn't have
-- them.
use Rattle.std.specs.Prelude.{ℕ, pos, negsuc, List, [], ◌∷◌, true, false, Some, None, Ok, ◌≡◌, codes as text}
use Rattle.wire_laws.specs.Frames.{Decoder, Encoder}
use Rattle.wire_types.specs.declared.error_code.ErrorCode.TheVariants as errors
use Rattle.msg_admin.specs.declared.request.Request.TheVariants as requests
use Rattle.msg_admin.specs.declared.reply.Reply.TheVariants as replies

-- ---- OffsetCommit Request, version 2

-- with metadata, without any, and with an empty text
abbrev pub offset_commit_request : List ℕ
offset_commit_request =
    0x00 ∷ 0x08  -- request_api_key
    ∷ 0x00 ∷ 0x02  -- request_api_version
    ∷ 0x01 ∷ 0x02 ∷ 0x03 ∷ 0x20  -- correlation_id
    ∷ 0x00 ∷ 0x01 ∷ 0x63  -- client_id
    ∷ 0x00 ∷ 0x03 ∷ 0x61 ∷ 0x70 ∷ 0x70  -- group_id
    ∷ 0x00 ∷ 0x00 ∷ 0x00 ∷ 0x04  -- generation_id
    ∷ 0x00 ∷ 0x03 ∷ 0x6d ∷ 0x2d ∷ 0x31  -- member_id
    ∷ 0xff ∷ 0xff ∷ 0xff ∷ 0xff ∷ 0xff ∷ 0xff ∷ 0xff ∷ 0xff  -- retention_time_ms
    ∷ 0x00 ∷ 0x00 ∷ 0x00 ∷ 0x02  -- [topics]
    ∷ 0x00 ∷ 0x06 ∷ 0x6f ∷ 0x72 ∷ 0x64 ∷ 0x65 ∷ 0x72 ∷ 0x73  -- name
    ∷ 0x00 ∷ 0x00 ∷ 0x00 ∷ 0x03  -- [partitions]
    ∷ 0x00 ∷ 0x00 ∷ 0x00 ∷ 0x02  -- partition_index
    ∷ 0x00 ∷ 0x00 ∷ 0x00 ∷ 0x00 ∷ 0x00 ∷ 0x00 ∷ 0x00 ∷ 0x2a  -- committed_offset
    ∷ 0x00 ∷ 0x04 ∷ 0x6e ∷ 0x6f ∷ 0x74 ∷ 0x65  -- committed_metadata
    ∷ 0x00 ∷ 0x00 ∷ 0x00 ∷ 0x03  -- partition_index
    ∷ 0x00 ∷ 0x00 ∷ 0x00 ∷ 0x00 ∷ 0x00 ∷ 0x00 ∷ 0x00 ∷ 0x2b  -- committed_offset
    ∷ 0xff ∷ 0xff  -- committed_metadata
    ∷ 0x00 ∷ 0x00 ∷ 0x00 ∷ 0x04  -- partition_index
    ∷ 0x00 ∷ 0x00 ∷ 0x00 ∷ 0x00 ∷ 0x00 ∷ 0x00 ∷ 0x00 ∷ 0x2c  -- committed_offset
    ∷ 0x00 ∷ 0x00  -- committed_metadata
    ∷ 0x00 ∷ 0x05 ∷ 0x61 ∷ 0x75 ∷ 0x64 ∷ 0x69 ∷ 0x74  -- name
    ∷ 0x00 ∷ 0x00 ∷ 0x00 ∷ 0x00  -- [partitions]
    ∷ []

-- what the frame of an OffsetCommit is read as
abbrev pub OffsetCommitRequestFrame : Decoder → Type 0
OffsetCommitRequestFrame decode =
    decode offset_commit_request ≡ Ok (
      record {
        key = pos 8;
        version = pos 2;
        correlation = pos 0x01020320;
        client = Some (text "c");
      },
      requests.OffsetCommit (record {
        group = text "app";
        generation = pos 4;
        member = text "m-1";
        retention = negsuc 0;
        topics = record {
          name = text "orders";
          partitions = record { index = pos 2; offset = pos 42; metadata = Some (text "note") }
              ∷ record { index = pos 3; offset = pos 43; metadata = None }
              ∷ record { index = pos 4; offset = pos 44; metadata = Some [] }
              ∷ [];
        }
            ∷ record { name = text "audit"; partitions = [] }
            ∷ [];
      }),
    )

-- ---- OffsetCommit Response, version 2

-- the answer to an OffsetCommit
abbrev pub offset_commit_response : List ℕ
offset_commit_response =
    0x00 ∷ 0x00 ∷ 0x00 ∷ 0x2b  -- size
    ∷ 0x01 ∷ 0x02 ∷ 0x03 ∷ 0x20  -- correlation_id
    ∷ 0x00 ∷ 0x00 ∷ 0x00 ∷ 0x02  -- [topics]
    ∷ 0x00 ∷ 0x06 ∷ 0x6f ∷ 0x72 ∷ 0x64 ∷ 0x65 ∷ 0x72 ∷ 0x73  -- name
    ∷ 0x00 ∷ 0x00 ∷ 0x00 ∷ 0x02  -- [partitions]
    ∷ 0x00 ∷ 0x00 ∷ 0x00 ∷ 0x02  -- partition_index
    ∷ 0x00 ∷ 0x00  -- error_code
    ∷ 0x00 ∷ 0x00 ∷ 0x00 ∷ 0x03  -- partition_index
    ∷ 0x00 ∷ 0x16  -- error_code
    ∷ 0x00 ∷ 0x05 ∷ 0x61 ∷ 0x75 ∷ 0x64 ∷ 0x69 ∷ 0x74  -- name
    ∷ 0x00 ∷ 0x00 ∷ 0x00 ∷ 0x00  -- [partitions]
    ∷ []

-- what the answer to an OffsetCommit is sent as
abbrev pub OffsetCommitResponseFrame : Encoder → Type 0
OffsetCommitResponseFrame encode =
    encode (pos 0x01020320)
    (replies.OffsetCommit (record {
      topics = record {
        name = text "orders";
        partitions = record { index = pos 2; error = errors.None }
            ∷ record { index = pos 3; error = errors.IllegalGeneration }
            ∷ [];
      }
          ∷ record { name = text "audit"; partitions = [] }
          ∷ [];
    }))
    ≡ offset_commit_response

-- ---- OffsetFetch Request, version 7

-- stable offsets, which are asked for by 1, of two partitions
abbrev pub stable_offset_fetch_request : List ℕ
stable_offset_fetch_request =
    0x00 ∷ 0x09  -- request_api_key
    ∷ 0x00 ∷ 0x07  -- request_api_version
    ∷ 0x01 ∷ 0x02 ∷ 0x03 ∷ 0x21  -- correlation_id
    ∷ 0x00 ∷ 0x01 ∷ 0x63  -- client_id
    ∷ 0x00  -- TAG_BUFFER
    ∷ 0x04 ∷ 0x61 ∷ 0x70 ∷ 0x70  -- group_id
    ∷ 0x03  -- [topics]
    ∷ 0x07 ∷ 0x6f ∷ 0x72 ∷ 0x64 ∷ 0x65 ∷ 0x72 ∷ 0x73  -- name
    ∷ 0x03  -- [partition_indexes]
    ∷ 0x00 ∷ 0x00 ∷ 0x00 ∷ 0x02  -- partition_indexes
    ∷ 0x00 ∷ 0x00 ∷ 0x00 ∷ 0x03  -- partition_indexes
    ∷ 0x00  -- TAG_BUFFER
    ∷ 0x06 ∷ 0x61 ∷ 0x75 ∷ 0x64 ∷ 0x69 ∷ 0x74  -- name
    ∷ 0x01  -- [partition_indexes]
    ∷ 0x00  -- TAG_BUFFER
    ∷ 0x01  -- require_stable
    ∷ 0x00  -- TAG_BUFFER
    ∷ []

-- all offsets, by null, the unstable too, by 0, with tagged fields that no version knows
abbrev pub offset_fetch_request_for_all : List ℕ
offset_fetch_request_for_all =
    0x00 ∷ 0x09  -- request_api_key
    ∷ 0x00 ∷ 0x07  -- request_api_version
    ∷ 0x00 ∷ 0x00 ∷ 0x00 ∷ 0x0e  -- correlation_id
    ∷ 0x00 ∷ 0x01 ∷ 0x63  -- client_id
    ∷ 0x01 ∷ 0x05 ∷ 0x01 ∷ 0xff  -- TAG_BUFFER
    ∷ 0x04 ∷ 0x61 ∷ 0x70 ∷ 0x70  -- group_id
    ∷ 0x00  -- topics
    ∷ 0x00  -- require_stable
    ∷ 0x02 ∷ 0x07 ∷ 0x02 ∷ 0x01 ∷ 0x02 ∷ 0x09 ∷ 0x00  -- TAG_BUFFER
    ∷ []

-- no offsets: an empty array
abbrev pub offset_fetch_request_for_none : List ℕ
offset_fetch_request_for_none =
    0x00 ∷ 0x09  -- request_api_key
    ∷ 0x00 ∷ 0x07  -- request_api_version
    ∷ 0x00 ∷ 0x00 ∷ 0x00 ∷ 0x0f  -- correlation_id
    ∷ 0x00 ∷ 0x01 ∷ 0x63  -- client_id
    ∷ 0x00  -- TAG_BUFFER
    ∷ 0x04 ∷ 0x61 ∷ 0x70 ∷ 0x70  -- group_id
    ∷ 0x01  -- [topics]
    ∷ 0x01  -- require_stable
    ∷ 0x00  -- TAG_BUFFER
    ∷ []

-- what the frames of an OffsetFetch are read as
pub record OffsetFetchRequestFrames (decode : Decoder) : Type 0 where
  pub stable : decode stable_offset_fetch_request ≡ Ok (
    record {
      key = pos 9;
      version = pos 7;
      correlation = pos 0x01020321;
      client = Some (text "c");
    },
    requests.OffsetFetch (record {
      group = text "app";
      topics = Some (record { name = text "orders"; partitions = pos 2 ∷ pos 3 ∷ [] }
          ∷ record { name = text "audit"; partitions = [] }
          ∷ []);
      require_stable = true;
    }),
  )
  pub all : decode offset_fetch_request_for_all ≡ Ok (
    record { key = pos 9; version = pos 7; correlation = pos 14; client = Some (text "c") },
    requests.OffsetFetch (record { group = text "app"; topics = None; require_stable = false }),
  )
  pub none : decode offset_fetch_request_for_none ≡ Ok (
    record { key = pos 9; version = pos 7; correlation = pos 15; client = Some (text "c") },
    requests.OffsetFetch (record { group = text "app"; topics = Some []; require_stable = true }),
  )

-- ---- OffsetFetch Response, version 7

-- the answer to an OffsetFetch
abbrev pub offset_fetch_response : List ℕ
offset_fetch_response =
    0x00 ∷ 0x00 ∷ 0x00 ∷ 0x5e  -- size
    ∷ 0x01 ∷ 0x02 ∷ 0x03 ∷ 0x21  -- correlation_id
    ∷ 0x00  -- TAG_BUFFER
    ∷ 0x00 ∷ 0x00 ∷ 0x00 ∷ 0x05  -- throttle_time_ms
    ∷ 0x03  -- [topics]
    ∷ 0x07 ∷ 0x6f ∷ 0x72 ∷ 0x64 ∷ 0x65 ∷ 0x72 ∷ 0x73  -- name
    ∷ 0x04  -- [partitions]
    ∷ 0x00 ∷ 0x00 ∷ 0x00 ∷ 0x02  -- partition_index
    ∷ 0x00 ∷ 0x00 ∷ 0x00 ∷ 0x00 ∷ 0x00 ∷ 0x00 ∷ 0x00 ∷ 0x2a  -- committed_offset
    ∷ 0xff ∷ 0xff ∷ 0xff ∷ 0xff  -- committed_leader_epoch
    ∷ 0x05 ∷ 0x6e ∷ 0x6f ∷ 0x74 ∷ 0x65  -- metadata
    ∷ 0x00 ∷ 0x00  -- error_code
    ∷ 0x00  -- TAG_BUFFER
    ∷ 0x00 ∷ 0x00 ∷ 0x00 ∷ 0x03  -- partition_index
    ∷ 0xff ∷ 0xff ∷ 0xff ∷ 0xff ∷ 0xff ∷ 0xff ∷ 0xff ∷ 0xff  -- committed_offset
    ∷ 0x00 ∷ 0x00 ∷ 0x00 ∷ 0x06  -- committed_leader_epoch
    ∷ 0x00  -- metadata
    ∷ 0x00 ∷ 0x58  -- error_code
    ∷ 0x00  -- TAG_BUFFER
    ∷ 0x00 ∷ 0x00 ∷ 0x00 ∷ 0x04  -- partition_index
    ∷ 0x00 ∷ 0x00 ∷ 0x00 ∷ 0x00 ∷ 0x00 ∷ 0x00 ∷ 0x00 ∷ 0x2c  -- committed_offset
    ∷ 0x00 ∷ 0x00 ∷ 0x00 ∷ 0x07  -- committed_leader_epoch
    ∷ 0x01  -- metadata
    ∷ 0x00 ∷ 0x00  -- error_code
    ∷ 0x00  -- TAG_BUFFER
    ∷ 0x00  -- TAG_BUFFER
    ∷ 0x06 ∷ 0x61 ∷ 0x75 ∷ 0x64 ∷ 0x69 ∷ 0x74  -- name
    ∷ 0x01  -- [partitions]
    ∷ 0x00  -- TAG_BUFFER
    ∷ 0x00 ∷ 0x1e  -- error_code
    ∷ 0x00  -- TAG_BUFFER
    ∷ []

-- what the answer to an OffsetFetch is sent as
abbrev pub OffsetFetchResponseFrame : Encoder → Type 0
OffsetFetchResponseFrame encode =
    encode (pos 0x01020321)
    (replies.OffsetFetch (record {
      throttle = pos 5;
      topics = record {
        name = text "orders";
        partitions = record {
          index = pos 2;
          offset = pos 42;
          leader_epoch = negsuc 0;
          metadata = Some (text "note");
          error = errors.None;
        }
            ∷ record {
              index = pos 3;
              offset = negsuc 0;
              leader_epoch = pos 6;
              metadata = None;
              error = errors.UnstableOffsetCommit;
            }
            ∷ record {
              index = pos 4;
              offset = pos 44;
              leader_epoch = pos 7;
              metadata = Some [];
              error = errors.None;
            }
            ∷ [];
      }
          ∷ record { name = text "audit"; partitions = [] }
          ∷ [];
      error = errors.GroupAuthorizationFailed;
    }))
    ≡ offset_fetch_response

-- ---- JoinGroup Request, version 2

-- two protocols, one without metadata
abbrev pub join_group_request : List ℕ
join_group_request =
    0x00 ∷ 0x0b  -- request_api_key
    ∷ 0x00 ∷ 0x02  -- request_api_version
    ∷ 0x01 ∷ 0x02 ∷ 0x03 ∷ 0x22  -- correlation_id
    ∷ 0x00 ∷ 0x01 ∷ 0x63  -- client_id
    ∷ 0x00 ∷ 0x03 ∷ 0x61 ∷ 0x70 ∷ 0x70  -- group_id
    ∷ 0x00 ∷ 0x00 ∷ 0x27 ∷ 0x10  -- session_timeout_ms
    ∷ 0x00 ∷ 0x00 ∷ 0xea ∷ 0x60  -- rebalance_timeout_ms
    ∷ 0x00 ∷ 0x03 ∷ 0x6d ∷ 0x2d ∷ 0x31  -- member_id
    ∷ 0x00 ∷ 0x08 ∷ 0x63 ∷ 0x6f ∷ 0x6e ∷ 0x73 ∷ 0x75 ∷ 0x6d ∷ 0x65 ∷ 0x72  -- protocol_type
    ∷ 0x00 ∷ 0x00 ∷ 0x00 ∷ 0x02  -- [protocols]
    ∷ 0x00 ∷ 0x05 ∷ 0x72 ∷ 0x61 ∷ 0x6e ∷ 0x67 ∷ 0x65  -- name
    ∷ 0x00 ∷ 0x00 ∷ 0x00 ∷ 0x02 ∷ 0x00 ∷ 0x01  -- metadata
    ∷ 0x00 ∷ 0x01 ∷ 0x72  -- name
    ∷ 0x00 ∷ 0x00 ∷ 0x00 ∷ 0x00  -- metadata
    ∷ []

-- what the frame of a JoinGroup is read as
abbrev pub JoinGroupRequestFrame : Decoder → Type 0
JoinGroupRequestFrame decode =
    decode join_group_request ≡ Ok (
      record {
        key = pos 11;
        version = pos 2;
        correlation = pos 0x01020322;
        client = Some (text "c");
      },
      requests.JoinGroup (record {
        group = text "app";
        session_timeout = pos 10000;
        rebalance_timeout = pos 60000;
        member = text "m-1";
        protocol_type = text "consumer";
        protocols = record { name = text "range"; metadata = 0x00 ∷ 0x01 ∷ [] }
            ∷ record { name = text "r"; metadata = [] }
            ∷ [];
      }),
    )

-- ---- JoinGroup Response, version 2

-- the answer to a JoinGroup
abbrev pub join_group_response : List ℕ
join_group_response =
    0x00 ∷ 0x00 ∷ 0x00 ∷ 0x37  -- size
    ∷ 0x01 ∷ 0x02 ∷ 0x03 ∷ 0x22  -- correlation_id
    ∷ 0x00 ∷ 0x00 ∷ 0x00 ∷ 0x05  -- throttle_time_ms
    ∷ 0x00 ∷ 0x00  -- error_code
    ∷ 0x00 ∷ 0x00 ∷ 0x00 ∷ 0x04  -- generation_id
    ∷ 0x00 ∷ 0x05 ∷ 0x72 ∷ 0x61 ∷ 0x6e ∷ 0x67 ∷ 0x65  -- protocol_name
    ∷ 0x00 ∷ 0x03 ∷ 0x6d ∷ 0x2d ∷ 0x31  -- leader
    ∷ 0x00 ∷ 0x03 ∷ 0x6d ∷ 0x2d ∷ 0x32  -- member_id
    ∷ 0x00 ∷ 0x00 ∷ 0x00 ∷ 0x02  -- [members]
    ∷ 0x00 ∷ 0x03 ∷ 0x6d ∷ 0x2d ∷ 0x31  -- member_id
    ∷ 0x00 ∷ 0x00 ∷ 0x00 ∷ 0x02 ∷ 0xca ∷ 0xfe  -- metadata
    ∷ 0x00 ∷ 0x03 ∷ 0x6d ∷ 0x2d ∷ 0x32  -- member_id
    ∷ 0x00 ∷ 0x00 ∷ 0x00 ∷ 0x00  -- metadata
    ∷ []

-- what the answer to a JoinGroup is sent as
abbrev pub JoinGroupResponseFrame : Encoder → Type 0
JoinGroupResponseFrame encode =
    encode (pos 0x01020322)
    (replies.JoinGroup (record {
      throttle = pos 5;
      error = errors.None;
      generation = pos 4;
      protocol = text "range";
      leader = text "m-1";
      member = text "m-2";
      members = record { member = text "m-1"; metadata = 0xca ∷ 0xfe ∷ [] }
          ∷ record { member = text "m-2"; metadata = [] }
          ∷ [];
    }))
    ≡ join_group_response

-- ---- Heartbeat Request, version 1

-- a Heartbeat
abbrev pub heartbeat_request : List ℕ
heartbeat_request =
    0x00 ∷ 0x0c  -- request_api_key
    ∷ 0x00 ∷ 0x01  -- request_api_version
    ∷ 0x01 ∷ 0x02 ∷ 0x03 ∷ 0x23  -- correlation_id
    ∷ 0x00 ∷ 0x01 ∷ 0x63  -- client_id
    ∷ 0x00 ∷ 0x03 ∷ 0x61 ∷ 0x70 ∷ 0x70  -- group_id
    ∷ 0x00 ∷ 0x00 ∷ 0x00 ∷ 0x04  -- generation_id
    ∷ 0x00 ∷ 0x03 ∷ 0x6d ∷ 0x2d ∷ 0x31  -- member_id
    ∷ []

-- what the frame of a Heartbeat is read as
abbrev pub HeartbeatRequestFrame : Decoder → Type 0
HeartbeatRequestFrame decode =
    decode heartbeat_request ≡ Ok (
      record {
        key = pos 12;
        version = pos 1;
        correlation = pos 0x01020323;
        client = Some (text "c");
      },
      requests.Heartbeat (record { group = text "app"; generation = pos 4; member = text "m-1" }),
    )

-- ---- Heartbeat Response, version 1

-- the answer to a Heartbeat
abbrev pub heartbeat_response : List ℕ
heartbeat_response =
    0x00 ∷ 0x00 ∷ 0x00 ∷ 0x0a  -- size
    ∷ 0x01 ∷ 0x02 ∷ 0x03 ∷ 0x23  -- correlation_id
    ∷ 0x00 ∷ 0x00 ∷ 0x00 ∷ 0x05  -- throttle_time_ms
    ∷ 0x00 ∷ 0x1b  -- error_code
    ∷ []

-- what the answer to a Heartbeat is sent as
abbrev pub HeartbeatResponseFrame : Encoder → Type 0
HeartbeatResponseFrame encode =
    encode (pos 0x01020323)
    (replies.Heartbeat (record { throttle = pos 5; error = errors.RebalanceInProgress }))
    ≡ heartbeat_response

-- ---- LeaveGroup Request, version 1

-- a LeaveGroup
abbrev pub leave_group_request : List ℕ
leave_group_request =
    0x00 ∷ 0x0d  -- request_api_key
    ∷ 0x00 ∷ 0x01  -- request_api_version
    ∷ 0x01 ∷ 0x02 ∷ 0x03 ∷ 0x24  -- correlation_id
    ∷ 0x00 ∷ 0x01 ∷ 0x63  -- client_id
    ∷ 0x00 ∷ 0x03 ∷ 0x61 ∷ 0x70 ∷ 0x70  -- group_id
    ∷ 0x00 ∷ 0x03 ∷ 0x6d ∷ 0x2d ∷ 0x31  -- member_id
    ∷ []

-- what the frame of a LeaveGroup is read as
abbrev pub LeaveGroupRequestFrame : Decoder → Type 0
LeaveGroupRequestFrame decode =
    decode leave_group_request ≡ Ok (
      record {
        key = pos 13;
        version = pos 1;
        correlation = pos 0x01020324;
        client = Some (text "c");
      },
      requests.LeaveGroup (record { group = text "app"; member = text "m-1" }),
    )

-- ---- LeaveGroup Response, version 1

-- the answer to a LeaveGroup
abbrev pub leave_group_response : List ℕ
leave_group_response =
    0x00 ∷ 0x00 ∷ 0x00 ∷ 0x0a  -- size
    ∷ 0x01 ∷ 0x02 ∷ 0x03 ∷ 0x24  -- correlation_id
    ∷ 0x00 ∷ 0x00 ∷ 0x00 ∷ 0x05  -- throttle_time_ms
    ∷ 0x00 ∷ 0x19  -- error_code
    ∷ []

-- what the answer to a LeaveGroup is sent as
abbrev pub LeaveGroupResponseFrame : Encoder → Type 0
LeaveGroupResponseFrame encode =
    encode (pos 0x01020324)
    (replies.LeaveGroup (record { throttle = pos 5; error = errors.UnknownMemberId }))
    ≡ leave_group_response

-- ---- SyncGroup Request, version 1

-- a SyncGroup
abbrev pub sync_group_request : List ℕ
sync_group_request =
    0x00 ∷ 0x0e  -- request_api_key
    ∷ 0x00 ∷ 0x01  -- request_api_version
    ∷ 0x01 ∷ 0x02 ∷ 0x03 ∷ 0x25  -- correlation_id
    ∷ 0x00 ∷ 0x01 ∷ 0x63  -- client_id
    ∷ 0x00 ∷ 0x03 ∷ 0x61 ∷ 0x70 ∷ 0x70  -- group_id
    ∷ 0x00 ∷ 0x00 ∷ 0x00 ∷ 0x04  -- generation_id
    ∷ 0x00 ∷ 0x03 ∷ 0x6d ∷ 0x2d ∷ 0x31  -- member_id
    ∷ 0x00 ∷ 0x00 ∷ 0x00 ∷ 0x02  -- [assignments]
    ∷ 0x00 ∷ 0x03 ∷ 0x6d ∷ 0x2d ∷ 0x31  -- member_id
    ∷ 0x00 ∷ 0x00 ∷ 0x00 ∷ 0x02 ∷ 0xca ∷ 0xfe  -- assignment
    ∷ 0x00 ∷ 0x03 ∷ 0x6d ∷ 0x2d ∷ 0x32  -- member_id
    ∷ 0x00 ∷ 0x00 ∷ 0x00 ∷ 0x00  -- assignment
    ∷ []

-- what the frame of a SyncGroup is read as
abbrev pub SyncGroupRequestFrame : Decoder → Type 0
SyncGroupRequestFrame decode =
    decode sync_group_request ≡ Ok (
      record {
        key = pos 14;
        version = pos 1;
        correlation = pos 0x01020325;
        client = Some (text "c");
      },
      requests.SyncGroup (record {
        group = text "app";
        generation = pos 4;
        member = text "m-1";
        assignments = record { member = text "m-1"; assignment = 0xca ∷ 0xfe ∷ [] }
            ∷ record { member = text "m-2"; assignment = [] }
            ∷ [];
      }),
    )

-- ---- SyncGroup Response, version 1

-- the answer to a SyncGroup
abbrev pub sync_group_response : List ℕ
sync_group_response =
    0x00 ∷ 0x00 ∷ 0x00 ∷ 0x10  -- size
    ∷ 0x01 ∷ 0x02 ∷ 0x03 ∷ 0x25  -- correlation_id
    ∷ 0x00 ∷ 0x00 ∷ 0x00 ∷ 0x05  -- throttle_time_ms
    ∷ 0x00 ∷ 0x00  -- error_code
    ∷ 0x00 ∷ 0x00 ∷ 0x00 ∷ 0x02 ∷ 0xca ∷ 0xfe  -- assignment
    ∷ []

-- what the answer to a SyncGroup is sent as
abbrev pub SyncGroupResponseFrame : Encoder → Type 0
SyncGroupResponseFrame encode =
    encode (pos 0x01020325)
    (replies.SyncGroup (record {
      throttle = pos 5;
      error = errors.None;
      assignment = 0xca ∷ 0xfe ∷ [];
    }))
    ≡ sync_group_response
