-- Frames that are no requests, replies without bytes, and texts whose length takes two bytes (Kafka
-- protocol guide, "Protocol Primitive Types"; KIP-482). The bytes were written down by hand, after
-- the guide.
use Rattle.std.specs.Prelude.{◌≡◌, ℕ, ℤ, pos, negsuc, List, [], ◌∷◌, ◌++◌, true, None, Ok, Err}
use Rattle.wire_types.specs.declared.fault.Malformed.TheVariants.{Unknown, Short, Range, Rest, Utf8}
use Rattle.msg_data.specs.declared.produce.ProduceReply.{ProduceReply}
use Rattle.msg_admin.specs.declared.request.Request.TheVariants as requests
use Rattle.msg_admin.specs.declared.reply.Reply.TheVariants as replies
use Rattle.wire_laws.specs.Frames.{Decoder, Encoder, repeated}

-- ---- frames

-- a Heartbeat with one byte after it
abbrev pub longer_heartbeat : List ℕ
longer_heartbeat =
    0x00 ∷ 0x0c  -- request_api_key
    ∷ 0x00 ∷ 0x01  -- request_api_version
    ∷ 0x01 ∷ 0x02 ∷ 0x03 ∷ 0x40  -- correlation_id
    ∷ 0x00 ∷ 0x01 ∷ 0x63  -- client_id
    ∷ 0x00 ∷ 0x01 ∷ 0x67  -- group_id
    ∷ 0x00 ∷ 0x00 ∷ 0x00 ∷ 0x04  -- generation_id
    ∷ 0x00 ∷ 0x01 ∷ 0x6d  -- member_id
    ∷ 0x00  -- one byte more
    ∷ []

-- a Heartbeat whose member_id lacks its last byte
abbrev pub cut_heartbeat : List ℕ
cut_heartbeat =
    0x00 ∷ 0x0c  -- request_api_key
    ∷ 0x00 ∷ 0x01  -- request_api_version
    ∷ 0x01 ∷ 0x02 ∷ 0x03 ∷ 0x40  -- correlation_id
    ∷ 0x00 ∷ 0x01 ∷ 0x63  -- client_id
    ∷ 0x00 ∷ 0x01 ∷ 0x67  -- group_id
    ∷ 0x00 ∷ 0x00 ∷ 0x00 ∷ 0x04  -- generation_id
    ∷ 0x00 ∷ 0x01  -- member_id
    ∷ []

-- a Heartbeat whose group_id is null, which no STRING may be
abbrev pub heartbeat_of_null : List ℕ
heartbeat_of_null =
    0x00 ∷ 0x0c  -- request_api_key
    ∷ 0x00 ∷ 0x01  -- request_api_version
    ∷ 0x01 ∷ 0x02 ∷ 0x03 ∷ 0x40  -- correlation_id
    ∷ 0x00 ∷ 0x01 ∷ 0x63  -- client_id
    ∷ 0xff ∷ 0xff  -- group_id
    ∷ 0x00 ∷ 0x00 ∷ 0x00 ∷ 0x04  -- generation_id
    ∷ 0x00 ∷ 0x01 ∷ 0x6d  -- member_id
    ∷ []

-- a Heartbeat whose group_id is no UTF-8
abbrev pub heartbeat_of_no_text : List ℕ
heartbeat_of_no_text =
    0x00 ∷ 0x0c  -- request_api_key
    ∷ 0x00 ∷ 0x01  -- request_api_version
    ∷ 0x01 ∷ 0x02 ∷ 0x03 ∷ 0x40  -- correlation_id
    ∷ 0x00 ∷ 0x01 ∷ 0x63  -- client_id
    ∷ 0x00 ∷ 0x01 ∷ 0xff  -- group_id
    ∷ 0x00 ∷ 0x00 ∷ 0x00 ∷ 0x04  -- generation_id
    ∷ 0x00 ∷ 0x01 ∷ 0x6d  -- member_id
    ∷ []

-- a Fetch at the isolation level 2, which there is none
abbrev pub fetch_at_level_2 : List ℕ
fetch_at_level_2 =
    0x00 ∷ 0x01  -- request_api_key
    ∷ 0x00 ∷ 0x04  -- request_api_version
    ∷ 0x01 ∷ 0x02 ∷ 0x03 ∷ 0x41  -- correlation_id
    ∷ 0x00 ∷ 0x01 ∷ 0x63  -- client_id
    ∷ 0xff ∷ 0xff ∷ 0xff ∷ 0xff  -- replica_id
    ∷ 0x00 ∷ 0x00 ∷ 0x00 ∷ 0x02  -- max_wait_ms
    ∷ 0x00 ∷ 0x00 ∷ 0x00 ∷ 0x03  -- min_bytes
    ∷ 0x00 ∷ 0x00 ∷ 0x00 ∷ 0x04  -- max_bytes
    ∷ 0x02  -- isolation_level
    ∷ 0x00 ∷ 0x00 ∷ 0x00 ∷ 0x00  -- [topics]
    ∷ []

-- a Metadata of -2 topics, which no array may have
abbrev pub metadata_of_minus_two : List ℕ
metadata_of_minus_two =
    0x00 ∷ 0x03  -- request_api_key
    ∷ 0x00 ∷ 0x01  -- request_api_version
    ∷ 0x01 ∷ 0x02 ∷ 0x03 ∷ 0x42  -- correlation_id
    ∷ 0x00 ∷ 0x01 ∷ 0x63  -- client_id
    ∷ 0xff ∷ 0xff ∷ 0xff ∷ 0xfe  -- [topics]
    ∷ []

-- a Metadata of 16,777,216 topics, without any
abbrev pub metadata_of_too_many : List ℕ
metadata_of_too_many =
    0x00 ∷ 0x03  -- request_api_key
    ∷ 0x00 ∷ 0x01  -- request_api_version
    ∷ 0x01 ∷ 0x02 ∷ 0x03 ∷ 0x42  -- correlation_id
    ∷ 0x00 ∷ 0x01 ∷ 0x63  -- client_id
    ∷ 0x01 ∷ 0x00 ∷ 0x00 ∷ 0x00  -- [topics]
    ∷ []

-- a Heartbeat of version 0, which isn't served
abbrev pub heartbeat_0 : List ℕ
heartbeat_0 =
    0x00 ∷ 0x0c  -- request_api_key
    ∷ 0x00 ∷ 0x00  -- request_api_version
    ∷ 0x01 ∷ 0x02 ∷ 0x03 ∷ 0x40  -- correlation_id
    ∷ 0x00 ∷ 0x01 ∷ 0x63  -- client_id
    ∷ 0x00 ∷ 0x01 ∷ 0x67  -- group_id
    ∷ 0x00 ∷ 0x00 ∷ 0x00 ∷ 0x04  -- generation_id
    ∷ 0x00 ∷ 0x01 ∷ 0x6d  -- member_id
    ∷ []

-- a LeaderAndIsr, the api 4, which isn't served
abbrev pub leader_and_isr : List ℕ
leader_and_isr =
    0x00 ∷ 0x04  -- request_api_key
    ∷ 0x00 ∷ 0x01  -- request_api_version
    ∷ 0x01 ∷ 0x02 ∷ 0x03 ∷ 0x40  -- correlation_id
    ∷ 0x00 ∷ 0x01 ∷ 0x63  -- client_id
    ∷ 0x00 ∷ 0x01 ∷ 0x67  -- group_id
    ∷ 0x00 ∷ 0x00 ∷ 0x00 ∷ 0x04  -- generation_id
    ∷ 0x00 ∷ 0x01 ∷ 0x6d  -- member_id
    ∷ []

-- ---- what they are

-- none of them is a request, and each has its first fault
pub record RefusesFrames (decode : Decoder) : Type 0 where
  pub after : decode longer_heartbeat ≡ Err Rest
  pub cut : decode cut_heartbeat ≡ Err Short
  pub null : decode heartbeat_of_null ≡ Err Range
  pub text : decode heartbeat_of_no_text ≡ Err Utf8
  pub level : decode fetch_at_level_2 ≡ Err Range
  pub minus : decode metadata_of_minus_two ≡ Err Range
  pub many : decode metadata_of_too_many ≡ Err Short
  pub version : decode heartbeat_0 ≡ Err Unknown
  pub api : decode leader_and_isr ≡ Err Unknown

-- ---- replies without bytes

-- a Produce with acks 0 is sent nothing, nor is what answers no request
pub record SendsNothing (encode : Encoder) : Type 0 where
  pub silent : (correlation : ℤ) (r : ProduceReply)
      → encode correlation (replies.SilentProduce r) ≡ []
  pub marked : (correlation : ℤ) (left : ℕ) → encode correlation (replies.Marked left) ≡ []
  pub idle : (correlation : ℤ) → encode correlation replies.Idle ≡ []
  pub ticked : (correlation : ℤ) (left : ℕ) → encode correlation (replies.Ticked left) ≡ []

-- ---- long texts

-- a Heartbeat of a group whose name has 300 bytes, a length of two bytes
abbrev pub long_heartbeat : List ℕ
long_heartbeat =
    0x00 ∷ 0x0c  -- request_api_key
    ∷ 0x00 ∷ 0x01  -- request_api_version
    ∷ 0xff ∷ 0xff ∷ 0xff ∷ 0xfe  -- correlation_id
    ∷ 0xff ∷ 0xff  -- client_id
    ∷ 0x01 ∷ 0x2c ∷ (repeated 300 0x67  -- group_id
    ++ (0x00 ∷ 0x00 ∷ 0x00 ∷ 0x04  -- generation_id
    ∷ 0x00 ∷ 0x00  -- member_id
    ∷ []))

-- an OffsetFetch of such a group, whose compact length, one more, has its low seven bits first
abbrev pub long_offset_fetch : List ℕ
long_offset_fetch =
    0x00 ∷ 0x09  -- request_api_key
    ∷ 0x00 ∷ 0x07  -- request_api_version
    ∷ 0x80 ∷ 0x00 ∷ 0x00 ∷ 0x00  -- correlation_id
    ∷ 0xff ∷ 0xff  -- client_id
    ∷ 0x00  -- TAG_BUFFER
    ∷ 0xad ∷ 0x02 ∷ (repeated 300 0x67  -- group_id
    ++ (0x00  -- [topics]
    ∷ 0x02  -- require_stable
    ∷ 0x00  -- TAG_BUFFER
    ∷ []))

-- long texts are read whole, and so are correlation ids below 0 and a BOOLEAN of 2
pub record ReadsLongTexts (decode : Decoder) : Type 0 where
  pub plain : decode long_heartbeat ≡ Ok (
    record { key = pos 12; version = pos 1; correlation = negsuc 1; client = None },
    requests.Heartbeat (record { group = repeated 300 0x67; generation = pos 4; member = [] }),
  )
  pub flexible : decode long_offset_fetch ≡ Ok (
    record { key = pos 9; version = pos 7; correlation = negsuc 2147483647; client = None },
    requests.OffsetFetch (record {
      group = repeated 300 0x67;
      topics = None;
      require_stable = true;
    }),
  )
