-- Wrong decoders and encoders of the messages about produce and fetch: each is the right one, but
-- for one mistake.
use Rattle.std.specs.Prelude.{pos, map, not}
use Rattle.std.specs.Int.{w16, cast_unsigned}
use Rattle.std.specs.Option.{option_map}
use Rattle.wire_types.specs.declared.error_code.ErrorCode.{ErrorCode}
use Rattle.msg_data.specs.declared.isolation.Isolation.{Isolation}
use Rattle.msg_data.specs.declared.produce.ProducedRecords.{ProducedRecords}
use Rattle.msg_data.specs.declared.produce.ProducedOffset.{ProducedOffset}
use Rattle.msg_data.specs.declared.fetch.FetchedRecords.{FetchedRecords}
use Rattle.msg_data.specs.declared.fetch.AbortedTransaction.{AbortedTransaction}
use Rattle.msg_data.specs.declared.metadata.PartitionInfo.{PartitionInfo}
use Rattle.msg_admin.specs.declared.request.Request.{Request}
use Rattle.msg_admin.specs.declared.reply.Reply.{Reply}
use Rattle.msg_admin.specs.Request.{request_at}
use Rattle.msg_admin.specs.Response.{response}
use Rattle.wire_laws.specs.Frames.{Decoder, Encoder}
use Rattle.wire_laws.specs.WrongFrames.{null_is_empty, empty_is_null, with_request, each, each_partition}
use Rattle.wire_types.specs.declared.error_code.ErrorCode.TheVariants as errors
use Rattle.msg_data.specs.declared.isolation.Isolation.TheVariants as levels
use Rattle.msg_admin.specs.declared.request.Request.TheVariants as requests
use Rattle.msg_admin.specs.declared.reply.Reply.TheVariants as replies

-- the next mistake, in an Isolation
abbrev other_level : Isolation → Isolation
other_level levels.ReadUncommitted = levels.ReadCommitted
other_level levels.ReadCommitted = levels.ReadUncommitted

-- the next mistake, in a Request
abbrev swap_levels : Request → Request
swap_levels (requests.Fetch r) =
    requests.Fetch (record r { isolation = other_level r.isolation })
swap_levels (requests.ListOffsets r) =
    requests.ListOffsets (record r { isolation = other_level r.isolation })
swap_levels r = r

-- READ_COMMITTED is read as READ_UNCOMMITTED, and the other way round
abbrev pub isolation_levels_swapped : Decoder
isolation_levels_swapped = with_request swap_levels request_at

-- the next mistake, in a Request
abbrev exchange_waits : Request → Request
exchange_waits (requests.Fetch r) =
    requests.Fetch (record r { max_wait = r.min_bytes; min_bytes = r.max_wait })
exchange_waits r = r

-- the max_wait_ms and the min_bytes of a Fetch are exchanged
abbrev pub waits_and_sizes_exchanged : Decoder
waits_and_sizes_exchanged = with_request exchange_waits request_at

-- the next mistake, in a Request
abbrev empty_topics : Request → Request
empty_topics (requests.Metadata r) = requests.Metadata (record { topics = null_is_empty r.topics })
empty_topics r = r

-- a Metadata with null in place of topics, which asks for all, is read as one for none
abbrev pub null_topics_are_none : Decoder
null_topics_are_none = with_request empty_topics request_at

-- the next mistake, in a Request
abbrev null_topics : Request → Request
null_topics (requests.Metadata r) = requests.Metadata (record { topics = empty_is_null r.topics })
null_topics r = r

-- a Metadata for no topics is read as one for all
abbrev pub no_topics_are_all : Decoder
no_topics_are_all = with_request null_topics request_at

-- the next mistake, in a Request
abbrev unsign_acks : Request → Request
unsign_acks (requests.Produce r) =
    requests.Produce (record r { acks = pos (cast_unsigned w16 r.acks) })
unsign_acks r = r

-- the acks of a Produce have no sign: -1 is read as 65,535
abbrev pub acks_are_unsigned : Decoder
acks_are_unsigned = with_request unsign_acks request_at

-- the next mistake, in a ProducedRecords
abbrev fill_records : ProducedRecords → ProducedRecords
fill_records p = record p { records = null_is_empty p.records }

-- the next mistake, in a Request
abbrev fill_produce : Request → Request
fill_produce (requests.Produce r) =
    requests.Produce (record r { topics = each_partition r.topics fill_records })
fill_produce r = r

-- records that are null are read as empty ones
abbrev pub null_records_are_empty : Decoder
null_records_are_empty = with_request fill_produce request_at

-- the next mistake, in an ErrorCode
abbrev other_fault : ErrorCode → ErrorCode
other_fault errors.CorruptMessage = errors.InvalidRecord
other_fault errors.InvalidRecord = errors.CorruptMessage
other_fault code = code

-- the next mistake, in a Reply
abbrev swap_faults : Reply → Reply
swap_faults (replies.Produce r) =
    replies.Produce
    (record r { topics = each_partition r.topics (λ p. record p { error = other_fault p.error }) })
swap_faults r = r

-- 2 (CORRUPT_MESSAGE) is told as 87 (INVALID_RECORD), and the other way round
abbrev pub corrupt_and_invalid_swapped : Encoder
corrupt_and_invalid_swapped correlation r = response correlation (swap_faults r)

-- the next mistake, in a ProducedOffset
abbrev exchange_offsets : ProducedOffset → ProducedOffset
exchange_offsets p =
    record p { base_offset = p.log_append_time; log_append_time = p.base_offset }

-- the next mistake, in a Reply
abbrev exchange_produced : Reply → Reply
exchange_produced (replies.Produce r) =
    replies.Produce (record r { topics = each_partition r.topics exchange_offsets })
exchange_produced r = r

-- the base_offset and the log_append_time_ms of a Produce's answer are exchanged
abbrev pub base_offset_and_append_time_exchanged : Encoder
base_offset_and_append_time_exchanged correlation r =
    response correlation (exchange_produced r)

-- the next mistake, in a FetchedRecords
abbrev exchange_watermarks : FetchedRecords → FetchedRecords
exchange_watermarks p =
    record p { high_watermark = p.last_stable_offset; last_stable_offset = p.high_watermark }

-- the next mistake, in a Reply
abbrev exchange_fetched : Reply → Reply
exchange_fetched (replies.Fetch r) =
    replies.Fetch (record r { topics = each_partition r.topics exchange_watermarks })
exchange_fetched r = r

-- the high_watermark and the last_stable_offset of a Fetch's answer are exchanged
abbrev pub high_watermark_and_last_stable_offset_exchanged : Encoder
high_watermark_and_last_stable_offset_exchanged correlation r =
    response correlation (exchange_fetched r)

-- the next mistake, in an AbortedTransaction
abbrev exchange_aborted : AbortedTransaction → AbortedTransaction
exchange_aborted t = record { producer = t.first_offset; first_offset = t.producer }

-- the next mistake, in a Reply
abbrev exchange_each_aborted : Reply → Reply
exchange_each_aborted (replies.Fetch r) =
    replies.Fetch
    (record r {
      topics
          = each_partition r.topics
          (λ p. record p { aborted = option_map (map exchange_aborted) p.aborted });
    })
exchange_each_aborted r = r

-- the producer_id and the first_offset of an aborted transaction are exchanged
abbrev pub aborted_producer_and_offset_exchanged : Encoder
aborted_producer_and_offset_exchanged correlation r =
    response correlation (exchange_each_aborted r)

-- the next mistake, in a Reply
abbrev fill_aborted : Reply → Reply
fill_aborted (replies.Fetch r) =
    replies.Fetch
    (record r {
      topics = each_partition r.topics (λ p. record p { aborted = null_is_empty p.aborted });
    })
fill_aborted r = r

-- null in place of aborted_transactions is told as an empty array
abbrev pub null_aborted_is_empty : Encoder
null_aborted_is_empty correlation r = response correlation (fill_aborted r)

-- the next mistake, in a Reply
abbrev exchange_found : Reply → Reply
exchange_found (replies.ListOffsets r) =
    replies.ListOffsets
    (record r {
      topics
          = each_partition r.topics
          (λ p. record p { timestamp = p.offset; offset = p.timestamp });
    })
exchange_found r = r

-- the timestamp and the offset of a ListOffsets' answer are exchanged
abbrev pub timestamp_and_offset_exchanged : Encoder
timestamp_and_offset_exchanged correlation r = response correlation (exchange_found r)

-- the next mistake, in a Reply
abbrev invert_internal : Reply → Reply
invert_internal (replies.Metadata r) =
    replies.Metadata
    (record r { topics = each r.topics (λ t. record t { internal = not t.internal }) })
invert_internal r = r

-- a BOOLEAN is written as 0 where it is true
abbrev pub internal_inverted : Encoder
internal_inverted correlation r = response correlation (invert_internal r)

-- the next mistake, in a PartitionInfo
abbrev exchange_replicas : PartitionInfo → PartitionInfo
exchange_replicas p = record p { replicas = p.in_sync; in_sync = p.replicas }

-- the next mistake, in a Reply
abbrev exchange_nodes : Reply → Reply
exchange_nodes (replies.Metadata r) =
    replies.Metadata
    (record r {
      topics = each r.topics (λ t. record t { partitions = map exchange_replicas t.partitions });
    })
exchange_nodes r = r

-- the replica_nodes and the isr_nodes of a partition are exchanged
abbrev pub replicas_and_in_sync_exchanged : Encoder
replicas_and_in_sync_exchanged correlation r = response correlation (exchange_nodes r)
