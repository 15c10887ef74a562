-- The grammars of the OffsetFetch messages, version 7, a flexible one (Kafka protocol guide,
-- "OffsetFetch API (Key: 9)").
use Rattle.std.specs.Prelude.{refl}
use Rattle.wire_types.specs.Grammar.{Grammar}
use Rattle.wire_types.specs.Combinators.{◌⨟◌}
use Rattle.wire_types.specs.Schema.{int32, int64, boolean, compact_string, compact_nullable_string, compact_array, compact_nullable_array, tagged_struct}
use Rattle.wire_types.specs.ErrorCode.{error_code}
use Rattle.wire_types.specs.Topic.{flexible_topic_of}
use Rattle.msg_group.specs.declared.offset_fetch.OffsetFetchRequest.{OffsetFetchRequest}
use Rattle.msg_group.specs.declared.offset_fetch.FetchedOffset.{FetchedOffset}
use Rattle.msg_group.specs.declared.offset_fetch.OffsetFetchReply.{OffsetFetchReply}

-- OffsetFetch Request => group_id [topics] require_stable TAG_BUFFER
--   topics => name [partition_indexes] TAG_BUFFER
abbrev pub offset_fetch_request : Grammar OffsetFetchRequest
offset_fetch_request = tagged_struct
    (λ (group, (topics, require_stable)).
    record { group = group; topics = topics; require_stable = require_stable })
    (λ r. (r.group, (r.topics, r.require_stable)))
    (λ x. refl) (λ r. refl)
    (compact_string  -- group_id
    ⨟ compact_nullable_array (flexible_topic_of int32)  -- topics
    ⨟ boolean)  -- require_stable

-- partitions => partition_index committed_offset committed_leader_epoch metadata error_code
-- TAG_BUFFER
abbrev pub fetched_offset : Grammar FetchedOffset
fetched_offset = tagged_struct
    (λ (index, (offset, (leader_epoch, (metadata, error)))).
    record {
      index = index;
      offset = offset;
      leader_epoch = leader_epoch;
      metadata = metadata;
      error = error;
    })
    (λ p. (p.index, (p.offset, (p.leader_epoch, (p.metadata, p.error)))))
    (λ x. refl) (λ p. refl)
    (int32  -- partition_index
    ⨟ int64  -- committed_offset
    ⨟ int32  -- committed_leader_epoch
    ⨟ compact_nullable_string  -- metadata
    ⨟ error_code)  -- error_code

-- OffsetFetch Response => throttle_time_ms [topics] error_code TAG_BUFFER
abbrev pub offset_fetch_reply : Grammar OffsetFetchReply
offset_fetch_reply = tagged_struct
    (λ (throttle, (topics, error)). record { throttle = throttle; topics = topics; error = error })
    (λ r. (r.throttle, (r.topics, r.error)))
    (λ x. refl) (λ r. refl)
    (int32  -- throttle_time_ms
    ⨟ compact_array (flexible_topic_of fetched_offset)  -- topics
    ⨟ error_code)  -- error_code
