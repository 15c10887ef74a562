-- The grammars of the ListOffsets messages, version 2 (Kafka protocol guide, "ListOffsets API (Key:
-- 2)").
use Rattle.std.specs.Prelude.{ℕ, List, refl}
use Rattle.wire_types.specs.Grammar.{Grammar}
use Rattle.wire_types.specs.Combinators.{struct, ◌⨟◌}
use Rattle.wire_types.specs.Schema.{int32, int64, array}
use Rattle.wire_types.specs.Topic.{topic_of}
use Rattle.msg_data.specs.declared.list_offsets.WantedOffset.{WantedOffset}
use Rattle.msg_data.specs.declared.list_offsets.ListOffsetsRequest.{ListOffsetsRequest}
use Rattle.msg_data.specs.declared.list_offsets.FoundOffset.{FoundOffset}
use Rattle.msg_data.specs.declared.list_offsets.ListOffsetsReply.{ListOffsetsReply}
use Rattle.wire_types.specs.ErrorCode.{error_code}
use Rattle.msg_data.specs.Isolation.{isolation}
use Rattle.msg_data.specs.Strings.{names_of}

-- partitions => partition_index timestamp
abbrev pub wanted_offset : Grammar WantedOffset
wanted_offset = struct
    (λ (index, timestamp). record { index = index; timestamp = timestamp })
    (λ p. (p.index, p.timestamp))
    (λ x. refl) (λ p. refl)
    (int32  -- partition_index
    ⨟ int64)  -- timestamp

-- ListOffsets Request => replica_id isolation_level [topics]
abbrev pub list_offsets_request : Grammar ListOffsetsRequest
list_offsets_request = struct
    (λ (replica, (isolation, topics)).
    record { replica = replica; isolation = isolation; topics = topics })
    (λ r. (r.replica, (r.isolation, r.topics)))
    (λ x. refl) (λ r. refl)
    (int32  -- replica_id
    ⨟ isolation  -- isolation_level
    ⨟ array (topic_of wanted_offset))  -- topics

-- partitions => partition_index error_code timestamp offset
abbrev pub found_offset : Grammar FoundOffset
found_offset = struct
    (λ (index, (error, (timestamp, offset))).
    record { index = index; error = error; timestamp = timestamp; offset = offset })
    (λ p. (p.index, (p.error, (p.timestamp, p.offset))))
    (λ x. refl) (λ p. refl)
    (int32  -- partition_index
    ⨟ error_code  -- error_code
    ⨟ int64  -- timestamp
    ⨟ int64)  -- offset

-- ListOffsets Response => throttle_time_ms [topics]
abbrev pub list_offsets_reply : Grammar ListOffsetsReply
list_offsets_reply = struct
    (λ (throttle, topics). record { throttle = throttle; topics = topics })
    (λ r. (r.throttle, r.topics))
    (λ x. refl) (λ r. refl)
    (int32  -- throttle_time_ms
    ⨟ array (topic_of found_offset))  -- topics

-- ---- the texts of an answer

abbrev pub list_offsets_strings : ListOffsetsReply → List (List ℕ)
list_offsets_strings r = names_of r.topics
