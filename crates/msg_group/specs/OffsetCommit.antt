-- The grammars of the OffsetCommit messages, version 2 (Kafka protocol guide, "OffsetCommit API
-- (Key: 8)").
use Rattle.std.specs.Prelude.{ℕ, List, refl}
use Rattle.std.specs.List.{flat_map}
use Rattle.wire_types.specs.Grammar.{Grammar}
use Rattle.wire_types.specs.Combinators.{struct, ◌⨟◌}
use Rattle.wire_types.specs.Schema.{int32, int64, string, nullable_string, array}
use Rattle.wire_types.specs.ErrorCode.{error_code}
use Rattle.wire_types.specs.Topic.{topic_of}
use Rattle.wire_types.specs.Strings.{name_of}
use Rattle.msg_group.specs.declared.offset_commit.OffsetToCommit.{OffsetToCommit}
use Rattle.msg_group.specs.declared.offset_commit.OffsetCommitRequest.{OffsetCommitRequest}
use Rattle.msg_group.specs.declared.offset_commit.CommittedOffset.{CommittedOffset}
use Rattle.msg_group.specs.declared.offset_commit.OffsetCommitReply.{OffsetCommitReply}

-- partitions => partition_index committed_offset committed_metadata
abbrev pub offset_to_commit : Grammar OffsetToCommit
offset_to_commit = struct
    (λ (index, (offset, metadata)). record { index = index; offset = offset; metadata = metadata })
    (λ p. (p.index, (p.offset, p.metadata)))
    (λ x. refl) (λ p. refl)
    (int32  -- partition_index
    ⨟ int64  -- committed_offset
    ⨟ nullable_string)  -- committed_metadata

-- OffsetCommit Request => group_id generation_id member_id retention_time_ms [topics]
abbrev pub offset_commit_request : Grammar OffsetCommitRequest
offset_commit_request = struct
    (λ (group, (generation, (member, (retention, topics)))).
    record {
      group = group;
      generation = generation;
      member = member;
      retention = retention;
      topics = topics;
    })
    (λ r. (r.group, (r.generation, (r.member, (r.retention, r.topics)))))
    (λ x. refl) (λ r. refl)
    (string  -- group_id
    ⨟ int32  -- generation_id
    ⨟ string  -- member_id
    ⨟ int64  -- retention_time_ms
    ⨟ array (topic_of offset_to_commit))  -- topics

-- partitions => partition_index error_code
abbrev pub committed_offset : Grammar CommittedOffset
committed_offset = struct
    (λ (index, error). record { index = index; error = error })
    (λ p. (p.index, p.error))
    (λ x. refl) (λ p. refl)
    (int32  -- partition_index
    ⨟ error_code)  -- error_code

-- OffsetCommit Response => [topics]
abbrev pub offset_commit_reply : Grammar OffsetCommitReply
offset_commit_reply = struct
    (λ topics. record { topics = topics }) (λ r. r.topics)
    (λ x. refl) (λ r. refl)
    (array (topic_of committed_offset))

-- ---- the texts of an answer

abbrev pub offset_commit_strings : OffsetCommitReply → List (List ℕ)
offset_commit_strings r = flat_map name_of r.topics
