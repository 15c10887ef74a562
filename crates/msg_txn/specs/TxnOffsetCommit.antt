-- The grammars of the TxnOffsetCommit messages, version 3, a flexible one (Kafka protocol guide,
-- "TxnOffsetCommit API (Key: 28)").
use Rattle.std.specs.Prelude.{refl}
use Rattle.wire_types.specs.Grammar.{Grammar}
use Rattle.wire_types.specs.Combinators.{◌⨟◌}
use Rattle.wire_types.specs.Schema.{int16, int32, int64, compact_string, compact_nullable_string, compact_array, tagged_struct}
use Rattle.wire_types.specs.ErrorCode.{error_code}
use Rattle.wire_types.specs.Topic.{flexible_topic_of}
use Rattle.msg_txn.specs.declared.txn_offset_commit.OffsetToStage.{OffsetToStage}
use Rattle.msg_txn.specs.declared.txn_offset_commit.TxnOffsetCommitRequest.{TxnOffsetCommitRequest}
use Rattle.msg_txn.specs.declared.txn_offset_commit.StagedOffset.{StagedOffset}
use Rattle.msg_txn.specs.declared.txn_offset_commit.TxnOffsetCommitReply.{TxnOffsetCommitReply}

-- partitions => partition_index committed_offset committed_leader_epoch committed_metadata
-- TAG_BUFFER
abbrev pub offset_to_stage : Grammar OffsetToStage
offset_to_stage = tagged_struct
    (λ (index, (offset, (leader_epoch, metadata))).
    record { index = index; offset = offset; leader_epoch = leader_epoch; metadata = metadata })
    (λ p. (p.index, (p.offset, (p.leader_epoch, p.metadata))))
    (λ x. refl) (λ p. refl)
    (int32  -- partition_index
    ⨟ int64  -- committed_offset
    ⨟ int32  -- committed_leader_epoch
    ⨟ compact_nullable_string)  -- committed_metadata

-- TxnOffsetCommit Request => transactional_id group_id producer_id producer_epoch generation_id
-- member_id group_instance_id [topics] TAG_BUFFER
abbrev pub txn_offset_commit_request : Grammar TxnOffsetCommitRequest
txn_offset_commit_request = tagged_struct
    (λ (transactional_id, (group, (producer, (epoch, (generation, (member, (instance, topics))))))).
    record {
      transactional_id = transactional_id;
      group = group;
      producer = producer;
      epoch = epoch;
      generation = generation;
      member = member;
      instance = instance;
      topics = topics;
    })
    (λ r. (
      r.transactional_id,
      (r.group, (r.producer, (r.epoch, (r.generation, (r.member, (r.instance, r.topics)))))),
    ))
    (λ x. refl) (λ r. refl)
    (compact_string  -- transactional_id
    ⨟ compact_string  -- group_id
    ⨟ int64  -- producer_id
    ⨟ int16  -- producer_epoch
    ⨟ int32  -- generation_id
    ⨟ compact_string  -- member_id
    ⨟ compact_nullable_string  -- group_instance_id
    ⨟ compact_array (flexible_topic_of offset_to_stage))  -- topics

-- partitions => partition_index error_code TAG_BUFFER
abbrev pub staged_offset : Grammar StagedOffset
staged_offset = tagged_struct
    (λ (index, error). record { index = index; error = error })
    (λ p. (p.index, p.error))
    (λ x. refl) (λ p. refl)
    (int32  -- partition_index
    ⨟ error_code)  -- error_code

-- TxnOffsetCommit Response => throttle_time_ms [topics] TAG_BUFFER
abbrev pub txn_offset_commit_reply : Grammar TxnOffsetCommitReply
txn_offset_commit_reply = tagged_struct
    (λ (throttle, topics). record { throttle = throttle; topics = topics })
    (λ r. (r.throttle, r.topics))
    (λ x. refl) (λ r. refl)
    (int32  -- throttle_time_ms
    ⨟ compact_array (flexible_topic_of staged_offset))  -- topics
