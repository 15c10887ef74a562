-- The texts of each answer decide whether it fits.
use Rattle.wire_types.specs.Strings.{no_strings}
use Rattle.wire_types.proofs.StringLaws.{TellsStrings, both_strings, front_strings, struct_strings, tagged_strings, int16_strings, int32_strings, int64_strings, error_code_strings, string_strings, nullable_strings, array_strings, topic_strings, compact_array_strings, flexible_topic_strings}
use Rattle.msg_txn.specs.InitProducerId.{init_producer_id_reply}
use Rattle.msg_txn.specs.AddPartitions.{added_partition, add_partitions_to_txn_reply, add_partitions_to_txn_strings}
use Rattle.msg_txn.specs.AddOffsets.{add_offsets_to_txn_reply}
use Rattle.msg_txn.specs.EndTxn.{end_txn_answer, flexible_end_txn_answer, end_txn_answer_with_producer}
use Rattle.msg_txn.specs.TxnOffsetCommit.{staged_offset, txn_offset_commit_reply}
use Rattle.msg_txn.specs.FindCoordinator.{find_coordinator_reply, find_coordinator_strings}

pub init_producer_id_tells : TellsStrings init_producer_id_reply no_strings
init_producer_id_tells = struct_strings _ _ _ _ _ _ (both_strings int32_strings (both_strings error_code_strings (both_strings int64_strings int16_strings)))

added_partition_tells : TellsStrings added_partition no_strings
added_partition_tells = struct_strings _ _ _ _ _ _ (both_strings int32_strings error_code_strings)

pub add_partitions_to_txn_tells : TellsStrings add_partitions_to_txn_reply add_partitions_to_txn_strings
add_partitions_to_txn_tells = struct_strings _ _ _ _ _ _ (both_strings int32_strings (array_strings (topic_strings added_partition_tells)))

pub add_offsets_to_txn_tells : TellsStrings add_offsets_to_txn_reply no_strings
add_offsets_to_txn_tells = struct_strings _ _ _ _ _ _ (both_strings int32_strings error_code_strings)

pub ended_tells : TellsStrings end_txn_answer no_strings
ended_tells = struct_strings _ _ _ _ _ _ (both_strings int32_strings error_code_strings)

pub flexible_ended_tells : TellsStrings flexible_end_txn_answer no_strings
flexible_ended_tells = tagged_strings _ _ _ _ _ (both_strings int32_strings error_code_strings)

pub ended_with_pair_tells : TellsStrings end_txn_answer_with_producer no_strings
ended_with_pair_tells = tagged_strings _ _ _ _ _ (both_strings int32_strings (both_strings error_code_strings (both_strings int64_strings int16_strings)))

staged_offset_tells : TellsStrings staged_offset no_strings
staged_offset_tells = tagged_strings _ _ _ _ _ (both_strings int32_strings error_code_strings)

pub txn_offset_commit_tells : TellsStrings txn_offset_commit_reply no_strings
txn_offset_commit_tells = tagged_strings _ _ _ _ _ (both_strings int32_strings (compact_array_strings (flexible_topic_strings staged_offset_tells)))

pub find_coordinator_tells : TellsStrings find_coordinator_reply find_coordinator_strings
find_coordinator_tells = struct_strings _ _ _ _ _ _ (both_strings int32_strings (both_strings error_code_strings (both_strings nullable_strings (both_strings int32_strings (front_strings string_strings int32_strings)))))
