-- The texts of each answer decide whether it fits.
use Rattle.wire_types.specs.Strings.{no_strings}
use Rattle.wire_types.proofs.StringLaws.{TellsStrings, both_strings, front_strings, struct_strings, tagged_strings, int32_strings, int64_strings, error_code_strings, string_strings, bytes_strings, array_strings, topic_strings, compact_array_strings, compact_nullable_strings, flexible_topic_strings}
use Rattle.msg_group.specs.JoinGroup.{joined_member, join_group_reply, member_strings, join_group_strings}
use Rattle.msg_group.specs.SyncGroup.{sync_group_reply}
use Rattle.msg_group.specs.Heartbeat.{heartbeat_reply}
use Rattle.msg_group.specs.LeaveGroup.{leave_group_reply}
use Rattle.msg_group.specs.OffsetCommit.{committed_offset, offset_commit_reply, offset_commit_strings}
use Rattle.msg_group.specs.OffsetFetch.{fetched_offset, offset_fetch_reply}

joined_member_tells : TellsStrings joined_member member_strings
joined_member_tells = struct_strings _ _ _ _ _ _ (front_strings string_strings bytes_strings)

pub join_group_tells : TellsStrings join_group_reply join_group_strings
join_group_tells = struct_strings _ _ _ _ _ _ (both_strings int32_strings (both_strings error_code_strings (both_strings int32_strings (both_strings string_strings (both_strings string_strings (both_strings string_strings (array_strings joined_member_tells)))))))

pub sync_group_tells : TellsStrings sync_group_reply no_strings
sync_group_tells = struct_strings _ _ _ _ _ _ (both_strings int32_strings (both_strings error_code_strings bytes_strings))

pub heartbeat_tells : TellsStrings heartbeat_reply no_strings
heartbeat_tells = struct_strings _ _ _ _ _ _ (both_strings int32_strings error_code_strings)

pub leave_group_tells : TellsStrings leave_group_reply no_strings
leave_group_tells = struct_strings _ _ _ _ _ _ (both_strings int32_strings error_code_strings)

committed_offset_tells : TellsStrings committed_offset no_strings
committed_offset_tells = struct_strings _ _ _ _ _ _ (both_strings int32_strings error_code_strings)

pub offset_commit_tells : TellsStrings offset_commit_reply offset_commit_strings
offset_commit_tells = struct_strings _ _ _ _ _ _ (array_strings (topic_strings committed_offset_tells))

fetched_offset_tells : TellsStrings fetched_offset no_strings
fetched_offset_tells = tagged_strings _ _ _ _ _ (both_strings int32_strings (both_strings int64_strings (both_strings int32_strings (both_strings compact_nullable_strings error_code_strings))))

pub offset_fetch_tells : TellsStrings offset_fetch_reply no_strings
offset_fetch_tells = tagged_strings _ _ _ _ _ (both_strings int32_strings (both_strings (compact_array_strings (flexible_topic_strings fetched_offset_tells)) error_code_strings))
