use Rattle.std.proofs.Common.{rules}
use Rattle.wire_types.specs.Spelling.{int_written, many_written, after_count_written}
use Rattle.wire_types.specs.ErrorCode.{number_of}
use Rattle.msg_admin.specs.Api.{is_flexible}
use Rattle.msg_admin.specs.ApiKey.{all_keys}
use Rattle.msg_admin.specs.Bodies.{reply_body}
use Rattle.wire_laws.proofs.laws.versions_are_told.Goals as goal

pub returns-clause-told : goal.returns-clause-told
unfolding int_written many_written after_count_written number_of is_flexible all_keys reply_body
returns-clause-told c = search rules

pub returns-clause-not_heartbeat_and_leave_told_swapped : goal.returns-clause-not_heartbeat_and_leave_told_swapped
unfolding int_written many_written after_count_written number_of is_flexible all_keys reply_body
returns-clause-not_heartbeat_and_leave_told_swapped c = search rules

pub returns-clause-not_end_txn_5_is_not_told : goal.returns-clause-not_end_txn_5_is_not_told
unfolding int_written many_written after_count_written number_of is_flexible all_keys reply_body
returns-clause-not_end_txn_5_is_not_told c = search rules
