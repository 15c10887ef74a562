use Rattle.std.proofs.Common.{rules}
use Rattle.msg_admin.specs.ApiKey.{all_keys, key_at}
use Rattle.wire_laws.proofs.Numbers.{apis-told, apis-told-only, apis-read, apis-read-only}
use Rattle.wire_laws.proofs.table_laws.apis_have_numbers.Goals as goal

pub returns-clause-served : goal.returns-clause-served
returns-clause-served c = apis-told

pub returns-clause-served_only : goal.returns-clause-served_only
returns-clause-served_only c = apis-told-only

pub returns-clause-not_heartbeat_and_leave_numbers_swapped : goal.returns-clause-not_heartbeat_and_leave_numbers_swapped
unfolding all_keys key_at
returns-clause-not_heartbeat_and_leave_numbers_swapped c = search rules

pub returns-clause-not_end_txn_flexible_from_4 : goal.returns-clause-not_end_txn_flexible_from_4
unfolding all_keys key_at
returns-clause-not_end_txn_flexible_from_4 c = search rules

pub returns-clause-read : goal.returns-clause-read
returns-clause-read c = apis-read

pub returns-clause-read_only : goal.returns-clause-read_only
returns-clause-read_only c = apis-read-only

pub returns-clause-not_heartbeat_and_leave_read_swapped : goal.returns-clause-not_heartbeat_and_leave_read_swapped
unfolding all_keys key_at
returns-clause-not_heartbeat_and_leave_read_swapped c = search rules
