use Rattle.std.proofs.Common.{rules}
use Rattle.acl_binding.specs.WireNumbers.{permission_code, permission_at}
use Rattle.wire_laws.proofs.Numbers.{permissions-told, permissions-told-only, permissions-read, permissions-read-only, permission-names, permission-names-only, permission-names-read, permission-names-read-only}
use Rattle.wire_laws.proofs.table_laws.permission_types_have_numbers.Goals as goal

pub returns-clause-told : goal.returns-clause-told
returns-clause-told c = permissions-told

pub returns-clause-told_only : goal.returns-clause-told_only
returns-clause-told_only c = permissions-told-only

pub returns-clause-not_deny_and_allow_numbers_swapped : goal.returns-clause-not_deny_and_allow_numbers_swapped
unfolding permission_code permission_at
returns-clause-not_deny_and_allow_numbers_swapped c = search rules

pub returns-clause-read : goal.returns-clause-read
returns-clause-read c = permissions-read

pub returns-clause-read_only : goal.returns-clause-read_only
returns-clause-read_only c = permissions-read-only

pub returns-clause-not_deny_and_allow_read_swapped : goal.returns-clause-not_deny_and_allow_read_swapped
unfolding permission_code permission_at
returns-clause-not_deny_and_allow_read_swapped c = search rules

pub returns-clause-named : goal.returns-clause-named
returns-clause-named c = permission-names

pub returns-clause-named_only : goal.returns-clause-named_only
returns-clause-named_only c = permission-names-only

pub returns-clause-not_deny_and_allow_names_swapped : goal.returns-clause-not_deny_and_allow_names_swapped
returns-clause-not_deny_and_allow_names_swapped c = search rules

pub returns-clause-name_read : goal.returns-clause-name_read
returns-clause-name_read c = permission-names-read

pub returns-clause-name_read_only : goal.returns-clause-name_read_only
returns-clause-name_read_only c = permission-names-read-only

pub returns-clause-not_deny_and_allow_names_read_swapped : goal.returns-clause-not_deny_and_allow_names_read_swapped
returns-clause-not_deny_and_allow_names_read_swapped c = search rules
