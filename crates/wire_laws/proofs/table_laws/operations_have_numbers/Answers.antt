use Rattle.std.proofs.Common.{rules}
use Rattle.acl_binding.specs.WireNumbers.{operation_code, operation_at}
use Rattle.wire_laws.proofs.Numbers.{operations-told, operations-told-only, operations-read, operations-read-only, operation-names, operation-names-only, operation-names-read, operation-names-read-only}
use Rattle.wire_laws.proofs.table_laws.operations_have_numbers.Goals as goal

pub returns-clause-told : goal.returns-clause-told
returns-clause-told c = operations-told

pub returns-clause-told_only : goal.returns-clause-told_only
returns-clause-told_only c = operations-told-only

pub returns-clause-not_read_and_write_numbers_swapped : goal.returns-clause-not_read_and_write_numbers_swapped
unfolding operation_code operation_at
returns-clause-not_read_and_write_numbers_swapped c = search rules

pub returns-clause-read : goal.returns-clause-read
returns-clause-read c = operations-read

pub returns-clause-read_only : goal.returns-clause-read_only
returns-clause-read_only c = operations-read-only

pub returns-clause-not_read_and_write_read_swapped : goal.returns-clause-not_read_and_write_read_swapped
unfolding operation_code operation_at
returns-clause-not_read_and_write_read_swapped c = search rules

pub returns-clause-named : goal.returns-clause-named
returns-clause-named c = operation-names

pub returns-clause-named_only : goal.returns-clause-named_only
returns-clause-named_only c = operation-names-only

pub returns-clause-not_read_and_write_names_swapped : goal.returns-clause-not_read_and_write_names_swapped
returns-clause-not_read_and_write_names_swapped c = search rules

pub returns-clause-name_read : goal.returns-clause-name_read
returns-clause-name_read c = operation-names-read

pub returns-clause-name_read_only : goal.returns-clause-name_read_only
returns-clause-name_read_only c = operation-names-read-only

pub returns-clause-not_read_and_write_names_read_swapped : goal.returns-clause-not_read_and_write_names_read_swapped
returns-clause-not_read_and_write_names_read_swapped c = search rules
