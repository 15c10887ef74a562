use Rattle.std.proofs.Common.{rules}
use Rattle.acl_binding.specs.WireNumbers.{kind_code, kind_at}
use Rattle.wire_laws.proofs.Numbers.{kinds-told, kinds-told-only, kinds-read, kinds-read-only, kind-names, kind-names-only, kind-names-read, kind-names-read-only}
use Rattle.wire_laws.proofs.table_laws.resource_types_have_numbers.Goals as goal

pub returns-clause-told : goal.returns-clause-told
returns-clause-told c = kinds-told

pub returns-clause-told_only : goal.returns-clause-told_only
returns-clause-told_only c = kinds-told-only

pub returns-clause-not_group_and_transactional_numbers_swapped : goal.returns-clause-not_group_and_transactional_numbers_swapped
unfolding kind_code kind_at
returns-clause-not_group_and_transactional_numbers_swapped c = search rules

pub returns-clause-read : goal.returns-clause-read
returns-clause-read c = kinds-read

pub returns-clause-read_only : goal.returns-clause-read_only
returns-clause-read_only c = kinds-read-only

pub returns-clause-not_group_and_transactional_read_swapped : goal.returns-clause-not_group_and_transactional_read_swapped
unfolding kind_code kind_at
returns-clause-not_group_and_transactional_read_swapped c = search rules

pub returns-clause-named : goal.returns-clause-named
returns-clause-named c = kind-names

pub returns-clause-named_only : goal.returns-clause-named_only
returns-clause-named_only c = kind-names-only

pub returns-clause-not_group_and_transactional_names_swapped : goal.returns-clause-not_group_and_transactional_names_swapped
returns-clause-not_group_and_transactional_names_swapped c = search rules

pub returns-clause-name_read : goal.returns-clause-name_read
returns-clause-name_read c = kind-names-read

pub returns-clause-name_read_only : goal.returns-clause-name_read_only
returns-clause-name_read_only c = kind-names-read-only

pub returns-clause-not_group_and_transactional_names_read_swapped : goal.returns-clause-not_group_and_transactional_names_read_swapped
returns-clause-not_group_and_transactional_names_read_swapped c = search rules
