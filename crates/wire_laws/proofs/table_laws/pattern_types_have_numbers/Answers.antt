use Rattle.std.proofs.Common.{rules}
use Rattle.acl_binding.specs.WireNumbers.{pattern_code, pattern_at}
use Rattle.wire_laws.proofs.Numbers.{patterns-told, patterns-told-only, patterns-read, patterns-read-only, pattern-names, pattern-names-only, pattern-names-read, pattern-names-read-only}
use Rattle.wire_laws.proofs.table_laws.pattern_types_have_numbers.Goals as goal

pub returns-clause-told : goal.returns-clause-told
returns-clause-told c = patterns-told

pub returns-clause-told_only : goal.returns-clause-told_only
returns-clause-told_only c = patterns-told-only

pub returns-clause-not_literal_and_prefixed_numbers_swapped : goal.returns-clause-not_literal_and_prefixed_numbers_swapped
unfolding pattern_code pattern_at
returns-clause-not_literal_and_prefixed_numbers_swapped c = search rules

pub returns-clause-read : goal.returns-clause-read
returns-clause-read c = patterns-read

pub returns-clause-read_only : goal.returns-clause-read_only
returns-clause-read_only c = patterns-read-only

pub returns-clause-not_literal_and_prefixed_read_swapped : goal.returns-clause-not_literal_and_prefixed_read_swapped
unfolding pattern_code pattern_at
returns-clause-not_literal_and_prefixed_read_swapped c = search rules

pub returns-clause-named : goal.returns-clause-named
returns-clause-named c = pattern-names

pub returns-clause-named_only : goal.returns-clause-named_only
returns-clause-named_only c = pattern-names-only

pub returns-clause-not_literal_and_prefixed_names_swapped : goal.returns-clause-not_literal_and_prefixed_names_swapped
returns-clause-not_literal_and_prefixed_names_swapped c = search rules

pub returns-clause-name_read : goal.returns-clause-name_read
returns-clause-name_read c = pattern-names-read

pub returns-clause-name_read_only : goal.returns-clause-name_read_only
returns-clause-name_read_only c = pattern-names-read-only

pub returns-clause-not_literal_and_prefixed_names_read_swapped : goal.returns-clause-not_literal_and_prefixed_names_read_swapped
returns-clause-not_literal_and_prefixed_names_read_swapped c = search rules
