use Rattle.std.proofs.Common.{rules}
use Rattle.acl_binding.specs.WireNumbers.{filter_pattern_code, filter_pattern_at}
use Rattle.wire_laws.proofs.Numbers.{filter_patterns-told, filter_patterns-told-only, filter_patterns-read, filter_patterns-read-only}
use Rattle.wire_laws.proofs.table_laws.filter_pattern_types_have_numbers.Goals as goal

pub returns-clause-told : goal.returns-clause-told
returns-clause-told c = filter_patterns-told

pub returns-clause-told_only : goal.returns-clause-told_only
returns-clause-told_only c = filter_patterns-told-only

pub returns-clause-not_any_and_match_numbers_swapped : goal.returns-clause-not_any_and_match_numbers_swapped
unfolding filter_pattern_code filter_pattern_at
returns-clause-not_any_and_match_numbers_swapped c = search rules

pub returns-clause-read : goal.returns-clause-read
returns-clause-read c = filter_patterns-read

pub returns-clause-read_only : goal.returns-clause-read_only
returns-clause-read_only c = filter_patterns-read-only

pub returns-clause-not_any_and_match_read_swapped : goal.returns-clause-not_any_and_match_read_swapped
unfolding filter_pattern_code filter_pattern_at
returns-clause-not_any_and_match_read_swapped c = search rules
