use Rattle.std.proofs.Common.{rules}
use Rattle.msg_data.specs.Isolation.{isolation_of}
use Rattle.wire_laws.proofs.Numbers.{levels-told, levels-told-only, levels-read, levels-read-only}
use Rattle.wire_laws.proofs.table_laws.isolation_levels_have_numbers.Goals as goal

pub returns-clause-told : goal.returns-clause-told
returns-clause-told c = levels-told

pub returns-clause-told_only : goal.returns-clause-told_only
returns-clause-told_only c = levels-told-only

pub returns-clause-not_level_numbers_swapped : goal.returns-clause-not_level_numbers_swapped
unfolding isolation_of
returns-clause-not_level_numbers_swapped c = search rules

pub returns-clause-read : goal.returns-clause-read
returns-clause-read c = levels-read

pub returns-clause-read_only : goal.returns-clause-read_only
returns-clause-read_only c = levels-read-only

pub returns-clause-not_level_read_swapped : goal.returns-clause-not_level_read_swapped
unfolding isolation_of
returns-clause-not_level_read_swapped c = search rules
