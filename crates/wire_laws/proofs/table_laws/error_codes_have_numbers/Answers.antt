use Rattle.std.proofs.Common.{rules}
use Rattle.wire_types.specs.ErrorCode.{number_of, all_codes, code_of}
use Rattle.wire_laws.proofs.Numbers.{errors-told, errors-told-only, errors-read, errors-read-only}
use Rattle.wire_laws.proofs.table_laws.error_codes_have_numbers.Goals as goal

pub returns-clause-told : goal.returns-clause-told
returns-clause-told c = errors-told

pub returns-clause-told_only : goal.returns-clause-told_only
returns-clause-told_only c = errors-told-only

pub returns-clause-not_corrupt_and_invalid_numbers_swapped : goal.returns-clause-not_corrupt_and_invalid_numbers_swapped
unfolding number_of all_codes code_of
returns-clause-not_corrupt_and_invalid_numbers_swapped c = search rules

pub returns-clause-not_version_and_mechanism_numbers_swapped : goal.returns-clause-not_version_and_mechanism_numbers_swapped
unfolding number_of all_codes code_of
returns-clause-not_version_and_mechanism_numbers_swapped c = search rules

pub returns-clause-not_fenced_and_epoch_numbers_swapped : goal.returns-clause-not_fenced_and_epoch_numbers_swapped
unfolding number_of all_codes code_of
returns-clause-not_fenced_and_epoch_numbers_swapped c = search rules

pub returns-clause-read : goal.returns-clause-read
returns-clause-read c = errors-read

pub returns-clause-read_only : goal.returns-clause-read_only
returns-clause-read_only c = errors-read-only

pub returns-clause-not_corrupt_and_invalid_read_swapped : goal.returns-clause-not_corrupt_and_invalid_read_swapped
unfolding number_of all_codes code_of
returns-clause-not_corrupt_and_invalid_read_swapped c = search rules

pub returns-clause-not_version_and_mechanism_read_swapped : goal.returns-clause-not_version_and_mechanism_read_swapped
unfolding number_of all_codes code_of
returns-clause-not_version_and_mechanism_read_swapped c = search rules

pub returns-clause-not_fenced_and_epoch_read_swapped : goal.returns-clause-not_fenced_and_epoch_read_swapped
unfolding number_of all_codes code_of
returns-clause-not_fenced_and_epoch_read_swapped c = search rules
