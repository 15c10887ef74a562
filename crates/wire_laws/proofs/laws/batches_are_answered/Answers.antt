use Rattle.std.proofs.Common.{rules}
use Rattle.wire_types.specs.Reading.{nat_at, int_at, front_at, many_at, items_at, after_count_at, null_or, after_null_count_at, varint_at, null_or_count, null_count_at, not_null, required_at, counted_at, all_at}
use Rattle.record_batch.specs.CombinatorLaws.{fixed_at, whole_value, sized_at}
use Rattle.record_batch.specs.Record.{records_at}
use Rattle.record_batch.specs.Crc.{bit_shift_by, crc_after}
use Rattle.record_batch.specs.Faults.{has_records, is_valid, first_fault}
use Rattle.wire_types.specs.ErrorCode.{number_of}
use Rattle.record_batch.specs.Batch.{header_in}
use Rattle.wire_laws.proofs.laws.batches_are_answered.Goals as goal

pub returns-clause-answered : goal.returns-clause-answered
unfolding nat_at int_at front_at many_at items_at after_count_at null_or after_null_count_at varint_at null_or_count null_count_at not_null required_at counted_at all_at fixed_at whole_value sized_at records_at bit_shift_by crc_after has_records is_valid first_fault number_of
returns-clause-answered c = search rules

pub returns-clause-not_sums_are_not_looked_at : goal.returns-clause-not_sums_are_not_looked_at
unfolding nat_at int_at front_at many_at items_at after_count_at null_or after_null_count_at varint_at null_or_count null_count_at not_null required_at counted_at all_at fixed_at whole_value sized_at records_at bit_shift_by crc_after has_records is_valid first_fault number_of
returns-clause-not_sums_are_not_looked_at c = search rules

pub returns-clause-not_corrupt_batches_are_invalid : goal.returns-clause-not_corrupt_batches_are_invalid
unfolding nat_at int_at front_at many_at items_at after_count_at null_or after_null_count_at varint_at null_or_count null_count_at not_null required_at counted_at all_at fixed_at whole_value sized_at records_at bit_shift_by crc_after has_records is_valid first_fault number_of
returns-clause-not_corrupt_batches_are_invalid c = search rules

pub returns-clause-not_compressed_batches_are_taken : goal.returns-clause-not_compressed_batches_are_taken
unfolding nat_at int_at front_at many_at items_at after_count_at null_or after_null_count_at varint_at null_or_count null_count_at not_null required_at counted_at all_at fixed_at whole_value sized_at records_at bit_shift_by crc_after has_records is_valid first_fault number_of
returns-clause-not_compressed_batches_are_taken c = search rules

pub returns-clause-not_append_times_are_taken : goal.returns-clause-not_append_times_are_taken
unfolding nat_at int_at front_at many_at items_at after_count_at null_or after_null_count_at varint_at null_or_count null_count_at not_null required_at counted_at all_at fixed_at whole_value sized_at records_at bit_shift_by crc_after has_records is_valid first_fault number_of
returns-clause-not_append_times_are_taken c = search rules

pub returns-clause-not_control_batches_are_taken : goal.returns-clause-not_control_batches_are_taken
unfolding nat_at int_at front_at many_at items_at after_count_at null_or after_null_count_at varint_at null_or_count null_count_at not_null required_at counted_at all_at fixed_at whole_value sized_at records_at bit_shift_by crc_after has_records is_valid first_fault number_of header_in
returns-clause-not_control_batches_are_taken c = search rules

pub returns-clause-not_sizes_are_not_looked_at : goal.returns-clause-not_sizes_are_not_looked_at
unfolding nat_at int_at front_at many_at items_at after_count_at null_or after_null_count_at varint_at null_or_count null_count_at not_null required_at counted_at all_at fixed_at whole_value sized_at records_at bit_shift_by crc_after has_records is_valid first_fault number_of
returns-clause-not_sizes_are_not_looked_at c = search rules
