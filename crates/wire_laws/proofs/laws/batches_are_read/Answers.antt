use Rattle.std.proofs.Common.{rules}
use Rattle.wire_types.specs.Reading.{nat_at, int_at, front_at, many_at, items_at, after_count_at, null_or, after_null_count_at, varint_at, null_or_count, null_count_at, not_null, required_at, counted_at, all_at}
use Rattle.record_batch.specs.CombinatorLaws.{fixed_at, whole_value, sized_at}
use Rattle.record_batch.specs.Record.{records_at}
use Rattle.record_batch.specs.Batch.{header_in}
use Rattle.wire_laws.proofs.laws.batches_are_read.Goals as goal

pub returns-clause-read : goal.returns-clause-read
unfolding nat_at int_at front_at many_at items_at after_count_at null_or after_null_count_at varint_at null_or_count null_count_at not_null required_at counted_at all_at fixed_at whole_value sized_at records_at header_in
returns-clause-read c = search rules

pub returns-clause-not_timestamps_exchanged : goal.returns-clause-not_timestamps_exchanged
unfolding nat_at int_at front_at many_at items_at after_count_at null_or after_null_count_at varint_at null_or_count null_count_at not_null required_at counted_at all_at fixed_at whole_value sized_at records_at header_in
returns-clause-not_timestamps_exchanged c = search rules

pub returns-clause-not_epoch_and_sequence_exchanged : goal.returns-clause-not_epoch_and_sequence_exchanged
unfolding nat_at int_at front_at many_at items_at after_count_at null_or after_null_count_at varint_at null_or_count null_count_at not_null required_at counted_at all_at fixed_at whole_value sized_at records_at header_in
returns-clause-not_epoch_and_sequence_exchanged c = search rules

pub returns-clause-not_keys_and_values_exchanged : goal.returns-clause-not_keys_and_values_exchanged
unfolding nat_at int_at front_at many_at items_at after_count_at null_or after_null_count_at varint_at null_or_count null_count_at not_null required_at counted_at all_at fixed_at whole_value sized_at records_at header_in
returns-clause-not_keys_and_values_exchanged c = search rules
