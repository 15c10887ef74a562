use Rattle.std.proofs.Common.{rules}
use Rattle.record_batch.specs.Crc.{bit_shift_by, crc_after}
use Rattle.wire_types.specs.Spelling.{int_written}
use Rattle.wire_laws.proofs.Batches.{outcomes-only}
use Rattle.wire_laws.proofs.laws.markers_are_written.Goals as goal

pub returns-clause-written : goal.returns-clause-written
unfolding bit_shift_by crc_after int_written
returns-clause-written c = search rules

pub returns-clause-not_outcomes_swapped : goal.returns-clause-not_outcomes_swapped
unfolding bit_shift_by crc_after int_written
returns-clause-not_outcomes_swapped c = search rules

pub returns-clause-not_markers_with_0x50 : goal.returns-clause-not_markers_with_0x50
unfolding bit_shift_by crc_after int_written
returns-clause-not_markers_with_0x50 c = search rules

pub returns-clause-types : goal.returns-clause-types
returns-clause-types c = search rules

pub returns-clause-types_only : goal.returns-clause-types_only
returns-clause-types_only c = outcomes-only

pub returns-clause-not_types_swapped : goal.returns-clause-not_types_swapped
returns-clause-not_types_swapped c = search rules
