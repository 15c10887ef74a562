use Rattle.wire_laws.proofs.Batches.{uncompressed-told, uncompressed-only, not_0x01, append_time-told, append_time-only, not_0x10, transactional-told, transactional-only, not_0x20, control-told, control-only, not_0x40}
use Rattle.wire_laws.proofs.laws.attributes_tell.Goals as goal

pub returns-clause-uncompressed : goal.returns-clause-uncompressed
returns-clause-uncompressed c = uncompressed-told

pub returns-clause-uncompressed_only : goal.returns-clause-uncompressed_only
returns-clause-uncompressed_only c = uncompressed-only

pub returns-clause-not_compression_is_0x01 : goal.returns-clause-not_compression_is_0x01
returns-clause-not_compression_is_0x01 c = not_0x01

pub returns-clause-append_time : goal.returns-clause-append_time
returns-clause-append_time c = append_time-told

pub returns-clause-append_time_only : goal.returns-clause-append_time_only
returns-clause-append_time_only c = append_time-only

pub returns-clause-not_append_time_is_0x10 : goal.returns-clause-not_append_time_is_0x10
returns-clause-not_append_time_is_0x10 c = not_0x10

pub returns-clause-transactional : goal.returns-clause-transactional
returns-clause-transactional c = transactional-told

pub returns-clause-transactional_only : goal.returns-clause-transactional_only
returns-clause-transactional_only c = transactional-only

pub returns-clause-not_transactional_is_0x20 : goal.returns-clause-not_transactional_is_0x20
returns-clause-not_transactional_is_0x20 c = not_0x20

pub returns-clause-control : goal.returns-clause-control
returns-clause-control c = control-told

pub returns-clause-control_only : goal.returns-clause-control_only
returns-clause-control_only c = control-only

pub returns-clause-not_control_is_0x40 : goal.returns-clause-not_control_is_0x40
returns-clause-not_control_is_0x40 c = not_0x40
