use Rattle.std.proofs.Common.{rules}
use Rattle.wire_types.specs.Reading.{bool_at}
use Rattle.wire_types.specs.Spelling.{bool_written}
use Rattle.wire_laws.proofs.Numbers.{booleans-told, booleans-told-only, booleans-read, booleans-read-only, booleans-read-not-inverted, booleans-read-not-refused}
use Rattle.wire_laws.proofs.table_laws.booleans_are_bytes.Goals as goal

pub returns-clause-written : goal.returns-clause-written
returns-clause-written c = booleans-told

pub returns-clause-written_only : goal.returns-clause-written_only
returns-clause-written_only c = booleans-told-only

pub returns-clause-not_booleans_inverted : goal.returns-clause-not_booleans_inverted
unfolding bool_at bool_written
returns-clause-not_booleans_inverted c = search rules

pub returns-clause-read : goal.returns-clause-read
returns-clause-read c = booleans-read

pub returns-clause-read_only : goal.returns-clause-read_only
returns-clause-read_only c = booleans-read-only

pub returns-clause-not_booleans_read_inverted : goal.returns-clause-not_booleans_read_inverted
returns-clause-not_booleans_read_inverted c = booleans-read-not-inverted

pub returns-clause-not_booleans_above_1_refused : goal.returns-clause-not_booleans_above_1_refused
returns-clause-not_booleans_above_1_refused c = booleans-read-not-refused
