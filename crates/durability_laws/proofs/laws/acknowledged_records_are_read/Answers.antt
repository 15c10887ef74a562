use Rattle.durability_laws.proofs.Committed.{reads_what_is_acknowledged}
use Rattle.durability_laws.proofs.OverATrail.{reads_back_over_a_trail}
use Rattle.durability_laws.proofs.WrongSteps as wrong
use Rattle.durability_laws.proofs.laws.acknowledged_records_are_read.Goals as goal

pub returns-clause-read : goal.returns-clause-read
returns-clause-read c = reads_what_is_acknowledged

pub returns-clause-read_not_dropped : goal.returns-clause-read_not_dropped
returns-clause-read_not_dropped c = wrong.read_not_dropped

pub returns-clause-read_also_last : goal.returns-clause-read_also_last
returns-clause-read_also_last c = wrong.read_also_last

pub returns-clause-read_also_uncommitted : goal.returns-clause-read_also_uncommitted
returns-clause-read_also_uncommitted c = wrong.read_also_uncommitted

pub returns-clause-over_a_trail : goal.returns-clause-over_a_trail
returns-clause-over_a_trail c = reads_back_over_a_trail
