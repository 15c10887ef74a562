use Rattle.durability_laws.proofs.Offsets.{keeps_committed_offsets, tells_unstable_offsets}
use Rattle.durability_laws.proofs.WrongOffsets as wrong
use Rattle.durability_laws.proofs.laws.committed_offsets_stay.Goals as goal

pub returns-clause-offsets : goal.returns-clause-offsets
returns-clause-offsets c = keeps_committed_offsets

pub returns-clause-offsets_not_forgotten : goal.returns-clause-offsets_not_forgotten
returns-clause-offsets_not_forgotten c = wrong.not_forgotten

pub returns-clause-offsets_not_dropped : goal.returns-clause-offsets_not_dropped
returns-clause-offsets_not_dropped c = wrong.not_dropped

pub returns-clause-offsets_not_untold : goal.returns-clause-offsets_not_untold
returns-clause-offsets_not_untold c = wrong.not_untold

pub returns-clause-offsets_not_always_unstable : goal.returns-clause-offsets_not_always_unstable
returns-clause-offsets_not_always_unstable c = wrong.not_always_unstable

pub returns-clause-unstable : goal.returns-clause-unstable
returns-clause-unstable c = tells_unstable_offsets

pub returns-clause-unstable_not_ignored : goal.returns-clause-unstable_not_ignored
returns-clause-unstable_not_ignored c = wrong.not_ignored
