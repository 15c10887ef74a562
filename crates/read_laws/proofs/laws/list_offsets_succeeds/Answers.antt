use Rattle.read_laws.proofs.ListOffsets.{tells_the_latest, tells_the_earliest}
use Rattle.read_laws.proofs.WrongListOffsets as wrong
use Rattle.read_laws.proofs.laws.list_offsets_succeeds.Goals as goal

pub returns-clause-latest : goal.returns-clause-latest
returns-clause-latest c = tells_the_latest

pub returns-clause-latest_not_invalid : goal.returns-clause-latest_not_invalid
returns-clause-latest_not_invalid c = wrong.latest_not_invalid

pub returns-clause-latest_of_level : goal.returns-clause-latest_of_level
returns-clause-latest_of_level c = wrong.latest_of_level

pub returns-clause-latest_not_unstable : goal.returns-clause-latest_not_unstable
returns-clause-latest_not_unstable c = wrong.latest_not_unstable

pub returns-clause-latest_not_earliest : goal.returns-clause-latest_not_earliest
returns-clause-latest_not_earliest c = wrong.latest_not_earliest

pub returns-clause-earliest : goal.returns-clause-earliest
returns-clause-earliest c = tells_the_earliest

pub returns-clause-earliest_not_invalid : goal.returns-clause-earliest_not_invalid
returns-clause-earliest_not_invalid c = wrong.earliest_not_invalid

pub returns-clause-earliest_not_latest : goal.returns-clause-earliest_not_latest
returns-clause-earliest_not_latest c = wrong.earliest_not_latest
