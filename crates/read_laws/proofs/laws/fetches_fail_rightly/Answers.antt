use Rattle.read_laws.proofs.Fetches.{tells_out_of_range, tells_missing}
use Rattle.read_laws.proofs.WrongFetches as wrong
use Rattle.read_laws.proofs.laws.fetches_fail_rightly.Goals as goal

pub returns-clause-out_of_range : goal.returns-clause-out_of_range
returns-clause-out_of_range c = tells_out_of_range

pub returns-clause-out_of_range_is_told : goal.returns-clause-out_of_range_is_told
returns-clause-out_of_range_is_told c = wrong.out_of_range_is_told

pub returns-clause-missing : goal.returns-clause-missing
returns-clause-missing c = tells_missing

pub returns-clause-missing_is_told : goal.returns-clause-missing_is_told
returns-clause-missing_is_told c = wrong.missing_is_told
