use Rattle.read_laws.proofs.ListOffsets.{tells_invalid_timestamp, tells_missing}
use Rattle.read_laws.proofs.WrongListOffsets as wrong
use Rattle.read_laws.proofs.laws.list_offsets_fails_rightly.Goals as goal

pub returns-clause-invalid : goal.returns-clause-invalid
returns-clause-invalid c = tells_invalid_timestamp

pub returns-clause-invalid_is_told : goal.returns-clause-invalid_is_told
returns-clause-invalid_is_told c = wrong.invalid_is_told

pub returns-clause-missing : goal.returns-clause-missing
returns-clause-missing c = tells_missing

pub returns-clause-missing_is_told : goal.returns-clause-missing_is_told
returns-clause-missing_is_told c = wrong.missing_is_told
