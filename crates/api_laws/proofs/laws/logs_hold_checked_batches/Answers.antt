use Rattle.api_laws.proofs.CheckedLogs.{logs_hold_checked_batches as the_law}
use Rattle.api_laws.proofs.WrongWrites.{not_of_headers}
use Rattle.api_laws.proofs.laws.logs_hold_checked_batches.Goals as goal

pub returns-clause-checked : goal.returns-clause-checked
returns-clause-checked c = the_law

pub returns-clause-whole : goal.returns-clause-whole
returns-clause-whole c = not_of_headers
