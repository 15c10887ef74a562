use Rattle.api_laws.proofs.ErrorTable.{errors_by_table as the_law}
use Rattle.api_laws.proofs.WrongReads.{not_reply_ids_as_groups, not_unfenced}
use Rattle.api_laws.proofs.laws.errors_by_table.Goals as goal

pub returns-clause-listed : goal.returns-clause-listed
returns-clause-listed c = the_law

pub returns-clause-by_kind : goal.returns-clause-by_kind
returns-clause-by_kind c = not_reply_ids_as_groups

pub returns-clause-fenced : goal.returns-clause-fenced
returns-clause-fenced c = not_unfenced
