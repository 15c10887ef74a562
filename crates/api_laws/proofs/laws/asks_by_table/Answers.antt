use Rattle.api_laws.proofs.AskedTable.{asks_by_table as the_law}
use Rattle.api_laws.proofs.Wrong.{not_anybody, not_alterers}
use Rattle.api_laws.proofs.laws.asks_by_table.Goals as goal

pub returns-clause-asked : goal.returns-clause-asked
returns-clause-asked c = the_law

pub returns-clause-something : goal.returns-clause-something
returns-clause-something c = not_anybody

pub returns-clause-by_operation : goal.returns-clause-by_operation
returns-clause-by_operation c = not_alterers
