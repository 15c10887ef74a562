use Rattle.txn_laws.proofs.GroupsKeep.{kept_law, kept_end_law}
use Rattle.txn_laws.proofs.laws.keeping.Goals as goal

pub returns-clause-moves : goal.returns-clause-moves
returns-clause-moves c = kept_law

pub returns-clause-ends : goal.returns-clause-ends
returns-clause-ends c = kept_end_law
