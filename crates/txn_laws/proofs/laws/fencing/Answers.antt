use Rattle.txn_laws.specs.Laws.{FencingLaw, RefusalLaw, OrderLaw}
use Rattle.txn_laws.proofs.Fences.{fencing_law, refusal_law, order_law}
use Rattle.txn_laws.proofs.Reached.{reached}
use Rattle.txn_laws.proofs.laws.fencing.Goals as goal

pub returns-clause-left : goal.returns-clause-left
returns-clause-left c = fencing_law

pub returns-clause-left_reached : goal.returns-clause-left_reached
returns-clause-left_reached c = reached FencingLaw fencing_law

pub returns-clause-order_reached : goal.returns-clause-order_reached
returns-clause-order_reached c = reached OrderLaw order_law

pub returns-clause-refused : goal.returns-clause-refused
returns-clause-refused c = refusal_law

pub returns-clause-refused_reached : goal.returns-clause-refused_reached
returns-clause-refused_reached c = reached RefusalLaw refusal_law
