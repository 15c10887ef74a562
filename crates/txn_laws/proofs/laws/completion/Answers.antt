use Rattle.txn_laws.specs.Laws.{CompletionLaw, WaitingLaw, PreparingLaw, PreparedLaw, CompletedLaw}
use Rattle.txn_laws.proofs.Complete.{completion_law, waiting_law}
use Rattle.txn_laws.proofs.Prepared.{preparing_law, prepared_law}
use Rattle.txn_laws.proofs.Completed.{completed_law}
use Rattle.txn_laws.proofs.Reached.{reached}
use Rattle.txn_laws.proofs.laws.completion.Goals as goal

pub returns-clause-owed : goal.returns-clause-owed
returns-clause-owed c = completion_law

pub returns-clause-owed_reached : goal.returns-clause-owed_reached
returns-clause-owed_reached c = reached CompletionLaw completion_law

pub returns-clause-waiting : goal.returns-clause-waiting
returns-clause-waiting c = waiting_law

pub returns-clause-waiting_reached : goal.returns-clause-waiting_reached
returns-clause-waiting_reached c = reached WaitingLaw waiting_law

pub returns-clause-preparing : goal.returns-clause-preparing
returns-clause-preparing c = preparing_law

pub returns-clause-preparing_reached : goal.returns-clause-preparing_reached
returns-clause-preparing_reached c = reached PreparingLaw preparing_law

pub returns-clause-prepared : goal.returns-clause-prepared
returns-clause-prepared c = prepared_law

pub returns-clause-prepared_reached : goal.returns-clause-prepared_reached
returns-clause-prepared_reached c = reached PreparedLaw prepared_law

pub returns-clause-completed : goal.returns-clause-completed
returns-clause-completed c = completed_law

pub returns-clause-completed_reached : goal.returns-clause-completed_reached
returns-clause-completed_reached c = reached CompletedLaw completed_law
