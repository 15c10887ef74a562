use Rattle.broker_laws.proofs.Reached.{first_moved, is_moved}
use Rattle.broker_laws.proofs.laws.events_are_moves.Goals as goal

pub returns-clause-each : goal.returns-clause-each
returns-clause-each c = is_moved

pub returns-clause-all : goal.returns-clause-all
returns-clause-all c = first_moved
