use Rattle.txn_laws.proofs.TurnedAway.{turns_away}
use Rattle.txn_laws.proofs.Wrong.{not_cutting, producer_is_asked, fenced_is_told}
use Rattle.txn_laws.proofs.laws.turns_away_by_table.Goals as goal

pub returns-clause-table : goal.returns-clause-table
returns-clause-table c = turns_away

pub returns-clause-timeouts : goal.returns-clause-timeouts
returns-clause-timeouts c = not_cutting

pub returns-clause-producers : goal.returns-clause-producers
returns-clause-producers c = producer_is_asked

pub returns-clause-epochs : goal.returns-clause-epochs
returns-clause-epochs c = fenced_is_told
