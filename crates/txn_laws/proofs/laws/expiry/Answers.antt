use Rattle.txn_laws.specs.Laws.{IdsLaw, ExpiryLaw, TickLaw}
use Rattle.txn_laws.proofs.Ticks.{one_by_one, expiry_law, ids_law, tick_law}
use Rattle.txn_laws.proofs.Reached.{reached}
use Rattle.txn_laws.proofs.laws.expiry.Goals as goal

pub returns-clause-own_ids : goal.returns-clause-own_ids
returns-clause-own_ids c = one_by_one

pub returns-clause-reached : goal.returns-clause-reached
returns-clause-reached c = reached ExpiryLaw expiry_law

pub returns-clause-sound : goal.returns-clause-sound
returns-clause-sound c = expiry_law

pub returns-clause-ids_reached : goal.returns-clause-ids_reached
returns-clause-ids_reached c = reached IdsLaw ids_law

pub returns-clause-ticks : goal.returns-clause-ticks
returns-clause-ticks c = tick_law

pub returns-clause-ticks_reached : goal.returns-clause-ticks_reached
returns-clause-ticks_reached c = reached TickLaw tick_law
