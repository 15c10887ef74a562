use Rattle.broker_laws.proofs.Preparing.{prepares}
use Rattle.broker_laws.proofs.WrongEnds.{not_swapped, not_left_open, not_waiting_for_ever, not_open_for_ever}
use Rattle.broker_laws.proofs.laws.prepares.Goals as goal

pub returns-clause-ends : goal.returns-clause-ends
returns-clause-ends c = prepares

pub returns-clause-as_named : goal.returns-clause-as_named
returns-clause-as_named c = not_swapped

pub returns-clause-ended : goal.returns-clause-ended
returns-clause-ended c = not_left_open

pub returns-clause-taken_over : goal.returns-clause-taken_over
returns-clause-taken_over c = not_waiting_for_ever

pub returns-clause-in_time : goal.returns-clause-in_time
returns-clause-in_time c = not_open_for_ever
