use Rattle.broker_laws.proofs.Time.{ends}
use Rattle.broker_laws.proofs.Wrong.{not_going_back, not_without_lapses, not_early}
use Rattle.broker_laws.proofs.laws.ticks_end_what_is_over.Goals as goal

pub returns-clause-ends : goal.returns-clause-ends
returns-clause-ends c = ends

pub returns-clause-never_back : goal.returns-clause-never_back
returns-clause-never_back c = not_going_back

pub returns-clause-members : goal.returns-clause-members
returns-clause-members c = not_without_lapses

pub returns-clause-in_time : goal.returns-clause-in_time
returns-clause-in_time c = not_early
