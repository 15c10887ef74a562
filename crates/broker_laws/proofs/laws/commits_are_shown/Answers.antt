use Rattle.broker_laws.proofs.CommitAbort.{commits_are_shown}
use Rattle.broker_laws.proofs.Scripts.{offsets_follow, not_the_other_end, not_while_open, not_undecided}
use Rattle.broker_laws.proofs.laws.commits_are_shown.Goals as goal

pub returns-clause-ends : goal.returns-clause-ends
returns-clause-ends c = commits_are_shown

pub returns-clause-offsets : goal.returns-clause-offsets
returns-clause-offsets c = offsets_follow

pub returns-clause-as_named : goal.returns-clause-as_named
returns-clause-as_named c = not_the_other_end

pub returns-clause-after_the_end : goal.returns-clause-after_the_end
returns-clause-after_the_end c = not_while_open

pub returns-clause-decided : goal.returns-clause-decided
returns-clause-decided c = not_undecided
