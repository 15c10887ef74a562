use Rattle.wrong_rules.proofs.Timeouts.{takes_the_timeout, not_the_first, not_one_for_all}
use Rattle.wrong_rules.proofs.laws.timeouts_are_taken.Goals as goal

pub returns-clause-taken : goal.returns-clause-taken
returns-clause-taken c = takes_the_timeout

pub returns-clause-not_the_first : goal.returns-clause-not_the_first
returns-clause-not_the_first c = not_the_first

pub returns-clause-not_one_for_all : goal.returns-clause-not_one_for_all
returns-clause-not_one_for_all c = not_one_for_all
