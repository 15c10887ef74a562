use Rattle.api_laws.proofs.LastStable.{last_stable}
use Rattle.api_laws.proofs.WrongWrites.{not_stable_at_the_end, not_stable_at_the_last}
use Rattle.api_laws.proofs.laws.last_stable_is_exact.Goals as goal

pub returns-clause-exact : goal.returns-clause-exact
returns-clause-exact c = last_stable

pub returns-clause-until_open : goal.returns-clause-until_open
returns-clause-until_open c = not_stable_at_the_end

pub returns-clause-after_last : goal.returns-clause-after_last
returns-clause-after_last c = not_stable_at_the_last
