use Rattle.api_laws.proofs.Longest.{serves}
use Rattle.api_laws.proofs.Wrong.{not_to_the_end, not_one_less, not_too_much}
use Rattle.api_laws.proofs.laws.serves_what_fits.Goals as goal

pub returns-clause-served : goal.returns-clause-served
returns-clause-served c = serves

pub returns-clause-until_stable : goal.returns-clause-until_stable
returns-clause-until_stable c = not_to_the_end

pub returns-clause-as_much : goal.returns-clause-as_much
returns-clause-as_much c = not_one_less

pub returns-clause-no_more : goal.returns-clause-no_more
returns-clause-no_more c = not_too_much
