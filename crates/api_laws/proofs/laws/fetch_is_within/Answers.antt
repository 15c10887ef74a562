use Rattle.api_laws.proofs.FetchSizes.{fetch_is_within as the_law}
use Rattle.api_laws.proofs.Wrong.{not_keeping, not_without_max}
use Rattle.api_laws.proofs.laws.fetch_is_within.Goals as goal

pub returns-clause-within : goal.returns-clause-within
returns-clause-within c = the_law

pub returns-clause-taking_off : goal.returns-clause-taking_off
returns-clause-taking_off c = not_keeping

pub returns-clause-looking_at_it : goal.returns-clause-looking_at_it
returns-clause-looking_at_it c = not_without_max
