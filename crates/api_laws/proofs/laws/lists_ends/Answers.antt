use Rattle.api_laws.proofs.DataAnswers.{lists_ends as the_law}
use Rattle.api_laws.proofs.WrongReads.{not_listing_the_end, not_listing_the_last}
use Rattle.api_laws.proofs.laws.lists_ends.Goals as goal

pub returns-clause-listed : goal.returns-clause-listed
returns-clause-listed c = the_law

pub returns-clause-until_stable : goal.returns-clause-until_stable
returns-clause-until_stable c = not_listing_the_end

pub returns-clause-after_it : goal.returns-clause-after_it
returns-clause-after_it c = not_listing_the_last
