use Rattle.api_laws.proofs.Repeats.{last_five_repeat as the_law}
use Rattle.api_laws.proofs.WrongWrites.{not_repeats_as_next, not_gaps_as_next}
use Rattle.api_laws.proofs.laws.last_five_repeat.Goals as goal

pub returns-clause-repeated : goal.returns-clause-repeated
returns-clause-repeated c = the_law

pub returns-clause-once : goal.returns-clause-once
returns-clause-once c = not_repeats_as_next

pub returns-clause-gaps : goal.returns-clause-gaps
returns-clause-gaps c = not_gaps_as_next
