use Rattle.api_laws.proofs.DataAnswers.{produces_as_answered as the_law}
use Rattle.api_laws.proofs.WrongWrites.{not_topics_kept, not_with_repeats, not_without_error}
use Rattle.api_laws.proofs.laws.produces_as_answered.Goals as goal

pub returns-clause-answered : goal.returns-clause-answered
returns-clause-answered c = the_law

pub returns-clause-appended : goal.returns-clause-appended
returns-clause-appended c = not_topics_kept

pub returns-clause-once : goal.returns-clause-once
returns-clause-once c = not_with_repeats

pub returns-clause-told : goal.returns-clause-told
returns-clause-told c = not_without_error
