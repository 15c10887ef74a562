use Rattle.api_laws.proofs.Headlines.{answers_each_topic as the_law}
use Rattle.api_laws.proofs.WrongReads.{not_unasked, not_left_out}
use Rattle.api_laws.proofs.laws.metadata_answers_each_topic.Goals as goal

pub returns-clause-answered : goal.returns-clause-answered
returns-clause-answered c = the_law

pub returns-clause-asked : goal.returns-clause-asked
returns-clause-asked c = not_unasked

pub returns-clause-each : goal.returns-clause-each
returns-clause-each c = not_left_out
