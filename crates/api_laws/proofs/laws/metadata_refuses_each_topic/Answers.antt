use Rattle.api_laws.proofs.Headlines.{refuses_each_topic as the_law}
use Rattle.api_laws.proofs.WrongReads.{not_no_topic, not_first_topic}
use Rattle.api_laws.proofs.laws.metadata_refuses_each_topic.Goals as goal

pub returns-clause-refused : goal.returns-clause-refused
returns-clause-refused c = the_law

pub returns-clause-something : goal.returns-clause-something
returns-clause-something c = not_no_topic

pub returns-clause-all : goal.returns-clause-all
returns-clause-all c = not_first_topic
