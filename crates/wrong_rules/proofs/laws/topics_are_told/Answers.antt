use Rattle.wrong_rules.proofs.Topics.{tells_the_topic, there_not_unknown, not_without_last, unknown_not_there}
use Rattle.wrong_rules.proofs.laws.topics_are_told.Goals as goal

pub returns-clause-told : goal.returns-clause-told
returns-clause-told c = tells_the_topic

pub returns-clause-there : goal.returns-clause-there
returns-clause-there c = there_not_unknown

pub returns-clause-whole : goal.returns-clause-whole
returns-clause-whole c = not_without_last

pub returns-clause-unknown : goal.returns-clause-unknown
returns-clause-unknown c = unknown_not_there
