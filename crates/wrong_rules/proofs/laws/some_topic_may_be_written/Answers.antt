use Rattle.wrong_rules.proofs.Permissions.{asks_for_some_topic, not_undenied, not_some_resource, only_some_topic}
use Rattle.wrong_rules.proofs.laws.some_topic_may_be_written.Goals as goal

pub returns-clause-exact : goal.returns-clause-exact
returns-clause-exact c = asks_for_some_topic

pub returns-clause-undenied : goal.returns-clause-undenied
returns-clause-undenied c = not_undenied

pub returns-clause-topics : goal.returns-clause-topics
returns-clause-topics c = not_some_resource

pub returns-clause-only : goal.returns-clause-only
returns-clause-only c = only_some_topic
