use Rattle.authorizer.proofs.SomeTopic.{exact}
use Rattle.authorizer.proofs.laws.some_topic_is_exact.Goals as goal

pub returns : goal.returns
returns c = exact
