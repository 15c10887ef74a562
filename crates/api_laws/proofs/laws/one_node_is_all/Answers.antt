use Rattle.api_laws.proofs.OneNode.{one_node}
use Rattle.api_laws.proofs.Wrong.{not_leaderless, not_brokerless}
use Rattle.api_laws.proofs.laws.one_node_is_all.Goals as goal

pub returns-clause-all : goal.returns-clause-all
returns-clause-all c = one_node

pub returns-clause-leading : goal.returns-clause-leading
returns-clause-leading c = not_leaderless

pub returns-clause-listed : goal.returns-clause-listed
returns-clause-listed c = not_brokerless
