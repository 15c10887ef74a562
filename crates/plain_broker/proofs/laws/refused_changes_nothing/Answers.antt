use Rattle.plain_broker.proofs.Again.{refused_changes_nothing}
use Rattle.plain_broker.proofs.laws.refused_changes_nothing.Goals as goal

pub returns : goal.returns
returns c = refused_changes_nothing
