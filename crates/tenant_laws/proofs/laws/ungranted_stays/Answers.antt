use Rattle.tenant_laws.proofs.Kept.{ungranted_stays}
use Rattle.tenant_laws.proofs.Wrong.{not_without_asking, not_by_asking}
use Rattle.tenant_laws.proofs.laws.ungranted_stays.Goals as goal

pub returns-clause-stays : goal.returns-clause-stays
returns-clause-stays c = ungranted_stays

pub returns-clause-granted : goal.returns-clause-granted
returns-clause-granted c = not_without_asking

pub returns-clause-topics : goal.returns-clause-topics
returns-clause-topics c = not_by_asking
