use Rattle.acl_binding.proofs.Decided.{verdict_right}
use Rattle.acl_binding.proofs.laws.verdict_is_decided.Goals as goal

pub returns : goal.returns
returns c = verdict_right
