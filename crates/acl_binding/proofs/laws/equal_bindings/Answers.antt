use Rattle.acl_binding.proofs.Same.{same_decides}
use Rattle.acl_binding.proofs.laws.equal_bindings.Goals as goal

pub returns : goal.returns
returns c = same_decides
