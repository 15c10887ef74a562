use Rattle.acl_binding.proofs.Relations.{tests_are}
use Rattle.acl_binding.proofs.laws.tests_are_relations.Goals as goal

pub returns : goal.returns
returns c = tests_are
