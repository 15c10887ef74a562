use Rattle.api_laws.proofs.Groups.{describes_each as the_law}
use Rattle.api_laws.proofs.WrongReads.{not_one_resource, not_each_alone}
use Rattle.api_laws.proofs.laws.describes_each.Goals as goal

pub returns-clause-described : goal.returns-clause-described
returns-clause-described c = the_law

pub returns-clause-all : goal.returns-clause-all
returns-clause-all c = not_one_resource

pub returns-clause-grouped : goal.returns-clause-grouped
returns-clause-grouped c = not_each_alone
