use Rattle.api_laws.proofs.DataGrants.{produce_keeps as the_law}
use Rattle.api_laws.proofs.WrongTenants.{not_produced_unasked}
use Rattle.api_laws.proofs.laws.produce_keeps_the_rest.Goals as goal

pub returns-clause-kept : goal.returns-clause-kept
returns-clause-kept c = the_law

pub returns-clause-asked : goal.returns-clause-asked
returns-clause-asked c = not_produced_unasked
