use Rattle.api_laws.proofs.Accepted.{accepts_what_it_ought as the_law}
use Rattle.api_laws.proofs.WrongWrites.{not_producing_nothing, not_for_all_replicas}
use Rattle.api_laws.proofs.laws.accepts_what_it_ought.Goals as goal

pub returns-clause-accepted : goal.returns-clause-accepted
returns-clause-accepted c = the_law

pub returns-clause-appended : goal.returns-clause-appended
returns-clause-appended c = not_producing_nothing

pub returns-clause-each_acks : goal.returns-clause-each_acks
returns-clause-each_acks c = not_for_all_replicas
