use Rattle.api_laws.proofs.OnlyProper.{accepts_nothing_else as the_law}
use Rattle.api_laws.proofs.WrongWrites.{not_under_any_acks, not_of_any_size}
use Rattle.api_laws.proofs.laws.accepts_nothing_else.Goals as goal

pub returns-clause-accepted : goal.returns-clause-accepted
returns-clause-accepted c = the_law

pub returns-clause-by_acks : goal.returns-clause-by_acks
returns-clause-by_acks c = not_under_any_acks

pub returns-clause-by_size : goal.returns-clause-by_size
returns-clause-by_size c = not_of_any_size
