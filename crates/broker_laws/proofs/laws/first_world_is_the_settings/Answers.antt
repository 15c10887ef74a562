use Rattle.broker_laws.proofs.FirstWorld.{first_is}
use Rattle.broker_laws.proofs.Wrong.{not_for_everybody, not_without_acls}
use Rattle.broker_laws.proofs.laws.first_world_is_the_settings.Goals as goal

pub returns-clause-first : goal.returns-clause-first
returns-clause-first c = first_is

pub returns-clause-supers : goal.returns-clause-supers
returns-clause-supers c = not_for_everybody

pub returns-clause-acls : goal.returns-clause-acls
returns-clause-acls c = not_without_acls
