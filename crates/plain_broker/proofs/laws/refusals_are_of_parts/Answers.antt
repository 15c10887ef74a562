use Rattle.api_dispatch.proofs.Told.{refusals_are_of_parts}
use Rattle.plain_broker.proofs.Named.{refusals_are_right}
use Rattle.plain_broker.proofs.laws.refusals_are_of_parts.Goals as goal

pub returns-clause-parts : goal.returns-clause-parts
returns-clause-parts c = refusals_are_of_parts

pub returns-clause-names : goal.returns-clause-names
returns-clause-names c = refusals_are_right
