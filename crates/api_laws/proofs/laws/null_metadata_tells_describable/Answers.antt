use Rattle.api_laws.proofs.Headlines.{null_tells_describable as the_law}
use Rattle.api_laws.proofs.Wrong.{not_for_everybody, not_for_nobody}
use Rattle.api_laws.proofs.laws.null_metadata_tells_describable.Goals as goal

pub returns-clause-told : goal.returns-clause-told
returns-clause-told c = the_law

pub returns-clause-not_to_everybody : goal.returns-clause-not_to_everybody
returns-clause-not_to_everybody c = not_for_everybody

pub returns-clause-to_somebody : goal.returns-clause-to_somebody
returns-clause-to_somebody c = not_for_nobody
