use Rattle.admission.proofs.PaceLaws.{kept}
use Rattle.admission.proofs.laws.rate_is_kept.Goals as goal

pub returns : goal.returns
returns c = kept
