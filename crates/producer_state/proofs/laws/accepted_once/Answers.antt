use Rattle.producer_state.proofs.Accepting.{accepted_once}
use Rattle.producer_state.proofs.laws.accepted_once.Goals as goal

pub returns : goal.returns
returns c = accepted_once
