use Rattle.producer_state.proofs.Again.{sent_again}
use Rattle.producer_state.proofs.laws.sent_again_repeats.Goals as goal

pub returns : goal.returns
returns c = sent_again
