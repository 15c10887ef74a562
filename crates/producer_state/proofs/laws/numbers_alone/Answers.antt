use Rattle.producer_state.proofs.Again.{same_judged}
use Rattle.producer_state.proofs.laws.numbers_alone.Goals as goal

pub returns : goal.returns
returns c = same_judged
