use Rattle.producer_state.proofs.Fencing.{fenced}
use Rattle.producer_state.proofs.laws.newer_fences.Goals as goal

pub returns : goal.returns
returns c = fenced
