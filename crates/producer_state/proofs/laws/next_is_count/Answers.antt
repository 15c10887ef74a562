use Rattle.producer_state.proofs.Accepting.{next_is_count}
use Rattle.producer_state.proofs.laws.next_is_count.Goals as goal

pub returns : goal.returns
returns c = next_is_count
