use Rattle.session_pool.proofs.Own.{own}
use Rattle.session_pool.proofs.laws.asks_are_own.Goals as goal

pub returns : goal.returns
returns c = own
