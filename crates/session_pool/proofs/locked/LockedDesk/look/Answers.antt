use Rattle.std.proofs.Common.{refl, rules}
use Rattle.session_pool.proofs.locked.LockedDesk.look.Goals as goal

pub returns : goal.returns
returns g c = (c.core-core.result.now, record { settings = search rules; history = c.trail-history.ensures.history }, (c.core-core.result, c.look.ensures, refl))
