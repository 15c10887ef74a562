-- What holds in each world that events reach holds in each core that isn't down.
use Rattle.std.proofs.Common.{sym, subst}
use Rattle.broker_world.specs.World.{World}
use Rattle.request_handlers.specs.Core.{events_of}
use Rattle.broker_laws.specs.Laws.{InReached, InCores}

pub in_cores : (Law : World → Type 0) → InReached Law → InCores Law
in_cores Law law core is up = subst Law (sym (is.history.world up)) (law core.settings (events_of core.trail))
