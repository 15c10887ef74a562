use Rattle.std.proofs.Common.{arith, ap, length}
use Rattle.commands.proofs.OpenLemmas.{opens_whole}
use Rattle.commands.proofs.open.open_whole.Goals as goal

pub returns-in-Ok-clause-opens : goal.returns-in-Ok-clause-opens
returns-in-Ok-clause-opens g c =
    opens_whole _ _ _ _ c.in-Ok.input.items _ c.as_slice.ensures.value c.in-Ok.ensures.whole (omega (arith, c.in-Ok.ensures.within, c.as_slice.ensures.len, ap length c.as_slice.ensures.value)) c.open_settings.ensures.opens
