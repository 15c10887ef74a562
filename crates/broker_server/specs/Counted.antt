-- What the numbers of the last line count.
use Rattle.std.specs.Prelude.{◌≡◌, ℕ, ◌+◌, List, Vec, length, map}
use Rattle.std.specs.declared.alloc.Global.{Global}
use Rattle.settings.specs.declared.settings.Settings.{Settings}
use Rattle.audit_trail.specs.Trail.{refusal_count}
use Rattle.request_handlers.specs.Core.{CoreValue}
use Rattle.request_handlers.specs.Receipt.{ReceiptValue}
use Rattle.request_handlers.specs.Seats.{SeatValue}
use Rattle.session_pool.specs.Desks.{IsDeskCore}
use Rattle.session_pool.specs.declared.session.SessionEnd.{SessionEnd}
use Rattle.session_workers.specs.Ends.{AreEnds, AsksNothing}
use Rattle.session_workers.specs.declared.settlement.Settled.{Settled}
use Rattle.session_workers.specs.Settle.{Settles}

-- the receipts of each end
abbrev pub receipts_of : List (SessionEnd SeatValue) → List (Vec ReceiptValue Global)
receipts_of ends = map (λ (end : SessionEnd SeatValue). end.receipts) ends

-- So many sessions ended: those whose ends are kept, the keeper's left out, and others, which have
-- no receipt. The receipts of all ends are settled with a core of these settings, of whose trail
-- these are the numbers.
pub record IsCounted (settings : Settings) (sessions : ℕ) (settled : Settled) : Type 0 where
  pub ends : List (SessionEnd SeatValue)
  pub others : ℕ
  pub core : CoreValue
  pub are : AreEnds AsksNothing ends
  pub many : sessions + 1 ≡ length ends + others
  pub opened : IsDeskCore settings core
  pub settles : Settles core.trail (receipts_of ends)
  pub counts : settled ≡ record { events = length core.trail; refusals = refusal_count core.trail }
