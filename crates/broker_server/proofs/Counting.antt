-- What the last line counts, put together.
use Rattle.std.proofs.Common.{◌≡◌, ◌≤◌, ◌+◌, ℕ, List, [], ◌∷◌, Vec, Bool, Option, Result, Ok, Err, length, ap, arith, subst}
use Rattle.std.specs.Prelude.{IfOk}
use Rattle.std.specs.declared.alloc.Global.{Global}
use Rattle.std.proofs.lemmas.List.{length-append}
use Rattle.settings.specs.declared.settings.Settings.{Settings}
use Rattle.audit_trail.specs.Trail.{refusal_count}
use Rattle.request_handlers.specs.Core.{CoreValue}
use Rattle.request_handlers.specs.Receipt.{ReceiptValue}
use Rattle.request_handlers.specs.Seats.{SeatValue}
use Rattle.session_pool.specs.Desks.{IsDeskCore}
use Rattle.session_pool.specs.declared.session.SessionEnd.{SessionEnd}
use Rattle.session_pool.specs.declared.end_reason.EndReason.{EndReason}
use Rattle.session_pool.specs.declared.steps.Step.{Step}
use Rattle.session_workers.specs.Ends.{AreEnds, IsOfSteps, AsksNothing}
use Rattle.session_workers.proofs.Keeping.{ask_nothing}
use Rattle.session_workers.specs.declared.sessions.Ended.{Ended}
use Rattle.session_workers.specs.declared.settlement.Settled.{Settled}
use Rattle.session_workers.specs.Settle.{Settles}
use Rattle.broker_server.specs.Counted.{receipts_of, IsCounted}

-- the keeper's is one of them
pub ends_at_least : (ends : List (SessionEnd SeatValue)) → AreEnds AsksNothing ends → 1 ≤ length ends
ends_at_least ends h =
    omega (arith, ap length h.are, length-append h.sessions (h.keeper ∷ []))

pub counted : (settings : Settings) (core : CoreValue) (ends : List (SessionEnd SeatValue)) (receipts : List (Vec ReceiptValue Global)) (sessions others : ℕ) (settled : Settled)
    → AreEnds AsksNothing ends → sessions + 1 ≡ length ends + others → IsDeskCore settings core → receipts ≡ receipts_of ends
    → Settles core.trail receipts × (settled ≡ record { events = length core.trail; refusals = refusal_count core.trail }) → IsCounted settings sessions settled
counted settings core ends receipts sessions others settled are many opened same (settles, counts) = record {
  ends = ends;
  others = others;
  core = core;
  are = are;
  many = many;
  opened = opened;
  settles = subst (Settles core.trail) same settles;
  counts = counts;
}

-- a keeper that did its steps has asked nothing
pub nothing_asked : {S L E : Type 0} (gives : S → Bool → Option Step → S → Type 0) (told : S → Result ℕ EndReason → S) (halts : Bool) (first : S) (r : Result (Ended L) E)
    → IfOk r (λ (ended : Ended L). AreEnds (IsOfSteps gives told halts first) ended.ends.items) → IfOk r (λ (ended : Ended L). AreEnds AsksNothing ended.ends.items)
nothing_asked gives told halts first (Ok ended) h = ask_nothing gives told halts first ended.ends.items h
nothing_asked gives told halts first (Err e) h = tt
