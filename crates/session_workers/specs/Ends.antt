-- What contracts say of the ends of sessions, and of the keeper's.
use Rattle.std.specs.Prelude.{◌≡◌, ℕ, ◌+◌, ◌<◌, Bool, true, List, [], ◌∷◌, ◌++◌, Option, Some, None, Result, Ok, Err, vec_len, All}
use Rattle.msg_admin.specs.declared.reply.Reply.{Reply}
use Rattle.msg_admin.specs.declared.reply.Reply.TheVariants.{Marked, Ticked}
use Rattle.audit_trail.specs.declared.event.Event.{Event}
use Rattle.audit_trail.specs.declared.event.Event.TheVariants.{Ask, Mark, Tick}
use Rattle.request_handlers.specs.Receipt.{ReceiptValue}
use Rattle.request_handlers.specs.Seats.{SeatValue}
use Rattle.session_pool.specs.declared.session.SessionEnd.{SessionEnd}
use Rattle.session_pool.specs.declared.end_reason.EndReason.{EndReason}
use Rattle.session_pool.specs.declared.end_reason.EndReason.TheVariants.{Closed}
use Rattle.session_pool.specs.declared.steps.Step.{Step}
use Rattle.session_pool.specs.Steps.{step_event}

-- a seat that was fresh has risen by the number of the end's receipts
abbrev pub HasRisen : SessionEnd SeatValue → Type 0
HasRisen end = end.seat.count ≡ vec_len end.receipts

-- ---- the keeper

-- it asks nothing: it tells the time, and has markers written
abbrev pub IsOfKeeper : Event → Type 0
IsOfKeeper (Ask caller client request) = ⊥
IsOfKeeper Mark = Unit {0}
IsOfKeeper (Tick moment) = Unit {0}

-- how many markers a reply says to be pending still
abbrev pub markers_left : Reply → ℕ
markers_left (Marked left) = left
markers_left (Ticked left) = left
markers_left reply = 0

-- a step that was taken adds the receipt of its event, and tells what its reply left; another adds
-- none
abbrev pub Adds : Step → List ReceiptValue → List ReceiptValue → Result ℕ EndReason → Type 0
Adds step old new (Ok left) =
    (r : ReceiptValue) × (new ≡ old ++ r ∷ []) × (r.event ≡ step_event step)
    × (left ≡ markers_left r.reply)
Adds step old new (Err why) = new ≡ old

-- why a keeper ends after a step
abbrev pub why_of : Result ℕ EndReason → EndReason
why_of (Ok left) = Closed
why_of (Err why) = why

-- From the first state the steps have come to this one, each given in the state that the one before
-- left. These are the receipts of those that were taken, in order: each holds the event of its
-- step, and what its reply says to be pending is told.
pub data Came {S : Type 0} (gives : S → Bool → Option Step → S → Type 0)
    (told : S → Result ℕ EndReason → S) (first : S)
    : List ReceiptValue → S → Type 0 where
  Begun : Came gives told first [] first
  Taken : (rs : List ReceiptValue) (r : ReceiptValue) (was given : S) (done : Bool) (step : Step)
      → Came gives told first rs was
      → gives was done (Some step) given → r.event ≡ step_event step
      → Came gives told first (rs ++ r ∷ []) (told given (Ok (markers_left r.reply)))
  Untaken : (rs : List ReceiptValue) (was given : S) (done : Bool) (step : Step) (why : EndReason)
      → Came gives told first rs was
      → gives was done (Some step) given → Came gives told first rs (told given (Err why))

-- All steps from the first state on, to where none is given, or to one that wasn't taken, where the
-- keeper halts at that: so many receipts came of them, and for this reason the keeper ends.
pub data Ran {S : Type 0} (gives : S → Bool → Option Step → S → Type 0)
    (told : S → Result ℕ EndReason → S) (halts : Bool) (first : S)
    : List ReceiptValue → EndReason → Type 0 where
  NoStep : (rs : List ReceiptValue) (was later : S) (done : Bool)
      → Came gives told first rs was → gives was done None later
      → Ran gives told halts first rs Closed
  Halted : (rs : List ReceiptValue) (was given : S) (done : Bool) (step : Step) (why : EndReason)
      → Came gives told first rs was
      → gives was done (Some step) given → halts ≡ true → Ran gives told halts first rs why

-- the end of a keeper that did these steps
abbrev pub IsOfSteps : {S : Type 0} → (S → Bool → Option Step → S → Type 0)
    → (S → Result ℕ EndReason → S) → Bool → S → SessionEnd SeatValue → Type 0
IsOfSteps gives told halts first end = Ran gives told halts first end.receipts.items end.why

-- the end of a keeper, whatever its steps
abbrev pub AsksNothing : SessionEnd SeatValue → Type 0
AsksNothing end = All (λ (r : ReceiptValue). IsOfKeeper r.event) end.receipts.items

-- ---- all ends

-- the session asked something that was answered
abbrev pub HasReceipt : SessionEnd SeatValue → Type 0
HasReceipt end = 0 < vec_len end.receipts

-- The ends of those sessions that have a receipt, and after them that of the keeper. Of a session
-- without a receipt nothing is kept.
pub record AreEnds (IsKeepers : SessionEnd SeatValue → Type 0) (ends : List (SessionEnd SeatValue))
    : Type 0 where
  pub sessions : List (SessionEnd SeatValue)
  pub keeper : SessionEnd SeatValue
  pub are : ends ≡ sessions ++ keeper ∷ []
  pub risen : All HasRisen sessions
  pub asked : All HasReceipt sessions
  pub kept : HasRisen keeper × IsKeepers keeper

-- a session more has ended: its end is kept if it has a receipt, and counted among the others if it
-- has none
pub record AddsSession (kept kept' : List (SessionEnd SeatValue)) (others others' : ℕ)
    (end : SessionEnd SeatValue) : Type 0 where
  pub keeps : HasReceipt end → (kept' ≡ kept ++ end ∷ []) × (others' ≡ others)
  pub counts : vec_len end.receipts ≡ 0 → (kept' ≡ kept) × (others' ≡ others + 1)
