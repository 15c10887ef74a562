-- What a session promises, over a reader and a writer that tell their bytes.
use Rattle.std.specs.Prelude.{◌≡◌, ℕ, ℤ, suc, Bool, true, false, List, [], ◌∷◌, ◌++◌, Option, Result, Ok, Err, ◌⊎◌}
use Rattle.std.specs.Io.KnownBytes.{Appends}
use Rattle.msg_admin.specs.Response.{IsTooLong}
use Rattle.audit_trail.specs.declared.event.Event.{Event}
use Rattle.request_handlers.specs.declared.stop.Stop.{Stop}
use Rattle.request_handlers.specs.Receipt.{ReceiptValue}
use Rattle.sasl_login.specs.declared.login.SessionState.{SessionState}
use Rattle.session_pool.specs.declared.end_reason.EndReason.{EndReason}
use Rattle.session_pool.specs.declared.end_reason.EndReason.TheVariants as why
use Rattle.session_pool.specs.Asks.{Setting, asked_events, text, ending_why, events_held, fresh_state}

-- the causes that stand in the input
abbrev pub is_cause : EndReason → Bool
is_cause why.Closed = true
is_cause why.Cut = true
is_cause why.BadFrame = true
is_cause why.Malformed = true
is_cause why.Login = true
is_cause why.Limit = true
is_cause _ = false

-- the ends at which not all may be written
abbrev pub is_broken : EndReason → Bool
is_broken why.WriteFault = true
is_broken why.NoMemory = true
is_broken why.TooLong = true
is_broken _ = false

-- the first of the events without a receipt is one that the desk may answer so
abbrev pub IsStopped : (Event → Stop → Bool) → List Event → Stop → Type 0
IsStopped may_stop [] stop = ⊥
IsStopped may_stop (e ∷ es) stop = may_stop e stop ≡ true

-- the last receipt's reply is too long to be sent
abbrev pub EndsTooLong : List ReceiptValue → Type 0
EndsTooLong receipts =
    (front : List ReceiptValue) × (r : ReceiptValue) × (c : ℤ) × (receipts ≡ front ++ r ∷ [])
    × IsTooLong c r.reply

-- What stands after the end of a session of at most n frames that read these bytes, whose asks are
-- those of its receipts and these later ones. Of refused memory and of a failed write the bytes
-- tell nothing.
abbrev pub HasCause : Setting → ℕ → ℕ → SessionState → List ℕ → List ReceiptValue → List Event
    → EndReason → Type 0
HasCause g n limit s read receipts later why.ReadFault =
    (later ≡ [])
    × ((ending_why g n limit s read ≡ why.Closed) ⊎ (ending_why g n limit s read ≡ why.Cut))
HasCause g n limit s read receipts later why.WriteFault = Unit {0}
HasCause g n limit s read receipts later (why.Stopped x) = IsStopped g.may_stop later x
HasCause g n limit s read receipts later why.NoMemory = Unit {0}
HasCause g n limit s read receipts later why.TooLong = EndsTooLong receipts
HasCause g n limit s read receipts later w = (later ≡ []) × (ending_why g n limit s read ≡ w)

-- a session of at most n frames that read this, held these receipts, wrote this and ended so
pub record Served (g : Setting) (n limit : ℕ) (s : SessionState) (read : List ℕ)
    (receipts : List ReceiptValue) (done : List ℕ) (w : EndReason) : Type 0 where
  -- what the receipts hold begins what these bytes ask, and is all of it where the cause stands in
  -- them
  pub later : List Event
  pub asked : asked_events g n limit s read ≡ events_held receipts ++ later
  pub cause : HasCause g n limit s read receipts later w
  -- what was written begins their text, and is all of it unless a write failed, memory was refused
  -- or a reply was too long
  pub left : List ℕ
  pub wrote : text g n limit s read receipts ≡ done ++ left
  pub whole : is_broken w ≡ false → left ≡ []

-- the cause stands in the whole input, and the receipts hold all that it asks
pub record Stands (g : Setting) (n limit : ℕ) (s : SessionState) (input : List ℕ)
    (receipts : List ReceiptValue) (w : EndReason) : Type 0 where
  pub asked : is_cause w ≡ true → asked_events g n limit s input ≡ events_held receipts
  pub cause : is_cause w ≡ true → ending_why g n limit s input ≡ w

abbrev pub Ended : Setting → ℕ → ℕ → SessionState → List ℕ → List ℕ → List ReceiptValue → List ℕ
    → EndReason → Type 0
Ended g n limit s read rest receipts done w =
    Served g n limit s read receipts done w × Stands g n limit s (read ++ rest) receipts w

-- what a session that read these bytes held and wrote, and why it ended
abbrev pub SessionOf : Setting → ℕ → ℕ → Option (List ℕ) → Option (List ℕ) → List ReceiptValue
    → EndReason → List ℕ → List ℕ → Type 0
SessionOf g n limit held held' receipts w read rest =
    (done : List ℕ) × Appends held held' done
    × Ended g n limit fresh_state read rest receipts done w

-- ---- one turn of it

-- one that goes on: what follows is what the rest asks and writes
pub record Goes (g : Setting) (limit : ℕ) (s : SessionState) (input : List ℕ)
    (receipts : List ReceiptValue) (done : List ℕ) (t : SessionState) (rest : List ℕ) : Type 0 where
  pub asked : (n : ℕ)
      → asked_events g (suc n) limit s input ≡ events_held receipts ++ asked_events g n limit t rest
  pub wrote : (n : ℕ) (more : List ReceiptValue)
      → text g (suc n) limit s input (receipts ++ more) ≡ done ++ text g n limit t rest more
  pub cause : (n : ℕ) → ending_why g (suc n) limit s input ≡ ending_why g n limit t rest

abbrev pub Turned : Setting → ℕ → SessionState → List ℕ → List ℕ → List ReceiptValue → List ℕ
    → Result SessionState EndReason → Type 0
Turned g limit s read rest added done (Ok t) =
    (tail : List ℕ) → Goes g limit s (read ++ tail) added done t tail
Turned g limit s read rest added done (Err w) =
    (n : ℕ) → Ended g (suc n) limit s read rest added done w

-- what a turn that read these bytes adds to the receipts and to the writer
abbrev pub TurnsOn : Setting → ℕ → SessionState → Option (List ℕ) → Option (List ℕ)
    → List ReceiptValue → List ReceiptValue → Result SessionState EndReason → List ℕ → List ℕ
    → Type 0
TurnsOn g limit s held held' old new r read rest =
    (added : List ReceiptValue) × (done : List ℕ) × (new ≡ old ++ added) × Appends held held' done
    × Turned g limit s read rest added done r
