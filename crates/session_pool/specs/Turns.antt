-- What one frame comes to.
use Rattle.std.specs.Prelude.{◌≡◌, ◌≤◌, ℕ, ℤ, min, Bool, true, List, [], ◌∷◌, ◌++◌, length, Option, None, Result, Ok, Err, ◌⊎◌}
use Rattle.std.specs.Io.KnownBytes.{Appends}
use Rattle.wire_types.specs.declared.fault.WriteFault.{WriteFault}
use Rattle.wire_types.specs.declared.fault.WriteFault.TheVariants as faults
use Rattle.msg_admin.specs.Request.{request_at}
use Rattle.msg_admin.specs.Response.{response, IsTooLong}
use Rattle.msg_admin.specs.Versions.{unsupported_response}
use Rattle.frame_streams.specs.declared.frame.Came.{Came}
use Rattle.frame_streams.specs.Frames.{IsOf}
use Rattle.audit_trail.specs.declared.event.Event.{Event}
use Rattle.request_handlers.specs.declared.stop.Stop.{Stop}
use Rattle.request_handlers.specs.Receipt.{ReceiptValue}
use Rattle.sasl_login.specs.declared.login.SessionState.{SessionState}
use Rattle.sasl_login.specs.declared.login.SessionState.TheVariants.{Known}
use Rattle.settings_text.specs.declared.document.User.{User}
use Rattle.session_pool.specs.declared.begin.Begun.{Begun}
use Rattle.session_pool.specs.declared.begin.Begun.TheVariants as begun
use Rattle.session_pool.specs.declared.respond.SessionAction.{SessionAction}
use Rattle.session_pool.specs.declared.respond.SessionAction.TheVariants as outcome
use Rattle.session_pool.specs.declared.end_reason.EndReason.{EndReason}
use Rattle.session_pool.specs.declared.end_reason.EndReason.TheVariants as why
use Rattle.session_pool.specs.Asks.{Setting, Step, Tells, Submits, Refuses, Garbles, longest_before_login, logs_in, step_if_readable, step_of}

-- so many bytes a frame may have that is kept, where none has more than the limit
abbrev pub most_kept : List User → ℕ → SessionState → ℕ
most_kept users limit (Known k) = limit
most_kept users limit s = min limit (longest_before_login users)

-- this came of the frame
abbrev pub CameOf : Setting → ℕ → SessionState → Came → List ℕ → Type 0
CameOf g limit s came frame = (length frame ≤ limit) × IsOf (most_kept g.users limit s) came frame

-- ---- what comes of a frame

-- what a frame leads to, of which this came, as far as its first bytes say it
abbrev pub IsBegun : Setting → SessionState → Came → List ℕ → Begun → Type 0
IsBegun g s came frame (begun.OtherVersion correlation) =
    step_of g s frame ≡ Tells (unsupported_response correlation) s
IsBegun g s came frame begun.Unserved = step_of g s frame ≡ Refuses []
IsBegun g s came frame (begun.Overlong correlation) = step_of g s frame ≡ logs_in correlation None
IsBegun g s came frame begun.Unreadable = step_of g s frame ≡ Garbles
IsBegun g s came frame begun.Whole =
    (came.kept ≡ frame) × (step_of g s frame ≡ step_if_readable g s (request_at frame))

-- an outcome that the session has by itself
abbrev pub Says : Step → SessionAction → Type 0
Says step (outcome.Tells b t) = step ≡ Tells b t
Says step (outcome.Refuses b) = step ≡ Refuses b
Says step outcome.Malformed = step ≡ Garbles
Says step outcome.NoMemory = Unit {0}
Says step _ = ⊥

-- an outcome of a step that leaves these receipts, at a desk that may stop an event so
abbrev pub Meant : (Event → Stop → Bool) → Step → List ReceiptValue → List ReceiptValue
    → SessionAction → Type 0
Meant may_stop step old new (outcome.Tells b t) = (step ≡ Tells b t) × (new ≡ old)
Meant may_stop step old new (outcome.Answers b k) =
    (c : ℤ) × (r : ReceiptValue) × (step ≡ Submits c r.event (Known k)) × (b ≡ response c r.reply)
    × (new ≡ old ++ r ∷ [])
Meant may_stop step old new (outcome.Refuses b) = (step ≡ Refuses b) × (new ≡ old)
Meant may_stop step old new outcome.Malformed = (step ≡ Garbles) × (new ≡ old)
Meant may_stop step old new outcome.NoMemory = new ≡ old
Meant may_stop step old new (outcome.Stopped s) =
    (c : ℤ) × (e : Event) × (t : SessionState) × (step ≡ Submits c e t) × (new ≡ old)
    × (may_stop e s ≡ true)
Meant may_stop step old new (outcome.Unsent f) =
    (c : ℤ) × (r : ReceiptValue) × (t : SessionState) × (step ≡ Submits c r.event t)
    × (new ≡ old ++ r ∷ []) × (f ≡ faults.TooLong → IsTooLong c r.reply)

-- ---- what is written of it

abbrev pub why_of : WriteFault → EndReason
why_of faults.NoMemory = why.NoMemory
why_of faults.TooLong = why.TooLong

-- the bytes were written, and this came of it, or they were not all written
abbrev pub Sends : Option (List ℕ) → Option (List ℕ) → List ℕ → Result SessionState EndReason
    → Result SessionState EndReason → Type 0
Sends held held' bytes next r =
    (done left : List ℕ) × (bytes ≡ done ++ left) × Appends held held' done
    × (((r ≡ next) × (left ≡ [])) ⊎ (r ≡ Err why.WriteFault))

-- The same of a response that is made part after part: memory may be refused for a part.
abbrev pub SendsParts : Option (List ℕ) → Option (List ℕ) → List ℕ → Result SessionState EndReason
    → Result SessionState EndReason → Type 0
SendsParts held held' bytes next r =
    (done left : List ℕ) × (bytes ≡ done ++ left) × Appends held held' done
    × (((r ≡ next) × (left ≡ [])) ⊎ ((r ≡ Err why.WriteFault) ⊎ (r ≡ Err why.NoMemory)))

-- what an outcome writes, and what comes of it
abbrev pub Finishes : Option (List ℕ) → Option (List ℕ) → SessionAction
    → Result SessionState EndReason → Type 0
Finishes held held' (outcome.Tells b t) r = Sends held held' b (Ok t) r
Finishes held held' (outcome.Answers b k) r = SendsParts held held' b (Ok (Known k)) r
Finishes held held' (outcome.Refuses b) r = Sends held held' b (Err why.Login) r
Finishes held held' outcome.Malformed r = (held' ≡ held) × (r ≡ Err why.Malformed)
Finishes held held' outcome.NoMemory r = (held' ≡ held) × (r ≡ Err why.NoMemory)
Finishes held held' (outcome.Stopped s) r = (held' ≡ held) × (r ≡ Err (why.Stopped s))
Finishes held held' (outcome.Unsent f) r = (held' ≡ held) × (r ≡ Err (why_of f))
