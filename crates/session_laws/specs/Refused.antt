-- What comes after a wrong password (Kafka protocol guide, "SASL Authentication Sequence"): the
-- broker closes the connection.
use Rattle.std.specs.Prelude.{◌≡◌, ℕ, Bool, false, not, filter, List, [], ◌∷◌, None, is_none, Result, Ok, Err}
use Rattle.wire_types.specs.declared.fault.Malformed.{Malformed}
use Rattle.msg_login.specs.declared.sasl_authenticate.SaslAuthenticateRequest.{SaslAuthenticateRequest}
use Rattle.msg_admin.specs.declared.header.Header.{Header}
use Rattle.msg_admin.specs.declared.request.Request.{Request}
use Rattle.msg_admin.specs.declared.request.Request.TheVariants as requests
use Rattle.msg_admin.specs.Request.{request_at}
use Rattle.audit_trail.specs.declared.event.Event.{Event}
use Rattle.request_handlers.specs.Receipt.{ReceiptValue}
use Rattle.settings_text.specs.declared.document.User.{User}
use Rattle.sasl_login.specs.declared.login.SessionState.{SessionState}
use Rattle.sasl_login.specs.LoginMessage.{login_of}
use Rattle.session_pool.specs.Asks.{Setting, asks_of, offered_state}

-- which events a session's frames ask, and what is written to them
abbrev pub AskRule : Type 0
AskRule = Setting → SessionState → List (List ℕ) → List Event

abbrev pub TextRule : Type 0
TextRule = Setting → SessionState → List (List ℕ) → List ReceiptValue → List ℕ

-- the frame is a login that logs nobody in
abbrev pub IsRefused : List User → List ℕ → Type 0
IsRefused users frame =
    (h : Header) × (m : SaslAuthenticateRequest)
    × (request_at frame ≡ Ok (h, requests.SaslAuthenticate m)) × (login_of users m.auth ≡ None)

-- whatever frames come after a wrong password, they ask nothing, and nothing is written to them
pub record WrongPasswordIsLast (asks : AskRule) (text : TextRule) : Type 0 where
  pub asked : (g : Setting) (frame : List ℕ) (later : List (List ℕ)) → IsRefused g.users frame
      → asks g offered_state (frame ∷ later) ≡ []
  pub written : (g : Setting) (frame : List ℕ) (later : List (List ℕ)) (rs : List ReceiptValue)
      → IsRefused g.users frame
      → text g offered_state (frame ∷ later) rs ≡ text g offered_state (frame ∷ []) []

-- ---- wrong

abbrev pub logs_nobody_in : List User → Result (Header × Request) Malformed → Bool
logs_nobody_in users (Ok (h, requests.SaslAuthenticate m)) = is_none (login_of users m.auth)
logs_nobody_in users (Ok (h, request)) = false
logs_nobody_in users (Err e) = false

-- a client may try again after a wrong password
abbrev pub asks_after_refusals : AskRule
asks_after_refusals g s frames =
    asks_of g s
    (filter (λ (frame : List ℕ). not (logs_nobody_in g.users (request_at frame))) frames)
