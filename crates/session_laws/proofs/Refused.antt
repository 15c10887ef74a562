-- After a wrong password nothing is asked, and nothing is written; a wrong session goes on.
use Rattle.std.proofs.Common.{◌≡◌, ℕ, ℤ, pos, Bool, true, false, cond, not, ◌&&◌, nat_lt, length, List, [], ◌∷◌, Option, Some, None, Result, Ok, Err, refl, sym, ap, subst, ◌∙◌}
use Rattle.wire_types.specs.declared.fault.Malformed.{Malformed}
use Rattle.wire_types.specs.declared.fault.Malformed.TheVariants.{Unknown}
use Rattle.msg_login.specs.declared.sasl_authenticate.SaslAuthenticateRequest.{SaslAuthenticateRequest}
use Rattle.msg_admin.specs.declared.header.Header.{Header}
use Rattle.msg_admin.specs.declared.request.Request.{Request}
use Rattle.msg_admin.specs.declared.request.Request.TheVariants as requests
use Rattle.msg_admin.specs.Request.{request_at}
use Rattle.msg_admin.specs.Api.{is_flexible, api_at}
use Rattle.msg_admin.specs.ApiKey.{all_keys, key_at}
use Rattle.msg_admin.specs.Bodies.{request_body}
use Rattle.wire_types.specs.Reading.{nat_at, int_at, front_at, utf8_at, many_at, items_at, after_count_at, null_or, after_null_count_at, varint_at, varint_limit, null_or_count, null_count_at, one_less, not_null, required_at}
use Rattle.settings_text.specs.declared.document.User.{User}
use Rattle.sasl_login.specs.declared.listed.ListedVersions.TheVariants.{AsServed}
use Rattle.msg_admin.specs.Versions.{unsupported_at}
use Rattle.msg_admin.proofs.Unsupported.{asked, unread}
use Rattle.audit_trail.specs.declared.event.Event.{Event}
use Rattle.request_handlers.specs.Receipt.{ReceiptValue}
use Rattle.sasl_login.specs.declared.login.SessionState.{SessionState}
use Rattle.sasl_login.specs.LoginMessage.{login_of}
use Rattle.session_pool.specs.Asks.{Setting, Step, Tells, Submits, Refuses, Garbles, asks_of, text_of, events_then, text_then, offered_state, start_of, is_served, is_login, longest_before_login, logs_in, step_if_readable, step_by_start_if_any, step_by_version, step_of}
use Rattle.session_laws.specs.Refused.{WrongPasswordIsLast, asks_after_refusals}

-- the step ends the session
IsLast : Step → Type 0
IsLast (Tells b s) = ⊥
IsLast (Submits c e s) = ⊥
IsLast (Refuses b) = Unit {0}
IsLast Garbles = Unit {0}

none_asked : (step : Step) (more : SessionState → List Event) → IsLast step → events_then step more ≡ []
unfolding IsLast
none_asked (Tells b s) more h = absurd h
none_asked (Submits c e s) more h = absurd h
none_asked (Refuses b) more h = refl
none_asked Garbles more h = refl

none_written : (step : Step) (more : SessionState → List ReceiptValue → List ℕ) (other : SessionState → List ReceiptValue → List ℕ) (rs : List ReceiptValue) → IsLast step → text_then step more rs ≡ text_then step other []
unfolding IsLast
none_written (Tells b s) more other rs h = absurd h
none_written (Submits c e s) more other rs h = absurd h
none_written (Refuses b) more other rs h = refl
none_written Garbles more other rs h = refl

module _ (g : Setting) (frame : List ℕ) (h : Header) (m : SaslAuthenticateRequest) (reads : request_at frame ≡ Ok (h, requests.SaslAuthenticate m)) (nobody : login_of g.users m.auth ≡ None) where
  refused : (c : ℤ) (o : Option (List ℕ)) → o ≡ None → IsLast (logs_in c o)
  unfolding IsLast
  refused c None is = tt
  refused c (Some who) is = let clash : Some who ≡ None = is in cc

  read : (r : Result (Header × Request) Malformed) → r ≡ Ok (h, requests.SaslAuthenticate m) → IsLast (step_if_readable g offered_state r)
  read r is = subst (λ (r : Result (Header × Request) Malformed). IsLast (step_if_readable g offered_state r)) (sym is) (refused h.correlation (login_of g.users m.auth) nobody)

  begun : (a b : Bool) (last : List ℕ) (step : Step) → IsLast step → IsLast (cond (not a) (Refuses []) (cond b (Refuses last) step))
  unfolding IsLast
  begun false b last step h = tt
  begun true true last step h = tt
  begun true false last step h = h

  started : (o : Option ((ℤ × ℤ) × ℤ)) → IsLast (step_by_start_if_any g offered_state frame o)
  unfolding IsLast
  started None = tt
  started (Some x) = begun (is_served offered_state x.0.0) (is_login offered_state x.0 && nat_lt (longest_before_login g.users) (length frame)) _ (step_if_readable g offered_state (request_at frame)) (read (request_at frame) reads)

  versioned : (o : Option ℤ) → unsupported_at frame ≡ o → IsLast (step_by_version g offered_state frame o)
  versioned None is = started (start_of frame)
  versioned (Some c) is = absurd (let clash : Err Unknown ≡ Ok (h, requests.SaslAuthenticate m) = sym (unread frame (Some c) (asked frame (Some c) (sym is))) ∙ reads in cc)

  last : IsLast (step_of g offered_state frame)
  last = versioned (unsupported_at frame) refl

pub wrong_password_is_last : WrongPasswordIsLast asks_of text_of
wrong_password_is_last = record {
  asked = λ g frame later is. none_asked (step_of g offered_state frame) (λ t. asks_of g t later) (last g frame is.0 is.1 is.2 is.3);
  written = λ g frame later rs is. none_written (step_of g offered_state frame) (λ t. text_of g t later) (λ t. text_of g t []) rs (last g frame is.0 is.1 is.2 is.3);
}

-- ---- a wrong session: user 1 has the password 2, and tries 9 first

abbrev one : User
one = record { name = 1 ∷ []; password = 2 ∷ [] }

abbrev setting : Setting
setting = record { users = one ∷ []; listed = AsServed; host = 104 ∷ []; may_stop = λ e s. false }

-- SaslAuthenticate 0, with NUL, the name, NUL and a password
abbrev login_with : ℕ → List ℕ
login_with password = 0 ∷ 36 ∷ 0 ∷ 0 ∷ 0 ∷ 0 ∷ 0 ∷ 1 ∷ 255 ∷ 255 ∷ 0 ∷ 0 ∷ 0 ∷ 4 ∷ 0 ∷ 1 ∷ 0 ∷ password ∷ []

-- Metadata 1, of no topic
abbrev metadata : List ℕ
metadata = 0 ∷ 3 ∷ 0 ∷ 1 ∷ 0 ∷ 0 ∷ 0 ∷ 2 ∷ 255 ∷ 255 ∷ 0 ∷ 0 ∷ 0 ∷ 0 ∷ []

abbrev login_header : Header
login_header = record { key = pos 36; version = pos 0; correlation = pos 1; client = None }

reads_login : (password : ℕ) → request_at (login_with password) ≡ Ok (login_header, requests.SaslAuthenticate (record { auth = 0 ∷ 1 ∷ 0 ∷ password ∷ [] }))
unfolding request_at is_flexible api_at all_keys key_at request_body nat_at int_at front_at null_or after_null_count_at varint_at varint_limit null_or_count null_count_at one_less not_null required_at after_count_at
reads_login password = refl

pub not_after_refusals : ¬ WrongPasswordIsLast asks_after_refusals text_of
unfolding request_at is_flexible api_at all_keys key_at request_body nat_at int_at front_at null_or after_null_count_at varint_at varint_limit null_or_count null_count_at one_less not_null required_at after_count_at many_at items_at unsupported_at utf8_at
not_after_refusals law =
    let clash : ◌≡◌ {A = ℕ} 1 0 = ap (λ (es : List Event). length es) (law.asked setting (login_with 9) (login_with 2 ∷ metadata ∷ []) (login_header, record { auth = 0 ∷ 1 ∷ 0 ∷ 9 ∷ [] }, reads_login 9, refl)) in cc
