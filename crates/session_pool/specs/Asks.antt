-- What a session asks and writes, and why it ends: functions of the bytes that come in.
use Rattle.std.specs.Prelude.{ℕ, ℤ, pos, ◌+◌, max, nat_lt, Bool, true, false, not, ◌&&◌, ◌||◌, List, [], ◌∷◌, ◌++◌, length, map, Option, Some, None, option_map, Result, Ok, Err, if◌then◌else◌}
use Rattle.std.specs.Ordering.{int_eq}
use Rattle.std.specs.Result.{result_ok}
use Rattle.wire_types.specs.declared.fault.Malformed.{Malformed}
use Rattle.wire_types.specs.declared.error_code.ErrorCode.TheVariants as codes
use Rattle.msg_login.specs.SaslHandshake.{handshake_reply}
use Rattle.msg_login.specs.SaslAuthenticate.{authenticate_reply}
use Rattle.msg_admin.specs.declared.header.Header.{Header}
use Rattle.msg_admin.specs.declared.request.Request.{Request}
use Rattle.msg_admin.specs.declared.request.Request.TheVariants as requests
use Rattle.msg_admin.specs.declared.reply.Reply.TheVariants as replies
use Rattle.msg_admin.specs.Request.{request_at}
use Rattle.msg_admin.specs.Response.{response}
use Rattle.msg_admin.specs.Versions.{header_start, unsupported_at, unsupported_response}
use Rattle.audit_trail.specs.declared.event.Event.{Event}
use Rattle.audit_trail.specs.declared.event.Event.TheVariants.{Ask}
use Rattle.request_handlers.specs.declared.stop.Stop.{Stop}
use Rattle.request_handlers.specs.Receipt.{ReceiptValue}
use Rattle.settings_text.specs.declared.document.User.{User}
use Rattle.session_pool.specs.declared.context.LoginContext.{LoginContext}
use Rattle.sasl_login.specs.declared.login.SessionState.{SessionState}
use Rattle.sasl_login.specs.declared.login.SessionState.TheVariants.{Fresh, Offered, Known}
use Rattle.session_pool.specs.declared.end_reason.EndReason.{EndReason}
use Rattle.session_pool.specs.declared.end_reason.EndReason.TheVariants.{Malformed as IsMalformed, Login}
use Rattle.session_pool.specs.Frames.{frames_of}
use Rattle.sasl_login.specs.declared.listed.ListedVersions.{ListedVersions}
use Rattle.sasl_login.specs.Listed.{versions_listed}
use Rattle.sasl_login.specs.LoginMessage.{is_plain, login_of, longest_login}

-- the users who may log in, how versions are listed before that, the host that calls, and whether
-- the desk may answer an event by a stop
pub record Setting : Type 0 where
  pub users : List User
  pub listed : ListedVersions
  pub host : List ℕ
  pub may_stop : Event → Stop → Bool

-- the setting of a login at a desk
abbrev pub setting_of : LoginContext → (Event → Stop → Bool) → Setting
setting_of login may_stop =
    record {
      users = login.users.now;
      listed = login.listed;
      host = login.host.now;
      may_stop = may_stop;
    }

-- ---- one frame (Kafka protocol guide, "SASL Authentication Sequence")

-- what a frame leads to
pub data Step : Type 0 where
  -- the session answers by itself, and goes on
  Tells : List ℕ → SessionState → Step
  -- an event for the core, whose reply is sent under the correlation id
  Submits : ℤ → Event → SessionState → Step
  -- the session ends for its login, after this answer or none
  Refuses : List ℕ → Step
  -- the session ends without an answer, for what is no request
  Garbles : Step

abbrev pub fresh_state : SessionState
fresh_state = Fresh (record { 0 = tt })

abbrev pub offered_state : SessionState
offered_state = Offered (record { 0 = tt })

abbrev pub known_state : List ℕ → SessionState
known_state who = Known (record { who = who })

abbrev pub tells_versions : ListedVersions → ℤ → SessionState → Step
tells_versions listed correlation s =
    Tells (response correlation (replies.ApiVersions (versions_listed listed))) s

abbrev pub mechanism_step : ℤ → List ℕ → Step
mechanism_step correlation mechanism =
    if is_plain mechanism
    then Tells (response correlation (replies.SaslHandshake (handshake_reply codes.None)))
    offered_state
    else Refuses
    (response correlation
    (replies.SaslHandshake (handshake_reply codes.UnsupportedSaslMechanism)))

abbrev pub logs_in : ℤ → Option (List ℕ) → Step
logs_in correlation (Some who) =
    Tells (response correlation (replies.SaslAuthenticate (authenticate_reply codes.None)))
    (known_state who)
logs_in correlation None =
    Refuses
    (response correlation
    (replies.SaslAuthenticate (authenticate_reply codes.SaslAuthenticationFailed)))

-- before a mechanism was agreed on
abbrev pub fresh_step : ListedVersions → ℤ → Request → Step
fresh_step listed correlation requests.ApiVersions = tells_versions listed correlation fresh_state
fresh_step listed correlation (requests.SaslHandshake m) = mechanism_step correlation m.mechanism
fresh_step listed correlation _ = Refuses []

-- before a password was told
abbrev pub offered_step : ListedVersions → List User → ℤ → Request → Step
offered_step listed users correlation requests.ApiVersions =
    tells_versions listed correlation offered_state
offered_step listed users correlation (requests.SaslAuthenticate m) =
    logs_in correlation (login_of users m.auth)
offered_step listed users correlation _ = Refuses []

-- only who is known asks, and as itself
abbrev pub known_step : List ℕ → List ℕ → Header → Request → Step
known_step who host h r =
    Submits h.correlation (Ask (record { who = who; host = host }) h.client r) (known_state who)

-- what a request leads to
abbrev pub request_step : Setting → SessionState → Header → Request → Step
request_step g (Fresh f) h r = fresh_step g.listed h.correlation r
request_step g (Offered o) h r = offered_step g.listed g.users h.correlation r
request_step g (Known k) h r = known_step k.who g.host h r

abbrev pub step_if_readable : Setting → SessionState → Result (Header × Request) Malformed → Step
step_if_readable g s (Ok x) = request_step g s x.0 x.1
step_if_readable g s (Err e) = Garbles

-- ---- by its first bytes, before a body is read

-- what each request header starts with: the key and the version of its api, and the correlation id
abbrev pub start_of : List ℕ → Option ((ℤ × ℤ) × ℤ)
start_of frame = option_map (λ x. x.0) (result_ok (header_start.reading frame))

-- Before a login ApiVersions (18) is served, and SaslHandshake (17) or SaslAuthenticate (36); after
-- it each api is.
abbrev pub is_served : SessionState → ℤ → Bool
is_served (Fresh f) key = int_eq key (pos 18) || int_eq key (pos 17)
is_served (Offered o) key = int_eq key (pos 18) || int_eq key (pos 36)
is_served (Known k) key = true

-- a SaslAuthenticate in its version 0, where it is served
abbrev pub is_login : SessionState → ℤ × ℤ → Bool
is_login (Offered o) names = int_eq names.0 (pos 36) && int_eq names.1 (pos 0)
is_login s names = false

-- The longest frame whose body is read before a login. A header has 10 bytes at most, and 32,767 of
-- a client's name. After it stand nothing, or 2 bytes and 32,767 of a mechanism's name, or 4 bytes
-- and a user's message.
abbrev pub longest_before_login : List User → ℕ
longest_before_login users = max 65546 (32781 + longest_login users)

-- What a frame leads to by what it starts with: what isn't served is refused without an answer, and
-- a login that is longer than any, as a wrong password is.
abbrev pub step_by_start : Setting → SessionState → List ℕ → (ℤ × ℤ) × ℤ → Step
step_by_start g s frame x =
    if not (is_served s x.0.0) then Refuses []
    else if is_login s x.0 && nat_lt (longest_before_login g.users) (length frame)
    then logs_in x.1 None
    else step_if_readable g s (request_at frame)

abbrev pub step_by_start_if_any : Setting → SessionState → List ℕ → Option ((ℤ × ℤ) × ℤ) → Step
step_by_start_if_any g s frame (Some x) = step_by_start g s frame x
step_by_start_if_any g s frame None = Garbles

-- at any time a client is told which version of ApiVersions is served
abbrev pub step_by_version : Setting → SessionState → List ℕ → Option ℤ → Step
step_by_version g s frame (Some correlation) = Tells (unsupported_response correlation) s
step_by_version g s frame None = step_by_start_if_any g s frame (start_of frame)

-- what a frame leads to
abbrev pub step_of : Setting → SessionState → List ℕ → Step
step_of g s frame = step_by_version g s frame (unsupported_at frame)

-- ---- the frames one after the other

abbrev pub events_then : Step → (SessionState → List Event) → List Event
events_then (Tells b t) more = more t
events_then (Submits c e t) more = e ∷ more t
events_then (Refuses b) more = []
events_then Garbles more = []

-- the events that frames ask
abbrev pub asks_of : Setting → SessionState → List (List ℕ) → List Event
asks_of g s [] = []
asks_of g s (frame ∷ frames) = events_then (step_of g s frame) (λ t. asks_of g t frames)

abbrev pub text_then : Step → (SessionState → List ReceiptValue → List ℕ) → List ReceiptValue
    → List ℕ
text_then (Tells b t) more rs = b ++ more t rs
text_then (Submits c e t) more [] = []
text_then (Submits c e t) more (r ∷ rs) = response c r.reply ++ more t rs
text_then (Refuses b) more rs = b
text_then Garbles more rs = []

-- what is written to frames: own answers, and the reply of the next receipt, up to the first event
-- without one
abbrev pub text_of : Setting → SessionState → List (List ℕ) → List ReceiptValue → List ℕ
text_of g s [] rs = []
text_of g s (frame ∷ frames) rs = text_then (step_of g s frame) (λ t. text_of g t frames) rs

abbrev pub why_then : Step → (SessionState → EndReason) → EndReason
why_then (Tells b t) more = more t
why_then (Submits c e t) more = more t
why_then (Refuses b) more = Login
why_then Garbles more = IsMalformed

-- the cause that ends frames, after which this one stands
abbrev pub end_of : Setting → SessionState → List (List ℕ) → EndReason → EndReason
end_of g s [] last = last
end_of g s (frame ∷ frames) last = why_then (step_of g s frame) (λ t. end_of g t frames last)

-- ---- a whole input, of which so many frames are served

abbrev pub asked_events : Setting → ℕ → ℕ → SessionState → List ℕ → List Event
asked_events g n limit s input = asks_of g s (frames_of n limit input).frames

abbrev pub text : Setting → ℕ → ℕ → SessionState → List ℕ → List ReceiptValue → List ℕ
text g n limit s input rs = text_of g s (frames_of n limit input).frames rs

abbrev pub ending_why : Setting → ℕ → ℕ → SessionState → List ℕ → EndReason
ending_why g n limit s input =
    end_of g s (frames_of n limit input).frames (frames_of n limit input).why

abbrev pub events_held : List ReceiptValue → List Event
events_held rs = map (λ (r : ReceiptValue). r.event) rs
