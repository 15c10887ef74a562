-- Whose asks a session's are (RFC 4616; Kafka protocol guide, "SASL Authentication Sequence").
use Rattle.std.specs.Prelude.{◌≡◌, ℕ, List, [], ◌∷◌, ◌++◌, Some, Ok, ◌⊎◌}
use Rattle.msg_login.specs.declared.sasl_authenticate.SaslAuthenticateRequest.{SaslAuthenticateRequest}
use Rattle.msg_admin.specs.declared.header.Header.{Header}
use Rattle.msg_admin.specs.declared.request.Request.{Request}
use Rattle.msg_admin.specs.declared.request.Request.TheVariants.{SaslAuthenticate}
use Rattle.msg_admin.specs.Request.{request_at}
use Rattle.audit_trail.specs.declared.event.Event.{Event}
use Rattle.audit_trail.specs.declared.event.Event.TheVariants.{Ask}
use Rattle.settings_text.specs.declared.document.User.{User}
use Rattle.session_pool.specs.Asks.{Setting, asked_events, fresh_state}
use Rattle.session_pool.specs.Frames.{frames_of}
use Rattle.sasl_login.specs.LoginMessage.{login_of}

-- the frame tells a user's password, whose principal this is
abbrev pub TellsPassword : List User → List ℕ → List ℕ → Type 0
TellsPassword users frame who =
    (h : Header) × (m : SaslAuthenticateRequest) × (request_at frame ≡ Ok (h, SaslAuthenticate m))
    × (login_of users m.auth ≡ Some who)

-- one of the frames does
abbrev pub SomeTells : List User → List (List ℕ) → List ℕ → Type 0
SomeTells users [] who = ⊥
SomeTells users (frame ∷ frames) who = TellsPassword users frame who ⊎ SomeTells users frames who

-- the event is the frame's own request, asked from the host that calls by whoever told the password
-- in a frame before it
pub record IsOwn (g : Setting) (before : List (List ℕ)) (frame : List ℕ) (e : Event) : Type 0 where
  pub header : Header
  pub request : Request
  pub reads : request_at frame ≡ Ok (header, request)
  pub who : List ℕ
  pub told : SomeTells g.users before who
  pub event : e ≡ Ask (record { who = who; host = g.host }) header.client request

-- After the frames of before, the events come from these: from some of them one each, in their
-- order.
abbrev pub AreOwn : Setting → List (List ℕ) → List (List ℕ) → List Event → Type 0
AreOwn g before frames [] = Unit {0}
AreOwn g before [] (e ∷ es) = ⊥
AreOwn g before (frame ∷ frames) (e ∷ es) =
    (IsOwn g before frame e × AreOwn g (before ++ frame ∷ []) frames es)
    ⊎ AreOwn g (before ++ frame ∷ []) frames (e ∷ es)

-- only a user who told the right password asks, from then on and as itself
abbrev pub AsksAreOwn : Setting → ℕ → ℕ → List ℕ → Type 0
AsksAreOwn g n limit input =
    AreOwn g [] (frames_of n limit input).frames (asked_events g n limit fresh_state input)
