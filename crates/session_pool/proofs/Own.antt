-- Only who told a password in a frame before asks.
use Rattle.std.proofs.Common.{◌≡◌, ℕ, ℤ, Bool, true, false, List, [], ◌∷◌, ◌++◌, Option, Some, None, Result, Ok, Err, refl, inl, inr, if◌then◌else◌, cond, not, ◌&&◌, nat_lt, length}
use Rattle.wire_types.specs.declared.fault.Malformed.{Malformed}
use Rattle.msg_login.specs.declared.sasl_authenticate.SaslAuthenticateRequest.{SaslAuthenticateRequest}
use Rattle.msg_admin.specs.declared.header.Header.{Header}
use Rattle.msg_admin.specs.declared.request.Request.{Request}
use Rattle.msg_admin.specs.declared.request.Request.TheVariants as requests
use Rattle.msg_admin.specs.Request.{request_at}
use Rattle.msg_admin.specs.Versions.{unsupported_at}
use Rattle.audit_trail.specs.declared.event.Event.{Event}
use Rattle.settings_text.specs.declared.document.User.{User}
use Rattle.sasl_login.specs.declared.login.SessionState.{SessionState}
use Rattle.session_pool.specs.Asks.{Setting, Tells, Refuses, events_then, asks_of, Step, fresh_state, offered_state, known_state, start_of, is_served, is_login, longest_before_login, logs_in, fresh_step, offered_step, step_if_readable, step_by_start_if_any, step_by_version}
use Rattle.session_pool.specs.Frames.{frames_of}
use Rattle.sasl_login.specs.LoginMessage.{is_plain, login_of}
use Rattle.session_pool.specs.Own.{TellsPassword, SomeTells, AreOwn, AsksAreOwn}

-- a frame that asks nothing
passed : (g : Setting) (before : List (List ℕ)) (frame : List ℕ) (frames : List (List ℕ)) (es : List Event) → AreOwn g (before ++ frame ∷ []) frames es → AreOwn g before (frame ∷ frames) es
passed g before frame frames [] h = tt
passed g before frame frames (e ∷ es) h = inr h

-- one frame more has come
told_still : (users : List User) (before : List (List ℕ)) (frame who : List ℕ) → SomeTells users before who → SomeTells users (before ++ frame ∷ []) who
told_still users [] frame who h = absurd h
told_still users (f ∷ before) frame who (inl here) = inl here
told_still users (f ∷ before) frame who (inr later) = inr (told_still users before frame who later)

told_last : (users : List User) (before : List (List ℕ)) (frame who : List ℕ) → TellsPassword users frame who → SomeTells users (before ++ frame ∷ []) who
told_last users [] frame who h = inl h
told_last users (f ∷ before) frame who h = inr (told_last users before frame who h)

-- a frame whose body may be read, or is refused before
begun_so : (g : Setting) (before : List (List ℕ)) (frame : List ℕ) (frames : List (List ℕ)) (a b : Bool) (last : List ℕ) (step : Step) (more : SessionState → List Event)
    → AreOwn g before (frame ∷ frames) (events_then step more) → AreOwn g before (frame ∷ frames) (events_then (cond (not a) (Refuses []) (cond b (Refuses last) step)) more)
begun_so g before frame frames false b last step more h = tt
begun_so g before frame frames true true last step more h = tt
begun_so g before frame frames true false last step more h = h

-- ... by what it starts with
begun_own : (g : Setting) (before : List (List ℕ)) (s : SessionState) (frame : List ℕ) (frames : List (List ℕ)) (o : Option ((ℤ × ℤ) × ℤ))
    → AreOwn g before (frame ∷ frames) (events_then (step_if_readable g s (request_at frame)) (λ t. asks_of g t frames)) → AreOwn g before (frame ∷ frames) (events_then (step_by_start_if_any g s frame o) (λ t. asks_of g t frames))
begun_own g before s frame frames None h = tt
begun_own g before s frame frames (Some x) h =
    begun_so g before frame frames (is_served s x.0.0) (is_login s x.0 && nat_lt (longest_before_login g.users) (length frame)) _ (step_if_readable g s (request_at frame)) (λ t. asks_of g t frames) h

-- ---- once a user is known

known_reads : (g : Setting) (before : List (List ℕ)) (who frame : List ℕ) (frames : List (List ℕ)) (r : Result (Header × Request) Malformed) → request_at frame ≡ r → SomeTells g.users before who
    → AreOwn g (before ++ frame ∷ []) frames (asks_of g (known_state who) frames) → AreOwn g before (frame ∷ frames) (events_then (step_if_readable g (known_state who) r) (λ t. asks_of g t frames))
known_reads g before who frame frames (Ok x) is tells later = inl (record { header = x.0; request = x.1; reads = is; who = who; told = tells; event = refl }, later)
known_reads g before who frame frames (Err e) is tells later = tt

known_goes : (g : Setting) (before : List (List ℕ)) (who frame : List ℕ) (frames : List (List ℕ)) (o : Option ℤ) → SomeTells g.users before who
    → AreOwn g (before ++ frame ∷ []) frames (asks_of g (known_state who) frames) → AreOwn g before (frame ∷ frames) (events_then (step_by_version g (known_state who) frame o) (λ t. asks_of g t frames))
known_goes g before who frame frames (Some c) tells later = passed g before frame frames (asks_of g (known_state who) frames) later
known_goes g before who frame frames None tells later = begun_own g before (known_state who) frame frames (start_of frame) (known_reads g before who frame frames (request_at frame) refl tells later)

known_own : (g : Setting) (before : List (List ℕ)) (who : List ℕ) (frames : List (List ℕ)) → SomeTells g.users before who → AreOwn g before frames (asks_of g (known_state who) frames)
known_own g before who [] tells = tt
known_own g before who (frame ∷ frames) tells = known_goes g before who frame frames (unsupported_at frame) tells (known_own g (before ++ frame ∷ []) who frames (told_still g.users before frame who tells))

-- ---- once the mechanism was agreed on

logged_in : (g : Setting) (before : List (List ℕ)) (frame : List ℕ) (frames : List (List ℕ)) (c : ℤ) (h : Header) (m : SaslAuthenticateRequest) (o : Option (List ℕ))
    → request_at frame ≡ Ok (h, requests.SaslAuthenticate m) → login_of g.users m.auth ≡ o → AreOwn g before (frame ∷ frames) (events_then (logs_in c o) (λ t. asks_of g t frames))
logged_in g before frame frames c h m (Some who) is told =
    passed g before frame frames (asks_of g (known_state who) frames) (known_own g (before ++ frame ∷ []) who frames (told_last g.users before frame who (h, m, is, told)))
logged_in g before frame frames c h m None is told = tt

admitted : (g : Setting) (before : List (List ℕ)) (frame : List ℕ) (frames : List (List ℕ)) (h : Header) (r : Request) → request_at frame ≡ Ok (h, r) → AreOwn g (before ++ frame ∷ []) frames (asks_of g offered_state frames)
    → AreOwn g before (frame ∷ frames) (events_then (offered_step g.listed g.users h.correlation r) (λ t. asks_of g t frames))
admitted g before frame frames h requests.ApiVersions is later = passed g before frame frames (asks_of g offered_state frames) later
admitted g before frame frames h (requests.SaslAuthenticate m) is later = logged_in g before frame frames h.correlation h m (login_of g.users m.auth) is refl
admitted g before frame frames h _ is later = tt

offered_reads : (g : Setting) (before : List (List ℕ)) (frame : List ℕ) (frames : List (List ℕ)) (r : Result (Header × Request) Malformed) → request_at frame ≡ r → AreOwn g (before ++ frame ∷ []) frames (asks_of g offered_state frames)
    → AreOwn g before (frame ∷ frames) (events_then (step_if_readable g offered_state r) (λ t. asks_of g t frames))
offered_reads g before frame frames (Ok x) is later = admitted g before frame frames x.0 x.1 is later
offered_reads g before frame frames (Err e) is later = tt

offered_goes : (g : Setting) (before : List (List ℕ)) (frame : List ℕ) (frames : List (List ℕ)) (o : Option ℤ) → AreOwn g (before ++ frame ∷ []) frames (asks_of g offered_state frames)
    → AreOwn g before (frame ∷ frames) (events_then (step_by_version g offered_state frame o) (λ t. asks_of g t frames))
offered_goes g before frame frames (Some c) later = passed g before frame frames (asks_of g offered_state frames) later
offered_goes g before frame frames None later = begun_own g before offered_state frame frames (start_of frame) (offered_reads g before frame frames (request_at frame) refl later)

offered_own : (g : Setting) (before frames : List (List ℕ)) → AreOwn g before frames (asks_of g offered_state frames)
offered_own g before [] = tt
offered_own g before (frame ∷ frames) = offered_goes g before frame frames (unsupported_at frame) (offered_own g (before ++ frame ∷ []) frames)

-- ---- from the beginning on

chosen : (g : Setting) (before : List (List ℕ)) (frame : List ℕ) (frames : List (List ℕ)) (let_in sent_off : List ℕ) (b : Bool)
    → AreOwn g before (frame ∷ frames) (events_then (if b then Tells let_in offered_state else Refuses sent_off) (λ t. asks_of g t frames))
chosen g before frame frames let_in sent_off true = passed g before frame frames (asks_of g offered_state frames) (offered_own g (before ++ frame ∷ []) frames)
chosen g before frame frames let_in sent_off false = tt

greeted : (g : Setting) (before : List (List ℕ)) (frame : List ℕ) (frames : List (List ℕ)) (c : ℤ) (r : Request) → AreOwn g (before ++ frame ∷ []) frames (asks_of g fresh_state frames)
    → AreOwn g before (frame ∷ frames) (events_then (fresh_step g.listed c r) (λ t. asks_of g t frames))
greeted g before frame frames c requests.ApiVersions later = passed g before frame frames (asks_of g fresh_state frames) later
greeted g before frame frames c (requests.SaslHandshake m) later = chosen g before frame frames _ _ (is_plain m.mechanism)
greeted g before frame frames c _ later = tt

fresh_reads : (g : Setting) (before : List (List ℕ)) (frame : List ℕ) (frames : List (List ℕ)) (r : Result (Header × Request) Malformed) → AreOwn g (before ++ frame ∷ []) frames (asks_of g fresh_state frames)
    → AreOwn g before (frame ∷ frames) (events_then (step_if_readable g fresh_state r) (λ t. asks_of g t frames))
fresh_reads g before frame frames (Ok x) later = greeted g before frame frames x.0.correlation x.1 later
fresh_reads g before frame frames (Err e) later = tt

fresh_goes : (g : Setting) (before : List (List ℕ)) (frame : List ℕ) (frames : List (List ℕ)) (o : Option ℤ) → AreOwn g (before ++ frame ∷ []) frames (asks_of g fresh_state frames)
    → AreOwn g before (frame ∷ frames) (events_then (step_by_version g fresh_state frame o) (λ t. asks_of g t frames))
fresh_goes g before frame frames (Some c) later = passed g before frame frames (asks_of g fresh_state frames) later
fresh_goes g before frame frames None later = begun_own g before fresh_state frame frames (start_of frame) (fresh_reads g before frame frames (request_at frame) later)

fresh_own : (g : Setting) (before frames : List (List ℕ)) → AreOwn g before frames (asks_of g fresh_state frames)
fresh_own g before [] = tt
fresh_own g before (frame ∷ frames) = fresh_goes g before frame frames (unsupported_at frame) (fresh_own g (before ++ frame ∷ []) frames)

pub own : (g : Setting) (n limit : ℕ) (input : List ℕ) → AsksAreOwn g n limit input
own g n limit input = fresh_own g [] (frames_of n limit input).frames
