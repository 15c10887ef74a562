-- How long a request is that is served before a login.
use Rattle.std.proofs.Common.{◌≡◌, ℕ, ℤ, pos, ◌+◌, ◌<◌, ◌≤◌, Bool, true, false, List, [], ◌++◌, length, take, drop, Option, Some, None, Ok, Err, refl, sym, ap, ◌∙◌, subst, arith, ◌⊎◌, inl, inr, append_assoc, cond, length-append, append-nil, length-take-le, length-drop}
use Rattle.std.proofs.lemmas.List.{take-append-drop}
use Rattle.std.proofs.lemmas.Int.{ints}
use Rattle.std.specs.Int.{w16, w32, from_be_bytes, cast_signed}
use Rattle.wire_types.specs.Reading.{Found}
use Rattle.wire_types.specs.Combinators.{◌⨟◌}
use Rattle.wire_types.specs.Schema.{string, nullable_string}
use Rattle.msg_login.specs.declared.sasl_handshake.SaslHandshakeRequest.{SaslHandshakeRequest}
use Rattle.msg_login.specs.declared.sasl_authenticate.SaslAuthenticateRequest.{SaslAuthenticateRequest}
use Rattle.msg_login.specs.SaslHandshake.{sasl_handshake_request}
use Rattle.msg_login.specs.SaslAuthenticate.{sasl_authenticate_request}
use Rattle.std.specs.Prelude.{IsSomeAnd}
use Rattle.std.specs.Option.{option_and_then, option_map}
use Rattle.std.specs.Result.{result_ok}
use Rattle.msg_admin.specs.declared.api_key.ApiKey.{ApiKey}
use Rattle.msg_admin.specs.declared.api_key.ApiKey.TheVariants as keys
use Rattle.msg_admin.specs.declared.api.Api.{Api}
use Rattle.msg_admin.specs.declared.header.Header.{Header}
use Rattle.msg_admin.specs.declared.request.Request.{Request}
use Rattle.msg_admin.specs.declared.request.Request.TheVariants as requests
use Rattle.msg_admin.specs.ApiKey.{served_api, key_at, all_keys}
use Rattle.msg_admin.specs.Api.{api_if_served, api_at, is_from, is_flexible}
use Rattle.msg_admin.specs.Header.{names, sender, with_header_tags, header}
use Rattle.msg_admin.specs.Bodies.{request_form, request_body, asked_sasl_handshake}
use Rattle.msg_admin.specs.Request.{IsRequest, request_at}
use Rattle.msg_admin.specs.Versions.{header_start, asked_unsupported, unsupported_at}
use Rattle.msg_admin.proofs.Headers.{parted}
use Rattle.msg_admin.proofs.MessageLaws.{found_is_request}
use Rattle.session_pool.specs.Asks.{start_of}

-- a length in two bytes is at most 32,767
below16 : (n k : ℕ) → pos k ≡ cast_signed w16 n → k < 32768
below16 n k is = omega (arith, ints, is)

-- ---- texts

string_short : (text value : List ℕ) → string.Spells text value → length text ≤ 32769
string_short text value (a, b, whole, count, content) =
    omega (arith, ap length whole, length-append a b, count.0, ap length content.0, below16 (from_be_bytes w16 a) (length value) count.1)

nullable_short : (text : List ℕ) (value : Option (List ℕ)) → nullable_string.Spells text value → length text ≤ 32769
nullable_short text None count = omega (arith, count.0)
nullable_short text (Some value) (a, b, whole, count, content) =
    omega (arith, ap length whole, length-append a b, count.0, ap length content.0, below16 (from_be_bytes w16 a) (length value) count.1)

-- ---- what stands after a header

pub handshake_short : (text : List ℕ) (m : SaslHandshakeRequest) → sasl_handshake_request.Spells text m → length text ≤ 32769
handshake_short text m h = string_short text m.mechanism h

pub login_long : (text : List ℕ) (m : SaslAuthenticateRequest) → sasl_authenticate_request.Spells text m → length text ≡ 4 + length m.auth
login_long text m (a, b, whole, count, content) = omega (arith, ap length whole, length-append a b, count.0, ap length content)

-- ---- a header

header_short : (front : List ℕ) (x : ℤ × ℤ) (y : ℤ × Option (List ℕ)) → (names ⨟ sender).Spells front (x, y) → length front ≤ 32777
header_short front x y (a, b, whole, (k, v, named, key, version), (c, n, sent, correlation, client)) =
    omega (arith, ap length whole, length-append a b, ap length named, length-append k v, key.0, version.0, ap length sent, length-append c n, correlation.0, nullable_short n y.1 client)

-- ---- what each header starts with

-- eight bytes are a key, a version and a correlation id
front_spelled : (front : List ℕ) → length front ≡ 8 → (x : (ℤ × ℤ) × ℤ) × header_start.Spells front x
front_spelled front eight = (
  ((cast_signed w16 (from_be_bytes w16 (take 2 (take 4 front))), cast_signed w16 (from_be_bytes w16 (drop 2 (take 4 front)))), cast_signed w32 (from_be_bytes w32 (drop 4 front))),
  (
    take 4 front,
    drop 4 front,
    sym (take-append-drop 4 front),
    (
      take 2 (take 4 front),
      drop 2 (take 4 front),
      sym (take-append-drop 2 (take 4 front)),
      (length-take-le 2 (take 4 front) (omega (arith, length-take-le 4 front (omega (arith, eight)))), refl),
      (omega (arith, length-drop 2 (take 4 front), length-take-le 4 front (omega (arith, eight))), refl),
    ),
    (omega (arith, length-drop 4 front, eight), refl),
  ),
)

-- what follows the first eight bytes of a frame doesn't tell its start
pub started : (frame : List ℕ) → 8 ≤ length frame → (x : (ℤ × ℤ) × ℤ) × (header_start.reading frame ≡ Ok (x, drop 8 frame)) × (header_start.reading (take 8 frame) ≡ Ok (x, []))
started frame least =
    let s = front_spelled (take 8 frame) (length-take-le 8 frame least) in (
      s.0,
      ap header_start.reading (sym (take-append-drop 8 frame)) ∙ header_start.complete (take 8 frame) (drop 8 frame) s.0 s.1,
      ap header_start.reading (sym (append-nil (take 8 frame))) ∙ header_start.complete (take 8 frame) [] s.0 s.1,
    )

-- ---- the same by what is defined of it

pub unsupported_cut : (frame : List ℕ) → 8 ≤ length frame → unsupported_at frame ≡ unsupported_at (take 8 frame)
unfolding unsupported_at
unsupported_cut frame least =
    let s = started frame least in
    let of = λ (r : Found ((ℤ × ℤ) × ℤ)). option_and_then (λ (x : ((ℤ × ℤ) × ℤ) × List ℕ). asked_unsupported x.0) (result_ok r) in
    ap of s.1 ∙ sym (ap of s.2)

pub start_cut : (frame : List ℕ) → 8 ≤ length frame → start_of frame ≡ start_of (take 8 frame)
start_cut frame least =
    let s = started frame least in
    let of = λ (r : Found ((ℤ × ℤ) × ℤ)). option_map (λ (x : ((ℤ × ℤ) × ℤ) × List ℕ). x.0) (result_ok r) in
    ap of s.1 ∙ sym (ap of s.2)

pub start_read : (frame : List ℕ) (r : Found ((ℤ × ℤ) × ℤ)) (x : (ℤ × ℤ) × ℤ) → header_start.reading frame ≡ r → option_map (λ (y : ((ℤ × ℤ) × ℤ) × List ℕ). y.0) (result_ok r) ≡ Some x
    → (rest : List ℕ) × (header_start.reading frame ≡ Ok (x, rest))
start_read frame (Ok y) x is so = let same : y.0 ≡ x = cc in (y.1, is ∙ (λ i. Ok (same i, y.1)))
start_read frame (Err e) x is so = absurd (let clash : None ≡ Some x = so in cc)

-- ---- the parts of a request

plain_header : (b : Bool) (front : List ℕ) (h : Header) → b ≡ false → (with_header_tags b header).Spells front h → length front ≤ 32777
plain_header false front h is spelled = header_short front (h.key, h.version) (h.correlation, h.client) spelled
plain_header true front h is spelled = absurd cc

one_found : (bytes : List ℕ) (u v : (ℤ × ℤ) × List ℕ) → names.reading bytes ≡ Ok u → names.reading bytes ≡ Ok v → u.0 ≡ v.0
one_found bytes u v p q = let same : u ≡ v = cc in ap (λ (w : (ℤ × ℤ) × List ℕ). w.0) same

-- its header tells the names that it starts with
pub names_are : (frame : List ℕ) (x : (ℤ × ℤ) × ℤ) (rest : List ℕ) (h : Header) (r : Request) → header_start.reading frame ≡ Ok (x, rest) → IsRequest frame h r → x.0 ≡ (h.key, h.version)
names_are frame x rest h r read i =
    let s = header_start.sound frame x rest read in
    let t = s.2 in
    let p = parted (is_flexible i.2) i.0 h i.4 in
    let one : names.reading frame ≡ Ok (x.0, t.1 ++ rest) =
    ap names.reading (s.1 ∙ ap (λ (l : List ℕ). l ++ rest) t.2 ∙ append_assoc t.0 t.1 rest) ∙ names.complete t.0 (t.1 ++ rest) x.0 t.3 in
    let two : names.reading frame ≡ Ok ((h.key, h.version), p.1 ++ i.1) =
    ap names.reading (i.3 ∙ ap (λ (l : List ℕ). l ++ i.1) p.2 ∙ append_assoc p.0 p.1 i.1) ∙ names.complete p.0 (p.1 ++ i.1) (h.key, h.version) p.3 in
    one_found frame (x.0, t.1 ++ rest) ((h.key, h.version), p.1 ++ i.1) one two

-- ---- the apis of a login

pub at_18 : (version : ℤ) → api_at (pos 18) version ≡ api_if_served keys.ApiVersions version
unfolding api_at key_at all_keys
at_18 version = refl

pub at_17 : (version : ℤ) → api_at (pos 17) version ≡ api_if_served keys.SaslHandshake version
unfolding api_at key_at all_keys
at_17 version = refl

pub at_36 : (version : ℤ) → api_at (pos 36) version ≡ api_if_served keys.SaslAuthenticate version
unfolding api_at key_at all_keys
at_36 version = refl

pub this_api : (b : Bool) (one api : Api) → cond b (Some one) None ≡ Some api → (b ≡ true) × (api ≡ one)
this_api true one api is = (refl, cc)
this_api false one api is = absurd (let clash : None ≡ Some api = is in cc)

served_plain : (api : Api) → (api.key ≡ keys.ApiVersions) ⊎ (api.key ≡ keys.SaslHandshake) → is_flexible api ≡ false
unfolding is_flexible
served_plain api (inl is) = ap (λ (k : ApiKey). is_from (served_api k).flexible_from api.version) is
served_plain api (inr is) = ap (λ (k : ApiKey). is_from (served_api k).flexible_from api.version) is

some_short : (text : List ℕ) (o : Option SaslHandshakeRequest) → IsSomeAnd o (sasl_handshake_request.Spells text) → length text ≤ 32769
some_short text None h = absurd h
some_short text (Some m) h = handshake_short text m h

versions_short : (version : ℤ) (text : List ℕ) (r : Request) → (request_form keys.ApiVersions version).Spells text r → length text ≤ 32769
versions_short version text r h = omega (arith, ap length h.0)

mechanism_short : (version : ℤ) (text : List ℕ) (r : Request) → (request_form keys.SaslHandshake version).Spells text r → length text ≤ 32769
mechanism_short version text r h = some_short text (asked_sasl_handshake r) h

body_short : (api : Api) (text : List ℕ) (r : Request) → (api.key ≡ keys.ApiVersions) ⊎ (api.key ≡ keys.SaslHandshake) → (request_body api).Spells text r → length text ≤ 32769
unfolding request_body
body_short api text r (inl is) h = versions_short api.version text r (subst (λ (k : ApiKey). (request_form k api.version).Spells text r) is h)
body_short api text r (inr is) h = mechanism_short api.version text r (subst (λ (k : ApiKey). (request_form k api.version).Spells text r) is h)

-- ApiVersions and SaslHandshake are no longer than this
pub request_short : (frame : List ℕ) (h : Header) (r : Request) (i : IsRequest frame h r) → (i.2.key ≡ keys.ApiVersions) ⊎ (i.2.key ≡ keys.SaslHandshake) → length frame ≤ 65546
request_short frame h r i api =
    let head : length i.0 ≤ 32777 = plain_header (is_flexible i.2) i.0 h (served_plain i.2 api) i.4 in
    let body : length i.1 ≤ 32769 = body_short i.2 i.1 r api i.6 in
    omega (arith, ap length i.3, length-append i.0 i.1, head, body)

-- only the body of SaslAuthenticate is a login
login_form : (key : ApiKey) (version : ℤ) (text : List ℕ) (m : SaslAuthenticateRequest) → (request_form key version).Spells text (requests.SaslAuthenticate m)
    → (is_from (served_api key).flexible_from version ≡ false) × (length text ≡ 4 + length m.auth)
login_form keys.Produce version text m h = absurd h
login_form keys.Fetch version text m h = absurd h
login_form keys.ListOffsets version text m h = absurd h
login_form keys.Metadata version text m h = absurd h
login_form keys.OffsetCommit version text m h = absurd h
login_form keys.OffsetFetch version text m h = absurd h
login_form keys.FindCoordinator version text m h = absurd h
login_form keys.JoinGroup version text m h = absurd h
login_form keys.Heartbeat version text m h = absurd h
login_form keys.LeaveGroup version text m h = absurd h
login_form keys.SyncGroup version text m h = absurd h
login_form keys.SaslHandshake version text m h = absurd h
login_form keys.ApiVersions version text m h = absurd (let clash : requests.SaslAuthenticate m ≡ requests.ApiVersions = h.1 in cc)
login_form keys.InitProducerId version text m h = absurd h
login_form keys.AddPartitionsToTxn version text m h = absurd h
login_form keys.AddOffsetsToTxn version text m h = absurd h
login_form keys.EndTxn version text m h = absurd h
login_form keys.TxnOffsetCommit version text m h = absurd h
login_form keys.DescribeAcls version text m h = absurd h
login_form keys.CreateAcls version text m h = absurd h
login_form keys.DeleteAcls version text m h = absurd h
login_form keys.SaslAuthenticate version text m h = (refl, login_long text m h)

login_body : (api : Api) (text : List ℕ) (m : SaslAuthenticateRequest) → (request_body api).Spells text (requests.SaslAuthenticate m) → (is_flexible api ≡ false) × (length text ≡ 4 + length m.auth)
unfolding request_body is_flexible
login_body api text m h = login_form api.key api.version text m h

-- a login is longer than its message by a header and four bytes
pub login_length : (frame : List ℕ) (h : Header) (m : SaslAuthenticateRequest) → request_at frame ≡ Ok (h, requests.SaslAuthenticate m) → length frame ≤ 32781 + length m.auth
login_length frame h m is =
    let i = (found_is_request frame h (requests.SaslAuthenticate m)).0 is in
    let body = login_body i.2 i.1 m i.6 in
    let head : length i.0 ≤ 32777 = plain_header (is_flexible i.2) i.0 h body.0 i.4 in
    omega (arith, ap length i.3, length-append i.0 i.1, head, body.1)
