-- What a frame leads to by its first bytes and its length.
use Rattle.std.proofs.Common.{◌≡◌, ℕ, ℤ, pos, ◌+◌, ◌<◌, ◌≤◌, Bool, true, false, cond, not, ◌&&◌, ◌||◌, nat_lt, List, [], length, take, Option, Some, None, Result, Ok, Err, ◌⊎◌, inl, inr, refl, sym, ap, ◌∙◌, arith, length-take-le}
use Rattle.std.specs.Ordering.{int_eq}
use Rattle.std.proofs.lemmas.Bool.{ltb-true, ltb-false, lt-ltb, le-ltb}
use Rattle.std.proofs.lemmas.Bool.Decides.{Decides-int_eq}
use Rattle.wire_types.specs.declared.fault.Malformed.{Malformed}
use Rattle.msg_admin.specs.declared.api_key.ApiKey.TheVariants as keys
use Rattle.msg_admin.specs.declared.api.Api.{Api}
use Rattle.msg_admin.specs.declared.header.Header.{Header}
use Rattle.msg_admin.specs.declared.request.Request.{Request}
use Rattle.msg_admin.specs.ApiKey.{is_served as is_served_in}
use Rattle.msg_admin.proofs.Served.{one_version}
use Rattle.msg_admin.specs.Api.{api_in, api_at}
use Rattle.msg_admin.specs.Request.{IsRequest, request_at}
use Rattle.msg_admin.specs.Versions.{header_start, unsupported_at, unsupported_response}
use Rattle.msg_admin.proofs.MessageLaws.{found_is_request}
use Rattle.sasl_login.specs.LoginMessage.{longest_login}
use Rattle.sasl_login.specs.Logins.{is_known}
use Rattle.sasl_login.proofs.Longest.{no_longer}
use Rattle.settings_text.specs.declared.document.User.{User}
use Rattle.frame_streams.specs.declared.frame.Came.{Came}
use Rattle.sasl_login.specs.declared.login.SessionState.{SessionState}
use Rattle.sasl_login.specs.declared.login.SessionState.TheVariants.{Fresh, Offered, Known}
use Rattle.session_pool.specs.Asks.{Setting, Step, Tells, Refuses, Garbles, start_of, is_served, is_login, longest_before_login, logs_in, step_if_readable, step_by_start, step_by_start_if_any, step_by_version, step_of}
use Rattle.session_pool.specs.Own.{TellsPassword}
use Rattle.session_pool.specs.Turns.{most_kept, CameOf}
use Rattle.session_pool.proofs.Lengths.{unsupported_cut, start_cut, start_read, names_are, at_17, at_18, at_36, this_api, request_short, login_length}

-- ---- what came is the frame, or its first eight bytes

abbrev IsWhole : Setting → ℕ → SessionState → Came → List ℕ → Type 0
IsWhole g limit s came frame = (came.kept ≡ frame) × (length frame ≤ most_kept g.users limit s)

abbrev IsCut : Setting → SessionState → Came → List ℕ → Type 0
IsCut g s came frame = (came.kept ≡ take 8 frame) × (is_known s ≡ false) × (longest_before_login g.users < length frame)

above : (g : Setting) (limit : ℕ) (s : SessionState) (frame : List ℕ) → length frame ≤ limit → most_kept g.users limit s < length frame → (is_known s ≡ false) × (longest_before_login g.users < length frame)
above g limit (Fresh f) frame within long = (refl, omega arith)
above g limit (Offered o) frame within long = (refl, omega arith)
above g limit (Known k) frame within long = absurd (omega arith)

split : (g : Setting) (limit : ℕ) (s : SessionState) (came : Came) (frame : List ℕ) → CameOf g limit s came frame → IsWhole g limit s came frame ⊎ IsCut g s came frame
split g limit s came frame (within, (kept, size)) = by_test (nat_lt (most_kept g.users limit s) (length frame)) refl kept where
  by_test : (t : Bool) → nat_lt (most_kept g.users limit s) (length frame) ≡ t → came.kept ≡ cond t (take 8 frame) frame → IsWhole g limit s came frame ⊎ IsCut g s came frame
  by_test true e is = let over = above g limit s frame within (ltb-true (most_kept g.users limit s) (length frame) e) in inr (is, over.0, over.1)
  by_test false e is = inl (is, ltb-false (most_kept g.users limit s) (length frame) e)

least_long : (users : List User) (frame : List ℕ) → longest_before_login users < length frame → 65546 < length frame
least_long users frame long = omega arith

same_version : (g : Setting) (limit : ℕ) (s : SessionState) (came : Came) (frame : List ℕ) → CameOf g limit s came frame → unsupported_at frame ≡ unsupported_at came.kept
same_version g limit s came frame of = by_parts (split g limit s came frame of) where
  by_parts : IsWhole g limit s came frame ⊎ IsCut g s came frame → unsupported_at frame ≡ unsupported_at came.kept
  by_parts (inl whole) = ap unsupported_at (sym whole.0)
  by_parts (inr (kept, before, long)) = let most : 65546 < length frame = least_long g.users frame long in unsupported_cut frame (omega arith) ∙ ap unsupported_at (sym kept)

same_start : (g : Setting) (limit : ℕ) (s : SessionState) (came : Came) (frame : List ℕ) → CameOf g limit s came frame → start_of frame ≡ start_of came.kept
same_start g limit s came frame of = by_parts (split g limit s came frame of) where
  by_parts : IsWhole g limit s came frame ⊎ IsCut g s came frame → start_of frame ≡ start_of came.kept
  by_parts (inl whole) = ap start_of (sym whole.0)
  by_parts (inr (kept, before, long)) = let most : 65546 < length frame = least_long g.users frame long in start_cut frame (omega arith) ∙ ap start_of (sym kept)

-- ---- what it leads to

pub other_version : (g : Setting) (limit : ℕ) (s : SessionState) (came : Came) (frame : List ℕ) (c : ℤ) → Some c ≡ unsupported_at came.kept → CameOf g limit s came frame → step_of g s frame ≡ Tells (unsupported_response c) s
other_version g limit s came frame c found of = ap (step_by_version g s frame) (same_version g limit s came frame of ∙ sym found)

step_by : (g : Setting) (limit : ℕ) (s : SessionState) (came : Came) (frame : List ℕ) (o : Option ((ℤ × ℤ) × ℤ)) → None ≡ unsupported_at came.kept → o ≡ start_of came.kept → CameOf g limit s came frame → step_of g s frame ≡ step_by_start_if_any g s frame o
step_by g limit s came frame o none found of = ap (step_by_version g s frame) (same_version g limit s came frame of ∙ sym none) ∙ ap (step_by_start_if_any g s frame) (same_start g limit s came frame of ∙ sym found)

pub no_start : (g : Setting) (limit : ℕ) (s : SessionState) (came : Came) (frame : List ℕ) → None ≡ unsupported_at came.kept → None ≡ start_of came.kept → CameOf g limit s came frame → step_of g s frame ≡ Garbles
no_start g limit s came frame none found of = step_by g limit s came frame None none found of

pub unserved : (g : Setting) (limit : ℕ) (s : SessionState) (came : Came) (frame : List ℕ) (x : (ℤ × ℤ) × ℤ) → None ≡ unsupported_at came.kept → Some x ≡ start_of came.kept → is_served s x.0.0 ≡ false
    → CameOf g limit s came frame → step_of g s frame ≡ Refuses []
unserved g limit s came frame x none found other of =
    step_by g limit s came frame (Some x) none found of
    ∙ ap (λ (a : Bool). cond (not a) (Refuses []) (cond (is_login s x.0 && nat_lt (longest_before_login g.users) (length frame)) (logs_in x.1 None) (step_if_readable g s (request_at frame)))) other

-- what is served and no longer than it may be is read
read_on : (g : Setting) (limit : ℕ) (s : SessionState) (frame : List ℕ) (x : (ℤ × ℤ) × ℤ) → is_served s x.0.0 ≡ true → length frame ≤ most_kept g.users limit s → step_by_start g s frame x ≡ step_if_readable g s (request_at frame)
read_on g limit (Fresh f) frame x served short = ap (λ (a : Bool). cond (not a) (Refuses []) (step_if_readable g (Fresh f) (request_at frame))) served
read_on g limit (Known k) frame x served short = refl
read_on g limit (Offered o) frame x served short =
    let most : length frame ≤ longest_before_login g.users = omega arith in
    ap (λ (a : Bool). cond (not a) (Refuses []) (cond (is_login (Offered o) x.0 && nat_lt (longest_before_login g.users) (length frame)) (logs_in x.1 None) (step_if_readable g (Offered o) (request_at frame)))) served
    ∙ ap (λ (b : Bool). cond (is_login (Offered o) x.0 && b) (logs_in x.1 None) (step_if_readable g (Offered o) (request_at frame))) (le-ltb (longest_before_login g.users) (length frame) most)
    ∙ never (is_login (Offered o) x.0) where
      never : (b : Bool) → cond (b && false) (logs_in x.1 None) (step_if_readable g (Offered o) (request_at frame)) ≡ step_if_readable g (Offered o) (request_at frame)
      never true = refl
      never false = refl

pub whole : (g : Setting) (limit : ℕ) (s : SessionState) (came : Came) (frame : List ℕ) (x : (ℤ × ℤ) × ℤ) → None ≡ unsupported_at came.kept → Some x ≡ start_of came.kept → is_served s x.0.0 ≡ true → length came.kept ≡ came.size
    → CameOf g limit s came frame → (came.kept ≡ frame) × (step_of g s frame ≡ step_if_readable g s (request_at frame))
whole g limit s came frame x none found served all of = by_parts (split g limit s came frame of) where
  by_parts : IsWhole g limit s came frame ⊎ IsCut g s came frame → (came.kept ≡ frame) × (step_of g s frame ≡ step_if_readable g s (request_at frame))
  by_parts (inl (kept, short)) = (kept, step_by g limit s came frame (Some x) none found of ∙ read_on g limit s frame x served short)
  by_parts (inr (kept, before, long)) =
      let most : 65546 < length frame = least_long g.users frame long in
      let few : length (take 8 frame) ≡ 8 = length-take-le 8 frame (omega arith) in
      absurd (omega (arith, ap length kept, few, all, of.1.1, most))

cut_of : (g : Setting) (limit : ℕ) (s : SessionState) (came : Came) (frame : List ℕ) → (length came.kept ≡ came.size → ⊥) → CameOf g limit s came frame → IsCut g s came frame
cut_of g limit s came frame part of = by_parts (split g limit s came frame of) where
  by_parts : IsWhole g limit s came frame ⊎ IsCut g s came frame → IsCut g s came frame
  by_parts (inl (kept, short)) = absurd (part (ap length kept ∙ sym of.1.1))
  by_parts (inr cut) = cut

-- what is served, by whether it is a login, where it is longer than what is served
too_long : (g : Setting) (s : SessionState) (frame : List ℕ) (x : (ℤ × ℤ) × ℤ) (b : Bool) → is_served s x.0.0 ≡ true → is_login s x.0 ≡ b → longest_before_login g.users < length frame
    → step_by_start g s frame x ≡ cond b (logs_in x.1 None) (step_if_readable g s (request_at frame))
too_long g s frame x b served login long =
    ap (λ (a : Bool). cond (not a) (Refuses []) (cond (is_login s x.0 && nat_lt (longest_before_login g.users) (length frame)) (logs_in x.1 None) (step_if_readable g s (request_at frame)))) served
    ∙ ap (λ (a : Bool). cond (a && nat_lt (longest_before_login g.users) (length frame)) (logs_in x.1 None) (step_if_readable g s (request_at frame))) login
    ∙ ap (λ (a : Bool). cond (b && a) (logs_in x.1 None) (step_if_readable g s (request_at frame))) (lt-ltb (longest_before_login g.users) (length frame) long)
    ∙ always b where
      always : (b : Bool) → cond (b && true) (logs_in x.1 None) (step_if_readable g s (request_at frame)) ≡ cond b (logs_in x.1 None) (step_if_readable g s (request_at frame))
      always true = refl
      always false = refl

pub overlong : (g : Setting) (limit : ℕ) (s : SessionState) (came : Came) (frame : List ℕ) (x : (ℤ × ℤ) × ℤ) → None ≡ unsupported_at came.kept → Some x ≡ start_of came.kept → is_served s x.0.0 ≡ true → (length came.kept ≡ came.size → ⊥)
    → is_login s x.0 ≡ true → CameOf g limit s came frame → step_of g s frame ≡ logs_in x.1 None
overlong g limit s came frame x none found served part login of =
    step_by g limit s came frame (Some x) none found of ∙ too_long g s frame x true served login (cut_of g limit s came frame part of).2

-- ---- what is too long for what it asks can't be read

is_key : (key : ℤ) (n : ℕ) → int_eq key (pos n) ≡ true → key ≡ pos n
is_key key n e = (Decides-int_eq key (pos n)).0 e

either : (a b : Bool) → (a || b) ≡ true → (a ≡ true) ⊎ (b ≡ true)
either true b e = inl refl
either false b e = inr e

-- ApiVersions and SaslHandshake alone are served before a login, but for a login
short_api : (s : SessionState) (x : (ℤ × ℤ) × ℤ) (api : Api) → is_known s ≡ false → is_served s x.0.0 ≡ true → is_login s x.0 ≡ false → api_at x.0.0 x.0.1 ≡ Some api → (api.key ≡ keys.ApiVersions) ⊎ (api.key ≡ keys.SaslHandshake)
short_api s x api before served login at = by_state s before served login where
  versions : int_eq x.0.0 (pos 18) ≡ true → (api.key ≡ keys.ApiVersions) ⊎ (api.key ≡ keys.SaslHandshake)
  versions e = inl (ap (λ (a : Api). a.key) (this_api (is_served_in keys.ApiVersions x.0.1) (api_in keys.ApiVersions x.0.1) api (sym (at_18 x.0.1) ∙ ap (λ (k : ℤ). api_at k x.0.1) (sym (is_key x.0.0 18 e)) ∙ at)).1)

  handshake : int_eq x.0.0 (pos 17) ≡ true → (api.key ≡ keys.ApiVersions) ⊎ (api.key ≡ keys.SaslHandshake)
  handshake e = inr (ap (λ (a : Api). a.key) (this_api (is_served_in keys.SaslHandshake x.0.1) (api_in keys.SaslHandshake x.0.1) api (sym (at_17 x.0.1) ∙ ap (λ (k : ℤ). api_at k x.0.1) (sym (is_key x.0.0 17 e)) ∙ at)).1)

  no_login : int_eq x.0.0 (pos 36) ≡ true → (int_eq x.0.0 (pos 36) && int_eq x.0.1 (pos 0)) ≡ false → (api.key ≡ keys.ApiVersions) ⊎ (api.key ≡ keys.SaslHandshake)
  no_login e other =
      let served_so = (this_api (is_served_in keys.SaslAuthenticate x.0.1) (api_in keys.SaslAuthenticate x.0.1) api (sym (at_36 x.0.1) ∙ ap (λ (k : ℤ). api_at k x.0.1) (sym (is_key x.0.0 36 e)) ∙ at)).0 in
      let same : int_eq x.0.1 (pos 0) ≡ true = (Decides-int_eq x.0.1 (pos 0)).1 (sym (one_version (pos 0) x.0.1 served_so)) in
      let both : (int_eq x.0.0 (pos 36) && int_eq x.0.1 (pos 0)) ≡ true = ap (λ (a : Bool). a && int_eq x.0.1 (pos 0)) e ∙ same in
      absurd (let clash : true ≡ false = sym both ∙ other in cc)

  in_fresh : (int_eq x.0.0 (pos 18) ≡ true) ⊎ (int_eq x.0.0 (pos 17) ≡ true) → (api.key ≡ keys.ApiVersions) ⊎ (api.key ≡ keys.SaslHandshake)
  in_fresh (inl e) = versions e
  in_fresh (inr e) = handshake e

  in_offered : (int_eq x.0.0 (pos 18) ≡ true) ⊎ (int_eq x.0.0 (pos 36) ≡ true) → (int_eq x.0.0 (pos 36) && int_eq x.0.1 (pos 0)) ≡ false → (api.key ≡ keys.ApiVersions) ⊎ (api.key ≡ keys.SaslHandshake)
  in_offered (inl e) other = versions e
  in_offered (inr e) other = no_login e other

  by_state : (s : SessionState) → is_known s ≡ false → is_served s x.0.0 ≡ true → is_login s x.0 ≡ false → (api.key ≡ keys.ApiVersions) ⊎ (api.key ≡ keys.SaslHandshake)
  by_state (Fresh f) before served login = in_fresh (either (int_eq x.0.0 (pos 18)) (int_eq x.0.0 (pos 17)) served)
  by_state (Offered o) before served login = in_offered (either (int_eq x.0.0 (pos 18)) (int_eq x.0.0 (pos 36)) served) login
  by_state (Known k) before served login = absurd (let clash : true ≡ false = before in cc)

garbles : (g : Setting) (s : SessionState) (frame : List ℕ) (x : (ℤ × ℤ) × ℤ) → Some x ≡ start_of frame → is_known s ≡ false → is_served s x.0.0 ≡ true → is_login s x.0 ≡ false → longest_before_login g.users < length frame
    → step_if_readable g s (request_at frame) ≡ Garbles
garbles g s frame x found before served login long = by_request (request_at frame) refl where
  at : (h : Header) (r : Request) → IsRequest frame h r → x.0 ≡ (h.key, h.version)
  at h r i = let read = start_read frame (header_start.reading frame) x refl (sym found) in names_are frame x read.0 h r read.1 i

  api_is : (h : Header) (r : Request) (i : IsRequest frame h r) → api_at x.0.0 x.0.1 ≡ Some i.2
  api_is h r i = ap (λ (n : ℤ × ℤ). api_at n.0 n.1) (at h r i) ∙ i.5

  no_request : (h : Header) (r : Request) → IsRequest frame h r → ⊥
  no_request h r i =
      let short : length frame ≤ 65546 = request_short frame h r i (short_api s x i.2 before served login (api_is h r i)) in
      let most : 65546 < length frame = least_long g.users frame long in
      omega (arith, short, most)

  by_request : (r : Result (Header × Request) Malformed) → request_at frame ≡ r → step_if_readable g s r ≡ Garbles
  by_request (Ok y) is = absurd (no_request y.0 y.1 ((found_is_request frame y.0 y.1).0 is))
  by_request (Err e) is = refl

pub unreadable : (g : Setting) (limit : ℕ) (s : SessionState) (came : Came) (frame : List ℕ) (x : (ℤ × ℤ) × ℤ) → None ≡ unsupported_at came.kept → Some x ≡ start_of came.kept → is_served s x.0.0 ≡ true → (length came.kept ≡ came.size → ⊥)
    → is_login s x.0 ≡ false → CameOf g limit s came frame → step_of g s frame ≡ Garbles
unreadable g limit s came frame x none found served part login of =
    let cut = cut_of g limit s came frame part of in
    step_by g limit s came frame (Some x) none found of ∙ too_long g s frame x false served login cut.2
    ∙ garbles g s frame x (found ∙ sym (same_start g limit s came frame of)) cut.1 served login cut.2

-- ---- laws

-- what is longer tells no password
pub no_password : (users : List User) (frame who : List ℕ) → longest_before_login users < length frame → TellsPassword users frame who → ⊥
no_password users frame who long (h, m, is, told) =
    let most : 32781 + longest_login users < length frame = omega arith in
    omega (arith, most, login_length frame h m is, no_longer users m.auth who told)

-- what is longer leads to this
abbrev by_front : SessionState → (ℤ × ℤ) × ℤ → Step
by_front s x = cond (not (is_served s x.0.0)) (Refuses []) (cond (is_login s x.0) (logs_in x.1 None) Garbles)

abbrev by_start : SessionState → Option ((ℤ × ℤ) × ℤ) → Step
by_start s None = Garbles
by_start s (Some x) = by_front s x

abbrev by_version : SessionState → List ℕ → Option ℤ → Step
by_version s front (Some c) = Tells (unsupported_response c) s
by_version s front None = by_start s (start_of front)

front_begins : (g : Setting) (s : SessionState) (frame : List ℕ) (x : (ℤ × ℤ) × ℤ) → Some x ≡ start_of frame → is_known s ≡ false → longest_before_login g.users < length frame → step_by_start g s frame x ≡ by_front s x
front_begins g s frame x found before long = by_served (is_served s x.0.0) (is_login s x.0) refl refl where
  by_served : (a b : Bool) → is_served s x.0.0 ≡ a → is_login s x.0 ≡ b → step_by_start g s frame x ≡ cond (not a) (Refuses []) (cond b (logs_in x.1 None) Garbles)
  by_served false b e l = ap (λ (a : Bool). cond (not a) (Refuses []) (cond (is_login s x.0 && nat_lt (longest_before_login g.users) (length frame)) (logs_in x.1 None) (step_if_readable g s (request_at frame)))) e
  by_served true true e l = too_long g s frame x true e l long
  by_served true false e l = too_long g s frame x false e l long ∙ garbles g s frame x found before e l long

front_leads : (g : Setting) (s : SessionState) (frame : List ℕ) → is_known s ≡ false → longest_before_login g.users < length frame → step_of g s frame ≡ by_version s (take 8 frame) (unsupported_at (take 8 frame))
front_leads g s frame before long = ap (step_by_version g s frame) version ∙ by_found (unsupported_at (take 8 frame)) where
  most : 65546 < length frame
  most = least_long g.users frame long

  version : unsupported_at frame ≡ unsupported_at (take 8 frame)
  version = unsupported_cut frame (omega (arith, most))

  same : start_of frame ≡ start_of (take 8 frame)
  same = start_cut frame (omega (arith, most))

  by_begun : (o : Option ((ℤ × ℤ) × ℤ)) → start_of frame ≡ o → step_by_start_if_any g s frame o ≡ by_start s o
  by_begun None e = refl
  by_begun (Some x) e = front_begins g s frame x (sym e) before long

  by_found : (o : Option ℤ) → step_by_version g s frame o ≡ by_version s (take 8 frame) o
  by_found (Some c) = refl
  by_found None = by_begun (start_of frame) refl ∙ ap (by_start s) same

pub goes_by_front : (g : Setting) (s : SessionState) (frame : List ℕ) → is_known s ≡ false → longest_before_login g.users < length frame → (other : List ℕ) → take 8 other ≡ take 8 frame → length other ≡ length frame → step_of g s other ≡ step_of g s frame
goes_by_front g s frame before long other front size =
    front_leads g s other before (omega (arith, long, size)) ∙ ap (λ (f : List ℕ). by_version s f (unsupported_at f)) front ∙ sym (front_leads g s frame before long)
