-- The longest message that logs somebody in.
use Rattle.std.proofs.Common.{◌≡◌, ℕ, suc, ◌+◌, ◌<◌, ◌≤◌, List, [], ◌∷◌, ◌++◌, length, get_or, drop, drop-cons, add-one, Option, Some, None, refl, sym, ap, ◌∙◌, subst, arith, ◌⊎◌, inl, inr, length-append}
use Rattle.std.specs.Prelude.{max, min, option_map}
use Rattle.std.proofs.lemmas.List.{drop_all}
use Rattle.settings_text.specs.declared.document.User.{User}
use Rattle.sasl_login.specs.LoginMessage.{login_of, user_of, principal_of, length_of_login, longest_login}
use Rattle.sasl_login.specs.Plain.{IsOneOf, IsLogin}
use Rattle.sasl_login.proofs.Plain.{exact}

-- ---- a law of messages

of_one : (users : List User) (u : User) → IsOneOf users u → length_of_login u ≤ longest_login users
of_one [] u known = absurd known
of_one (v ∷ vs) u (inl same) = subst (λ (w : User). length_of_login w ≤ max (length_of_login v) (longest_login vs)) same (omega arith)
of_one (v ∷ vs) u (inr later) = let h : length_of_login u ≤ longest_login vs = of_one vs u later in omega arith

own_length : (authzid name : List ℕ) → (authzid ≡ []) ⊎ (authzid ≡ name) → length authzid ≤ length name
own_length authzid name (inl none) = omega (arith, ap length none)
own_length authzid name (inr own) = omega (arith, ap length own)

login_short : (message : List ℕ) (u : User) → IsLogin message u → length message ≤ length_of_login u
login_short message u login =
    let rest = u.name ++ 0 ∷ u.password in
    omega (arith, ap length login.spelled, length-append login.authzid (0 ∷ (u.name ++ 0 ∷ u.password)), length-append u.name (0 ∷ u.password), own_length login.authzid u.name login.own)

pub no_longer : (users : List User) (message who : List ℕ) → login_of users message ≡ Some who → length message ≤ longest_login users
no_longer users message who h =
    let is = (exact users message).alone who h in
    omega (arith, login_short message is.user is.login, of_one users is.user is.known)

nobody : (users : List User) (message : List ℕ) (o : Option User) → o ≡ user_of users message → longest_login users < length message → None ≡ o
nobody users message None same long = refl
nobody users message (Some u) same long = absurd (omega (arith, no_longer users message (principal_of u) (ap (option_map principal_of) (sym same)), long))

-- a message that is longer than each user's is no user's
pub too_long : (users : List User) (message : List ℕ) (most len top : ℕ) → most ≡ min (longest_login users) top → len ≡ length message → len ≤ top → most < len → None ≡ user_of users message
too_long users message most len top is_most is_len small long = nobody users message (user_of users message) refl (omega (arith, is_most, is_len, small, long))

-- ---- as it is found, one user after the other

pub none_so_far : (users : List User) (top : ℕ) → max 0 (min (longest_login (drop 0 users)) top) ≡ min (longest_login users) top
none_so_far users top = omega arith

most_of : (a l r top : ℕ) → max (max a (min l top)) (min r top) ≡ max a (min (max l r) top)
most_of a l r top = omega arith

pub one_more : (users : List User) (i a b top due : ℕ) (u : User) → i < length users → u ≡ get_or users i u → b ≡ min (length_of_login u) top
    → max a (min (longest_login (drop i users)) top) ≡ due → max (max a b) (min (longest_login (drop (i + 1) users)) top) ≡ due
one_more users i a b top due u within is long so =
    let here : drop i users ≡ u ∷ drop (i + 1) users = rw add-one (drop-cons users i u within ∙ ap (λ (w : User). w ∷ drop (suc i) users) (sym is)) in
    let rest = longest_login (drop (i + 1) users) in
    ap (λ (n : ℕ). max (max a n) (min (longest_login (drop (i + 1) users)) top)) long ∙ most_of a (length_of_login u) (longest_login (drop (i + 1) users)) top
    ∙ ap (λ (l : List User). max a (min (longest_login l) top)) (sym here) ∙ so

pub all_seen : (users : List User) (i a top due : ℕ) → length users ≤ i → max a (min (longest_login (drop i users)) top) ≡ due → a ≡ due
all_seen users i a top due all so =
    let none : longest_login (drop i users) ≡ 0 = ap longest_login (drop_all i users all) in
    omega (arith, none, so)
