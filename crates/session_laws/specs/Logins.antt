-- Whom a message of PLAIN logs in (RFC 4616, section 2), as a law over the rule that says so.
use Rattle.std.specs.Prelude.{◌≡◌, ℕ, List, ◌++◌, codes, length, nat_eq, if◌then◌else◌, Option, Some, None, option_map, option_and_then}
use Rattle.std.specs.List.{find}
use Rattle.std.specs.Str.{bytes_eq}
use Rattle.settings_text.specs.declared.document.User.{User}
use Rattle.sasl_login.specs.LoginMessage.{is_user, plain_of, principal_of}
use Rattle.sasl_login.specs.Plain.{IsOneOf, IsLogin, IsLoggedIn}

-- the principal that a message logs in, if it does, where these users are known
abbrev pub LoginRule : Type 0
LoginRule = List User → List ℕ → Option (List ℕ)

-- a user is logged in by each message with its own name and password, and by nothing else
pub record LogsInByPassword (rule : LoginRule) : Type 0 where
  pub logs_in : (users : List User) (message : List ℕ) (u : User)
      → IsOneOf users u → IsLogin message u → rule users message ≡ Some (codes "User:" ++ u.name)
  pub alone : (users : List User) (message who : List ℕ)
      → rule users message ≡ Some who → IsLoggedIn users message who

-- no other rule logs users in so
abbrev pub OnlyRuleOfLogins : LoginRule → Type 0
OnlyRuleOfLogins right =
    (rule : LoginRule) → LogsInByPassword rule
    → (users : List User) (message : List ℕ) → rule users message ≡ right users message

-- ---- wrong

-- whoever names a user is logged in, whatever the password
abbrev pub login_by_name : LoginRule
login_by_name users message =
    option_map principal_of
    (option_and_then (λ p. find (λ (u : User). bytes_eq u.name p.1) users) (plain_of message))

-- a user may act for any other: the authorization identity isn't looked at
abbrev pub login_for_anybody : LoginRule
login_for_anybody users message =
    option_map principal_of (option_and_then (λ p. find (is_user p.1 p.2) users) (plain_of message))

-- with an authorization identity nobody is logged in
abbrev pub login_without_identity : LoginRule
login_without_identity users message =
    option_map principal_of
    (option_and_then
    (λ p. if nat_eq (length p.0) 0 then find (is_user p.1 p.2) users else None)
    (plain_of message))
