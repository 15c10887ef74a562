-- The message of PLAIN as a relation (RFC 4616, section 2), in words of its own: what a message
-- logs in, and who is logged in.
use Rattle.std.specs.Prelude.{◌≡◌, ◌≢◌, ◌⊎◌, ℕ, List, [], ◌∷◌, ◌++◌, codes, Some}
use Rattle.settings_text.specs.declared.document.User.{User}
use Rattle.sasl_login.specs.LoginMessage.{login_of}

-- no byte is NUL
abbrev pub HasNoNul : List ℕ → Type 0
HasNoNul [] = Unit {0}
HasNoNul (b ∷ bs) = (b ≢ 0) × HasNoNul bs

abbrev pub IsOneOf : List User → User → Type 0
IsOneOf [] u = ⊥
IsOneOf (v ∷ vs) u = (v ≡ u) ⊎ IsOneOf vs u

-- it is an authorization identity, NUL, the user's name, NUL and the user's password: the first is
-- empty or the name, and no other NUL stands in it
pub record IsLogin (message : List ℕ) (u : User) : Type 0 where
  pub authzid : List ℕ
  pub spelled : message ≡ authzid ++ 0 ∷ (u.name ++ 0 ∷ u.password)
  pub own : (authzid ≡ []) ⊎ (authzid ≡ u.name)
  pub name : HasNoNul u.name
  pub password : HasNoNul u.password

-- who is logged in: a user whose login the message is
pub record IsLoggedIn (users : List User) (message who : List ℕ) : Type 0 where
  pub user : User
  pub known : IsOneOf users user
  pub login : IsLogin message user
  pub named : who ≡ codes "User:" ++ user.name

-- a user is logged in by each login of theirs, and by nothing else
pub record LoginIsExact (users : List User) (message : List ℕ) : Type 0 where
  pub logs_in : (u : User) → IsOneOf users u → IsLogin message u
      → login_of users message ≡ Some (codes "User:" ++ u.name)
  pub alone : (who : List ℕ) → login_of users message ≡ Some who → IsLoggedIn users message who
