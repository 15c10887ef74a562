-- Who may log in, and by which message (RFC 4616, section 2, "PLAIN SASL Mechanism").
use Rattle.std.specs.Prelude.{ℕ, ◌+◌, ◌*◌, ◌==◌, ◌&&◌, ◌||◌, max, Bool, List, [], ◌∷◌, ◌++◌, codes, length, take, drop, Option, Some, None, is_some, option_map, option_and_then, if◌then◌else◌}
use Rattle.std.specs.List.{position, find}
use Rattle.std.specs.Str.{bytes_eq}
use Rattle.msg_login.specs.SaslHandshake.{plain_mechanism}
use Rattle.settings_text.specs.declared.document.User.{User}

-- the one mechanism that is offered
abbrev pub is_plain : List ℕ → Bool
is_plain mechanism = bytes_eq mechanism plain_mechanism

abbrev pub is_nul : ℕ → Bool
is_nul b = b == 0

-- what stands before the first NUL and after it
abbrev pub parts_at_nul : List ℕ → Option (List ℕ × List ℕ)
parts_at_nul bytes = option_map (λ at. (take at bytes, drop (at + 1) bytes)) (position is_nul bytes)

-- message = [authzid] UTF8NUL authcid UTF8NUL passwd, with no NUL in the password
abbrev pub plain_of : List ℕ → Option (List ℕ × List ℕ × List ℕ)
plain_of message =
    option_and_then (λ a. option_and_then (λ c.
    if is_some (position is_nul c.1) then None else Some (a.0, c.0, c.1))
    (parts_at_nul a.1)) (parts_at_nul message)

abbrev pub is_user : List ℕ → List ℕ → User → Bool
is_user name password u = bytes_eq u.name name && bytes_eq u.password password

-- nobody acts for another: the authorization identity is empty or the authentication identity
abbrev pub acts_alone : List ℕ × List ℕ × List ℕ → Bool
acts_alone p = length p.0 == 0 || bytes_eq p.0 p.1

-- the user that the message names with its password
abbrev pub user_of : List User → List ℕ → Option User
user_of users message = option_and_then
    (λ p. if acts_alone p then find (is_user p.1 p.2) users else None) (plain_of message)

abbrev pub principal_of : User → List ℕ
principal_of u = codes "User:" ++ u.name

-- the principal that the message logs in
abbrev pub login_of : List User → List ℕ → Option (List ℕ)
login_of users message = option_map principal_of (user_of users message)

-- ---- how long a message may be

-- a user's longest message: the name twice, the password, and two NULs
abbrev pub length_of_login : User → ℕ
length_of_login u = 2 * length u.name + length u.password + 2

-- the longest of any user; where there is none, it has no bytes
abbrev pub longest_login : List User → ℕ
longest_login [] = 0
longest_login (u ∷ us) = max (length_of_login u) (longest_login us)
