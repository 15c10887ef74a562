-- Users who may log in (RFC 4616: neither the name nor the password holds a NUL).
use Rattle.std.specs.Prelude.{◌≡◌, ◌≢◌, ℕ, Bool, true, not, ◌&&◌, ◌==◌, List, [], ◌∷◌, length, Result, Ok, Err}
use Rattle.std.specs.List.{list_all, list_any}
use Rattle.std.specs.Str.{bytes_eq}
use Rattle.settings_text.specs.declared.document.User.{User}
use Rattle.settings_text.specs.declared.fault.SettingsFault.{SettingsFault}
use Rattle.settings_text.specs.declared.fault.SettingsFault.TheVariants as faults

-- not empty and without NUL
abbrev pub is_word : List ℕ → Bool
is_word word = not (length word == 0) && list_all (λ b. not (b == 0)) word

abbrev pub is_user : User → Bool
is_user u = is_word u.name && is_word u.password

-- no name stands twice
abbrev pub are_distinct : List User → Bool
are_distinct [] = true
are_distinct (u ∷ us) = not (list_any (λ (v : User). bytes_eq u.name v.name) us) && are_distinct us

-- each name and password is good, and no name stands twice
abbrev pub are_users : List User → Bool
are_users users = list_all is_user users && are_distinct users

-- The call answered so, unless memory was refused.
abbrev pub Admits : Result (List User) SettingsFault → Result (List User) SettingsFault → Type 0
Admits due (Ok users) = due ≡ Ok users
Admits due (Err fault) = fault ≢ faults.NoMemory → due ≡ Err fault
