-- What nobody who has not logged in can have kept or read.
use Rattle.std.specs.Prelude.{◌≡◌, ◌<◌, ℕ, false, List, length, take}
use Rattle.settings_text.specs.declared.document.User.{User}
use Rattle.sasl_login.specs.declared.login.SessionState.{SessionState}
use Rattle.sasl_login.specs.Logins.{is_known}
use Rattle.session_pool.specs.Asks.{Setting, longest_before_login, step_of}
use Rattle.session_pool.specs.Own.{TellsPassword}

-- a frame that is longer than any that is served before a login tells nobody's password
abbrev pub LogsNobodyIn : List User → List ℕ → Type 0
LogsNobodyIn users frame =
    longest_before_login users < length frame → (who : List ℕ) → TellsPassword users frame who → ⊥

-- before a login nothing tells what such a frame leads to but its first eight bytes and its length
abbrev pub GoesByItsFront : Setting → SessionState → List ℕ → Type 0
GoesByItsFront g s frame = is_known s ≡ false → longest_before_login g.users < length frame
    → (other : List ℕ) → take 8 other ≡ take 8 frame → length other ≡ length frame
    → step_of g s other ≡ step_of g s frame
