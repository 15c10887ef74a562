-- What the calls of a login say.
use Rattle.std.specs.Prelude.{◌≡◌, ℕ, Bool, true, false, List, Option, Some, None, Result, Ok, Err}
use Rattle.wire_types.specs.declared.error_code.ErrorCode.TheVariants as codes
use Rattle.sasl_login.specs.declared.login.Closed.{Closed}
use Rattle.sasl_login.specs.declared.login.Known.{Known}
use Rattle.sasl_login.specs.declared.login.LoginFault.{LoginFault}
use Rattle.sasl_login.specs.declared.login.LoginFault.TheVariants as login
use Rattle.sasl_login.specs.declared.login.SessionState.{SessionState}
use Rattle.sasl_login.specs.declared.login.SessionState.TheVariants as state

-- the code with which a login is closed
abbrev pub sasl_failed : Closed
sasl_failed = record { 0 = codes.SaslAuthenticationFailed }

abbrev pub mechanism_unknown : Closed
mechanism_unknown = record { 0 = codes.UnsupportedSaslMechanism }

-- a user told the right password
abbrev pub is_known : SessionState → Bool
is_known (state.Known k) = true
is_known s = false

-- Who logs in is whom the message names with its password, and it is closed where there is none,
-- unless memory was refused.
abbrev pub LogsIn : Option (List ℕ) → Result Known LoginFault → Type 0
LogsIn due (Ok known) = due ≡ Some known.who
LogsIn due (Err (login.Closed closed)) = (due ≡ None) × (closed ≡ sasl_failed)
LogsIn due (Err login.NoMemory) = Unit {0}
