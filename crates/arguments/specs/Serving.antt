-- How connections are served.
use Rattle.std.specs.Prelude.{◌≡◌, ◌≢◌, ◌<◌, ◌≤◌, ℕ, Bool, false, true, List, ◌∷◌, ◌++◌, length, get_or, Option, Some, None, IfSome, codes, is_some, option_map}
use Rattle.std.specs.Str.{bytes_eq}
use Rattle.std.specs.Str.Parse.{IsNumeral, digits_value, without_leading_plus}
use Rattle.arguments.specs.declared.serving.ShutdownOptions.{ShutdownOptions}
use Rattle.arguments.specs.declared.serving.Serving.{Serving}

-- a text writes a number in decimal digits, a plus before them or not
abbrev pub Writes : List ℕ → ℕ → Type 0
Writes text number =
    IsNumeral 10 (without_leading_plus text)
    × (number ≡ digits_value 10 (without_leading_plus text))

-- a port is a number of at most 65,535
abbrev pub IsPort : List ℕ → Type 0
IsPort text = (number : ℕ) × (number ≤ 65535) × Writes text number

-- a host is named, and has no slash (47) as `PLAINTEXT://localhost` has
abbrev pub IsHost : List ℕ → Type 0
IsHost text = (0 < length text) × ((i : ℕ) → i < length text → get_or text i 0 ≢ 47)

-- an address with a port: a host, a colon (58), and the port
pub record IsAddress (text : List ℕ) : Type 0 where
  pub host : List ℕ
  pub port : List ℕ
  pub split : text ≡ host ++ 58 ∷ port
  pub named : IsHost host
  pub numbered : IsPort port

abbrev pub IsIn : ℕ → ℕ → Type 0
IsIn most number = (1 ≤ number) × (number ≤ most)

-- lines of standard input may steer a broker whose settings come from a file, and which tells
-- refusals where it is asked
abbrev pub MaySteer : Bool → Bool → Type 0
MaySteer has_file audit = (has_file ≡ true) × (audit ≡ false)

-- the end of standard input may stop a broker whose settings come from a file, and which no lines
-- steer
abbrev pub MayStop : Bool → Bool → Type 0
MayStop has_file control = (has_file ≡ true) × (control ≡ false)

-- an address with a port, at most 64 connections at once, 1,000,000 in all and of one host, times
-- of at most 1,000,000 seconds, and of each user in a second at most 1,000,000,000 requests and
-- 1,000,000,000,000 bytes
pub record IsWithin (s : Serving) : Type 0 where
  pub listen : IsAddress s.listen.now
  pub workers : IsIn 64 s.workers
  pub connections : IsIn 1000000 s.connections
  pub per_host : IfSome s.per_host (IsIn 1000000)
  pub per_user : IfSome s.per_user (IsIn 1000000)
  pub open_seconds : IfSome s.open_seconds (IsIn 1000000)
  pub idle_seconds : IfSome s.idle_seconds (IsIn 1000000)
  pub login_seconds : IsIn 1000000 s.login_seconds
  pub frame_seconds : IsIn 1000000 s.frame_seconds
  pub rate : IfSome s.rate (IsIn 1000000000)
  pub rate_bytes : IfSome s.rate_bytes (IsIn 1000000000000)
  pub steered : s.control ≡ true → MaySteer (is_some s.settings) s.audit
  pub grace_seconds : IfSome s.ending.grace_seconds (λ seconds. seconds ≤ 1000000)
  pub stopped : s.ending.with_input ≡ true → MayStop (is_some s.settings) s.control

-- the number of an option is the one that its value writes, or the usual one where it isn't given
abbrev pub Tells : Option (List ℕ) → ℕ → ℕ → Type 0
Tells None usual number = number ≡ usual
Tells (Some value) usual number = Writes value number

-- the number of an option, if it is given
abbrev pub TellsIfGiven : Option (List ℕ) → Option ℕ → Type 0
TellsIfGiven None told = told ≡ None
TellsIfGiven (Some value) told = (number : ℕ) × (told ≡ Some number) × Writes value number

-- no number is given of connections that aren't counted
abbrev pub GoesUncounted : Bool → Option (List ℕ) → Type 0
GoesUncounted endless connections = endless ≡ true → connections ≡ None

-- refusals are told where the option is given, whose value is `-`
abbrev pub TellsAudit : Option (List ℕ) → Bool → Type 0
TellsAudit None told = told ≡ false
TellsAudit (Some value) told = (value ≡ codes "-") × (told ≡ true)

-- the flag is given; clap reads it as `true`
abbrev pub is_given : Option (List ℕ) → Bool
is_given None = false
is_given (Some value) = bytes_eq value (codes "true")

-- how a server stops, as the values of the options have it
pub record EndsBy (value_of : List ℕ → Option (List ℕ)) (ending : ShutdownOptions) : Type 0 where
  pub grace_seconds : TellsIfGiven (value_of (codes "grace")) ending.grace_seconds
  pub with_input : ending.with_input ≡ is_given (value_of (codes "stop-with-input"))

-- how the values of the options have it
pub record IsServedBy (value_of : List ℕ → Option (List ℕ)) (s : Serving) : Type 0 where
  pub listen : value_of (codes "listen") ≡ Some s.listen.now
  pub workers : Tells (value_of (codes "workers")) 4 s.workers
  pub connections : Tells (value_of (codes "connections")) 1000000 s.connections
  pub endless : s.endless ≡ is_given (value_of (codes "endless"))
  pub uncounted : GoesUncounted s.endless (value_of (codes "connections"))
  pub per_host : TellsIfGiven (value_of (codes "per-host")) s.per_host
  pub per_user : TellsIfGiven (value_of (codes "per-user")) s.per_user
  pub open_seconds : TellsIfGiven (value_of (codes "for")) s.open_seconds
  pub idle_seconds : TellsIfGiven (value_of (codes "idle")) s.idle_seconds
  pub login_seconds : Tells (value_of (codes "login-within")) 10 s.login_seconds
  pub frame_seconds : Tells (value_of (codes "frame-within")) 30 s.frame_seconds
  pub rate : TellsIfGiven (value_of (codes "rate")) s.rate
  pub rate_bytes : TellsIfGiven (value_of (codes "rate-bytes")) s.rate_bytes
  pub audit : TellsAudit (value_of (codes "audit")) s.audit
  pub log_times : s.log_times ≡ is_given (value_of (codes "log-times"))
  pub settings : option_map (λ file. file.now) s.settings ≡ value_of (codes "settings")
  pub control : s.control ≡ is_given (value_of (codes "control"))
  pub ending : EndsBy value_of s.ending
  pub librdkafka : s.librdkafka ≡ is_given (value_of (codes "librdkafka"))

-- these values say of no way within the limits how connections are served
abbrev pub NoneServes : (List ℕ → Option (List ℕ)) → Type 0
NoneServes value_of = (s : Serving) → IsServedBy value_of s → IsWithin s → ⊥
