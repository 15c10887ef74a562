-- How a server ends.
use Rattle.std.specs.Prelude.{◌≡◌, ℕ, ◌⊎◌, List, [], ◌++◌, Option}
use Rattle.std.specs.Io.KnownBytes.{Appends}
use Rattle.settings.specs.declared.settings.Settings.{Settings}
use Rattle.session_workers.specs.declared.settlement.Settled.{Settled}
use Rattle.broker_server.specs.declared.lines.Failure.{Failure}
use Rattle.broker_server.specs.declared.lines.Unbegun.{Unbegun}
use Rattle.broker_server.specs.Counted.{IsCounted}
use Rattle.broker_server.specs.Lines.{unbegun_line, listening_line, settled_line, failure_line}

-- the last line of a server of these settings that ends with this status
abbrev pub IsLast : Settings → ℕ → List ℕ → Type 0
IsLast settings status last =
    ((sessions : ℕ) × (settled : Settled) × IsCounted settings sessions settled
    × (last ≡ settled_line sessions settled) × (status ≡ 0))
    ⊎ ((failure : Failure) × (last ≡ failure_line failure) × (status ≡ 1))

-- it printed a front of the line that tells why it isn't begun
pub record IsUnbegun (old new : Option (List ℕ)) (status : ℕ) : Type 0 where
  pub why : Unbegun
  pub done : List ℕ
  pub left : List ℕ
  pub split : unbegun_line why ≡ done ++ left
  pub grew : Appends old new done
  pub failed : status ≡ 1

-- it printed where it listens and a last line, which is that of the status; or a front of these, or
-- of the first alone, with status 1
pub record Served (settings : Settings) (old new : Option (List ℕ)) (status : ℕ) : Type 0 where
  pub address : List ℕ
  pub last : List ℕ
  pub done : List ℕ
  pub left : List ℕ
  pub split : listening_line address ++ last ≡ done ++ left
  pub grew : Appends old new done
  pub all : ((left ≡ []) × IsLast settings status last)
      ⊎ ((status ≡ 1) × ((last ≡ []) ⊎ ((due : ℕ) × IsLast settings due last)))

abbrev pub Serves : Settings → Option (List ℕ) → Option (List ℕ) → ℕ → Type 0
Serves settings old new status = IsUnbegun old new status ⊎ Served settings old new status
