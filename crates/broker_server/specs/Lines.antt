-- What the server prints.
use Rattle.std.specs.Prelude.{ℕ, ◌++◌, List, codes, decimal}
use Rattle.session_workers.specs.declared.settlement.Settled.{Settled}
use Rattle.session_workers.specs.Settle.{fault_name as settle_fault_name}
use Rattle.session_workers.specs.Faults.{fault_name as pool_fault_name}
use Rattle.broker_server.specs.declared.lines.Unbegun.{Unbegun}
use Rattle.broker_server.specs.declared.lines.Unbegun.TheVariants.{NoAddress, NoMemory}
use Rattle.broker_server.specs.declared.lines.Failure.{Failure}
use Rattle.broker_server.specs.declared.lines.Failure.TheVariants.{Pool, Settle}

-- the only line of a server that isn't begun
abbrev pub unbegun_line : Unbegun → List ℕ
unbegun_line NoAddress = codes "listen failed\n"
unbegun_line NoMemory = codes "settings refused: NoMemory\n"

-- the first line, of where it listens
abbrev pub listening_line : List ℕ → List ℕ
listening_line address = codes "listening on " ++ address ++ codes "\n"

-- the last line, where the books are settled
abbrev pub settled_line : ℕ → Settled → List ℕ
settled_line sessions settled =
    ((codes "sessions " ++ decimal sessions) ++ (codes " events " ++ decimal settled.events))
    ++ (codes " refusals " ++ decimal settled.refusals ++ codes "\n")

-- the last line, where they aren't
abbrev pub failure_line : Failure → List ℕ
failure_line (Pool fault) = codes "settle failed: " ++ pool_fault_name fault ++ codes "\n"
failure_line (Settle fault) = codes "settle failed: " ++ settle_fault_name fault ++ codes "\n"
