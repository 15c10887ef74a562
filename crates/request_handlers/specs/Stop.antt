-- The line that tells of a stop.
use Rattle.std.specs.Prelude.{ℕ, List, ◌++◌, codes}
use Rattle.audit_trail.specs.Line.{feed}
use Rattle.request_handlers.specs.declared.stop.Stop.{Stop}
use Rattle.request_handlers.specs.declared.stop.Stop.TheVariants.{NoMemory, TrailFull, Down}

-- `stop`, and the stop's number
abbrev pub stop_line : Stop → List ℕ
stop_line NoMemory = codes "stop 1" ++ feed
stop_line TrailFull = codes "stop 2" ++ feed
stop_line Down = codes "stop 3" ++ feed
