-- What is kept of the holders: a count for each that has a connection.
use Rattle.std.specs.Prelude.{ℕ, ◌<◌, ◌≤◌, List, IfSome, unwrap_or}
use Rattle.std.specs.HashMap.{HashMap, get_by_text}
use Rattle.std.specs.declared.string.String.{String}
use Rattle.std.specs.declared.alloc.Global.{Global}

-- how many connections the table tells of a holder
abbrev pub connections_in : {S : Type 0} → HashMap (String Global) ℕ S → List ℕ → ℕ
connections_in table holder = unwrap_or (get_by_text table holder) 0

-- no holder has more connections than it may, and one that has none has no entry
pub record IsKept {S : Type 0} (most : ℕ) (table : HashMap (String Global) ℕ S) : Type 0 where
  pub within : (holder : List ℕ) → connections_in table holder ≤ most
  pub some : (holder : List ℕ) → IfSome (get_by_text table holder) (λ count. 0 < count)
