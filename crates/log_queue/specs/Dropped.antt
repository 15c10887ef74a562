-- What is told of lines that weren't said.
use Rattle.std.specs.Prelude.{ℕ, ◌++◌, List, codes, decimal}

-- the line that tells how many were left out
abbrev pub dropped_line : ℕ → List ℕ
dropped_line count =
    codes "kbroker: lines left out, since nobody read them in time or memory was short: "
    ++ decimal count ++ codes "\n"
