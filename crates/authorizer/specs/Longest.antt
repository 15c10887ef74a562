-- How long the longest of a table's names is, and how many of them are as long.
use Rattle.std.specs.Prelude.{◌≡◌, ℕ, List, [], ◌∷◌, length, map, max, nat_eq, count_by}
use Rattle.std.specs.String.{string_bytes}
use Rattle.std.specs.declared.string.String.{String}
use Rattle.std.specs.declared.alloc.Global.{Global}
use Rattle.acl_binding.specs.declared.binding.Numbered.{Numbered}
use Rattle.authorizer.specs.declared.index.longest.Longest.{Longest}

-- the greatest of these numbers, or 0 where there is none
abbrev pub greatest : List ℕ → ℕ
greatest [] = 0
greatest (n ∷ ns) = max n (greatest ns)

-- the bytes of each name
abbrev pub lengths : List (String Global) → List ℕ
lengths names = map (λ (name : String Global). length (string_bytes name)) names

-- the bytes of a table's longest name
abbrev pub longest_name : List (List ℕ × List Numbered) → ℕ
longest_name table = greatest (map (λ (row : List ℕ × List Numbered). length row.0) table)

-- it is the greatest of these lengths, and how often that stands among them
pub record IsLongest (longest : Longest) (ns : List ℕ) : Type 0 where
  pub bytes : longest.bytes ≡ greatest ns
  pub names : longest.names ≡ count_by (nat_eq longest.bytes) ns
