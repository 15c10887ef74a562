-- What contracts see of a table of holders: hosts or users.
use Rattle.std.specs.Prelude.{◌≡◌, ◌≢◌, ℕ, ◌+◌, List, map, string_bytes, unwrap_or}
use Rattle.std.specs.Map.{lookup}
use Rattle.std.specs.Str.{bytes_eq}
use Rattle.std.specs.declared.string.String.{String}
use Rattle.std.specs.declared.alloc.Global.{Global}

-- how many connections a holder may have, and how many those have that have some, by their texts
pub record QuotaValue : Type 0 where
  pub most : ℕ
  pub counts : List (List ℕ × ℕ)

-- how many connections a holder has
abbrev pub connections : QuotaValue → List ℕ → ℕ
connections quota holder = unwrap_or (lookup (bytes_eq holder) quota.counts) 0

-- the holder has one connection more than before, and every other holder as many
pub record HasOneMore (old new : QuotaValue) (holder : List ℕ) : Type 0 where
  pub most : new.most ≡ old.most
  pub here : connections new holder ≡ connections old holder + 1
  pub others : (other : List ℕ) → other ≢ holder → connections new other ≡ connections old other

-- the counts of a table
abbrev pub counts_of : List (String Global × ℕ) → List (List ℕ × ℕ)
counts_of es = map (λ (e : String Global × ℕ). (string_bytes e.0, e.1)) es
