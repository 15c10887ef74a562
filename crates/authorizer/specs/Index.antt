-- A table of names with their bindings.
use Rattle.std.specs.Prelude.{◌≡◌, ℕ, List, [], ◌∷◌, ◌++◌, map, filter, if◌then◌else◌, Option, Some, None}
use Rattle.std.specs.Option.{unwrap_or, option_and_then}
use Rattle.std.specs.Map.{lookup}
use Rattle.std.specs.Str.{bytes_eq}
use Rattle.std.specs.String.{string_bytes}
use Rattle.std.specs.declared.string.String.{String}
use Rattle.std.specs.declared.alloc.Global.{Global}
use Rattle.acl_binding.specs.declared.binding.Numbered.{Numbered}
use Rattle.acl_binding.specs.declared.filter.Filter.{Filter}
use Rattle.acl_binding.specs.Filter.{is_not_matched}

-- a table as names with their bindings
abbrev pub rows : List (String Global × List Numbered) → List (List ℕ × List Numbered)
rows entries = map (λ (e : String Global × List Numbered). (string_bytes e.0, e.1)) entries

-- the bindings that the table has under the name, if it has the name
abbrev pub named_bindings : List (List ℕ × List Numbered) → List ℕ → Option (List Numbered)
named_bindings table name = lookup (bytes_eq name) table

abbrev pub bindings_under : List (List ℕ × List Numbered) → List ℕ → List Numbered
bindings_under table name = unwrap_or (named_bindings table name) []

-- a list that isn't empty
abbrev pub nonempty : {A : Type 0} → List A → Option (List A)
nonempty [] = None
nonempty (x ∷ xs) = Some (x ∷ xs)

-- the table has one binding more, at the end of those of the name
abbrev pub HasMore : List (List ℕ × List Numbered) → List (List ℕ × List Numbered) → List ℕ
    → Numbered → Type 0
HasMore old new name entry =
    (other : List ℕ)
    → named_bindings new other
    ≡ (if bytes_eq name other then Some (bindings_under old name ++ entry ∷ [])
    else named_bindings old other)

-- under each name the table has what it had
abbrev pub HasSame : List (List ℕ × List Numbered) → List (List ℕ × List Numbered) → Type 0
HasSame old new = (other : List ℕ) → named_bindings new other ≡ named_bindings old other

-- under each name the table has what the filter doesn't pick, and no name of which nothing is left
abbrev pub HasLess : List (List ℕ × List Numbered) → List (List ℕ × List Numbered) → Filter → Type 0
HasLess old new f =
    (other : List ℕ)
    → named_bindings new other
    ≡ option_and_then (λ held. nonempty (filter (is_not_matched f) held))
    (named_bindings old other)

-- under this name the table has what the filter doesn't pick, if that is anything, and under each
-- other what it had
abbrev pub HasLessAt : List (List ℕ × List Numbered) → List (List ℕ × List Numbered) → List ℕ
    → Filter → Type 0
HasLessAt old new name f =
    (other : List ℕ)
    → named_bindings new other
    ≡ (if bytes_eq name other
    then option_and_then (λ held. nonempty (filter (is_not_matched f) held))
    (named_bindings old other)
    else named_bindings old other)
