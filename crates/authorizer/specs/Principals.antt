-- The bindings of a name, found by their principals.
use Rattle.std.specs.Prelude.{◌≡◌, ℕ, Bool, List, filter}
use Rattle.std.specs.Str.{bytes_eq}
use Rattle.acl_binding.specs.declared.binding.Numbered.{Numbered}
use Rattle.authorizer.specs.Index.{named_bindings, nonempty}

-- the binding is for this principal
abbrev pub is_for : List ℕ → Numbered → Bool
is_for principal e = bytes_eq e.binding.principal principal

-- the table has each principal's bindings, and no principal without any
abbrev pub AreByPrincipal : List (List ℕ × List Numbered) → List Numbered → Type 0
AreByPrincipal table es =
    (principal : List ℕ)
    → named_bindings table principal ≡ nonempty (filter (is_for principal) es)
