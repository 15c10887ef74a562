-- The test of two bindings is their equality.
use Rattle.std.specs.Prelude.{◌≡◌, ◌↔◌, true}
use Rattle.acl_binding.specs.declared.binding.Binding.{Binding}
use Rattle.acl_binding.specs.Binding.{same_binding}

-- the seven fields are equal exactly where the bindings are one
abbrev pub SameIsEqual : Type 0
SameIsEqual = (a b : Binding) → (same_binding a b ≡ true) ↔ (a ≡ b)
