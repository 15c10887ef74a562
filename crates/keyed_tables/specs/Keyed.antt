-- Tables whose values hold their own keys.
use Rattle.std.specs.Prelude.{◌≡◌, ℕ, List, [], ◌∷◌, map, string_bytes}
use Rattle.std.specs.declared.string.String.{String}
use Rattle.std.specs.declared.alloc.Global.{Global}

-- each value stands under its own key
abbrev pub AreKeyed : {V : Type 0} → (V → List ℕ) → List (String Global × V) → Type 0
AreKeyed key [] = Unit {0}
AreKeyed key (e ∷ es) = (string_bytes e.0 ≡ key e.1) × AreKeyed key es

-- each value changed, under the key that it has
abbrev pub each_changed : {V : Type 0} → (V → V) → List (String Global × V)
    → List (String Global × V)
each_changed change es = map (λ e. (e.0, change e.1)) es
