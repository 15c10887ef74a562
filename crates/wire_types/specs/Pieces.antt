-- Bytes in pieces, of which the first few may be a piece's own.
use Rattle.std.specs.Prelude.{◌≡◌, ℕ, List, ◌++◌, length, Option, Some, None, IfSome}

-- a piece's own bytes, if it has some, and then the shared ones
abbrev pub piece_of : Option (List ℕ) → List ℕ → List ℕ
piece_of None shared = shared
piece_of (Some own) shared = own ++ shared

abbrev pub IsPiece : Option (List ℕ) → Type 0
IsPiece own = IfSome own (λ (bytes : List ℕ). length bytes ≡ 16)
