-- What `Pieces` holds: one piece, or several with the number of all their bytes.
use Rattle.std.specs.Prelude.{◌≡◌, List, ℕ, length}
use Rattle.std.specs.List.{concat}
use Rattle.wire_types.specs.declared.pieces.HeldPieces.{HeldPieces}
use Rattle.wire_types.specs.declared.pieces.HeldPieces.TheVariants.{One, Many}

-- one that stands by itself, or those of a vector
abbrev pub pieces_held : HeldPieces → List (List ℕ)
pieces_held (One one) = one
pieces_held (Many pieces len) = pieces.items

-- the number beside a vector of pieces is that of all their bytes, and the array of one has one
abbrev pub IsCounted : HeldPieces → Type 0
IsCounted (One one) = length one ≡ 1
IsCounted (Many pieces len) = len ≡ length (concat pieces.items)
