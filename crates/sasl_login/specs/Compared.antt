-- How far two texts differ.
use Rattle.std.specs.Prelude.{ℕ, ◌+◌, ◌==◌, List, [], ◌∷◌, length, if◌then◌else◌}

-- at how many places they differ, where what one has and the other lacks counts as well
abbrev pub differences : List ℕ → List ℕ → ℕ
differences [] kept = length kept
differences (x ∷ told) [] = length told + 1
differences (x ∷ told) (y ∷ kept) = (if y == x then 0 else 1) + differences told kept
