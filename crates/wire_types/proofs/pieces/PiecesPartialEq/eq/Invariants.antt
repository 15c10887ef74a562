use Rattle.std.proofs.Common.{◌≡◌, ◌==◌, length}
use Rattle.std.specs.Cmp.Lexicographic.{pointwise}
use Rattle.wire_types.proofs.pieces.PiecesPartialEq.eq.Given as goal

-- what is left decides
abbrev pub invariant-loop-count : goal.invariant-loop-count
invariant-loop-count l = pointwise ◌==◌ l.left l.right ≡ pointwise ◌==◌ l.fn.self l.fn.other

abbrev pub decreases-loop-count : goal.decreases-loop-count
decreases-loop-count l = length l.left
